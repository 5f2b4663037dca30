-- Requests as plain data: lists of bytes and of words, wherever they lie in memory.
use Rattle.std.specs.Prelude.{ℕ, Bool, List, Option, ℤ}
use Rattle.arc_core.specs.declared.attributes.CreateArgs.{CreateArgs}
use Rattle.arc_core.specs.declared.collections.IndexRange.{IndexRange}
use Rattle.arc_core.specs.declared.collections.Kind.{Kind}
use Rattle.arc_core.specs.declared.collections.Take.{Take}
use Rattle.arc_core.specs.declared.requests.Request.{Request}
use Rattle.arc_core.specs.declared.requests.Act.{Act}
use Rattle.arc_core.specs.declared.requests.Act.TheVariants as act
use Rattle.arc_core.specs.declared.requests.Answer.{Answer}
use Rattle.arc_core.specs.declared.requests.StoreVerb.{StoreVerb}

-- What a request does with the collection under its key. `create` has the attributes of one that is made where no item is
-- held, and `drop_empty` says that one which is left empty goes too. No field is named where all pairs of a map are meant.
pub data CollAct : Type 0 where
  list_insert : (index : ℤ) → (value : List ℕ) → (create : Option CreateArgs) → CollAct
  list_delete : (range : IndexRange) → (drop_empty : Bool) → CollAct
  list_get : (range : IndexRange) → (taking : Take) → CollAct
  set_insert : (value : List ℕ) → (create : Option CreateArgs) → CollAct
  set_delete : (value : List ℕ) → (drop_empty : Bool) → CollAct
  set_exist : (value : List ℕ) → CollAct
  set_get : (count : ℕ) → (taking : Take) → CollAct
  map_insert : (field value : List ℕ) → (create : Option CreateArgs) → CollAct
  map_update : (field value : List ℕ) → CollAct
  map_upsert : (field value : List ℕ) → (create : Option CreateArgs) → CollAct
  map_delete : (fields : List (List ℕ)) → (drop_empty : Bool) → CollAct
  map_get : (fields : List (List ℕ)) → (taking : Take) → CollAct

-- What a request does. It is `Act` with the value itself: what an act stores is lent by its block, and equal acts may
-- borrow from different places.
pub data PlainAct : Type 0 where
  store : (verb : StoreVerb) → (key : List ℕ) → (flags : ℕ) → (exptime : ℤ) → (value : List ℕ) → PlainAct
  get : (keys : List (List ℕ)) → (unique : Bool) → PlainAct
  count : (up : Bool) → (key : List ℕ) → (delta : ℕ) → (initial : Option (ℕ × ℤ × ℕ)) → PlainAct
  delete : (key : List ℕ) → PlainAct
  touch : (key : List ℕ) → (exptime : ℤ) → PlainAct
  flush_all : PlainAct
  version : PlainAct
  make : (kind : Kind) → (key : List ℕ) → (args : CreateArgs) → PlainAct
  on_collection : (key : List ℕ) → (asked : CollAct) → PlainAct

-- a request
pub record PlainRequest : Type 0 where
  pub act : PlainAct
  pub answer : Answer

-- what a request does, as plain data
abbrev pub plain_act : Act → PlainAct
plain_act (act.Store verb key flags exptime value) = store verb key flags exptime value.now
plain_act (act.Get keys unique) = get keys unique
plain_act (act.Count up key delta initial) = count up key delta initial
plain_act (act.Delete key) = delete key
plain_act (act.Touch key exptime) = touch key exptime
plain_act act.FlushAll = flush_all
plain_act act.Version = version
plain_act (act.Create kind key args) = make kind key args
plain_act (act.ListInsert key index value create) = on_collection key (list_insert index value.now create)
plain_act (act.ListDelete key range drop_empty) = on_collection key (list_delete range drop_empty)
plain_act (act.ListGet key range taking) = on_collection key (list_get range taking)
plain_act (act.SetInsert key value create) = on_collection key (set_insert value.now create)
plain_act (act.SetDelete key value drop_empty) = on_collection key (set_delete value.now drop_empty)
plain_act (act.SetExist key value) = on_collection key (set_exist value.now)
plain_act (act.SetGet key number taking) = on_collection key (set_get number taking)
plain_act (act.MapInsert key field value create) = on_collection key (map_insert field value.now create)
plain_act (act.MapUpdate key field value) = on_collection key (map_update field value.now)
plain_act (act.MapUpsert key field value create) = on_collection key (map_upsert field value.now create)
plain_act (act.MapDelete key fields drop_empty) = on_collection key (map_delete fields drop_empty)
plain_act (act.MapGet key fields taking) = on_collection key (map_get fields taking)

-- the request as plain data
abbrev pub plain : Request → PlainRequest
plain request = record { act = plain_act request.act; answer = request.answer }
