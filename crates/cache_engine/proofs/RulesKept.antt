-- A step keeps the rules of a state.
use Rattle.std.proofs.Common.{◌≡◌, ◌<◌, ◌≤◌, ◌^◌, ℕ, max, Bool, true, false, cond, nat_lt, List, [], ◌∷◌, length, Option, Some, None, option_map, ℤ, pos, ◌-ℤ◌, refl, sym, ap, ◌∙◌, subst, arith}
use Rattle.std.proofs.lemmas.Bool.Decides.{nat_tests}
use Rattle.std.proofs.lemmas.List.Elements.{All-nil}
use Rattle.std.specs.Prelude.{◌==◌, ◌&&◌, not, min, if◌then◌else◌}
use Rattle.std.specs.Option.{unwrap_or}
use Rattle.arc_core.specs.declared.items.Expiry.{Expiry}
use Rattle.arc_core.specs.declared.requests.StoreVerb.{StoreVerb}
use Rattle.arc_core.specs.declared.requests.StoreVerb.TheVariants as verb
use Rattle.arc_core.specs.declared.replies.Reply.{Reply}
use Rattle.arc_core.specs.PlainRequest.{PlainAct, CollAct, PlainRequest}
use Rattle.arc_core.specs.PlainRequest as act
use Rattle.arc_core.specs.declared.attributes.Attrs.{Attrs}
use Rattle.arc_core.specs.declared.attributes.CreateArgs.{CreateArgs}
use Rattle.arc_core.specs.declared.collections.Kind.{Kind}
use Rattle.arc_core.specs.declared.collections.Kind.TheVariants as kind
use Rattle.arc_core.specs.Words.{number_below}
use Rattle.arc_core.specs.CollectionLines.{CanBeSpelled}
use Rattle.arc_core.specs.CollectionRequests.{asked_of, empty_of, made}
use Rattle.arc_core.specs.CollectionRows.{Outcome, stays, becomes, goes, attrs_of, maxcount_of}
use Rattle.arc_core.specs.CollectionStep.{on_list, on_set, on_map, plan_of_made, plan_of_absent, plan_of_outcome, plan_of_held, plan_of_asked, plan_of_create}
use Rattle.arc_core.specs.Item.{Item, key_value, collection, Contents, list, set, map, IsItem, IsCollection, IsElement, IsField, AreElements, size_of, count_of, expiry_of, expiry_at, is_sticky, has_expired}
use Rattle.arc_core.specs.ListRows as lists
use Rattle.arc_core.specs.MapRows as maps
use Rattle.arc_core.specs.SetRows as sets
use Rattle.arc_core.specs.RequestLimits.{MayBeMade, MayMake, CollKeepsLimits, KeepsLimits}
use Rattle.arc_core.specs.SetReading.{AreDistinct}
use Rattle.arc_core.specs.Places.{Places, empty_places, found, brought_to_front, placed, without, total_of, sticky_total_of}
use Rattle.arc_core.specs.Room.{room, evicted}
use Rattle.arc_core.specs.CacheState.{CacheState, IsState, ArePlaced}
use Rattle.arc_core.specs.Step.{extra_of, sticky_size, room_for, put_behind, carried_out, ended, named_keys, started, step, unexpired, without_expired, used, used_at, put_joined, counted, plan_of_store, plan_of_next, plan_of_count, plan_of_delete, plan_of_touch, plan_of}
use Rattle.arc_core.specs.Plan.{Plan, answer_only, put, take_away, take_all}
use Rattle.arc_core.proofs.SpelledLimits.{keeps_limits}
use Rattle.byte_account.specs.Accounting.{IsAccounted, IsWithinShare}
use Rattle.byte_account.specs.Putting as shelf
use Rattle.byte_account.proofs.PlacesLaws.{total-brought_to_front, total-without}
use Rattle.byte_account.proofs.AccountingLaws.{IsAccounted-empty}
use Rattle.byte_account.proofs.ShareLaws.{IsWithinShare-empty, sticky_total-without}
use Rattle.byte_account.proofs.PutLaws.{put_totals}
use Rattle.cache_engine.proofs.ItemPlaces.{sticky_held, ArePlaced-brought_to_front, ArePlaced-without, ArePlaced-evicted, ArePlaced-placed, ArePlaced-empty, stays_item}
use Rattle.cache_engine.proofs.CollectionsKept.{Leaves, RowLeaves}
use Rattle.cache_engine.proofs.ListsKept.{list_insert_leaves, list_delete_leaves, list_get_leaves}
use Rattle.cache_engine.proofs.MapsKept.{map_insert_leaves, map_update_leaves, map_upsert_leaves, map_delete_leaves, map_get_leaves}
use Rattle.cache_engine.proofs.SetsKept.{set_insert_leaves, set_delete_leaves, set_get_leaves}
use Rattle.cache_engine.proofs.Texts.{decimal_long}

-- THE PLACES

-- The items keep their rules, and their stated sizes are within the limit and the share.
record Keeps (places : Places Item) : Type 0 where
  placed : ArePlaced places
  within : total_of size_of places ≤ places.limit
  share : sticky_total_of size_of places ≤ places.share

Keeps-without : (key : List ℕ) (places : Places Item) → Keeps places → Keeps (without key places)
Keeps-without key places keeps = record { placed = ArePlaced-without key places keeps.placed; within = omega (arith, total-without size_of key places keeps.placed.once, keeps.within); share = omega (arith, sticky_total-without size_of key places, keeps.share) }

Keeps-brought_to_front : (key : List ℕ) (places : Places Item) → Keeps places → Keeps (brought_to_front key places)
Keeps-brought_to_front key places keeps = record { placed = ArePlaced-brought_to_front key places keeps.placed; within = omega (arith, total-brought_to_front size_of key places keeps.placed.once, keeps.within); share = keeps.share }

Keeps-empty : (limit share : ℕ) → Keeps (empty_places limit share)
Keeps-empty limit share = record { placed = ArePlaced-empty limit share; within = omega (arith, (IsAccounted-empty size_of limit share).sum); share = omega (arith, (IsWithinShare-empty {X = Item} size_of limit share).sum) }

either : (b : Bool) (p q : Places Item) → Keeps p → Keeps q → Keeps (cond b p q)
either true p q here there = here
either false p q here there = there

Keeps-without_expired : (latest : ℕ) (key : List ℕ) (o : Option Item) (places : Places Item) → Keeps places → Keeps (without_expired latest key o places)
Keeps-without_expired latest key None places keeps = keeps
Keeps-without_expired latest key (Some item) places keeps = either (has_expired latest (expiry_of item)) _ _ (Keeps-without key places keeps) keeps

Keeps-unexpired : (latest : ℕ) (keys : List (List ℕ)) (places : Places Item) → Keeps places → Keeps (unexpired latest keys places)
Keeps-unexpired latest [] places keeps = keeps
Keeps-unexpired latest (key ∷ keys) places keeps = Keeps-unexpired latest keys _ (Keeps-without_expired latest key (found key places) places keeps)

Keeps-used_at : (latest : ℕ) (key : List ℕ) (o : Option Item) (places : Places Item) → Keeps places → Keeps (used_at latest key o places)
Keeps-used_at latest key None places keeps = keeps
Keeps-used_at latest key (Some item) places keeps = either (has_expired latest (expiry_of item)) _ _ keeps (Keeps-brought_to_front key places keeps)

Keeps-used : (latest : ℕ) (keys : List (List ℕ)) (places : Places Item) → Keeps places → Keeps (used latest keys places)
Keeps-used latest [] places keeps = keeps
Keeps-used latest (key ∷ keys) places keeps = Keeps-used latest keys _ (Keeps-used_at latest key (found key places) places keeps)

module _ (state : CacheState) (key : List ℕ) (item : Item) where
  -- what is evicted for the item, as the shelf puts it
  room_is : ArePlaced state.places → room_for state key item ≡ shelf.room_for size_of (is_sticky (expiry_of item)) key item state.places
  room_is placed = ap (λ n. room size_of state.places key (extra_of state key item) (pos (sticky_size key item) -ℤ pos n)) (sticky_held key state.places placed)

  Keeps-put : (gone : List (List ℕ × Item)) → IsItem item → room_for state key item ≡ Some gone → Keeps state.places → Keeps (put_behind (length gone) key item state.places)
  Keeps-put gone ok h keeps =
      let n = length gone in
      let side = is_sticky (expiry_of item) in
      let room : Some n ≡ option_map length (shelf.room_for size_of side key item state.places) = ap (option_map length) (sym h ∙ room_is keeps.placed) in
      let accounted : IsAccounted size_of state.places (total_of size_of state.places) = record { sum = refl; within = keeps.within; once = keeps.placed.once } in
      let shared : IsWithinShare size_of state.places (sticky_total_of size_of state.places) = record { sum = refl; within = keeps.share } in
      let sums = put_totals size_of side key item state.places n room accounted shared in
      record { placed = ArePlaced-placed key item (evicted key n state.places) ok (ArePlaced-evicted key n state.places keeps.placed); within = sums.0; share = sums.1 }

-- THE PLANS

-- what is put is an item
PutsItem : Plan → Type 0
PutsItem (answer_only reply) = Unit {0}
PutsItem (put key item counter reply) = IsItem item
PutsItem (take_away key reply) = Unit {0}
PutsItem (take_all reply) = Unit {0}

plan_either : (b : Bool) (p q : Plan) → (b ≡ true → PutsItem p) → (b ≡ false → PutsItem q) → PutsItem (cond b p q)
plan_either true p q here there = here refl
plan_either false p q here there = there refl

not_more : (n : ℕ) → nat_lt 1048576 n ≡ false → n ≤ 1048576
not_more n h = grind (arith, nat_tests)

module _ (state : CacheState) (key : List ℕ) where
  joined-is_item : (flags : ℕ) (expiry : Expiry) (value : List ℕ) → PutsItem (put_joined state key flags expiry value)
  unfolding PutsItem
  joined-is_item flags expiry value = plan_either (nat_lt 1048576 (length value)) _ _ (λ e. tt) (λ e. not_more (length value) e)

  store-is_item : (verb : StoreVerb) (flags : ℕ) (exptime : ℤ) (value : List ℕ) (held : Option Item) → length value ≤ 1048576 → PutsItem (plan_of_store state verb key flags exptime value held)
  unfolding PutsItem
  store-is_item verb flags exptime value (Some (collection attrs contents)) small = tt
  store-is_item verb.Set flags exptime value None small = small
  store-is_item verb.Set flags exptime value (Some (key_value old expiry unique was)) small = small
  store-is_item verb.Add flags exptime value None small = small
  store-is_item verb.Add flags exptime value (Some (key_value old expiry unique was)) small = tt
  store-is_item verb.Replace flags exptime value None small = tt
  store-is_item verb.Replace flags exptime value (Some (key_value old expiry unique was)) small = small
  store-is_item verb.Append flags exptime value None small = tt
  store-is_item verb.Append flags exptime value (Some (key_value old expiry unique was)) small = joined-is_item old expiry _
  store-is_item verb.Prepend flags exptime value None small = tt
  store-is_item verb.Prepend flags exptime value (Some (key_value old expiry unique was)) small = joined-is_item old expiry _
  store-is_item (verb.Cas asked) flags exptime value None small = tt
  store-is_item (verb.Cas asked) flags exptime value (Some (key_value old expiry unique was)) small = plan_either (unique == asked) _ _ (λ e. small) (λ e. tt)

  next-is_item : (up : Bool) (delta flags : ℕ) (expiry : Expiry) (number : Option ℕ) → PutsItem (plan_of_next state up key delta flags expiry number)
  unfolding PutsItem
  next-is_item up delta flags expiry None = tt
  next-is_item up delta flags expiry (Some n) = omega (arith, decimal_long (counted up delta n))

  count-is_item : (up : Bool) (delta : ℕ) (initial : Option (ℕ × ℤ × ℕ)) (held : Option Item) → PutsItem (plan_of_count state up key delta initial held)
  unfolding PutsItem
  count-is_item up delta None None = tt
  count-is_item up delta (Some initial) None = omega (arith, decimal_long initial.2)
  count-is_item up delta initial (Some (key_value flags expiry unique value)) = next-is_item up delta flags expiry (number_below (2 ^ 64) value)
  count-is_item up delta initial (Some (collection attrs contents)) = tt

  touch-is_item : (exptime : ℤ) (held : Option Item) → ((item : Item) → held ≡ Some item → IsItem item) → PutsItem (plan_of_touch state key exptime held)
  unfolding PutsItem
  touch-is_item exptime None ok = tt
  touch-is_item exptime (Some item) ok = stays_item (expiry_at state.latest exptime) item (ok item refl)

  delete-is_item : (held : Option Item) → PutsItem (plan_of_delete key held)
  unfolding PutsItem
  delete-is_item None = tt
  delete-is_item (Some item) = tt

-- THE REQUESTS ON COLLECTIONS

-- what a row leaves of a collection of its kind keeps the rules
list_leaves : (row : Attrs → List (List ℕ) → Outcome) (attrs : Attrs) (contents : Contents) → IsCollection attrs contents
    → ((xs : List (List ℕ)) → IsCollection attrs (list xs) → Leaves attrs (row attrs xs)) → RowLeaves attrs (on_list row attrs contents)
list_leaves row attrs (list xs) is leaves = leaves xs is
list_leaves row attrs (set xs) is leaves = tt
list_leaves row attrs (map pairs) is leaves = tt

set_leaves : (row : Attrs → List (List ℕ) → Outcome) (attrs : Attrs) (contents : Contents) → IsCollection attrs contents
    → ((xs : List (List ℕ)) → IsCollection attrs (set xs) → Leaves attrs (row attrs xs)) → RowLeaves attrs (on_set row attrs contents)
set_leaves row attrs (list xs) is leaves = tt
set_leaves row attrs (set xs) is leaves = leaves xs is
set_leaves row attrs (map pairs) is leaves = tt

map_leaves : (row : Attrs → List (List ℕ × List ℕ) → Outcome) (attrs : Attrs) (contents : Contents) → IsCollection attrs contents
    → ((pairs : List (List ℕ × List ℕ)) → IsCollection attrs (map pairs) → Leaves attrs (row attrs pairs)) → RowLeaves attrs (on_map row attrs contents)
map_leaves row attrs (list xs) is leaves = tt
map_leaves row attrs (set xs) is leaves = tt
map_leaves row attrs (map pairs) is leaves = leaves pairs is

-- what a request leaves of the collection under its key keeps the rules
row_leaves : (asked : CollAct) (attrs : Attrs) (contents : Contents) → CollKeepsLimits asked → IsCollection attrs contents → RowLeaves attrs ((asked_of asked).row attrs contents)
row_leaves (act.list_insert index value create) attrs contents small is =
    list_leaves (lists.list_insert index value) attrs contents is (λ xs is. list_insert_leaves attrs xs is index value small.0)
row_leaves (act.list_delete range drop_empty) attrs contents small is =
    list_leaves (lists.list_delete range drop_empty) attrs contents is (λ xs is. list_delete_leaves attrs xs is range drop_empty)
row_leaves (act.list_get range taking) attrs contents small is =
    list_leaves (lists.list_get range taking) attrs contents is (λ xs is. list_get_leaves attrs xs is range taking)
row_leaves (act.set_insert value create) attrs contents small is =
    set_leaves (sets.set_insert value) attrs contents is (λ xs is. set_insert_leaves attrs xs is value small.0)
row_leaves (act.set_delete value drop_empty) attrs contents small is =
    set_leaves (sets.set_delete value drop_empty) attrs contents is (λ xs is. set_delete_leaves attrs xs is value drop_empty)
row_leaves (act.set_exist value) attrs contents small is =
    set_leaves (sets.set_exist value) attrs contents is (λ xs is. tt)
row_leaves (act.set_get number taking) attrs contents small is =
    set_leaves (sets.set_get number taking) attrs contents is (λ xs is. set_get_leaves attrs xs is number taking)
row_leaves (act.map_insert field value create) attrs contents small is =
    map_leaves (maps.map_insert field value) attrs contents is (λ pairs is. map_insert_leaves attrs pairs is field value small.0 small.1)
row_leaves (act.map_update field value) attrs contents small is =
    map_leaves (maps.map_update field value) attrs contents is (λ pairs is. map_update_leaves attrs pairs is field value small.1)
row_leaves (act.map_upsert field value create) attrs contents small is =
    map_leaves (maps.map_upsert field value) attrs contents is (λ pairs is. map_upsert_leaves attrs pairs is field value small.0 small.1)
row_leaves (act.map_delete fields drop_empty) attrs contents small is =
    map_leaves (maps.map_delete fields drop_empty) attrs contents is (λ pairs is. map_delete_leaves attrs pairs is fields drop_empty)
row_leaves (act.map_get fields taking) attrs contents small is =
    map_leaves (maps.map_get fields taking) attrs contents is (λ pairs is. map_get_leaves attrs pairs is fields taking)

maxcount_fits : (written : ℕ) → (1 ≤ maxcount_of written) × (maxcount_of written ≤ 1000000)
maxcount_fits written = by (written == 0) refl
  where
    by : (b : Bool) → (written == 0) ≡ b → (1 ≤ (if b then 4000 else min written 1000000)) × ((if b then 4000 else min written 1000000) ≤ 1000000)
    by true is = (omega arith, omega arith)
    by false is = let some : 1 ≤ written = grind (arith, nat_tests, is) in (omega (arith, some), omega arith)

none_distinct : AreDistinct []
none_distinct = λ i j d below within. absurd (omega (arith, within))

empty_elements : (kind : Kind) → AreElements (empty_of kind)
empty_elements kind.Kv = All-nil IsElement
empty_elements kind.List = All-nil IsElement
empty_elements kind.Set = (All-nil IsElement, none_distinct)
empty_elements kind.Map = (All-nil (λ pair. IsField pair.0 × IsElement pair.1), none_distinct)
empty_elements kind.Tree = All-nil IsElement

empty_count : (kind : Kind) → count_of (empty_of kind) ≡ 0
empty_count kind.Kv = refl
empty_count kind.List = refl
empty_count kind.Set = refl
empty_count kind.Map = refl
empty_count kind.Tree = refl

-- an empty collection that a request makes keeps the rules
made_keeps : (latest : ℕ) (kind : Kind) (args : CreateArgs) → MayBeMade kind args → IsCollection (attrs_of latest args) (empty_of kind)
made_keeps latest kind args may = record {
  elements = empty_elements kind;
  action = may;
  within = omega (arith, empty_count kind);
  least = (maxcount_fits args.maxcount).0;
  most = (maxcount_fits args.maxcount).1;
  no_bkeys = refl;
}

-- what a request makes, if it makes one, keeps the rules
AreMade : Option (CreateArgs × Contents) → Type 0
AreMade makes = (args : CreateArgs) (contents : Contents) → makes ≡ Some (args, contents) → (latest : ℕ) → IsCollection (attrs_of latest args) contents

made_some : (kind : Kind) (create : Option CreateArgs) → MayMake kind create → AreMade (made kind create)
unfolding AreMade
made_some kind None may args contents makes latest = absurd (cc)
made_some kind (Some first) may args contents makes latest =
    let same : (first, empty_of kind) ≡ (args, contents) = ap (λ o. unwrap_or {T = CreateArgs × Contents} o (first, empty_of kind)) makes in
    subst (λ (pair : CreateArgs × Contents). IsCollection (attrs_of latest pair.0) pair.1) same (made_keeps latest kind first (may first refl))

made_none : AreMade None
unfolding AreMade
made_none args contents makes latest = absurd (cc)

makes_keep : (asked : CollAct) → CollKeepsLimits asked → AreMade (asked_of asked).makes
makes_keep (act.list_insert index value create) small = made_some kind.List create small.1
makes_keep (act.list_delete range drop_empty) small = made_none
makes_keep (act.list_get range taking) small = made_none
makes_keep (act.set_insert value create) small = made_some kind.Set create small.1
makes_keep (act.set_delete value drop_empty) small = made_none
makes_keep (act.set_exist value) small = made_none
makes_keep (act.set_get number taking) small = made_none
makes_keep (act.map_insert field value create) small = made_some kind.Map create small.2
makes_keep (act.map_update field value) small = made_none
makes_keep (act.map_upsert field value create) small = made_some kind.Map create small.2
makes_keep (act.map_delete fields drop_empty) small = made_none
makes_keep (act.map_get fields taking) small = made_none

module _ (latest counter : ℕ) (key : List ℕ) where
  made-is_item : (attrs : Attrs) (o : Option Outcome) → RowLeaves attrs o → PutsItem (plan_of_made counter key attrs o)
  unfolding PutsItem
  made-is_item attrs None leaves = tt
  made-is_item attrs (Some (stays answer)) leaves = tt
  made-is_item attrs (Some (becomes contents answer)) leaves = leaves
  made-is_item attrs (Some (goes answer)) leaves = tt

  absent-is_item : (row : Attrs → Contents → Option Outcome) (makes : Option (CreateArgs × Contents)) → AreMade makes
      → ((attrs : Attrs) (contents : Contents) → IsCollection attrs contents → RowLeaves attrs (row attrs contents)) → PutsItem (plan_of_absent latest counter key row makes)
  unfolding PutsItem AreMade
  absent-is_item row None are leaves = tt
  absent-is_item row (Some made) are leaves = made-is_item (attrs_of latest made.0) _ (leaves (attrs_of latest made.0) made.1 (are made.0 made.1 refl latest))

  outcome-is_item : (attrs : Attrs) (outcome : Outcome) → Leaves attrs outcome → PutsItem (plan_of_outcome counter key attrs outcome)
  unfolding PutsItem
  outcome-is_item attrs (stays answer) leaves = tt
  outcome-is_item attrs (becomes contents answer) leaves = leaves
  outcome-is_item attrs (goes answer) leaves = tt

  held-is_item : (reads : Bool) (attrs : Attrs) (o : Option Outcome) → RowLeaves attrs o → PutsItem (plan_of_held counter key reads attrs o)
  unfolding PutsItem
  held-is_item reads attrs None leaves = tt
  held-is_item reads attrs (Some outcome) leaves = plan_either (reads && not attrs.readable) _ _ (λ e. tt) (λ e. outcome-is_item attrs outcome leaves)

  asked-is_item : (asked : CollAct) (held : Option Item) → CollKeepsLimits asked → ((item : Item) → held ≡ Some item → IsItem item)
      → PutsItem (plan_of_asked latest counter key (asked_of asked) held)
  unfolding PutsItem
  asked-is_item asked None small ok = absent-is_item (asked_of asked).row (asked_of asked).makes (makes_keep asked small) (λ attrs contents is. row_leaves asked attrs contents small is)
  asked-is_item asked (Some (key_value flags expiry unique value)) small ok = tt
  asked-is_item asked (Some (collection attrs contents)) small ok =
      held-is_item (asked_of asked).reads attrs ((asked_of asked).row attrs contents) (row_leaves asked attrs contents small (ok (collection attrs contents) refl))

  create-is_item : (kind : Kind) (args : CreateArgs) (held : Option Item) → MayBeMade kind args → PutsItem (plan_of_create latest counter key args (empty_of kind) held)
  unfolding PutsItem
  create-is_item kind args None may = made_keeps latest kind args may
  create-is_item kind args (Some item) may = tt

plan-is_item : (state : CacheState) (a : PlainAct) → KeepsLimits a → ArePlaced state.places → PutsItem (plan_of state a)
unfolding PutsItem
plan-is_item state (act.store verb key flags exptime value) small are = store-is_item state key verb flags exptime value _ small
plan-is_item state (act.get keys unique) small are = tt
plan-is_item state (act.count up key delta initial) small are = count-is_item state key up delta initial _
plan-is_item state (act.delete key) small are = delete-is_item state key _
plan-is_item state (act.touch key exptime) small are = touch-is_item state key exptime _ (are.items key)
plan-is_item state act.flush_all small are = tt
plan-is_item state act.version small are = tt
plan-is_item state (act.make kind key args) small are = create-is_item state.latest state.counter key kind args _ small
plan-is_item state (act.on_collection key asked) small are = asked-is_item state.latest state.counter key asked _ small (are.items key)

-- THE STEP

-- the state keeps the rules, and this is its latest second
record KeepsAt (latest : ℕ) (state : CacheState) : Type 0 where
  second : state.latest ≡ latest
  keeps : Keeps state.places

put_keeps : (state : CacheState) (key : List ℕ) (item : Item) (counter : ℕ) (reply : Reply) (keys : List (List ℕ)) (o : Option (List (List ℕ × Item))) → room_for state key item ≡ o → IsItem item → Keeps state.places
    → KeepsAt state.latest (ended state keys (option_map {U = CacheState × Reply} (λ gone. (record state { counter = counter; places = put_behind (length gone) key item state.places }, reply)) o)).0
put_keeps state key item counter reply keys None h ok keeps = record { second = refl; keeps = keeps }
put_keeps state key item counter reply keys (Some gone) h ok keeps = record { second = refl; keeps = Keeps-used state.latest keys _ (Keeps-put state key item gone ok h keeps) }

plan_keeps : (state : CacheState) (plan : Plan) (keys : List (List ℕ)) → PutsItem plan → Keeps state.places → KeepsAt state.latest (ended state keys (carried_out state plan)).0
unfolding PutsItem
plan_keeps state (answer_only reply) keys ok keeps = record { second = refl; keeps = Keeps-used state.latest keys _ keeps }
plan_keeps state (put key item counter reply) keys ok keeps = put_keeps state key item counter reply keys (room_for state key item) refl ok keeps
plan_keeps state (take_away key reply) keys ok keeps = record { second = refl; keeps = Keeps-used state.latest keys _ (Keeps-without key state.places keeps) }
plan_keeps state (take_all reply) keys ok keeps = record { second = refl; keeps = Keeps-used state.latest keys _ (Keeps-empty state.places.limit state.places.share) }

max_below : (a b n : ℕ) → a < n → b < n → max a b < n
max_below a b n p q = omega arith

step_of : (old : CacheState) (now : ℕ) (request : PlainRequest) → IsState old → now < 2 ^ 32 → KeepsLimits request.act → IsState (step old now request).0
step_of old now request rules time small =
    let keys = named_keys request.act in
    let start = started old now keys in
    let keeps : Keeps start.places = Keeps-unexpired (max old.latest now) keys old.places (record { placed = rules.placed; within = rules.within; share = rules.share }) in
    let end = plan_keeps start (plan_of start request.act) keys (plan-is_item start request.act small keeps.placed) keeps in
    record {
      placed = end.keeps.placed;
      second = subst (λ n. n < 2 ^ 32) (sym end.second) (max_below old.latest now (2 ^ 32) rules.second time);
      within = end.keeps.within;
      share = end.keeps.share;
    }

pub step_keeps : (old : CacheState) (now : ℕ) (request : PlainRequest) → IsState old → now < 2 ^ 32 → CanBeSpelled request → IsState (step old now request).0
step_keeps old now request rules time spelled = step_of old now request rules time (keeps_limits request spelled)
