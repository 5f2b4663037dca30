-- No row on collections answers `out of memory`: only an item that finds no room is answered so.
use Rattle.std.proofs.Common.{◌≡◌, ℕ, ◌&&◌, ◌==◌, Bool, true, false, cond, not, List, length, remove, is_some, Option, Some, None}
use Rattle.arc_core.specs.declared.attributes.Attrs.{Attrs}
use Rattle.arc_core.specs.declared.attributes.CreateArgs.{CreateArgs}
use Rattle.arc_core.specs.declared.collections.Take.{Take}
use Rattle.arc_core.specs.declared.collections.Take.TheVariants as taking
use Rattle.arc_core.specs.declared.lists.ListPlan.{ListPlan}
use Rattle.arc_core.specs.declared.lists.ListPlan.TheVariants.{Store, StoreAndTrim, OutOfRange, Overflowed}
use Rattle.arc_core.specs.declared.lists.Part.{Part}
use Rattle.arc_core.specs.declared.replies.Reply.{Reply}
use Rattle.arc_core.specs.declared.replies.Reply.TheVariants as answer
use Rattle.arc_core.specs.declared.replies.Word.TheVariants as word
use Rattle.arc_core.specs.declared.rows.Row.{Row}
use Rattle.arc_core.specs.CollectionRequests.{asked_of}
use Rattle.arc_core.specs.CollectionRows.{Outcome, stays, becomes, goes, attrs_of, is_empty, removed, read_and_taken}
use Rattle.arc_core.specs.CollectionStep.{on_list, on_set, on_map, plan_of_outcome, plan_of_made, plan_of_absent, plan_of_held, plan_of_asked, plan_of_create}
use Rattle.arc_core.specs.InsertPlan.{insert_plan}
use Rattle.arc_core.specs.Item.{Item, key_value, collection, Contents, list, set, map}
use Rattle.arc_core.specs.ListRows as lists
use Rattle.arc_core.specs.MapReading as map_reading
use Rattle.arc_core.specs.MapRows as maps
use Rattle.arc_core.specs.Plan.{Plan, answer_only, put, take_away, take_all}
use Rattle.arc_core.specs.PlainRequest.{CollAct}
use Rattle.arc_core.specs.PlainRequest as act
use Rattle.arc_core.specs.SetReading as set_reading
use Rattle.arc_core.specs.SetRows as sets
use Rattle.arc_core.specs.Span.{span}

-- THE PLANS

-- what a plan answers where it is carried out
abbrev pub says : Plan → Reply
says (answer_only reply) = reply
says (put key item counter reply) = reply
says (take_away key reply) = reply
says (take_all reply) = reply

-- it answers something else than `out of memory`
abbrev pub IsOther : Plan → Type 0
IsOther plan = says plan ≡ answer.Word word.OutOfMemory → ⊥

pub either : (b : Bool) (p q : Plan) → IsOther p → IsOther q → IsOther (cond b p q)
either true p q here there = here
either false p q here there = there

-- THE OUTCOMES

-- what is answered where a collection comes to this
abbrev outcome_says : Outcome → Reply
outcome_says (stays reply) = reply
outcome_says (becomes contents reply) = reply
outcome_says (goes reply) = reply

-- it is something else than `out of memory`
abbrev SaysOther : Outcome → Type 0
SaysOther outcome = outcome_says outcome ≡ answer.Word word.OutOfMemory → ⊥

-- so it is where the collection is of the request's kind
abbrev RowSaysOther : Option Outcome → Type 0
RowSaysOther None = Unit {0}
RowSaysOther (Some outcome) = SaysOther outcome

either_says : (b : Bool) (p q : Outcome) → SaysOther p → SaysOther q → SaysOther (cond b p q)
either_says true p q here there = here
either_says false p q here there = there

removed_says : (drop_empty : Bool) (left : Contents) → SaysOther (removed drop_empty left)
removed_says drop_empty left = either_says (drop_empty && is_empty left) _ _ (λ e. absurd (cc)) (λ e. absurd (cc))

read_says : (take_out : Take) (flags : ℕ) (rows : List Row) (left : Contents) → SaysOther (read_and_taken take_out flags rows left)
read_says taking.Keep flags rows left = λ e. absurd (cc)
read_says taking.Delete flags rows left = λ e. absurd (cc)
read_says taking.Drop flags rows left = either_says (is_empty left) _ _ (λ e. absurd (cc)) (λ e. absurd (cc))

-- LISTS

module _ (attrs : Attrs) (xs : List (List ℕ)) where
  inserted_says : (value : List ℕ) (plan : ListPlan) → SaysOther (lists.inserted value xs plan)
  inserted_says value (Store place) = λ e. absurd (cc)
  inserted_says value (StoreAndTrim place side) = λ e. absurd (cc)
  inserted_says value (OutOfRange index n) = λ e. absurd (cc)
  inserted_says value Overflowed = λ e. absurd (cc)

  part_deleted_says : (drop_empty : Bool) (part : Option Part) → SaysOther (lists.part_deleted drop_empty xs part)
  part_deleted_says drop_empty None = λ e. absurd (cc)
  part_deleted_says drop_empty (Some part) = removed_says drop_empty (list (lists.without_part part xs))

  part_read_says : (take_out : Take) (part : Option Part) → SaysOther (lists.part_read take_out attrs.flags xs part)
  part_read_says take_out None = λ e. absurd (cc)
  part_read_says take_out (Some part) = read_says take_out attrs.flags _ (list (lists.without_part part xs))

-- SETS

exist_says : (there : Bool) → SaysOther (stays (answer.Word (cond there word.Exist word.NotExist)))
exist_says true = λ e. absurd (cc)
exist_says false = λ e. absurd (cc)

module _ (attrs : Attrs) (xs : List (List ℕ)) where
  set_insert_says : (value : List ℕ) → SaysOther (sets.set_insert value attrs xs)
  set_insert_says value =
      either_says (is_some (set_reading.place_of value xs)) _ _ (λ e. absurd (cc))
      (either_says (length xs == attrs.maxcount) _ _ (λ e. absurd (cc)) (λ e. absurd (cc)))

  value_deleted_says : (drop_empty : Bool) (place : Option ℕ) → SaysOther (sets.value_deleted drop_empty xs place)
  value_deleted_says drop_empty None = λ e. absurd (cc)
  value_deleted_says drop_empty (Some place) = removed_says drop_empty (set (remove xs place))

  set_get_says : (number : ℕ) (take_out : Take) → SaysOther (sets.set_get number take_out attrs xs)
  set_get_says number take_out = either_says (length xs == 0) _ _ (λ e. absurd (cc)) (read_says take_out attrs.flags _ _)

-- MAPS

module _ (attrs : Attrs) (pairs : List (List ℕ × List ℕ)) where
  put_last_says : (field value : List ℕ) → SaysOther (maps.put_last field value attrs pairs)
  put_last_says field value = either_says (length pairs == attrs.maxcount) _ _ (λ e. absurd (cc)) (λ e. absurd (cc))

  new_inserted_says : (field value : List ℕ) (place : Option ℕ) → SaysOther (maps.new_inserted field value attrs pairs place)
  new_inserted_says field value None = put_last_says field value
  new_inserted_says field value (Some place) = λ e. absurd (cc)

  held_updated_says : (value : List ℕ) (place : Option ℕ) → SaysOther (maps.held_updated value pairs place)
  held_updated_says value None = λ e. absurd (cc)
  held_updated_says value (Some place) = λ e. absurd (cc)

  upserted_says : (field value : List ℕ) (place : Option ℕ) → SaysOther (maps.upserted field value attrs pairs place)
  upserted_says field value None = put_last_says field value
  upserted_says field value (Some place) = λ e. absurd (cc)

  map_delete_says : (fields : List (List ℕ)) (drop_empty : Bool) → SaysOther (maps.map_delete fields drop_empty attrs pairs)
  map_delete_says fields drop_empty =
      either_says (length (maps.pairs_asked fields pairs) == 0) _ _ (λ e. absurd (cc)) (removed_says drop_empty (map (maps.pairs_left fields pairs)))

  map_get_says : (fields : List (List ℕ)) (take_out : Take) → SaysOther (maps.map_get fields take_out attrs pairs)
  map_get_says fields take_out =
      either_says (length (maps.pairs_asked fields pairs) == 0) _ _ (λ e. absurd (cc)) (read_says take_out attrs.flags _ (map (maps.pairs_left fields pairs)))

-- THE REQUESTS

module _ (attrs : Attrs) where
  list_says : (row : Attrs → List (List ℕ) → Outcome) (contents : Contents) → ((xs : List (List ℕ)) → SaysOther (row attrs xs)) → RowSaysOther (on_list row attrs contents)
  list_says row (list xs) others = others xs
  list_says row (set xs) others = tt
  list_says row (map pairs) others = tt

  set_says : (row : Attrs → List (List ℕ) → Outcome) (contents : Contents) → ((xs : List (List ℕ)) → SaysOther (row attrs xs)) → RowSaysOther (on_set row attrs contents)
  set_says row (list xs) others = tt
  set_says row (set xs) others = others xs
  set_says row (map pairs) others = tt

  map_says : (row : Attrs → List (List ℕ × List ℕ) → Outcome) (contents : Contents) → ((pairs : List (List ℕ × List ℕ)) → SaysOther (row attrs pairs)) → RowSaysOther (on_map row attrs contents)
  map_says row (list xs) others = tt
  map_says row (set xs) others = tt
  map_says row (map pairs) others = others pairs

  row_says : (asked : CollAct) (contents : Contents) → RowSaysOther ((asked_of asked).row attrs contents)
  row_says (act.list_insert index value create) contents =
      list_says (lists.list_insert index value) contents (λ xs. inserted_says attrs xs value (insert_plan index (length xs) attrs.maxcount attrs.action))
  row_says (act.list_delete range drop_empty) contents =
      list_says (lists.list_delete range drop_empty) contents (λ xs. part_deleted_says attrs xs drop_empty (span range (length xs)))
  row_says (act.list_get range take_out) contents =
      list_says (lists.list_get range take_out) contents (λ xs. part_read_says attrs xs take_out (span range (length xs)))
  row_says (act.set_insert value create) contents = set_says (sets.set_insert value) contents (λ xs. set_insert_says attrs xs value)
  row_says (act.set_delete value drop_empty) contents =
      set_says (sets.set_delete value drop_empty) contents (λ xs. value_deleted_says attrs xs drop_empty (set_reading.place_of value xs))
  row_says (act.set_exist value) contents = set_says (sets.set_exist value) contents (λ xs. exist_says (is_some (set_reading.place_of value xs)))
  row_says (act.set_get number take_out) contents = set_says (sets.set_get number take_out) contents (λ xs. set_get_says attrs xs number take_out)
  row_says (act.map_insert field value create) contents =
      map_says (maps.map_insert field value) contents (λ pairs. new_inserted_says attrs pairs field value (map_reading.place_of field pairs))
  row_says (act.map_update field value) contents =
      map_says (maps.map_update field value) contents (λ pairs. held_updated_says attrs pairs value (map_reading.place_of field pairs))
  row_says (act.map_upsert field value create) contents =
      map_says (maps.map_upsert field value) contents (λ pairs. upserted_says attrs pairs field value (map_reading.place_of field pairs))
  row_says (act.map_delete fields drop_empty) contents =
      map_says (maps.map_delete fields drop_empty) contents (λ pairs. map_delete_says attrs pairs fields drop_empty)
  row_says (act.map_get fields take_out) contents =
      map_says (maps.map_get fields take_out) contents (λ pairs. map_get_says attrs pairs fields take_out)

module _ (latest counter : ℕ) (key : List ℕ) where
  made-is_other : (attrs : Attrs) (outcome : Option Outcome) → RowSaysOther outcome → IsOther (plan_of_made counter key attrs outcome)
  made-is_other attrs None other = λ e. absurd (cc)
  made-is_other attrs (Some (stays reply)) other = other
  made-is_other attrs (Some (becomes contents reply)) other = λ e. absurd (cc)
  made-is_other attrs (Some (goes reply)) other = other

  absent-is_other : (asked : CollAct) (makes : Option (CreateArgs × Contents)) → IsOther (plan_of_absent latest counter key (asked_of asked).row makes)
  absent-is_other asked None = λ e. absurd (cc)
  absent-is_other asked (Some (args, contents)) = made-is_other (attrs_of latest args) _ (row_says (attrs_of latest args) asked contents)

  outcome-is_other : (attrs : Attrs) (outcome : Outcome) → SaysOther outcome → IsOther (plan_of_outcome counter key attrs outcome)
  outcome-is_other attrs (stays reply) other = other
  outcome-is_other attrs (becomes contents reply) other = other
  outcome-is_other attrs (goes reply) other = other

  held-is_other : (reads : Bool) (attrs : Attrs) (outcome : Option Outcome) → RowSaysOther outcome → IsOther (plan_of_held counter key reads attrs outcome)
  held-is_other reads attrs None other = λ e. absurd (cc)
  held-is_other reads attrs (Some outcome) other = either (reads && not attrs.readable) _ _ (λ e. absurd (cc)) (outcome-is_other attrs outcome other)

  -- no request on a collection is answered `out of memory` by its row
  pub asked-is_other : (asked : CollAct) (held : Option Item) → IsOther (plan_of_asked latest counter key (asked_of asked) held)
  asked-is_other asked None = absent-is_other asked (asked_of asked).makes
  asked-is_other asked (Some (key_value flags expiry unique value)) = λ e. absurd (cc)
  asked-is_other asked (Some (collection attrs contents)) = held-is_other (asked_of asked).reads attrs _ (row_says attrs asked contents)

  -- nor is one that makes a collection
  pub create-is_other : (args : CreateArgs) (empty : Contents) (held : Option Item) → IsOther (plan_of_create latest counter key args empty held)
  create-is_other args empty None = λ e. absurd (cc)
  create-is_other args empty (Some item) = λ e. absurd (cc)
