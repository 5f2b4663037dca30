-- A command that may be piped is answered by a line that can be a status: by a word, and not by elements.
use Rattle.std.proofs.Common.{◌≡◌, ℕ, ◌&&◌, ◌==◌, Bool, true, false, cond, not, List, [], length, remove, is_some, Option, Some, None, refl, sym, ap, ◌∙◌, inl, inr}
use Rattle.std.specs.Option.{option_map}
use Rattle.arc_core.specs.declared.attributes.Attrs.{Attrs}
use Rattle.arc_core.specs.declared.attributes.CreateArgs.{CreateArgs}
use Rattle.arc_core.specs.declared.lists.ListPlan.{ListPlan}
use Rattle.arc_core.specs.declared.lists.ListPlan.TheVariants.{Store, StoreAndTrim, OutOfRange, Overflowed}
use Rattle.arc_core.specs.declared.lists.Part.{Part}
use Rattle.arc_core.specs.declared.replies.Reply.{Reply}
use Rattle.arc_core.specs.CacheState.{CacheState}
use Rattle.arc_core.specs.CollectionRequests.{asked_of}
use Rattle.arc_core.specs.CollectionRows.{Outcome, stays, becomes, goes, attrs_of, is_empty, removed}
use Rattle.arc_core.specs.CollectionStep.{on_list, on_set, on_map, plan_of_outcome, plan_of_made, plan_of_absent, plan_of_held, plan_of_asked}
use Rattle.arc_core.specs.History.{Executes}
use Rattle.arc_core.specs.InsertPlan.{insert_plan}
use Rattle.arc_core.specs.Item.{Item, key_value, collection, Contents, list, set, map}
use Rattle.arc_core.specs.ListRows as lists
use Rattle.arc_core.specs.MapReading as map_reading
use Rattle.arc_core.specs.MapRows as maps
use Rattle.arc_core.specs.Places.{found}
use Rattle.arc_core.specs.Plan.{Plan, answer_only, put, take_away, take_all}
use Rattle.arc_core.specs.PlainRequest.{CollAct, PlainAct, PlainRequest}
use Rattle.arc_core.specs.PlainRequest as act
use Rattle.arc_core.specs.SetReading as set_reading
use Rattle.arc_core.specs.SetRows as sets
use Rattle.arc_core.specs.Span.{span}
use Rattle.arc_core.specs.Step.{carried_out, ended, named_keys, plan_of, room_for, started, step}
use Rattle.reply_print.specs.PipeText.{status_of}
use Rattle.pipe_session.specs.SessionText.{act_may_be_piped}

-- the reply can be a status
abbrev IsStatus : Reply → Type 0
IsStatus reply = is_some (status_of reply) ≡ true

-- THE OUTCOMES

-- what is answered where a collection comes to this
abbrev outcome_says : Outcome → Reply
outcome_says (stays reply) = reply
outcome_says (becomes contents reply) = reply
outcome_says (goes reply) = reply

abbrev OutcomeIsStatus : Outcome → Type 0
OutcomeIsStatus outcome = IsStatus (outcome_says outcome)

-- so it is where the collection is of the request's kind
abbrev RowIsStatus : Option Outcome → Type 0
RowIsStatus None = Unit {0}
RowIsStatus (Some outcome) = OutcomeIsStatus outcome

either_outcome : (b : Bool) (p q : Outcome) → OutcomeIsStatus p → OutcomeIsStatus q → OutcomeIsStatus (cond b p q)
either_outcome true p q here there = here
either_outcome false p q here there = there

removed_says : (drop_empty : Bool) (left : Contents) → OutcomeIsStatus (removed drop_empty left)
removed_says drop_empty left = either_outcome (drop_empty && is_empty left) _ _ refl refl

-- LISTS

module _ (attrs : Attrs) (xs : List (List ℕ)) where
  inserted_says : (value : List ℕ) (plan : ListPlan) → OutcomeIsStatus (lists.inserted value xs plan)
  inserted_says value (Store place) = refl
  inserted_says value (StoreAndTrim place side) = refl
  inserted_says value (OutOfRange index n) = refl
  inserted_says value Overflowed = refl

  part_deleted_says : (drop_empty : Bool) (part : Option Part) → OutcomeIsStatus (lists.part_deleted drop_empty xs part)
  part_deleted_says drop_empty None = refl
  part_deleted_says drop_empty (Some part) = removed_says drop_empty (list (lists.without_part part xs))

-- SETS

module _ (attrs : Attrs) (xs : List (List ℕ)) where
  set_insert_says : (value : List ℕ) → OutcomeIsStatus (sets.set_insert value attrs xs)
  set_insert_says value =
      either_outcome (is_some (set_reading.place_of value xs)) _ _ refl (either_outcome (length xs == attrs.maxcount) _ _ refl refl)

  value_deleted_says : (drop_empty : Bool) (place : Option ℕ) → OutcomeIsStatus (sets.value_deleted drop_empty xs place)
  value_deleted_says drop_empty None = refl
  value_deleted_says drop_empty (Some place) = removed_says drop_empty (set (remove xs place))

-- MAPS

module _ (attrs : Attrs) (pairs : List (List ℕ × List ℕ)) where
  put_last_says : (field value : List ℕ) → OutcomeIsStatus (maps.put_last field value attrs pairs)
  put_last_says field value = either_outcome (length pairs == attrs.maxcount) _ _ refl refl

  new_inserted_says : (field value : List ℕ) (place : Option ℕ) → OutcomeIsStatus (maps.new_inserted field value attrs pairs place)
  new_inserted_says field value None = put_last_says field value
  new_inserted_says field value (Some place) = refl

  held_updated_says : (value : List ℕ) (place : Option ℕ) → OutcomeIsStatus (maps.held_updated value pairs place)
  held_updated_says value None = refl
  held_updated_says value (Some place) = refl

  upserted_says : (field value : List ℕ) (place : Option ℕ) → OutcomeIsStatus (maps.upserted field value attrs pairs place)
  upserted_says field value None = put_last_says field value
  upserted_says field value (Some place) = refl

  map_delete_says : (fields : List (List ℕ)) (drop_empty : Bool) → OutcomeIsStatus (maps.map_delete fields drop_empty attrs pairs)
  map_delete_says fields drop_empty =
      either_outcome (length (maps.pairs_asked fields pairs) == 0) _ _ refl (removed_says drop_empty (map (maps.pairs_left fields pairs)))

-- THE REQUESTS

-- whether a request on the collection under some key may be piped
abbrev may_be_piped : CollAct → Bool
may_be_piped asked = act_may_be_piped (act.on_collection [] asked)

module _ (attrs : Attrs) where
  list_says : (row : Attrs → List (List ℕ) → Outcome) (contents : Contents) → ((xs : List (List ℕ)) → OutcomeIsStatus (row attrs xs)) → RowIsStatus (on_list row attrs contents)
  list_says row (list xs) says = says xs
  list_says row (set xs) says = tt
  list_says row (map pairs) says = tt

  set_says : (row : Attrs → List (List ℕ) → Outcome) (contents : Contents) → ((xs : List (List ℕ)) → OutcomeIsStatus (row attrs xs)) → RowIsStatus (on_set row attrs contents)
  set_says row (list xs) says = tt
  set_says row (set xs) says = says xs
  set_says row (map pairs) says = tt

  map_says : (row : Attrs → List (List ℕ × List ℕ) → Outcome) (contents : Contents) → ((pairs : List (List ℕ × List ℕ)) → OutcomeIsStatus (row attrs pairs)) → RowIsStatus (on_map row attrs contents)
  map_says row (list xs) says = tt
  map_says row (set xs) says = tt
  map_says row (map pairs) says = says pairs

  row_says : (asked : CollAct) (contents : Contents) → may_be_piped asked ≡ true → RowIsStatus ((asked_of asked).row attrs contents)
  row_says (act.list_insert index value create) contents may =
      list_says (lists.list_insert index value) contents (λ xs. inserted_says attrs xs value (insert_plan index (length xs) attrs.maxcount attrs.action))
  row_says (act.list_delete range drop_empty) contents may =
      list_says (lists.list_delete range drop_empty) contents (λ xs. part_deleted_says attrs xs drop_empty (span range (length xs)))
  row_says (act.list_get range taking) contents may = absurd cc
  row_says (act.set_insert value create) contents may = set_says (sets.set_insert value) contents (λ xs. set_insert_says attrs xs value)
  row_says (act.set_delete value drop_empty) contents may =
      set_says (sets.set_delete value drop_empty) contents (λ xs. value_deleted_says attrs xs drop_empty (set_reading.place_of value xs))
  row_says (act.set_exist value) contents may = set_says (sets.set_exist value) contents (λ xs. refl)
  row_says (act.set_get number taking) contents may = absurd cc
  row_says (act.map_insert field value create) contents may =
      map_says (maps.map_insert field value) contents (λ pairs. new_inserted_says attrs pairs field value (map_reading.place_of field pairs))
  row_says (act.map_update field value) contents may =
      map_says (maps.map_update field value) contents (λ pairs. held_updated_says attrs pairs value (map_reading.place_of field pairs))
  row_says (act.map_upsert field value create) contents may =
      map_says (maps.map_upsert field value) contents (λ pairs. upserted_says attrs pairs field value (map_reading.place_of field pairs))
  row_says (act.map_delete fields drop_empty) contents may =
      map_says (maps.map_delete fields drop_empty) contents (λ pairs. map_delete_says attrs pairs fields drop_empty)
  row_says (act.map_get fields taking) contents may = absurd cc

-- THE PLANS

-- what a plan answers where it is carried out
abbrev plan_says : Plan → Reply
plan_says (answer_only reply) = reply
plan_says (put key item counter reply) = reply
plan_says (take_away key reply) = reply
plan_says (take_all reply) = reply

abbrev PlanIsStatus : Plan → Type 0
PlanIsStatus plan = IsStatus (plan_says plan)

either_plan : (b : Bool) (p q : Plan) → PlanIsStatus p → PlanIsStatus q → PlanIsStatus (cond b p q)
either_plan true p q here there = here
either_plan false p q here there = there

module _ (latest counter : ℕ) (key : List ℕ) where
  made_says : (attrs : Attrs) (outcome : Option Outcome) → RowIsStatus outcome → PlanIsStatus (plan_of_made counter key attrs outcome)
  made_says attrs None says = refl
  made_says attrs (Some (stays reply)) says = says
  made_says attrs (Some (becomes contents reply)) says = refl
  made_says attrs (Some (goes reply)) says = says

  absent_says : (asked : CollAct) (makes : Option (CreateArgs × Contents)) → may_be_piped asked ≡ true
      → PlanIsStatus (plan_of_absent latest counter key (asked_of asked).row makes)
  absent_says asked None may = refl
  absent_says asked (Some (args, contents)) may = made_says (attrs_of latest args) _ (row_says (attrs_of latest args) asked contents may)

  plan_of_outcome_says : (attrs : Attrs) (outcome : Outcome) → OutcomeIsStatus outcome → PlanIsStatus (plan_of_outcome counter key attrs outcome)
  plan_of_outcome_says attrs (stays reply) says = says
  plan_of_outcome_says attrs (becomes contents reply) says = says
  plan_of_outcome_says attrs (goes reply) says = says

  held_says : (reads : Bool) (attrs : Attrs) (outcome : Option Outcome) → RowIsStatus outcome → PlanIsStatus (plan_of_held counter key reads attrs outcome)
  held_says reads attrs None says = refl
  held_says reads attrs (Some outcome) says = either_plan (reads && not attrs.readable) _ _ refl (plan_of_outcome_says attrs outcome says)

  asked_says : (asked : CollAct) (held : Option Item) → may_be_piped asked ≡ true → PlanIsStatus (plan_of_asked latest counter key (asked_of asked) held)
  asked_says asked None may = absent_says asked (asked_of asked).makes may
  asked_says asked (Some (key_value flags expiry unique value)) may = refl
  asked_says asked (Some (collection attrs contents)) may =
      held_says (asked_of asked).reads attrs ((asked_of asked).row attrs contents) (row_says attrs asked contents may)

-- THE STEP

-- an item is put where there is room, and otherwise this is answered by a word
put_says : (start : CacheState) (keys : List (List ℕ)) (reply : Reply) (gone : Option (List (List ℕ × Item)))
    (left : List (List ℕ × Item) → CacheState) → IsStatus reply
    → IsStatus (ended start keys (option_map (λ evictions. (left evictions, reply)) gone)).1
put_says start keys reply None left says = refl
put_says start keys reply (Some evictions) left says = says

carried_out_says : (start : CacheState) (keys : List (List ℕ)) (plan : Plan) → PlanIsStatus plan → IsStatus (ended start keys (carried_out start plan)).1
carried_out_says start keys (answer_only reply) says = says
carried_out_says start keys (put key item counter reply) says = put_says start keys reply (room_for start key item) _ says
carried_out_says start keys (take_away key reply) says = says
carried_out_says start keys (take_all reply) says = says

-- the request's plan is answered so, by what it does
plan_is_status : (start : CacheState) (does : PlainAct) → act_may_be_piped does ≡ true → PlanIsStatus (plan_of start does)
plan_is_status start (act.on_collection key asked) may = asked_says start.latest start.counter key asked (found key start.places) may
plan_is_status start other may = absurd cc

step_says : (old : CacheState) (now : ℕ) (request : PlainRequest) → act_may_be_piped request.act ≡ true → IsStatus (step old now request).1
step_says old now request may =
    let start = started old now (named_keys request.act) in
    carried_out_says start (named_keys request.act) (plan_of start request.act) (plan_is_status start request.act may)

-- A request that may be piped is executed with a reply that can be a status.
pub changes_are_answered_by_words : (old new : CacheState) (now : ℕ) (request : PlainRequest) (reply : Reply) → act_may_be_piped request.act ≡ true
    → Executes old now request reply new → is_some (status_of reply) ≡ true
changes_are_answered_by_words old new now request reply may (inl stepped) =
    ap (λ done. is_some (status_of done.1)) (sym stepped) ∙ step_says old now request may
changes_are_answered_by_words old new now request reply may (inr (wants, refused, same)) = ap (λ answer. is_some (status_of answer)) refused
