-- The checks that all requests on collections have in common, in their order: no item, or creation; an item of another
-- kind; one that is not readable; then the row's own checks. Room comes last, as for every plan.
use Rattle.std.specs.Prelude.{ℕ, Bool, not, ◌&&◌, if◌then◌else◌, List, Option, Some, None}
use Rattle.arc_core.specs.declared.attributes.Attrs.{Attrs}
use Rattle.arc_core.specs.declared.attributes.CreateArgs.{CreateArgs}
use Rattle.arc_core.specs.declared.replies.Reply.TheVariants as reply
use Rattle.arc_core.specs.declared.replies.Word.TheVariants as word
use Rattle.arc_core.specs.CollectionRows.{Outcome, stays, becomes, goes, attrs_of}
use Rattle.arc_core.specs.Item.{Item, key_value, collection, Contents, list, set, map}
use Rattle.arc_core.specs.Plan.{Plan, answer_only, put, take_away}

-- What a request asks of the collection under its key.
pub record Asked : Type 0 where
  -- whether it reads elements
  pub reads : Bool
  -- with which attributes it makes a collection where no item is held, if it does, and what that holds at first
  pub makes : Option (CreateArgs × Contents)
  -- what it comes to, by the attributes and what the collection holds; none where that is of another kind
  pub row : Attrs → Contents → Option Outcome

-- a row on lists, on sets and on maps
abbrev pub on_list : (Attrs → List (List ℕ) → Outcome) → Attrs → Contents → Option Outcome
on_list row attrs (list values) = Some (row attrs values)
on_list row attrs _ = None

abbrev pub on_set : (Attrs → List (List ℕ) → Outcome) → Attrs → Contents → Option Outcome
on_set row attrs (set values) = Some (row attrs values)
on_set row attrs _ = None

abbrev pub on_map : (Attrs → List (List ℕ × List ℕ) → Outcome) → Attrs → Contents → Option Outcome
on_map row attrs (map pairs) = Some (row attrs pairs)
on_map row attrs _ = None

-- the plan for a collection that is held, by its row's outcome
abbrev pub plan_of_outcome : (counter : ℕ) → List ℕ → Attrs → Outcome → Plan
plan_of_outcome counter key attrs (stays answer) = answer_only answer
plan_of_outcome counter key attrs (becomes contents answer) = put key (collection attrs contents) counter answer
plan_of_outcome counter key attrs (goes answer) = take_away key answer

-- the plan for a collection that is made: its row's checks are those on an empty one
abbrev pub plan_of_made : (counter : ℕ) → List ℕ → Attrs → Option Outcome → Plan
plan_of_made counter key attrs None = answer_only (reply.Word word.TypeMismatch)
plan_of_made counter key attrs (Some (stays answer)) = answer_only answer
plan_of_made counter key attrs (Some (becomes contents answer)) = put key (collection attrs contents) counter (reply.Word word.CreatedStored)
plan_of_made counter key attrs (Some (goes answer)) = answer_only answer

-- the plan where no item is held
abbrev pub plan_of_absent : (latest counter : ℕ) → List ℕ → (Attrs → Contents → Option Outcome) → Option (CreateArgs × Contents) → Plan
plan_of_absent latest counter key row None = answer_only (reply.Word word.NotFound)
plan_of_absent latest counter key row (Some made) = plan_of_made counter key (attrs_of latest made.0) (row (attrs_of latest made.0) made.1)

-- the plan where a collection is held, by its row's outcome, which is none where it is of another kind
abbrev pub plan_of_held : (counter : ℕ) → List ℕ → (reads : Bool) → Attrs → Option Outcome → Plan
plan_of_held counter key reads attrs None = answer_only (reply.Word word.TypeMismatch)
plan_of_held counter key reads attrs (Some outcome) =
    if reads && not attrs.readable then answer_only (reply.Word word.Unreadable) else plan_of_outcome counter key attrs outcome

-- the plan of a request on a collection, by the item under its key
abbrev pub plan_of_asked : (latest counter : ℕ) → List ℕ → Asked → Option Item → Plan
plan_of_asked latest counter key asked None = plan_of_absent latest counter key asked.row asked.makes
plan_of_asked latest counter key asked (Some (key_value flags expiry unique value)) = answer_only (reply.Word word.TypeMismatch)
plan_of_asked latest counter key asked (Some (collection attrs contents)) = plan_of_held counter key asked.reads attrs (asked.row attrs contents)

-- the plan of a request that makes an empty collection, by the item under its key
abbrev pub plan_of_create : (latest counter : ℕ) → List ℕ → CreateArgs → Contents → Option Item → Plan
plan_of_create latest counter key args empty None = put key (collection (attrs_of latest args) empty) counter (reply.Word word.Created)
plan_of_create latest counter key args empty (Some item) = answer_only (reply.Word word.Exists)
