-- Where an insert at an index of a list puts its element, and what it trims (`lop insert` of the ARCUS protocol).
use Rattle.std.specs.Prelude.{◌≡◌, ℕ, zero, ◌-◌, ℤ, pos, negsuc, Bool, ◌==◌, ◌≤◌, ◌<◌, nat_le, if◌then◌else◌, Option, Some, None, refl}
use Rattle.arc_core.specs.declared.collections.Action.{Action}
use Rattle.arc_core.specs.declared.collections.Action.TheVariants as action
use Rattle.arc_core.specs.declared.collections.Side.{Side}
use Rattle.arc_core.specs.declared.collections.Side.TheVariants.{Low, High}
use Rattle.arc_core.specs.declared.lists.ListPlan.{ListPlan}
use Rattle.arc_core.specs.declared.lists.ListPlan.TheVariants.{Store, StoreAndTrim, OutOfRange, Overflowed}

-- an action that a list can have
abbrev pub IsListAction : Action → Type 0
IsListAction action.Error = Unit {0}
IsListAction action.HeadTrim = Unit {0}
IsListAction action.TailTrim = Unit {0}
IsListAction _ = ⊥

-- the place that an index names for a new element beside n others: an index i at or above 0 is place i, up to n,
-- and an index -k is place n - k + 1, for k from 1 to n + 1 (`negsuc j` is the index -(j + 1))
abbrev pub insert_place : ℤ → ℕ → Option ℕ
insert_place (pos i) n = if nat_le i n then Some i else None
insert_place (negsuc j) n = if nat_le j n then Some (n - j) else None

-- the end that an action trims
abbrev pub side_of : Action → Side
side_of action.HeadTrim = Low
side_of _ = High

-- the end that a full list trims: index 0 trims the tail, index -1 the head, and any other index the action's end
abbrev pub trimmed_side : ℤ → Action → Side
trimmed_side (pos zero) _ = High
trimmed_side (negsuc zero) _ = Low
trimmed_side _ action = side_of action

-- the trimmed element would be the new one: it would be first where the head goes, or last where the tail goes.
-- At the indices 0 and -1 it never is, since a full list has an element.
abbrev pub is_new_trimmed : ℕ → ℕ → Side → Bool
is_new_trimmed place n Low = place == 0
is_new_trimmed place n High = place == n

-- an insert at a place of a full list of n elements, by the end that is trimmed
abbrev pub trim_plan : ℤ → ℕ → ℕ → Side → ListPlan
trim_plan index n place side =
    if is_new_trimmed place n side then OutOfRange index n else StoreAndTrim place side

-- an insert at a place of a full list of n elements, by the list's action
abbrev pub full_plan : ℤ → ℕ → ℕ → Action → ListPlan
full_plan index n place action.Error = Overflowed
full_plan index n place action = trim_plan index n place (trimmed_side index action)

-- an insert at the place that the index names, if it names one, into a list of n elements that is full at maxcount
abbrev pub plan_at : ℤ → ℕ → ℕ → Action → Option ℕ → ListPlan
plan_at index n maxcount action None = OutOfRange index n
plan_at index n maxcount action (Some place) =
    if n == maxcount then full_plan index n place action else Store place

-- what an insert at an index does in a list of n elements
abbrev pub insert_plan : ℤ → ℕ → ℕ → Action → ListPlan
insert_plan index n maxcount action = plan_at index n maxcount action (insert_place index n)

-- A plan keeps the limit: a stored element's place is one of the list's, or the one behind its last, and the list has
-- room for one more element or trims an old one at an end.
abbrev pub KeepsLimit : ℕ → ℕ → ListPlan → Type 0
KeepsLimit n maxcount (Store place) = (place ≤ n) × (n < maxcount)
KeepsLimit n maxcount (StoreAndTrim place Low) = (1 ≤ place) × (place ≤ n)
KeepsLimit n maxcount (StoreAndTrim place High) = place < n
KeepsLimit n maxcount _ = Unit {0}

-- Worked: a list of five elements, full at five, that trims its tail.
six_is_no_place : insert_plan (pos 6) 5 5 action.TailTrim ≡ OutOfRange (pos 6) 5
six_is_no_place = refl

first_trims_tail : insert_plan (pos 0) 5 5 action.TailTrim ≡ StoreAndTrim 0 High
first_trims_tail = refl

last_trims_head : insert_plan (negsuc 0) 5 5 action.TailTrim ≡ StoreAndTrim 5 Low
last_trims_head = refl

fifth_would_be_trimmed : insert_plan (pos 5) 5 5 action.TailTrim ≡ OutOfRange (pos 5) 5
fifth_would_be_trimmed = refl

-- Worked: a list of two elements, full at two, that refuses.
full_list_refuses : insert_plan (pos 0) 2 2 action.Error ≡ Overflowed
full_list_refuses = refl

-- Worked: four elements, with room for a fifth at -1, and the least index that is a place.
last_of_five : insert_plan (negsuc 0) 4 5 action.TailTrim ≡ Store 4
last_of_five = refl

least_index : insert_plan (negsuc 4) 4 5 action.TailTrim ≡ Store 0
least_index = refl
