-- What a plan of an insert stands for.
use Rattle.std.specs.Prelude.{◌≢◌, ℕ, ◌-◌, ◌≤◌, List, [], length, take, drop}
use Rattle.arc_core.specs.declared.collections.Side.TheVariants.{Low, High}
use Rattle.arc_core.specs.declared.trees.Elem.{Elem}
use Rattle.arc_core.specs.TreeContents.{with_element}
use Rattle.arc_core.specs.Settling.{Settled, stored, out_of_range, overflowed}
use Rattle.overflow_trim.specs.declared.plans.TrimPlan.{TrimPlan}
use Rattle.overflow_trim.specs.declared.plans.TrimPlan.TheVariants.{Store, StoreAndTrim, OutOfRange, Overflowed}

-- what an insert comes to by its plan: what is trimmed are the first or the last of the old elements, so many of them, and
-- what stays are the other old elements with the new one
abbrev pub planned : TrimPlan → Elem → List Elem → Settled
planned Store element old = stored (with_element element old) []
planned (StoreAndTrim count Low) element old = stored (with_element element (drop count old)) (take count old)
planned (StoreAndTrim count High) element old = stored (with_element element (take (length old - count) old)) (drop (length old - count) old)
planned (OutOfRange side) element old = out_of_range side
planned Overflowed element old = overflowed

-- A plan keeps the limit: a full tree trims an element or more before one is stored, and no more are trimmed than there are.
abbrev pub KeepsLimit : (count maxcount : ℕ) → TrimPlan → Type 0
KeepsLimit count maxcount Store = count ≢ maxcount
KeepsLimit count maxcount (StoreAndTrim trimmed side) = (1 ≤ trimmed) × (trimmed ≤ count)
KeepsLimit count maxcount _ = Unit {0}
