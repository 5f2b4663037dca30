-- What requests on collections leave keeps their rules: what all kinds have in common.
use Rattle.std.proofs.Common.{ℕ, ◌&&◌, Bool, true, false, cond, List, Option, Some, None}
use Rattle.arc_core.specs.declared.attributes.Attrs.{Attrs}
use Rattle.arc_core.specs.declared.collections.Take.{Take}
use Rattle.arc_core.specs.declared.collections.Take.TheVariants as taking
use Rattle.arc_core.specs.declared.rows.Row.{Row}
use Rattle.arc_core.specs.CollectionRows.{Outcome, stays, becomes, goes, is_empty, removed, read_and_taken}
use Rattle.arc_core.specs.Item.{Contents, IsCollection}

-- what the collection holds then keeps the rules
abbrev pub Leaves : Attrs → Outcome → Type 0
Leaves attrs (stays answer) = Unit {0}
Leaves attrs (becomes contents answer) = IsCollection attrs contents
Leaves attrs (goes answer) = Unit {0}

-- so it does where it is of the request's kind
abbrev pub RowLeaves : Attrs → Option Outcome → Type 0
RowLeaves attrs None = Unit {0}
RowLeaves attrs (Some outcome) = Leaves attrs outcome

pub either_leaves : (attrs : Attrs) (b : Bool) (p q : Outcome) → Leaves attrs p → Leaves attrs q → Leaves attrs (cond b p q)
either_leaves attrs true p q here there = here
either_leaves attrs false p q here there = there

pub removed_leaves : (attrs : Attrs) (drop_empty : Bool) (left : Contents) → IsCollection attrs left → Leaves attrs (removed drop_empty left)
removed_leaves attrs drop_empty left is = either_leaves attrs (drop_empty && is_empty left) _ _ tt is

pub read_leaves : (attrs : Attrs) (take_out : Take) (flags : ℕ) (rows : List Row) (left : Contents) → IsCollection attrs left → Leaves attrs (read_and_taken take_out flags rows left)
read_leaves attrs taking.Keep flags rows left is = tt
read_leaves attrs taking.Delete flags rows left is = is
read_leaves attrs taking.Drop flags rows left is = either_leaves attrs (is_empty left) _ _ tt is
