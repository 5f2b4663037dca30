-- What contracts see of a walk along a range.
use Rattle.std.specs.Prelude.{ℕ, List}
use Rattle.arc_core.specs.declared.trees.Elem.{Elem}

-- The elements that are not handed out yet, in the range's direction; and how many eighths of a step are saved up for nodes
-- that are still to be entered.
pub record Unread : Type 0 where
  pub left : List Elem
  pub credit : ℕ
