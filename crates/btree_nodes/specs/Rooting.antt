-- What an operation leaves of the root.
use Rattle.std.specs.Prelude.{◌≡◌, ◌⊎◌, ℕ, ◌+◌, ◌≤◌, ◌<◌, ◌++◌, insert}
use Rattle.arc_core.specs.declared.trees.Elem.{Elem}
use Rattle.btree_nodes.specs.declared.runs.Run.{Run}
use Rattle.btree_nodes.specs.Subtree.{Subtree, IsDense}
use Rattle.btree_nodes.specs.Removal.{IsRun}

-- A full root is now a branch over two halves, below which an element was inserted.
pub record IsRaised (old : Subtree) (place : ℕ) (elem : Elem) (new : Subtree) : Type 0 where
  pub elements : new.elements ≡ insert old.elements place elem
  pub height : new.height ≡ old.height + 1
  pub width : new.width ≡ 2
  pub room : 32 ≤ new.room
  pub dense : IsDense new

-- An element was inserted below one of two neighbours.
pub record IsEither (first second : Subtree) (place : ℕ) (elem : Elem) (one two : Subtree) : Type 0 where
  pub elements : one.elements ++ two.elements ≡ insert (first.elements ++ second.elements) place elem
  pub heights : (one.height ≡ first.height) × (two.height ≡ second.height)
  pub widths : (first.width ≤ one.width) × (second.width ≤ two.width)
  pub rooms : (first.room ≤ one.room) × (second.room ≤ two.room)
  pub dense : IsDense one × IsDense two

-- A root lost a run. It has its height still, or an only child took its place, which is not full.
pub record IsTrimmedRoot (old : Subtree) (place limit : ℕ) (new : Subtree) (run : Run) : Type 0 where
  pub removed : IsRun old.elements place limit new.elements run
  pub level : ((new.height ≡ old.height) × (new.width ≤ old.width) × (old.room ≤ new.room) × (2 ≤ new.height → 2 ≤ new.width)) ⊎ ((new.height + 1 ≡ old.height) × (1 ≤ new.height) × (16 ≤ new.width) × (new.width < 32) × (32 ≤ new.room))
  pub dense : IsDense new
