-- What is left of a walk along a range.
use Rattle.std.specs.Prelude.{List, filter, length, if◌then◌else◌}
use Rattle.arc_core.specs.declared.trees.Elem.{Elem}
use Rattle.btree_scan.specs.Directions.{joined, facing, is_within, AreSides}
use Rattle.btree_scan.specs.Ways.{ahead, credit_of, IsWay}
use Rattle.btree_scan.specs.Unread.{Unread}
use Rattle.btree_scan.specs.declared.cursors.Cursor.TheInside.{Inside}

-- the elements of the leaf that are left
abbrev pub at_hand : Inside → List Elem
at_hand walk = if walk.down then walk.falling.now else walk.rising.now

-- the elements at hand and those ahead that the range has, in the walk's direction; and what is saved up
abbrev pub unread_of : Inside → Unread
unread_of walk = record {
  left = facing walk.down (joined walk.down (at_hand walk) (filter (is_within walk.down walk.far) (ahead walk.down walk.way)));
  credit = credit_of walk.down (length (at_hand walk)) walk.way;
}

-- What holds of a walk.
pub record IsWalk (walk : Inside) : Type 0 where
  pub way : IsWay walk.down walk.way
  pub sides : AreSides walk.down (at_hand walk) walk.rising.now walk.falling.now
