-- Where a bkey stands among elements by rising bkeys.
use Rattle.std.specs.Prelude.{List, if◌then◌else◌}
use Rattle.arc_core.specs.declared.bkeys.Bkey.{Bkey}
use Rattle.arc_core.specs.declared.trees.Elem.{Elem}
use Rattle.arc_core.specs.TreeContents.{place_of}
use Rattle.btree_nodes.specs.Ways.{has_bkey}
use Rattle.btree_scan.specs.declared.positions.Position.{Position}
use Rattle.btree_scan.specs.declared.positions.Position.TheVariants.{At, Before}

-- the number of smaller bkeys, and whether an element in that place has the bkey
abbrev pub position_in : Bkey → List Elem → Position
position_in bkey elements = if has_bkey bkey elements then At (place_of bkey elements) else Before (place_of bkey elements)
