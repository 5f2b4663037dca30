use Rattle.std.proofs.Common.{◌≡◌, drop, map, take}
use Rattle.std.specs.List.{filter}
use Rattle.std.specs.Option.{option_map}
use Rattle.arc_core.specs.TreeReading.{completing, is_selected}
use Rattle.tree_coll.specs.TreeOutcomes.{tree_row}
use Rattle.tree_coll.proofs.walk.collect.Given as goal

abbrev pub invariant-loop-number : goal.invariant-loop-number
invariant-loop-number g l = record {
  left : filter (is_selected l.filter) l.cursor.left ≡ drop l._number (filter (is_selected l.filter) l.initial.cursor.left);
  rows : l.rows ≡ map tree_row (take l._number (filter (is_selected l.filter) l.initial.cursor.left));
  last : l.last ≡ option_map (λ element. element.bkey) (completing 0 l._number (filter (is_selected l.filter) l.initial.cursor.left));
}
