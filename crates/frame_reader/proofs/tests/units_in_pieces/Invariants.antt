use Rattle.std.proofs.Common.{◌≡◌, None}
use Rattle.frame_reader.specs.Progress.{ready_unit}
use Rattle.frame_reader.proofs.tests.units_in_pieces.Given as goal

abbrev pub invariant-loop-piece : goal.invariant-loop-piece
invariant-loop-piece l =
    (goal.iterator-loop-piece).can_next l.piece-iterator
    × (goal.iterator-loop-piece).is_finite l.piece-iterator
    × (ready_unit l.frames ≡ None)
