use Rattle.std.proofs.Common.{◌≡◌}
use Rattle.script_runs.specs.Script.{Session, bytes_of, pieces}
use Rattle.script_runs.proofs.Scripts.{with_pieces}
use Rattle.script_runs.proofs.script.session_pieces.Given as goal

-- these pieces were read so far
abbrev pub invariant-loop-left : goal.invariant-loop-left
invariant-loop-left l =
    (so_far : Session) × (l.bytes.items ≡ bytes_of so_far) × (pieces l.fn.number l.fn.text ≡ with_pieces so_far (pieces l.left l.rest))

abbrev pub decreases-loop-left : goal.decreases-loop-left
decreases-loop-left l = l.left
