use Rattle.std.proofs.Common.{◌≡◌, length, take, arith}
use Rattle.std.proofs.lemmas.List.{length-take}
use Rattle.frame_reader.specs.Buffers.{unit_of}
use Rattle.frame_reader.proofs.Steps.{passing_ends}
use Rattle.frame_reader.proofs.turns.pass_over.Goals as goal

pub returns-else-taken-left-clause-stands : goal.returns-else-taken-left-clause-stands
returns-else-taken-left-clause-stands c = λ needs bytes body block large stands.
    let taken = take c.min-taken.result c.args.piece.now in
    let all : length taken ≡ c.args.left = omega (arith, length-take c.min-taken.result c.args.piece.now) in
    passing_ends needs body bytes taken c.args.passed c.args.left (unit_of body block large c.args.kind) all stands
