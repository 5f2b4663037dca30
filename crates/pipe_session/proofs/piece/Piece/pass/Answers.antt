use Rattle.std.proofs.Common.{length, drop, ap, ◌∙◌, arith}
use Rattle.pipe_session.proofs.Pieces.{passed}
use Rattle.pipe_session.proofs.piece.Piece.pass.Goals as goal

pub returns : goal.returns
returns c =
    passed c.self.inside.buffer.items c.self.inside.from c.self.inside.upto c.args.count c.self.invariant.2 (omega (arith, ap length c.self.view_is, c.requires))
    ∙ ap (drop c.args.count) c.self.view_is
