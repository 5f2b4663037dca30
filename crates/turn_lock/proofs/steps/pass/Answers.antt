use Rattle.std.proofs.Common.{ap, arith}
use Rattle.turn_lock.proofs.Calling.{passes}
use Rattle.turn_lock.proofs.steps.pass.Goals as goal

pub fetch_add-requires : goal.fetch_add-requires
fetch_add-requires g c =
    let turn = c.requires.turn in (
      c.requires.own.0,
      omega arith,
      passes g.E.Executor.state _ _ c.args.place.now.me g.N.Noted.entry turn.1.0 turn.0 turn.1.1 (ap (λ e. e.seat) c.requires.entry) c.requires.held,
    )
