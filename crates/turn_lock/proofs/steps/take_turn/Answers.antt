use Rattle.std.proofs.Common.{arith, ◌∙◌}
use Rattle.turn_lock.proofs.Calling.{draws, looks}
use Rattle.turn_lock.proofs.Waiting.{starts_waiting, waits_on, gets_turn, waiting_kind, waiting_free}
use Rattle.turn_lock.proofs.steps.take_turn.Goals as goal

pub fetch_add-ticket-requires : goal.fetch_add-ticket-requires
fetch_add-ticket-requires g c = (c.requires.own.0, omega arith, draws g.E.Executor.state _ _ c.args.place.now.me c.requires.rest.0 c.requires.rest.1)

pub loop-init : goal.loop-init
loop-init g c = (starts_waiting g.E.Executor.state c.args.place.now.me _ _ c.requires.rest.2 c.fetch_add-ticket.ensures.2, c.fetch_add-ticket.ensures.0)

pub load-requires : goal.load-requires
load-requires g c =
    let waits = c.loop.invariant.0 in (
      c.loop.invariant.1 ∙ c.requires.own.0,
      omega arith,
      looks g.E.Executor.state _ _ c.loop.place.me (waiting_kind g.E.Executor.state _ _ _ waits ∙ c.requires.rest.0) (waiting_free g.E.Executor.state _ _ _ waits),
    )

pub returns-then-load-ticket-clause-own : goal.returns-then-load-ticket-clause-own
returns-then-load-ticket-clause-own g c = c.load.ensures.0 ∙ c.loop.invariant.1

pub returns-then-load-ticket-clause-turn : goal.returns-then-load-ticket-clause-turn
returns-then-load-ticket-clause-turn g c = gets_turn g.E.Executor.state _ _ _ _ _ c.loop.invariant.0 c.load.ensures.2 c.if-load-ticket.true

pub loop-preserved : goal.loop-preserved
loop-preserved g c = (
  waits_on g.E.Executor.state _ _ _ _ _ c.loop.invariant.0 c.load.ensures.2 c.if-load-ticket.false,
  c.load.ensures.0 ∙ c.loop.invariant.1,
)
