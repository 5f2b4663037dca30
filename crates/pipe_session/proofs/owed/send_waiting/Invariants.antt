use Rattle.std.proofs.Common.{◌≡◌, length}
use Rattle.arc_core.specs.Outside.{incoming, outgoing}
use Rattle.reply_print.specs.Writing.{CountsStay}
use Rattle.pipe_session.specs.Owing.{SentUpto}
use Rattle.pipe_session.proofs.owed.send_waiting.Given as goal

-- a front of what waited was sent, and no count rose
abbrev pub invariant-loop-link : goal.invariant-loop-link
invariant-loop-link g l =
    let link = g.L.Link in
    record {
      sent : SentUpto (outgoing (link.sent l.fn.link) (link.write_faults l.fn.link) (link.refusals l.fn.link))
          (outgoing (link.sent l.link) (link.write_faults l.link) (link.refusals l.link)) l.fn.waiting l.waiting;
      stay : CountsStay (outgoing (link.sent l.fn.link) (link.write_faults l.fn.link) (link.refusals l.fn.link))
          (outgoing (link.sent l.link) (link.write_faults l.link) (link.refusals l.link)) (link.agains l.fn.link) (link.agains l.link);
      same : incoming (link.left l.link) (link.read_faults l.link) ≡ incoming (link.left l.fn.link) (link.read_faults l.fn.link);
    }

abbrev pub decreases-loop-link : goal.decreases-loop-link
decreases-loop-link g l = length l.waiting
