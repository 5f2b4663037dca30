use Rattle.std.proofs.Common.{[]}
use Rattle.reply_print.specs.PipeText.{pipe_text}
use Rattle.arc_core.specs.Outside.{linked}
use Rattle.reply_print.proofs.RunLemmas.{answer_short}
use Rattle.reply_print.proofs.Reach.{began, none_put, none_left, all_sent, stopped_writes}
use Rattle.reply_print.proofs.pipes.write_pipe.Goals as goal

pub returns-in-Ok : goal.returns-in-Ok
returns-in-Ok g c =
    let start = linked (g.L.Link.left c.args.link.now) (g.L.Link.read_faults c.args.link.now) (g.L.Link.sent c.args.link.now) (g.L.Link.write_faults c.args.link.now) (g.L.Link.refusals c.args.link.now) (g.L.Link.agains c.args.link.now) in
    let text = pipe_text c.args.statuses.now c.args.fault in
    let gatherer = c.new-gatherer.ensures in
    let was = began start c.args.from c.new-gatherer.result.at text _ c.requires.within (answer_short c.args.statuses.now c.args.fault c.requires.few) gatherer.at (none_put c.args.from c.new-gatherer.result.skip text c.new-gatherer.result.waiting gatherer.skip gatherer.empty) in
    let reached = c.in-Ok.ensures.puts start c.args.from text [] was in
    let now = linked (g.L.Link.left c.put_answer.new.link) (g.L.Link.read_faults c.put_answer.new.link) (g.L.Link.sent c.put_answer.new.link) (g.L.Link.write_faults c.put_answer.new.link) (g.L.Link.refusals c.put_answer.new.link) (g.L.Link.agains c.put_answer.new.link) in
    record {
      writes = all_sent start now c.args.from _ text _ reached (none_left c.put_answer.new.gatherer.waiting c.put_answer.new.gatherer.skip c.in-Ok.ensures.empty);
      incoming = reached.incoming;
    }

pub returns-in-Err : goal.returns-in-Err
returns-in-Err g c =
    let start = linked (g.L.Link.left c.args.link.now) (g.L.Link.read_faults c.args.link.now) (g.L.Link.sent c.args.link.now) (g.L.Link.write_faults c.args.link.now) (g.L.Link.refusals c.args.link.now) (g.L.Link.agains c.args.link.now) in
    let text = pipe_text c.args.statuses.now c.args.fault in
    let gatherer = c.new-gatherer.ensures in
    let was = began start c.args.from c.new-gatherer.result.at text _ c.requires.within (answer_short c.args.statuses.now c.args.fault c.requires.few) gatherer.at (none_put c.args.from c.new-gatherer.result.skip text c.new-gatherer.result.waiting gatherer.skip gatherer.empty) in
    let stopped = c.in-Err.ensures.puts start c.args.from text [] was in
    let now = linked (g.L.Link.left c.put_answer.new.link) (g.L.Link.read_faults c.put_answer.new.link) (g.L.Link.sent c.put_answer.new.link) (g.L.Link.write_faults c.put_answer.new.link) (g.L.Link.refusals c.put_answer.new.link) (g.L.Link.agains c.put_answer.new.link) in
    record {
      writes = rw c.wrote.ensures (stopped_writes start now c.args.from text c.in-Err.unsent stopped);
      incoming = stopped.incoming;
    }
