use Rattle.std.proofs.Common.{[], refl}
use Rattle.arc_core.specs.Outside.{linked}
use Rattle.reply_print.proofs.Reach.{began, whole_piece, all_sent, stopped_writes}
use Rattle.reply_print.proofs.texts.write_line.Goals as goal

pub returns-in-Ok : goal.returns-in-Ok
returns-in-Ok g c =
    let start = linked (g.L.Link.left c.args.link.now) (g.L.Link.read_faults c.args.link.now) (g.L.Link.sent c.args.link.now) (g.L.Link.write_faults c.args.link.now) (g.L.Link.refusals c.args.link.now) (g.L.Link.agains c.args.link.now) in
    let was = began start c.args.from c.args.from c.args.line.now _ c.requires.within c.requires.fits refl (whole_piece c.args.from c.args.line.now) in
    let reached = c.in-Ok.ensures start c.args.from c.args.line.now [] was in
    let now = linked (g.L.Link.left c.send.new.link) (g.L.Link.read_faults c.send.new.link) (g.L.Link.sent c.send.new.link) (g.L.Link.write_faults c.send.new.link) (g.L.Link.refusals c.send.new.link) (g.L.Link.agains c.send.new.link) in
    record {
      writes = all_sent start now c.args.from _ c.args.line.now [] reached refl;
      incoming = reached.incoming;
    }

pub returns-in-Err : goal.returns-in-Err
returns-in-Err g c =
    let start = linked (g.L.Link.left c.args.link.now) (g.L.Link.read_faults c.args.link.now) (g.L.Link.sent c.args.link.now) (g.L.Link.write_faults c.args.link.now) (g.L.Link.refusals c.args.link.now) (g.L.Link.agains c.args.link.now) in
    let was = began start c.args.from c.args.from c.args.line.now _ c.requires.within c.requires.fits refl (whole_piece c.args.from c.args.line.now) in
    let stopped = c.in-Err.ensures start c.args.from c.args.line.now [] was in
    let now = linked (g.L.Link.left c.send.new.link) (g.L.Link.read_faults c.send.new.link) (g.L.Link.sent c.send.new.link) (g.L.Link.write_faults c.send.new.link) (g.L.Link.refusals c.send.new.link) (g.L.Link.agains c.send.new.link) in
    record {
      writes = rw c.wrote.ensures (stopped_writes start now c.args.from c.args.line.now c.in-Err.unsent stopped);
      incoming = stopped.incoming;
    }
