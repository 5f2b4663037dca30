use Rattle.std.proofs.Common.{◌++◌, sym, ap, ◌∙◌, length, is_some, nat_lt}
use Rattle.arc_core.specs.ReplyText.{reply_text}
use Rattle.pipe_session.specs.Owing.{Owing, rest_of}
use Rattle.pipe_session.proofs.Owing.{no_rest, put_whole, put_nothing, put_seen}
use Rattle.pipe_session.proofs.Behind.{not_long}
use Rattle.pipe_session.proofs.owed.Owed.put_waiting.Goals as goal

pub returns-clause-text : goal.returns-clause-text
returns-clause-text c = λ whole.
    let waiting = c.self.inside.waiting in
    let long = c.self.inside.long in
    let short = not_long (is_some long) (nat_lt 16384 (length waiting)) c.args.self.now (ap (λ (o : Owing). o.is_full) c.self.view_is) (ap (λ (o : Owing). o.has_long) c.self.view_is) c.requires in
    put_seen waiting c.put.new.self (rest_of long c.self.inside.at) (reply_text c.args.reply.now) (no_rest long c.self.inside.at short) (put_whole waiting c.put.new.self (reply_text c.args.reply.now) c.put.result c.put.ensures.put whole)
    ∙ ap (λ (o : Owing). o.text ++ reply_text c.args.reply.now) c.self.view_is

pub returns-clause-same : goal.returns-clause-same
returns-clause-same c = λ none.
    let same = put_nothing c.self.inside.waiting c.put.new.self (reply_text c.args.reply.now) c.put.result c.put.ensures.put none in
    rw same c.self.view_is
