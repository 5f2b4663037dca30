use Rattle.std.proofs.Common.{◌++◌, sym, ap, ◌∙◌, length, is_some, nat_lt}
use Rattle.std.proofs.lemmas.List.{append-nil}
use Rattle.arc_core.specs.ReplyText.{reply_text}
use Rattle.pipe_session.specs.Owing.{Owing}
use Rattle.pipe_session.proofs.Owing.{no_rest}
use Rattle.pipe_session.proofs.Behind.{not_long}
use Rattle.pipe_session.proofs.owed.Owed.put_long.Goals as goal

pub returns-clause-text : goal.returns-clause-text
returns-clause-text c =
    let waiting = c.self.inside.waiting in
    let long = c.self.inside.long in
    let short = not_long (is_some long) (nat_lt 16384 (length waiting)) c.args.self.now (ap (λ (o : Owing). o.is_full) c.self.view_is) (ap (λ (o : Owing). o.has_long) c.self.view_is) c.requires.room in
    let none = no_rest long c.self.inside.at short in
    ap (λ t. t ++ reply_text c.args.reply) (sym (append-nil waiting) ∙ ap (λ r. waiting ++ r) (sym none) ∙ ap (λ (o : Owing). o.text) c.self.view_is)
