use Rattle.std.proofs.Common.{◌∙◌, ap, refl, sym, inl, inr, Err, false, subst}
use Rattle.arc_core.specs.declared.replies.Word.TheVariants as word
use Rattle.pipe_session.specs.Handling.{IsTold, stand, word_facts}
use Rattle.pipe_session.proofs.Telling.{only_ok, no_head, handles_quit, quits_by, handles_head, handles_fault, block_for}
use Rattle.pipe_session.proofs.units.handle_line.Goals as goal

pub returns-then-is_quit : goal.returns-then-is_quit
returns-then-is_quit g c =
    let line = c.args.line.now in
    let known = c.in-Ok.ensures in
    let ends = sym c.is_quit.ensures ∙ c.if-is_quit.true in
    handles_quit g.D.Desk.answers (stand c.args.desk.now (g.C.Clock.coming c.args.clock.now) c.args.owed.now.text c.args.owed.now.run) (stand c.args.desk.now (g.C.Clock.coming c.args.clock.now) c.break_run.new.self.text c.break_run.new.self.run) line c.args.block.now c.in-Ok.head (quits_by line c.in-Ok.head known.found known.needs ends) known.read ends refl refl
    c.break_run.ensures.text c.break_run.ensures.run

pub returns-else-is_quit : goal.returns-else-is_quit
returns-else-is_quit g c =
    let line = c.args.line.now in
    let known = c.in-Ok.ensures in
    handles_head g.D.Desk.answers (stand c.args.desk.now (g.C.Clock.coming c.args.clock.now) c.args.owed.now.text c.args.owed.now.run) (stand c.execute.new.desk (g.C.Clock.coming c.execute.new.clock) c.execute.new.owed.text c.execute.new.owed.run) line c.args.block.now c.in-Ok.head known.found known.read known.needs (block_for _ line c.args.block.now known.needs c.requires.block) known.silent
    (sym c.is_quit.ensures ∙ c.if-is_quit.false) (λ other spelled. only_ok c.in-Ok.head other (known.only other spelled)) c.execute.ensures

pub returns-in-Err-Unknown : goal.returns-in-Err-Unknown
returns-in-Err-Unknown g c =
    let fault = c.in-Err-Unknown in
    let line = c.args.line.now in
    let unknown = c.read_head.ensures.unknown.0 (fault.is ∙ ap Err fault.field-0-is) in
    let from = (stand c.args.desk.now (g.C.Clock.coming c.args.clock.now) c.args.owed.now.text c.args.owed.now.run) in
    let to = (stand c.args.desk.now (g.C.Clock.coming c.args.clock.now) c.answer_by_word.new.owed.text c.answer_by_word.new.owed.run) in
    handles_fault g.D.Desk.answers from to line c.args.block.now word.Unknown (inl (fault.ensures.needs, inl (unknown, refl))) fault.ensures.silent fault.ensures.read (λ head spelled. no_head fault.field-0 head (fault.ensures.only head spelled))
    (subst (λ m. IsTold g.D.Desk.answers (word_facts m false word.Unknown) from to) c.has_piped_form.ensures (c.answer_by_word.ensures c.args.desk.now (g.C.Clock.coming c.args.clock.now)))

pub returns-in-Err-BadFormat : goal.returns-in-Err-BadFormat
returns-in-Err-BadFormat g c =
    let fault = c.in-Err-BadFormat in
    let line = c.args.line.now in
    let bad = c.read_head.ensures.bad_format.0 (fault.is ∙ ap Err fault.field-0-is) in
    let from = (stand c.args.desk.now (g.C.Clock.coming c.args.clock.now) c.args.owed.now.text c.args.owed.now.run) in
    let to = (stand c.args.desk.now (g.C.Clock.coming c.args.clock.now) c.answer_by_word-in-Err-BadFormat.new.owed.text c.answer_by_word-in-Err-BadFormat.new.owed.run) in
    handles_fault g.D.Desk.answers from to line c.args.block.now word.BadFormat (inl (fault.ensures.needs, inr (bad, refl))) fault.ensures.silent fault.ensures.read (λ head spelled. no_head fault.field-0 head (fault.ensures.only head spelled))
    (subst (λ m. IsTold g.D.Desk.answers (word_facts m false word.BadFormat) from to) c.has_piped_form-in-Err-BadFormat.ensures (c.answer_by_word-in-Err-BadFormat.ensures c.args.desk.now (g.C.Clock.coming c.args.clock.now)))
