use Rattle.std.proofs.Common.{◌∙◌, ap, sym, subst}
use Rattle.std.specs.Option.{option_map_or}
use Rattle.arc_core.specs.CollectionLines.{coll_line_is_silent}
use Rattle.arc_core.specs.Words.{words}
use Rattle.pipe_session.specs.Handling.{IsTold, stand, word_facts}
use Rattle.pipe_session.specs.SessionText.{have_piped_form, head_is_piped}
use Rattle.pipe_session.proofs.units.answer_itself.Goals as goal

pub returns-in-Ok : goal.returns-in-Ok
returns-in-Ok g c = λ desk coming.
    let line = c.args.line.now in
    let known = c.in-Ok.ensures in
    let from = stand desk coming c.args.owed.now.text c.args.owed.now.run in
    let to = stand desk coming c.answer_by_word.new.owed.text c.answer_by_word.new.owed.run in
    let marked = c.is_piped.ensures ∙ sym (ap (λ o. option_map_or head_is_piped o (have_piped_form (words line))) known.read) in
    let silent = c.is_silent.ensures ∙ sym known.silent in
    subst (λ m. IsTold g.D.Desk.answers (word_facts m (coll_line_is_silent line) c.args.word) from to) marked
    (subst (λ s. IsTold g.D.Desk.answers (word_facts c.is_piped.result s c.args.word) from to) silent (c.answer_by_word.ensures desk coming))

pub returns-in-Err : goal.returns-in-Err
returns-in-Err g c = λ desk coming.
    let line = c.args.line.now in
    let known = c.in-Err.ensures in
    let from = stand desk coming c.args.owed.now.text c.args.owed.now.run in
    let to = stand desk coming c.answer_by_word-in-Err.new.owed.text c.answer_by_word-in-Err.new.owed.run in
    let marked = c.has_piped_form.ensures ∙ sym (ap (λ o. option_map_or head_is_piped o (have_piped_form (words line))) known.read) in
    subst (λ m. IsTold g.D.Desk.answers (word_facts m (coll_line_is_silent line) c.args.word) from to) marked
    (subst (λ s. IsTold g.D.Desk.answers (word_facts c.has_piped_form.result s c.args.word) from to) (sym known.silent) (c.answer_by_word-in-Err.ensures desk coming))
