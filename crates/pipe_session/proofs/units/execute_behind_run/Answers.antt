use Rattle.std.proofs.Common.{◌∙◌, ◌++◌, [], ap, sym, refl, inr, if◌then◌else◌}
use Rattle.arc_core.specs.PlainRequest.{plain}
use Rattle.arc_core.specs.ReplyText.{reply_text}
use Rattle.pipe_session.specs.Handling.{stand}
use Rattle.pipe_session.specs.Runs.{broken_answer_of, no_run}
use Rattle.pipe_session.proofs.Behind.{ended_by, ended_badly, broken_by_head}
use Rattle.pipe_session.proofs.Telling.{broke_off}
use Rattle.pipe_session.proofs.units.execute_behind_run.Goals as goal

pub answer_alone-requires-clause-room : goal.answer_alone-requires-clause-room
answer_alone-requires-clause-room g c = inr c.break_run.ensures.room

pub returns-then-may_end_a_run : goal.returns-then-may_end_a_run
returns-then-may_end_a_run g c =
    ended_by c.args.head c.args.block.now g.D.Desk.answers (stand c.args.desk.now (g.C.Clock.coming c.args.clock.now) c.args.owed.now.text c.args.owed.now.run) (stand c.end_run_by.new.desk (g.C.Clock.coming c.end_run_by.new.clock) c.end_run_by.new.owed.text c.end_run_by.new.owed.run) (plain c.in-Ok.request) c.in-Ok.ensures c.requires.goes_on c.requires.alone c.requires.in_run
    (sym c.may_end_a_run.ensures ∙ c.if-may_end_a_run.true) c.end_run_by.ensures

pub returns-else-may_end_a_run : goal.returns-else-may_end_a_run
returns-else-may_end_a_run g c =
    let run = c.args.owed.now.run in
    let said = c.answer_alone.ensures in
    let broken = c.break_run.ensures in
    broken_by_head c.args.head c.args.block.now g.D.Desk.answers (stand c.args.desk.now (g.C.Clock.coming c.args.clock.now) c.args.owed.now.text c.args.owed.now.run) (stand c.answer_alone.new.desk (g.C.Clock.coming c.answer_alone.new.clock) c.answer_alone.new.owed.text c.answer_alone.new.owed.run) (plain c.in-Ok.request) c.in-Ok.ensures c.requires.goes_on c.requires.alone c.requires.in_run
    (sym c.may_end_a_run.ensures ∙ c.if-may_end_a_run.false)
    (broke_off g.D.Desk.answers (stand c.args.desk.now (g.C.Clock.coming c.args.clock.now) c.args.owed.now.text c.args.owed.now.run) (stand c.answer_alone.new.desk (g.C.Clock.coming c.answer_alone.new.clock) c.answer_alone.new.owed.text c.answer_alone.new.owed.run) c.args.head c.args.block.now c.is_silent-silent.result c.is_silent-silent.ensures (plain c.in-Ok.request) said.0 c.in-Ok.ensures said.1
    (said.2 ∙ ap (λ o. o ++ (if c.is_silent-silent.result then [] else reply_text said.0)) (broken.text ∙ ap (λ b. c.args.owed.now.text ++ (if b then broken_answer_of run else [])) c.requires.in_run))
    (said.3 ∙ broken.run ∙ ap (λ b. if b then no_run else run) c.requires.in_run))

pub returns-in-Err : goal.returns-in-Err
returns-in-Err g c =
    let ended = c.end_run_by_word.ensures in
    ended_badly c.args.head c.args.block.now g.D.Desk.answers (stand c.args.desk.now (g.C.Clock.coming c.args.clock.now) c.args.owed.now.text c.args.owed.now.run) (stand c.args.desk.now (g.C.Clock.coming c.args.clock.now) c.end_run_by_word.new.owed.text c.end_run_by_word.new.owed.run) c.in-Err.ensures c.requires.goes_on c.requires.alone c.requires.in_run ended.0 ended.1 refl refl ended.2 ended.3
