use Rattle.std.proofs.Common.{refl, sym, inl}
use Rattle.arc_core.specs.declared.coll_commands.CollHead.TheVariants as coll_head
use Rattle.arc_core.specs.PlainRequest.{plain}
use Rattle.pipe_session.specs.Handling.{stand}
use Rattle.pipe_session.proofs.Telling.{told_request, told_bad_block, owes_all, owes_nothing}
use Rattle.pipe_session.proofs.units.execute_key_value_alone.Goals as goal

pub answer_alone-requires-clause-spelled : goal.answer_alone-requires-clause-spelled
answer_alone-requires-clause-spelled g c =
    (c.requires.spelled.0, c.args.block.now, (coll_head.KeyValue c.args.head, c.requires.spelled.1, c.requires.block, sym c.in-Ok.ensures))

pub answer_alone-requires-clause-room : goal.answer_alone-requires-clause-room
answer_alone-requires-clause-room g c = inl c.requires.room

pub put_word-requires : goal.put_word-requires
put_word-requires g c = record { room = inl c.requires.room }

pub returns-in-Ok-clause-told : goal.returns-in-Ok-clause-told
returns-in-Ok-clause-told g c =
    told_request g.D.Desk.answers (stand c.args.desk.now (g.C.Clock.coming c.args.clock.now) c.args.owed.now.text c.args.owed.now.run) (stand c.answer_alone.new.desk (g.C.Clock.coming c.answer_alone.new.clock) c.answer_alone.new.owed.text c.answer_alone.new.owed.run) (coll_head.KeyValue c.args.head) c.args.block.now c.is_silent-silent.result c.is_silent-silent.ensures (plain c.in-Ok.request) c.answer_alone.ensures.0 c.in-Ok.ensures
    c.answer_alone.ensures.1 c.answer_alone.ensures.2

pub returns-then-not-silent-clause-told : goal.returns-then-not-silent-clause-told
returns-then-not-silent-clause-told g c =
    told_bad_block g.D.Desk.answers (stand c.args.desk.now (g.C.Clock.coming c.args.clock.now) c.args.owed.now.text c.args.owed.now.run) (stand c.args.desk.now (g.C.Clock.coming c.args.clock.now) c.put_word.new.self.text c.put_word.new.self.run) (coll_head.KeyValue c.args.head) c.args.block.now c.is_silent-silent.result c.is_silent-silent.ensures c.in-Err.ensures refl refl
    (owes_all _ _ _ _ c.if-not-silent.true c.put_word.ensures.text)

pub returns-else-not-silent-clause-told : goal.returns-else-not-silent-clause-told
returns-else-not-silent-clause-told g c =
    told_bad_block g.D.Desk.answers (stand c.args.desk.now (g.C.Clock.coming c.args.clock.now) c.args.owed.now.text c.args.owed.now.run) (stand c.args.desk.now (g.C.Clock.coming c.args.clock.now) c.args.owed.now.text c.args.owed.now.run) (coll_head.KeyValue c.args.head) c.args.block.now c.is_silent-silent.result c.is_silent-silent.ensures c.in-Err.ensures refl refl
    (owes_nothing _ _ _ c.if-not-silent.false)
