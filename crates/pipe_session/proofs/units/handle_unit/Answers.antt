use Rattle.std.proofs.Common.{◌≡◌, ◌∙◌, ◌++◌, List, ℕ, refl, subst, ap, inr}
use Rattle.std.specs.Prelude.{IfSome}
use Rattle.arc_core.specs.declared.replies.Word.TheVariants as word
use Rattle.arc_core.specs.Framing.{Whole, IsSpan}
use Rattle.arc_core.specs.Framing as whole
use Rattle.arc_core.specs.CollectionLines.{coll_line_needs}
use Rattle.frame_reader.specs.Units.{whole_of}
use Rattle.arc_core.specs.ReplyText.{word_line}
use Rattle.pipe_session.specs.Handling.{stand}
use Rattle.pipe_session.proofs.Telling.{line_handled, block_handled, answer_handled, long_handled}
use Rattle.pipe_session.proofs.units.handle_unit.Goals as goal

bad_chunk_goes_on : (text : List ℕ) → whole.bad_chunk text ≡ whole.line_too_long → ⊥
bad_chunk_goes_on text e = cc

too_large_goes_on : (text : List ℕ) → whole.too_large text ≡ whole.line_too_long → ⊥
too_large_goes_on text e = cc

no_memory_goes_on : (text : List ℕ) → whole.block_no_memory text ≡ whole.line_too_long → ⊥
no_memory_goes_on text e = cc

pub returns-in-Line : goal.returns-in-Line
returns-in-Line g c =
    let is = subst (λ u. IfSome (whole_of u) (λ unit. (span : List ℕ) × IsSpan coll_line_needs span unit)) c.in-Line.is c.requires.unit in
    rw c.in-Line.is (line_handled g.D.Desk.answers (stand c.args.desk.now (g.C.Clock.coming c.args.clock.now) c.args.owed.now.text c.args.owed.now.run) (stand c.handle_line.new.desk (g.C.Clock.coming c.handle_line.new.clock) c.handle_line.new.owed.text c.handle_line.new.owed.run) c.in-Line.line.now c.handle_line.result is.1.1 c.handle_line.ensures)

pub returns-in-LineWithBlock : goal.returns-in-LineWithBlock
returns-in-LineWithBlock g c =
    let unit = c.in-LineWithBlock in
    let is = subst (λ u. IfSome (whole_of u) (λ unit. (span : List ℕ) × IsSpan coll_line_needs span unit)) unit.is c.requires.unit in
    rw unit.is (block_handled g.D.Desk.answers (stand c.args.desk.now (g.C.Clock.coming c.args.clock.now) c.args.owed.now.text c.args.owed.now.run) (stand c.handle_line-in-LineWithBlock.new.desk (g.C.Clock.coming c.handle_line-in-LineWithBlock.new.clock) c.handle_line-in-LineWithBlock.new.owed.text c.handle_line-in-LineWithBlock.new.owed.run) unit.line.now unit.block.now is.1.0 is.1.1 c.handle_line-in-LineWithBlock.result is.1.3.asks
    c.handle_line-in-LineWithBlock.ensures)

pub returns-in-BadChunk : goal.returns-in-BadChunk
returns-in-BadChunk g c =
    let line = c.in-BadChunk.line.now in
    rw c.in-BadChunk.is (answer_handled g.D.Desk.answers (stand c.args.desk.now (g.C.Clock.coming c.args.clock.now) c.args.owed.now.text c.args.owed.now.run) (stand c.args.desk.now (g.C.Clock.coming c.args.clock.now) c.answer_itself.new.owed.text c.answer_itself.new.owed.run) (whole.bad_chunk line) line word.BadChunk refl refl refl refl (λ quits. quits) (bad_chunk_goes_on line)
    (c.answer_itself.ensures c.args.desk.now (g.C.Clock.coming c.args.clock.now)))

pub returns-in-TooLarge : goal.returns-in-TooLarge
returns-in-TooLarge g c =
    let line = c.in-TooLarge.line.now in
    rw c.in-TooLarge.is (answer_handled g.D.Desk.answers (stand c.args.desk.now (g.C.Clock.coming c.args.clock.now) c.args.owed.now.text c.args.owed.now.run) (stand c.args.desk.now (g.C.Clock.coming c.args.clock.now) c.answer_itself-in-TooLarge.new.owed.text c.answer_itself-in-TooLarge.new.owed.run) (whole.too_large line) line word.TooLarge refl refl refl refl (λ quits. quits) (too_large_goes_on line)
    (c.answer_itself-in-TooLarge.ensures c.args.desk.now (g.C.Clock.coming c.args.clock.now)))

pub returns-in-BlockNoMemory : goal.returns-in-BlockNoMemory
returns-in-BlockNoMemory g c =
    let line = c.in-BlockNoMemory.line.now in
    rw c.in-BlockNoMemory.is (answer_handled g.D.Desk.answers (stand c.args.desk.now (g.C.Clock.coming c.args.clock.now) c.args.owed.now.text c.args.owed.now.run) (stand c.args.desk.now (g.C.Clock.coming c.args.clock.now) c.answer_itself-in-BlockNoMemory.new.owed.text c.answer_itself-in-BlockNoMemory.new.owed.run) (whole.block_no_memory line) line word.NoMemory refl refl refl refl (λ quits. quits) (no_memory_goes_on line)
    (c.answer_itself-in-BlockNoMemory.ensures c.args.desk.now (g.C.Clock.coming c.args.clock.now)))

pub returns-in-LineTooLong : goal.returns-in-LineTooLong
returns-in-LineTooLong g c =
    rw c.in-LineTooLong.is (long_handled g.D.Desk.answers (stand c.args.desk.now (g.C.Clock.coming c.args.clock.now) c.args.owed.now.text c.args.owed.now.run) (stand c.args.desk.now (g.C.Clock.coming c.args.clock.now) c.put_word.new.self.text c.put_word.new.self.run) refl refl (c.put_word.ensures.text ∙ ap (λ o. o ++ word_line word.LineTooLong) c.break_run.ensures.text)
    (c.put_word.ensures.run ∙ c.break_run.ensures.run))

pub put_word-requires : goal.put_word-requires
put_word-requires g c = record { room = inr c.break_run.ensures.room }
