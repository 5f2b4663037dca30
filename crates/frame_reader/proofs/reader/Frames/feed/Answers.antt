use Rattle.std.proofs.Common.{◌++◌, ◌∙◌, take, arith, length-drop}
use Rattle.std.proofs.lemmas.Bool.{false≢true}
use Rattle.std.proofs.lemmas.List.{take_rest}
use Rattle.frame_reader.proofs.Steps.{taken_then}
use Rattle.frame_reader.proofs.reader.Frames.feed.Goals as goal

pub loop-taken-preserved : goal.loop-taken-preserved
loop-taken-preserved g c =
    let some = c.turn-taken.ensures.some in (
      omega (arith, c.turn-taken.ensures.within, length-drop c.loop-taken.taken c.args.piece.now),
      λ bytes stands. let new = c.turn-taken.ensures.stands (bytes ++ take c.loop-taken.taken c.args.piece.now) (c.loop-taken.invariant.1 bytes stands) in
          rw (taken_then bytes c.args.piece.now _ c.loop-taken.taken c.turn-taken.result (take_rest c.args.piece.now c.loop-taken.taken)) at new,
      λ none. absurd (omega arith),
      λ was. let same = c.loop-taken.invariant.2 (c.loop-taken.invariant.3 was) in
          let waits = rw same at c.if-not-is_ready.ensures in absurd (false≢true (waits ∙ was)),
    )
