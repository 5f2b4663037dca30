use Rattle.std.proofs.Common.{arith}
use Rattle.frame_reader.proofs.reader.Frames.turn.Goals.{in-InLine, in-InBlock, in-InLargeBlock, in-PassingOver, in-Ready}
use Rattle.frame_reader.proofs.reader.Frames.turn.Goals as goal

pub invariant_of-self : goal.invariant_of-self
invariant_of-self g c = elim c.match-self.branch [
  | in-InLine w ↦
      let old = rw w.in-InLine.is at c.self.invariant in
      rw (w.self-inside-is, w.taken-is, old.2.1) (omega (arith, old.0, w.take_line.ensures.capacity), old.1, w.take_line.ensures.room)
  | in-InBlock w ↦
      let old = rw w.in-InBlock.is at c.self.invariant in
      rw (w.self-inside-is, w.taken-is) (old.0, omega (arith, old.1, w.take_block.ensures.capacity), w.take_block.ensures.room _ _ _ old.2.0)
  | in-InLargeBlock w ↦
      let old = rw w.in-InLargeBlock.is at c.self.invariant in
      rw (w.self-inside-is, w.taken-is) (old.0, old.1, w.take_large_block.ensures.room _ _ old.2.0)
  | in-PassingOver w ↦
      let old = rw w.in-PassingOver.is at c.self.invariant in
      rw (w.self-inside-is, w.taken-is) (old.0, old.1, w.pass_over.ensures.room _ _ _ _ old.2.0)
  | in-Ready w ↦
      let old = rw w.in-Ready.is at c.self.invariant in
      rw (w.self-inside-is, w.taken-is) (old.0, old.1, tt)
]
