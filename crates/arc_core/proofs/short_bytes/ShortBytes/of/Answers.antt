use Rattle.arc_core.proofs.ShortByteLemmas.{copied_in_place}
use Rattle.arc_core.proofs.short_bytes.ShortBytes.of.Goals as goal

pub invariant_of-result : goal.invariant_of-result
invariant_of-result c = rw c.copy_from_slice.ensures.after (copied_in_place c.args.bytes.now c.requires)
