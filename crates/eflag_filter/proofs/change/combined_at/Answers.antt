use Rattle.std.proofs.Common.{◌∙◌, ap, sym, Some, arith}
use Rattle.arc_core.specs.Filter.{combined_at}
use Rattle.eflag_filter.proofs.CombinationLemmas.{length-combined_rest, combined_in_place}
use Rattle.eflag_filter.proofs.change.combined_at.Goals as goal

pub with_bytes_at-requires-clause-within : goal.with_bytes_at-requires-clause-within
with_bytes_at-requires-clause-within c =
    let new = c.bytes.ensures.bytes ∙ c.combined-new.ensures in
    let len = length-combined_rest c.args.op c.bytes-old.result.now c.bytes-operand.result.now c.bytes.result.now c.from-start.result (omega arith) new in
    omega (arith, len)

pub returns : goal.returns
returns c =
    let is = c.in-Some.is ∙ ap Some (sym c.bytes-old.ensures.bytes) in
    combined_in_place c.args.op c.bytes-old.result.now c.bytes-operand.result.now c.bytes.result.now c.with_bytes_at.result c.from-start.result c.args.flag.now is (omega arith)
    (c.bytes.ensures.bytes ∙ c.combined-new.ensures) c.with_bytes_at.ensures
    ∙ ap (λ place. combined_at place c.args.op c.bytes-operand.result.now c.args.flag.now) c.from-start.ensures
    ∙ ap (λ operand. combined_at c.args.place c.args.op operand c.args.flag.now) c.bytes-operand.ensures.bytes
