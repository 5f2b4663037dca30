use Rattle.overflow_trim.proofs.EndLemmas.{last_read}
use Rattle.overflow_trim.proofs.TrimLemmas.{below_far, below_wide}
use Rattle.overflow_trim.proofs.ends.greatest_number.Goals as goal

pub unreachable-requires : goal.unreachable-requires
unreachable-requires g c =
    let w = below_wide c.args.maxbkeyrange c.args.elem.now c.at_position.result.now c.args.tree.now.elements c.requires.first c.requires.wide
    (last_read c.args.tree.now.elements c.at_position.result.now c.count.result c.count.ensures c.at_position.ensures.element) in
    c.in_default.not-Number w.high w.above_is

pub returns : goal.returns
returns g c = λ number is.
    below_far c.args.maxbkeyrange c.args.elem.now c.at_position.result.now c.args.tree.now.elements number c.in-Number.greatest c.requires.first c.requires.wide
    (last_read c.args.tree.now.elements c.at_position.result.now c.count.result c.count.ensures c.at_position.ensures.element) c.in-Number.is is
