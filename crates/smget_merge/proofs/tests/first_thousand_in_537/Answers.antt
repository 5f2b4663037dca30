use Rattle.std.proofs.Common.{◌+◌, ◌*◌, ◌≤◌, arith}
use Rattle.smget_merge.specs.MergedRows.{TreeRow}
use Rattle.smget_merge.proofs.SeenLemmas.{one_less}
use Rattle.smget_merge.proofs.tests.first_thousand_in_537.Goals as goal

pub loop-bkey-preserved : goal.loop-bkey-preserved
loop-bkey-preserved g c =
    let row : TreeRow = record { number = c.in-Some.number; element = c.in-Some.element.now } in
    let less = one_less c.loop-bkey.merge c.next.new.self row c.in-Some.ensures.row in
    let more : 8 * c.next.new.steps + c.next.new.self.credit ≤ 8 * c.args.steps.now + 3300 + (c.loop-bkey.bkey + 1) = omega (arith, less, c.next.ensures.steps, c.loop-bkey.invariant) in
    more
