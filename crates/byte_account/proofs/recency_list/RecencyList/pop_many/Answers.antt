use Rattle.std.proofs.Common.{arith}
use Rattle.byte_account.specs.Weight.{place_weight}
use Rattle.byte_account.proofs.EvictionLemmas.{pop_small, weight-last}
use Rattle.byte_account.proofs.recency_list.RecencyList.pop_many.Goals as goal

pub overflow_add-freed : goal.overflow_add-freed
overflow_add-freed g c =
    let weigh = place_weight g.T.Weighs.weigh in
    omega (arith, pop_small weigh c.args.n c.loop.counter c.args.self.now c.loop.self c.pop_last-freed.new.self c.loop.invariant.places c.pop_last-freed.ensures.places c.loop-test.true, weight-last weigh c.args.n c.args.self.now)
