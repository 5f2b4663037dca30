use Rattle.std.proofs.Common.{sym, ◌∙◌}
use Rattle.byte_account.specs.Weight.{place_weight}
use Rattle.byte_account.proofs.EvictionLemmas.{IsPopping-step}
use Rattle.byte_account.proofs.recency_list.RecencyList.pop_down_to.Goals as goal

pub loop-left-preserved : goal.loop-left-preserved
loop-left-preserved g c =
    IsPopping-step (place_weight g.T.Weighs.weigh) c.args.key.now c.args.n c.args.self.now c.loop-left.self c.pop_last-freed.new.self c.loop-left.freed c.pop_last-freed.result c.loop-left.left
    c.loop-left.invariant c.requires.count c.loop-left-test.true (sym c.is_last.ensures ∙ c.if-not-is_last.true) c.pop_last-freed.ensures.places c.pop_last-freed.ensures.freed
