use Rattle.std.proofs.Common.{◌≡◌, ap, ◌∙◌, arith}
use Rattle.arc_core.specs.Places.{weight_of}
use Rattle.byte_account.specs.Weight.{place_weight}
use Rattle.byte_account.proofs.ShelfLists.{length-others-le}
use Rattle.byte_account.proofs.EvictionLemmas.{weight-last, weight-to_back, evicted_aside, evicted_behind, PopsDownTo-apart, PopsDownTo-aside_weight, PopsDownTo-aside_apart}
use Rattle.byte_account.proofs.recency_list.RecencyList.evict.Goals as goal

pub pop_down_to-freed-requires-clause-count : goal.pop_down_to-freed-requires-clause-count
pop_down_to-freed-requires-clause-count g c = omega (arith, length-others-le c.args.key.now c.args.self.now)

pub returns-then-left-eq0-clause-places : goal.returns-then-left-eq0-clause-places
returns-then-left-eq0-clause-places g c =
    evicted_behind (place_weight g.T.Weighs.weigh) c.args.key.now c.args.n c.args.self.now c.pop_down_to-freed.new.self c.pop_down_to-freed.result.0 c.pop_down_to-freed.result.1 c.pop_down_to-freed.ensures c.if-left-eq0.true

pub promote-requires : goal.promote-requires
promote-requires g c = PopsDownTo-apart (place_weight g.T.Weighs.weigh) c.args.key.now c.args.n c.args.self.now c.pop_down_to-freed.new.self _ _ c.pop_down_to-freed.ensures c.requires.apart

pub pop_many-more-requires : goal.pop_many-more-requires
pop_many-more-requires g c =
    omega (arith, weight-last (place_weight g.T.Weighs.weigh) c.pop_down_to-freed.result.1 c.promote.new.self, PopsDownTo-aside_weight (place_weight g.T.Weighs.weigh) c.args.key.now c.args.n c.args.self.now c.pop_down_to-freed.new.self c.promote.new.self _ _ c.pop_down_to-freed.ensures c.requires.apart c.promote.ensures)

pub demote-requires : goal.demote-requires
demote-requires g c =
    PopsDownTo-aside_apart (place_weight g.T.Weighs.weigh) c.args.key.now c.args.n c.args.self.now c.pop_down_to-freed.new.self c.promote.new.self c.pop_many-more.new.self _ _ _
    c.pop_down_to-freed.ensures c.requires.apart c.promote.ensures c.pop_many-more.ensures.places

pub overflow_add-result : goal.overflow_add-result
overflow_add-result g c =
    omega (arith, PopsDownTo-aside_weight (place_weight g.T.Weighs.weigh) c.args.key.now c.args.n c.args.self.now c.pop_down_to-freed.new.self c.promote.new.self _ _ c.pop_down_to-freed.ensures c.requires.apart c.promote.ensures)

pub returns-clause-places : goal.returns-clause-places
returns-clause-places g c =
    c.demote.ensures
    ∙ evicted_aside (place_weight g.T.Weighs.weigh) c.args.key.now c.args.n c.args.self.now c.pop_down_to-freed.new.self c.promote.new.self c.pop_many-more.new.self c.pop_down_to-freed.result.0 c.pop_down_to-freed.result.1
    c.pop_down_to-freed.ensures c.requires.apart c.requires.count (omega arith) c.promote.ensures c.pop_many-more.ensures.places

pub returns-clause-freed : goal.returns-clause-freed
returns-clause-freed g c =
    let weigh = place_weight g.T.Weighs.weigh in
    let apart = PopsDownTo-aside_apart weigh c.args.key.now c.args.n c.args.self.now c.pop_down_to-freed.new.self c.promote.new.self c.pop_many-more.new.self _ _ _ c.pop_down_to-freed.ensures c.requires.apart c.promote.ensures c.pop_many-more.ensures.places in
    let back : weight_of weigh c.demote.new.self ≡ weight_of weigh c.pop_many-more.new.self = ap (weight_of weigh) c.demote.ensures ∙ weight-to_back weigh c.args.key.now c.pop_many-more.new.self apart in
    omega (arith, back, PopsDownTo-aside_weight weigh c.args.key.now c.args.n c.args.self.now c.pop_down_to-freed.new.self c.promote.new.self _ _ c.pop_down_to-freed.ensures c.requires.apart c.promote.ensures)
