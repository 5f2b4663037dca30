use Rattle.std.proofs.Common.{ℕ, List, length, ap, sym, ◌∙◌, subst, arith}
use Rattle.std.specs.List.{All}
use Rattle.std.specs.Vec.{with_items}
use Rattle.std.proofs.lemmas.List.{with_items_is}
use Rattle.smget_merge.specs.MergedRows.{sorted}
use Rattle.smget_merge.specs.Merges.{Merging}
use Rattle.smget_merge.specs.Tournaments.{IsRanked}
use Rattle.smget_merge.specs.Walks.{WalkLeft, all_credit, all_rows, heads_of, IsFacing}
use Rattle.smget_merge.proofs.SortLemmas.{sorted_length}
use Rattle.smget_merge.proofs.merge.Merge.take.Goals as goal

pub make_ranked-requires-clause-ranked : goal.make_ranked-requires-clause-ranked
make_ranked-requires-clause-ranked g c is =
    let down = c.self.inside.down in
    let F : List WalkLeft → List ℕ → Type 0 = λ walks winners. IsRanked down (heads_of walks) (length walks) winners in
    subst (λ walks. F walks c.deref_mut.result.now) (sym c.deref.ensures.value) (subst (F c.self.inside.walks.items) (sym c.deref_mut.ensures.value) (c.self.invariant.ranked is))

pub take_first-requires-clause-ranked : goal.take_first-requires-clause-ranked
take_first-requires-clause-ranked g c =
    let down = c.self.inside.down in
    let F : List WalkLeft → List ℕ → Type 0 = λ walks winners. IsRanked down (heads_of walks) (length walks) winners in
    let winners = c.deref_mut-3.ensures.value ∙ with_items_is c.self.inside.winners c.make_ranked.new.winners (c.make_ranked.ensures.length ∙ c.deref_mut.ensures.len) in
    let walks = c.deref_mut-2.ensures.value ∙ sym c.deref.ensures.value in
    subst (λ list. F list c.deref_mut-3.result.now) (sym walks) (subst (F c.deref.result.now) (sym winners) c.make_ranked.ensures.ranked)

pub invariant_of-self : goal.invariant_of-self
invariant_of-self g c =
    let inside = c.self.inside in
    let down = inside.down in
    let taken = c.take_first in
    let mid = with_items inside.winners c.make_ranked.new.winners in
    let walks = with_items_is inside.walks taken.new.walks (taken.ensures.walks ∙ c.deref_mut-2.ensures.len) in
    let winners = with_items_is mid taken.new.winners (taken.ensures.winners ∙ c.deref_mut-3.ensures.len) in
    let many_walks = ap length walks ∙ (taken.ensures.walks ∙ ap length c.deref_mut-2.ensures.value) in
    let ranked_winners = ap length (with_items_is inside.winners c.make_ranked.new.winners (c.make_ranked.ensures.length ∙ c.deref_mut.ensures.len)) in
    let many_winners = ap length winners ∙ (taken.ensures.winners ∙ (ap length c.deref_mut-3.ensures.value ∙ (ranked_winners ∙ (c.make_ranked.ensures.length ∙ ap length c.deref_mut.ensures.value)))) in
    let F : List WalkLeft → List ℕ → Type 0 = λ list played. IsRanked down (heads_of list) (length list) played in
    record {
      down = c.self.invariant.down;
      few = omega (arith, many_winners, c.self.invariant.few);
      within = omega (arith, many_winners, many_walks, c.self.invariant.within);
      room = omega (arith, many_winners, c.self.invariant.room);
      facing = subst (All (λ (walk : WalkLeft). IsFacing down walk.elements)) (sym walks) taken.ensures.facing;
      ranked = λ is. subst (λ list. F list (with_items mid taken.new.winners).items) (sym walks) (subst (F taken.new.walks) (sym winners) taken.ensures.ranked);
    }

pub returns-clause-steps : goal.returns-clause-steps
returns-clause-steps g c =
    let inside = c.self.inside in
    let down = inside.down in
    let taken = c.take_first in
    let walks = with_items_is inside.walks taken.new.walks (taken.ensures.walks ∙ c.deref_mut-2.ensures.len) in
    let count : List WalkLeft → ℕ = λ list. length (all_rows list) in
    let left : List WalkLeft → ℕ = λ list. length (sorted down (all_rows list)) in
    let was = c.deref_mut-2.ensures.value in
    let new_credit = ap all_credit walks in
    let new_left = ap left walks ∙ sorted_length down (all_rows taken.new.walks) in
    let old_credit = ap all_credit was ∙ ap (λ (m : Merging). m.credit) c.self.view_is in
    let old_left = ap count was ∙ (sym (sorted_length down (all_rows inside.walks.items)) ∙ ap (λ (m : Merging). length m.left) c.self.view_is) in
    omega (arith, taken.ensures.steps, new_credit, new_left, old_credit, old_left)
