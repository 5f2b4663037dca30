use Rattle.std.proofs.Common.{◌≡◌, ◌+◌, ap, sym, ◌∙◌, arith, if◌then◌else◌}
use Rattle.arc_core.specs.TreeReading.{is_selected}
use Rattle.tree_coll.proofs.PartLemmas.{found_more, full_rest, full_selected, within_more}
use Rattle.tree_coll.proofs.WalkLemmas.{skip_more}
use Rattle.tree_coll.proofs.chosen.go.Goals as goal

pub loop-found-preserved : goal.loop-found-preserved
loop-found-preserved g c =
    let p = is_selected c.args.filter.now in
    let n = c.loop-found.passed in
    let x = c.in-Some.element.now in
    let one = c.number_of-found.ensures.number ∙ ap (λ b. if b then 1 else 0) c.is_selected.ensures in
    record {
      left = skip_more _ _ _ n x c.loop-found.invariant.left c.in-Some.ensures.elements;
      within = within_more p n _ _ _ x c.loop-found.invariant.left c.in-Some.ensures.elements;
      found = ap (λ k. c.loop-found.found + k) one ∙ found_more p n (n + 1) _ _ _ x c.loop-found.found (omega arith) c.loop-found.invariant.left c.in-Some.ensures.elements c.loop-found.invariant.found;
      most = omega (arith, c.loop-found-test.true, c.number_of-found.ensures.most);
    }

pub returns-clause-selected : goal.returns-clause-selected
returns-clause-selected g c =
    let all : c.loop-found.found ≡ c.args.most = omega (arith, c.loop-found.invariant.most, c.loop-found-test.false) in
    full_selected (is_selected c.args.filter.now) c.loop-found.passed c.args.most _ (sym c.loop-found.invariant.found ∙ all)

pub returns-clause-rest : goal.returns-clause-rest
returns-clause-rest g c =
    let all : c.loop-found.found ≡ c.args.most = omega (arith, c.loop-found.invariant.most, c.loop-found-test.false) in
    full_rest (is_selected c.args.filter.now) c.loop-found.passed c.args.most _ _ c.loop-found.invariant.left (sym c.loop-found.invariant.found ∙ all)
