use Rattle.std.proofs.Common.{◌≡◌, true, false, ap, sym, ◌∙◌, refl, arith}
use Rattle.smget_merge.specs.MergedRows.{TreeRow}
use Rattle.smget_merge.specs.Merges.{Merging, is_wanted}
use Rattle.smget_merge.proofs.WantedLemmas.{hands_out, passes_more}
use Rattle.smget_merge.proofs.merge.Merge.next.Goals as goal

pub returns-then-is_wanted-clause-row : goal.returns-then-is_wanted-clause-row
returns-then-is_wanted-clause-row g c =
    let row : TreeRow = record { number = c.in-Some.number; element = c.in-Some.element.now } in
    let taken = c.in-Some.ensures in
    let is : is_wanted c.args.filter.now c.args.unique c.take.new.self.last c.in-Some.element.now ≡ true = sym c.is_wanted.ensures ∙ c.if-is_wanted.true in
    let left = ap (λ (m : Merging). m.left) c.self.view_is in
    hands_out c.args.filter.now c.args.unique c.args.self.now c.loop-number.self c.take.new.self row c.loop-number.invariant.passed taken.row taken.last is _ left refl

pub loop-number-preserved : goal.loop-number-preserved
loop-number-preserved g c =
    let row : TreeRow = record { number = c.in-Some.number; element = c.in-Some.element.now } in
    let taken = c.in-Some.ensures in
    let passed : is_wanted c.args.filter.now c.args.unique c.take.new.self.last c.in-Some.element.now ≡ false = sym c.is_wanted.ensures ∙ c.if-is_wanted.false in
    let is = c.loop-number.invariant in
    record {
      passed = passes_more c.args.filter.now c.args.unique c.args.self.now c.loop-number.self c.take.new.self row is.passed taken.row taken.last passed;
      range = taken.range ∙ is.range;
      room = taken.room ∙ is.room;
      steps = omega (arith, c.take.ensures.steps, is.steps);
    }
