use Rattle.std.proofs.Common.{◌≡◌, ◌<◌, ◌-◌, ◌+◌, ◌/◌, arith, ap, sym, ◌∙◌, length, get_or}
use Rattle.std.proofs.lemmas.List.{get_or_default}
use Rattle.arc_core.specs.declared.bkeys.Bkey.{Bkey}
use Rattle.arc_core.specs.declared.bkeys.Bkey.TheVariants.{Number}
use Rattle.arc_core.specs.TreeContents.{is_below}
use Rattle.btree_nodes.proofs.SearchLemmas.{below_down, not_below_up, count_front}
use Rattle.btree_nodes.proofs.search.below_number.Goals as goal
use Rattle.btree_nodes.proofs.search.below_number.Goals.{then-is_below_number-2, else-is_below_number-2}

pub returns-then-size-eq0-clause-place : goal.returns-then-size-eq0-clause-place
returns-then-size-eq0-clause-place c =
    sym (count_front (is_below (Number c.args.number)) c.args.elements.now 0 (omega arith) (λ k d below. absurd (omega arith)) (λ k d low within. absurd (omega arith)))

pub returns-then-is_below_number-clause-place : goal.returns-then-is_below_number-clause-place
returns-then-is_below_number-clause-place c =
    let elements = c.args.elements.now in
    let bkey : Bkey = Number c.args.number in
    let m = length elements - 1 in
    let x = c.index-elements-size.result in
    let within : m < length elements = omega arith in
    let answer : c.is_below_number.result ≡ is_below bkey (get_or elements m x) = c.is_below_number.ensures ∙ ap (is_below bkey) c.index-elements-size.is in
    sym (count_front (is_below bkey) elements (length elements) (omega arith)
    (λ k d below. below_down bkey elements k m d c.requires (omega arith) within (ap (is_below bkey) (get_or_default elements m d x within) ∙ (sym answer ∙ c.if-is_below_number.true)))
    (λ k d low within. absurd (omega arith)))

pub loop-size-preserved : goal.loop-size-preserved
loop-size-preserved c =
    let elements = c.args.elements.now in
    let bkey : Bkey = Number c.args.number in
    let i = c.loop-size.invariant in
    let half = c.loop-size.size / 2 in
    let m = c.loop-size.low + half - 1 in
    let x = c.index-elements-low.result in
    let within : m < length elements = omega (arith, i.within) in
    let answer : c.is_below_number-in-loop-size.result ≡ is_below bkey (get_or elements m x) = c.is_below_number-in-loop-size.ensures ∙ ap (is_below bkey) c.index-elements-low.is in
    elim c.if-is_below_number-2.branch [
      | then-is_below_number-2 w ↦ rw w.low-is (record {
        some = omega arith;
        within = omega (arith, i.within);
        before = λ k d below. below_down bkey elements k m d c.requires (omega arith) within (ap (is_below bkey) (get_or_default elements m d x within) ∙ (sym answer ∙ w.if-is_below_number-2.true));
        behind = λ k d low below. i.behind k d (omega arith) below;
      })
      | else-is_below_number-2 w ↦ rw w.low-is (record {
        some = omega arith;
        within = omega (arith, i.within);
        before = i.before;
        behind = λ k d low below. not_below_up bkey elements k m d c.requires (omega arith) below (ap (is_below bkey) (get_or_default elements m d x within) ∙ (sym answer ∙ w.if-is_below_number-2.false));
      })
    ]

pub returns-clause-place : goal.returns-clause-place
returns-clause-place c =
    let i = c.loop-size.invariant in
    sym (count_front (is_below (Number c.args.number)) c.args.elements.now c.loop-size.low (omega (arith, i.within)) i.before (λ k d low within. i.behind k d (omega (arith, i.some)) within))
