use Rattle.std.proofs.Common.{ap, sym, ◌∙◌, subst, arith}
use Rattle.std.specs.List.{filter}
use Rattle.arc_core.specs.TreeContents.{IsRising}
use Rattle.btree_scan.specs.Directions.{facing, joined, is_within, AreSides}
use Rattle.btree_scan.specs.Ways.{ahead}
use Rattle.btree_scan.proofs.DirectionLemmas.{rising_near, side_at_hand}
use Rattle.btree_scan.proofs.EndLemmas.{from_near_rising, spanned}
use Rattle.btree_scan.proofs.NextLemmas.{cut_way}
use Rattle.btree_scan.proofs.cursors.Cursor.new.Goals as goal

pub elements_within-from_first-requires : goal.elements_within-from_first-requires
elements_within-from_first-requires g c =
    let leaf = c.leaf_of-leaf in
    rising_near c.is_down-down.result leaf.result.now (ahead c.is_down-down.result leaf.new.way) leaf.ensures.rising

pub cut_at_end-elements-requires : goal.cut_at_end-elements-requires
cut_at_end-elements-requires g c =
    let down = c.is_down-down.result in
    let leaf = c.leaf_of-leaf in
    subst (λ xs. IsRising (joined down xs (ahead down leaf.new.way))) (sym c.elements_within-from_first.ensures)
    (from_near_rising down c.args.range.now.first leaf.result.now (ahead down leaf.new.way) leaf.ensures.rising)

pub invariant_of-result : goal.invariant_of-result
invariant_of-result g c =
    let down = c.is_down-down.result in
    let leaf = c.leaf_of-leaf in
    let first = c.elements_within-from_first in
    let rising = subst (λ xs. IsRising (joined down xs (ahead down leaf.new.way))) (sym first.ensures) (from_near_rising down c.args.range.now.first leaf.result.now (ahead down leaf.new.way) leaf.ensures.rising) in
    let rises = c.sides.result.0.now in
    let falls = c.sides.result.1.now in
    let side = side_at_hand down c.cut_at_end-elements.result.now rises falls c.sides.ensures in
    record {
      way = cut_way down leaf.new.way c.cut_at_end-elements.new.way first.result.now c.cut_at_end-elements.result.now rising leaf.ensures.levels (omega (arith, leaf.ensures.depth, leaf.ensures.low)) c.cut_at_end-elements.ensures.cut;
      sides = subst (λ xs. AreSides down xs rises falls) (sym side) c.sides.ensures;
    }

pub returns-clause-elements : goal.returns-clause-elements
returns-clause-elements g c =
    let down = c.is_down-down.result in
    let range = c.args.range.now in
    let leaf = c.leaf_of-leaf in
    let p = is_within down range.last in
    let more = ahead down leaf.new.way in
    let side = side_at_hand down c.cut_at_end-elements.result.now c.sides.result.0.now c.sides.result.1.now c.sides.ensures in
    ap (λ xs. facing down (joined down xs (filter p (ahead down c.cut_at_end-elements.new.way)))) side
    ∙ ap (facing down) (c.cut_at_end-elements.ensures.elements ∙ ap (filter p) (ap (λ xs. joined down xs more) c.elements_within-from_first.ensures ∙ sym leaf.ensures.elements))
    ∙ spanned range down c.args.tree.now.elements c.is_down-down.ensures
