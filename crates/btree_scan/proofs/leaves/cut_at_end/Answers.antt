use Rattle.std.proofs.Common.{◌<◌, [], ap, sym, ◌∙◌, length, refl, inr, arith}
use Rattle.std.specs.List.{filter}
use Rattle.btree_scan.specs.Directions.{joined, is_within}
use Rattle.btree_scan.specs.Ways.{ahead}
use Rattle.btree_scan.proofs.DirectionLemmas.{rising_near, filter_joined}
use Rattle.btree_scan.proofs.EndLemmas.{nothing_within, filter_full, filter_least}
use Rattle.btree_scan.proofs.leaves.cut_at_end.Goals as goal

pub elements_within-within-requires : goal.elements_within-within-requires
elements_within-within-requires c = rising_near c.args.down c.args.elements.now (ahead c.args.down c.args.way.now) c.requires

pub returns-then-within-elements-clause-elements : goal.returns-then-within-elements-clause-elements
returns-then-within-elements-clause-elements c =
    let down = c.args.down in
    let p = is_within down c.args.far.now in
    let more = ahead down c.args.way.now in
    ap (λ xs. joined down xs (filter p more)) c.elements_within-within.ensures ∙ sym (filter_joined p down c.args.elements.now more)

pub returns-then-within-elements-clause-cut : goal.returns-then-within-elements-clause-cut
returns-then-within-elements-clause-cut c =
    let p = is_within c.args.down c.args.far.now in
    let within = c.elements_within-within.ensures in
    inr (refl, within ∙ filter_full p c.args.elements.now (ap length (sym within) ∙ c.if-within-elements.true))

pub returns-clause-elements : goal.returns-clause-elements
returns-clause-elements c =
    let down = c.args.down in
    let p = is_within down c.args.far.now in
    let xs = c.args.elements.now in
    let more = ahead down c.args.way.now in
    let within = c.elements_within-within.ensures in
    let short : length (filter p xs) < length xs = omega (arith, filter_least p xs, ap length within, c.if-within-elements.false) in
    let none = nothing_within down c.args.far.now xs more c.requires short in
    ap (λ way. joined down c.elements_within-within.result.now (filter p (ahead down way))) c.clear.ensures
    ∙ (ap (λ ys. joined down ys []) within ∙ (ap (λ ys. joined down (filter p xs) ys) (sym none) ∙ sym (filter_joined p down xs more)))
