use Rattle.std.proofs.Common.{ap, sym, ◌∙◌, length, take}
use Rattle.std.specs.List.{between, filter}
use Rattle.btree_scan.specs.Directions.{is_within}
use Rattle.btree_scan.proofs.EndLemmas.{within_down, within_up}
use Rattle.btree_scan.proofs.leaves.elements_within.Goals as goal

pub returns-then-down : goal.returns-then-down
returns-then-down c =
    let xs = c.args.elements.now in
    ap (λ n. between n (length xs) xs) c.number_below.ensures.place ∙ (within_down c.args.end.now xs c.requires ∙ ap (λ down. filter (is_within down c.args.end.now) xs) (sym c.if-down.true))

pub returns : goal.returns
returns c =
    let xs = c.args.elements.now in
    ap (λ n. take n xs) c.number_up_to.ensures.number ∙ (within_up c.args.end.now xs c.requires ∙ ap (λ down. filter (is_within down c.args.end.now) xs) (sym c.if-down.false))
