use Rattle.std.proofs.Common.{◌^◌, ap, sym, ◌∙◌, length, option_map, refl, slice_get, arith}
use Rattle.arc_core.specs.Step.{counted}
use Rattle.arc_core.specs.Words.{number_below}
use Rattle.kv_items.specs.Counting.{or_not_numeric}
use Rattle.tree_coll.proofs.StoreLemmas.{same_count}
use Rattle.tree_coll.proofs.CountLemmas.{count_is}
use Rattle.tree_coll.proofs.FoundLemmas.{found_at, has_at, place_in}
use Rattle.tree_coll.proofs.changes.count_at.Goals as goal

pub at_position-element-requires : goal.at_position-element-requires
at_position-element-requires g c = omega (arith, place_in c.args.bkey.now c.args.held.now.contents.elements c.args.place c.requires.rising c.requires.place, ap length c.tree.ensures)

pub returns-clause-plans : goal.returns-clause-plans
returns-clause-plans g c = λ initial eflag.
    let tree = c.args.held.now.contents in
    let x = c.at_position-element.result.now in
    let at = ap (λ xs. slice_get xs c.args.place) (sym c.tree.ensures) ∙ c.at_position-element.ensures.element in
    count_is c.args.up c.args.bkey.now c.args.delta c.in-Ok.number initial eflag c.args.attrs.now tree _ x
    (record { bkey = c.args.bkey.now; eflag = x.eflag; value = c.in_ok-value.value })
    (found_at c.args.bkey.now tree.elements c.args.place x c.requires.place at)
    (ap (λ v. or_not_numeric (option_map (counted c.args.up c.args.delta) (number_below (2 ^ 64) v))) (sym c.bytes.ensures) ∙ (sym c.counted.ensures ∙ c.in-Ok.is))
    (has_at c.args.bkey.now tree.elements c.args.place x c.requires.rising c.requires.place at) refl c.in_ok-value.ensures

pub returns-clause-count : goal.returns-clause-count
returns-clause-count g c =
    same_count (record { bkey = c.args.bkey.now; eflag = c.at_position-element.result.now.eflag; value = c.in_ok-value.value }) c.args.held.now.contents.elements c.args.place c.args.attrs.now.maxcount c.requires.rising c.requires.place
