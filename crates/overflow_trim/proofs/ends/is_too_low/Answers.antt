use Rattle.std.proofs.Common.{◌<◌, ◌∙◌, length, arith}
use Rattle.arc_core.specs.Settling.{greatest, least, is_same}
use Rattle.arc_core.specs.TreeContents.{with_element}
use Rattle.overflow_trim.proofs.EndLemmas.{unbounded, not_too_low, not_lowest, at_bottom, last_read}
use Rattle.overflow_trim.proofs.ends.is_too_low.Goals.{then-maxbkeyrange-eq0-via-then-maxbkeyrange-eq0, then-maxbkeyrange-eq0-via-else-maxbkeyrange-eq0+then-place-count}
use Rattle.overflow_trim.proofs.ends.is_too_low.Goals as goal

pub returns-then-maxbkeyrange-eq0 : goal.returns-then-maxbkeyrange-eq0
returns-then-maxbkeyrange-eq0 g c =
    let e = c.args.elem.now in
    let all = with_element e c.args.tree.now.elements in
    elim c.then-maxbkeyrange-eq0.branch [
      | then-maxbkeyrange-eq0-via-then-maxbkeyrange-eq0 w ↦ unbounded c.args.maxbkeyrange (is_same e.bkey (least e all)) (greatest e all) e.bkey w.if-maxbkeyrange-eq0.true
      | then-maxbkeyrange-eq0-via-else-maxbkeyrange-eq0+then-place-count w ↦ not_too_low c.args.maxbkeyrange e c.args.tree.now.elements c.args.place c.requires (w.if-place-count.true ∙ c.count-count.ensures)
    ]

pub returns-then-place-ne0 : goal.returns-then-place-ne0
returns-then-place-ne0 g c = not_lowest c.args.maxbkeyrange c.args.elem.now c.args.tree.now.elements c.args.place c.requires c.if-place-ne0.true

pub returns : goal.returns
returns g c =
    let some : 0 < length c.args.tree.now.elements = omega (arith, c.if-place-ne0.false, c.if-place-count.false, c.count-count.ensures, c.requires.within) in
    at_bottom c.args.maxbkeyrange c.args.elem.now c.at_position.result.now c.args.tree.now.elements c.args.place c.requires c.if-place-ne0.false some
    (last_read c.args.tree.now.elements c.at_position.result.now c.count-count.result c.count-count.ensures c.at_position.ensures.element) c.is_too_wide.result c.is_too_wide.ensures
