use Rattle.std.proofs.Common.{◌∙◌, arith}
use Rattle.arc_core.specs.Settling.{greatest, least, is_same}
use Rattle.arc_core.specs.TreeContents.{with_element}
use Rattle.overflow_trim.proofs.EndLemmas.{unbounded, not_too_high, not_highest, at_top}
use Rattle.overflow_trim.proofs.ends.is_too_high.Goals.{then-maxbkeyrange-eq0-via-then-maxbkeyrange-eq0, then-maxbkeyrange-eq0-via-else-maxbkeyrange-eq0+then-place-eq0}
use Rattle.overflow_trim.proofs.ends.is_too_high.Goals as goal

pub returns-then-maxbkeyrange-eq0 : goal.returns-then-maxbkeyrange-eq0
returns-then-maxbkeyrange-eq0 g c =
    let e = c.args.elem.now in
    let all = with_element e c.args.tree.now.elements in
    elim c.then-maxbkeyrange-eq0.branch [
      | then-maxbkeyrange-eq0-via-then-maxbkeyrange-eq0 w ↦ unbounded c.args.maxbkeyrange (is_same e.bkey (greatest e all)) e.bkey (least e all) w.if-maxbkeyrange-eq0.true
      | then-maxbkeyrange-eq0-via-else-maxbkeyrange-eq0+then-place-eq0 w ↦ not_too_high c.args.maxbkeyrange e c.args.tree.now.elements c.args.place c.requires w.if-place-eq0.true
    ]

pub returns-then-place-count : goal.returns-then-place-count
returns-then-place-count g c =
    not_highest c.args.maxbkeyrange c.args.elem.now c.args.tree.now.elements c.args.place c.requires (λ same. c.if-place-count.true (omega (arith, same, c.count.ensures)))

pub returns : goal.returns
returns g c =
    c.is_too_wide.ensures ∙ at_top c.args.maxbkeyrange c.args.elem.now c.at_position.result.now c.args.tree.now.elements c.args.place c.requires
    (omega (arith, c.if-place-count.false, c.count.ensures)) c.if-place-eq0.false c.at_position.ensures.element
