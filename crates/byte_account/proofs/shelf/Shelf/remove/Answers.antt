use Rattle.std.proofs.Common.{refl, ap, ◌∙◌, sym}
use Rattle.arc_core.specs.Places.{without}
use Rattle.byte_account.specs.Weight.{place_weight}
use Rattle.byte_account.proofs.FoundLaws.{without-absent}
use Rattle.byte_account.proofs.AccountingLaws.{IsAccounted-without, IsAccounted-without_none, weight_under-le, weight_of_item, weight_of_none}
use Rattle.byte_account.proofs.ShareLaws.{IsWithinShare-without, IsWithinShare-without_none, sticky_part-le, part_of}
use Rattle.byte_account.proofs.shelf.Shelf.remove.Goals as goal

pub invariant_of-self : goal.invariant_of-self
invariant_of-self g c =
    let weigh = place_weight g.T.Weighs.weigh in
    let none = weight_of_none g.T.Weighs.weigh c.args.key.now _ (sym c.in_err-item.was ∙ c.take_away-taken.ensures.item) in
    rw (c.take_away-taken.ensures.list, c.take_away-taken.ensures.sticky)
    (IsAccounted-without_none weigh c.args.key.now _ c.self.inside.total c.self.invariant.0 none, IsWithinShare-without_none weigh c.args.key.now _ c.self.inside.sticky_total c.self.invariant.1 c.self.invariant.0.once none)

pub returns-in_err-item-clause-absent : goal.returns-in_err-item-clause-absent
returns-in_err-item-clause-absent g c = λ absent.
    (λ i. record { shelf = c.take_away-taken.ensures.list i; sticky = c.take_away-taken.ensures.sticky i; limit = c.self.inside.limit; share = c.self.inside.share }) ∙ ap (without c.args.key.now) c.self.view_is ∙ without-absent c.args.key.now c.args.self.now absent

pub overflow_sub-self : goal.overflow_sub-self
overflow_sub-self g c =
    weight_under-le (place_weight g.T.Weighs.weigh) c.args.key.now _ c.self.inside.total c.weight-weight.result c.self.invariant.0
    (weight_of_item g.T.Weighs.weigh c.args.key.now _ c.in_ok-item.item (sym c.in_ok-item.was ∙ c.take_away-taken.ensures.item) ∙ sym c.weight-weight.ensures)

pub overflow_sub-self-2 : goal.overflow_sub-self-2
overflow_sub-self-2 g c =
    sticky_part-le (place_weight g.T.Weighs.weigh) c.args.key.now _ c.self.inside.sticky_total c.weight-weight.result c.sticky_part.result c.self.invariant.1 c.self.invariant.0.once
    (weight_of_item g.T.Weighs.weigh c.args.key.now _ c.in_ok-item.item (sym c.in_ok-item.was ∙ c.take_away-taken.ensures.item) ∙ sym c.weight-weight.ensures)
    (part_of _ _ _ c.weight-weight.result c.sticky_part.result c.take_away-taken.ensures.side refl c.sticky_part.ensures)

pub invariant_of-self-2 : goal.invariant_of-self-2
invariant_of-self-2 g c =
    let weigh = place_weight g.T.Weighs.weigh in
    let is = weight_of_item g.T.Weighs.weigh c.args.key.now _ c.in_ok-item.item (sym c.in_ok-item.was ∙ c.take_away-taken.ensures.item) ∙ sym c.weight-weight.ensures in
    rw (c.take_away-taken.ensures.list, c.take_away-taken.ensures.sticky) (
      IsAccounted-without weigh c.args.key.now _ c.self.inside.total c.weight-weight.result c.self.invariant.0 is,
      IsWithinShare-without weigh c.args.key.now _ c.self.inside.sticky_total c.weight-weight.result c.sticky_part.result c.self.invariant.1 c.self.invariant.0.once is
          (part_of _ _ _ c.weight-weight.result c.sticky_part.result c.take_away-taken.ensures.side refl c.sticky_part.ensures),
    )
