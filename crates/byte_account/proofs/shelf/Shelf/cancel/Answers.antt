-- The place that goes is hollow, and so weighs nothing.
use Rattle.std.proofs.Common.{Some, ap, sym, ◌∙◌}
use Rattle.arc_core.specs.Places.{found}
use Rattle.byte_account.specs.Weight.{place_weight, weight_under}
use Rattle.byte_account.proofs.AccountingLaws.{IsAccounted-without_none}
use Rattle.byte_account.proofs.ShareLaws.{IsWithinShare-without_none}
use Rattle.byte_account.proofs.shelf.Shelf.cancel.Goals as goal

pub invariant_of-self : goal.invariant_of-self
invariant_of-self g c =
    let weigh = place_weight g.T.Weighs.weigh in
    let none = ap (λ p. weight_under weigh c.args.key.now (found c.args.key.now p)) c.self.view_is
    ∙ ap (weight_under weigh c.args.key.now) (sym c.in-Some-None.ensures ∙ ap (λ place. Some place) c.in-Some-None.field-0-is) in
    rw (c.take_away.ensures.list, c.take_away.ensures.sticky)
    (IsAccounted-without_none weigh c.args.key.now _ c.self.inside.total c.self.invariant.0 none, IsWithinShare-without_none weigh c.args.key.now _ c.self.inside.sticky_total c.self.invariant.1 c.self.invariant.0.once none)
