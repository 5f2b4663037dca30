use Rattle.std.proofs.Common.{ap, refl, ◌∙◌}
use Rattle.arc_core.specs.Places.{brought_to_front}
use Rattle.byte_account.specs.Weight.{place_weight}
use Rattle.byte_account.proofs.AccountingLaws.{IsAccounted-brought_to_front}
use Rattle.byte_account.proofs.ShareLaws.{IsWithinShare-same}
use Rattle.byte_account.proofs.FoundLaws.{touched-absent}
use Rattle.byte_account.proofs.shelf.Shelf.touch.Goals as goal

pub invariant_of-self : goal.invariant_of-self
invariant_of-self g c =
    rw c.promote.ensures
    (IsAccounted-brought_to_front (place_weight g.T.Weighs.weigh) c.args.key.now _ c.self.inside.total c.self.invariant.0, IsWithinShare-same (place_weight g.T.Weighs.weigh) _ _ c.self.inside.sticky_total c.self.invariant.1 refl refl)

pub returns-clause-absent : goal.returns-clause-absent
returns-clause-absent g c = λ absent.
    (λ i. record { shelf = c.promote.ensures i; sticky = c.self.inside.sticky; limit = c.self.inside.limit; share = c.self.inside.share }) ∙ ap (brought_to_front c.args.key.now) c.self.view_is ∙ touched-absent c.args.key.now c.args.self.now absent
