use Rattle.byte_account.specs.Weight.{place_weight}
use Rattle.byte_account.proofs.AccountingLaws.{IsAccounted-empty}
use Rattle.byte_account.proofs.ShareLaws.{IsWithinShare-empty}
use Rattle.byte_account.proofs.shelf.Shelf.clear.Goals as goal

pub invariant_of-self : goal.invariant_of-self
invariant_of-self g c =
    rw (c.clear.ensures, c.clear-2.ensures)
    (IsAccounted-empty (place_weight g.T.Weighs.weigh) c.self.inside.limit c.self.inside.share, IsWithinShare-empty (place_weight g.T.Weighs.weigh) c.self.inside.limit c.self.inside.share)
