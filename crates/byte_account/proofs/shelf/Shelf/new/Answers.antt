use Rattle.byte_account.specs.Weight.{place_weight}
use Rattle.byte_account.proofs.AccountingLaws.{IsAccounted-empty}
use Rattle.byte_account.proofs.ShareLaws.{IsWithinShare-empty}
use Rattle.byte_account.proofs.shelf.Shelf.new.Goals as goal

pub invariant_of-result : goal.invariant_of-result
invariant_of-result g c =
    rw (c.in_ok-list.ensures, c.new-2.ensures)
    (IsAccounted-empty (place_weight g.T.Weighs.weigh) c.args.limit c.args.share, IsWithinShare-empty (place_weight g.T.Weighs.weigh) c.args.limit c.args.share)
