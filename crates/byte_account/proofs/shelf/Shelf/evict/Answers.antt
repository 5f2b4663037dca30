use Rattle.std.proofs.Common.{◌+◌, refl, ap, sym, ◌∙◌}
use Rattle.arc_core.specs.Places.{weight_of}
use Rattle.byte_account.specs.Weight.{place_weight}
use Rattle.byte_account.proofs.AccountingLaws.{IsAccounted-evicted}
use Rattle.byte_account.proofs.ShareLaws.{IsWithinShare-same}
use Rattle.byte_account.proofs.shelf.Shelf.evict.Goals as goal

pub invariant_of-self : goal.invariant_of-self
invariant_of-self g c =
    let weigh = place_weight g.T.Weighs.weigh in
    rw c.evict.ensures.places (
      IsAccounted-evicted weigh c.args.key.now c.args.n _ c.self.inside.total c.evict.result c.self.invariant.0 (ap (λ shelf. weight_of weigh shelf + c.evict.result) (sym c.evict.ensures.places) ∙ c.evict.ensures.freed),
      IsWithinShare-same weigh _ _ c.self.inside.sticky_total c.self.invariant.1 refl refl,
    )
