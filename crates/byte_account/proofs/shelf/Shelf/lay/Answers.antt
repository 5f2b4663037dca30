use Rattle.std.proofs.Common.{◌≡◌, ◌+◌, ◌≤◌, Some, None, refl, subst, sym, arith}
use Rattle.std.specs.FinMap as finite
use Rattle.arc_core.specs.Places.{Places, found, total_of}
use Rattle.byte_account.specs.Accounting.{HasShareFor}
use Rattle.byte_account.specs.Weight.{place_weight}
use Rattle.byte_account.proofs.AccountingLaws.{IsAccounted-laid}
use Rattle.byte_account.proofs.ShareLaws.{IsWithinShare-laid, laid-le, part_of}
use Rattle.byte_account.proofs.shelf.Shelf.lay.Goals as goal

pub overflow_add-self : goal.overflow_add-self
overflow_add-self g c =
    let room = subst (λ (p : Places _). total_of (place_weight g.T.Weighs.weigh) p + g.T.Weighs.weigh c.args.key.now c.args.item ≤ p.limit) (sym c.self.view_is) c.requires.room in
    omega (arith, room, c.self.invariant.0.sum, c.weight-weight.ensures)

pub overflow_add-self-2 : goal.overflow_add-self-2
overflow_add-self-2 g c =
    let weigh = place_weight g.T.Weighs.weigh in
    let hollow = subst (λ p. found c.args.key.now p ≡ Some None) (sym c.self.view_is) c.requires.hollow in
    let share = subst (λ (p : Places _). HasShareFor (finite.contains_key p.sticky c.args.key.now) weigh p (g.T.Weighs.weigh c.args.key.now c.args.item)) (sym c.self.view_is) c.requires.share in
    omega (
      arith,
      laid-le weigh c.args.key.now None (Some c.args.item) _ c.self.inside.sticky_total c.sticky_part.result c.self.invariant.1 c.self.invariant.0.once hollow refl share
          (part_of _ _ _ _ c.sticky_part.result c.refill-taken.ensures.side c.weight-weight.ensures c.sticky_part.ensures),
    )

pub invariant_of-self : goal.invariant_of-self
invariant_of-self g c =
    let weigh = place_weight g.T.Weighs.weigh in
    let hollow = subst (λ p. found c.args.key.now p ≡ Some None) (sym c.self.view_is) c.requires.hollow in
    let room = subst (λ (p : Places _). total_of weigh p + g.T.Weighs.weigh c.args.key.now c.args.item ≤ p.limit) (sym c.self.view_is) c.requires.room in
    let share = subst (λ (p : Places _). HasShareFor (finite.contains_key p.sticky c.args.key.now) weigh p (g.T.Weighs.weigh c.args.key.now c.args.item)) (sym c.self.view_is) c.requires.share in
    rw (c.refill-taken.ensures.list, c.refill-taken.ensures.sticky, c.weight-weight.ensures) (
      IsAccounted-laid weigh c.args.key.now None (Some c.args.item) _ c.self.inside.total c.self.invariant.0 hollow refl room,
      IsWithinShare-laid weigh c.args.key.now None (Some c.args.item) _ c.self.inside.sticky_total c.sticky_part.result c.self.invariant.1 c.self.invariant.0.once hollow refl share
          (part_of _ _ _ _ c.sticky_part.result c.refill-taken.ensures.side c.weight-weight.ensures c.sticky_part.ensures),
    )
