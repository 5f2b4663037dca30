use Rattle.std.proofs.Common.{IsSome, true, false, not, refl, subst, sym}
use Rattle.byte_account.specs.Accounting.{HasShareFor}
use Rattle.byte_account.specs.ShelfWords.{on_side, weight_at}
use Rattle.byte_account.specs.Weight.{place_weight}
use Rattle.byte_account.proofs.PlacesLaws.{some_of}
use Rattle.byte_account.proofs.AccountingLaws.{IsAccounted-moved_sticky, IsAccounted-moved_listed}
use Rattle.byte_account.proofs.ShareLaws.{IsWithinShare-stuck, IsWithinShare-unstuck, unstuck-le}
use Rattle.byte_account.proofs.shelf.Shelf.restick.Goals as goal

pub invariant_of-self-then-sticky : goal.invariant_of-self-then-sticky
invariant_of-self-then-sticky g c =
    let weigh = place_weight g.T.Weighs.weigh in
    let there = subst (λ p. IsSome (on_side false c.args.key.now p)) (sym c.self.view_is) (subst (λ b. IsSome (on_side (not b) c.args.key.now c.args.self.now)) c.if-sticky.true c.requires.place) in
    let place = some_of _ there in
    let share = subst (λ b. HasShareFor b weigh c.args.self.now (weight_at weigh c.args.key.now c.args.self.now)) c.if-sticky.true c.requires.share in (
      IsAccounted-moved_sticky weigh c.args.key.now place.0 _ _ c.self.inside.total c.self.invariant.0 place.1 c.in_ok-self-inside.ensures.list (c.in_ok-self-inside.ensures.table place.0 place.1) refl refl,
      IsWithinShare-stuck weigh c.args.key.now place.0 _ c.args.self.now _ c.self.inside.sticky_total c.in_ok-self-inside.field-0 c.self.invariant.1 c.self.invariant.0.once place.1 c.in_ok-self-inside.ensures.weight c.self.view_is share
          (c.in_ok-self-inside.ensures.table place.0 place.1) refl,
    )

pub overflow_sub-self : goal.overflow_sub-self
overflow_sub-self g c = unstuck-le (place_weight g.T.Weighs.weigh) c.args.key.now _ c.self.inside.sticky_total c.in_ok-self-inside-2.field-0 c.self.invariant.1 c.in_ok-self-inside-2.ensures.weight

pub invariant_of-self-else-sticky : goal.invariant_of-self-else-sticky
invariant_of-self-else-sticky g c =
    let weigh = place_weight g.T.Weighs.weigh in
    let there = subst (λ p. IsSome (on_side true c.args.key.now p)) (sym c.self.view_is) (subst (λ b. IsSome (on_side (not b) c.args.key.now c.args.self.now)) c.if-sticky.false c.requires.place) in
    let place = some_of _ there in (
      IsAccounted-moved_listed weigh c.args.key.now place.0 _ _ c.self.inside.total c.self.invariant.0 place.1 (c.in_ok-self-inside-2.ensures.list place.0 place.1) c.in_ok-self-inside-2.ensures.table refl refl,
      IsWithinShare-unstuck weigh c.args.key.now _ c.self.inside.sticky_total c.in_ok-self-inside-2.field-0 c.self.invariant.1 c.in_ok-self-inside-2.ensures.weight _ c.in_ok-self-inside-2.ensures.table refl,
    )
