use Rattle.std.proofs.Common.{◌≡◌, None, refl, ap, subst, sym, ◌∙◌}
use Rattle.arc_core.specs.Places.{found, placed}
use Rattle.byte_account.specs.ShelfWords.{listed_at, stuck_at}
use Rattle.byte_account.specs.Weight.{place_weight}
use Rattle.byte_account.proofs.PlacesLaws.{placed-new}
use Rattle.byte_account.proofs.AccountingLaws.{IsAccounted-new}
use Rattle.byte_account.proofs.ShareLaws.{IsWithinShare-new}
use Rattle.byte_account.proofs.shelf.Shelf.reserve_new.Goals as goal

pub invariant_of-self-2 : goal.invariant_of-self-2
invariant_of-self-2 g c =
    let weigh = place_weight g.T.Weighs.weigh in
    let absent = subst (λ p. found c.args.key p ≡ None) (sym c.self.view_is) c.requires in
    let list = (c.in_ok-make_place.ensures.list ∙ ap (λ k. listed_at c.args.sticky k None c.self.inside.list) c.bytes.ensures.bytes) in
    let table = (c.in_ok-make_place.ensures.table ∙ ap (λ k. stuck_at c.args.sticky k None c.self.inside.sticky) c.bytes.ensures.bytes) in (
      IsAccounted-new weigh c.args.key None _ _ c.self.inside.total c.args.sticky c.self.invariant.0 absent refl list table refl refl,
      IsWithinShare-new weigh c.args.sticky c.args.key None _ _ c.self.inside.sticky_total c.self.invariant.1 absent refl list table refl refl,
    )

pub returns-clause-ok : goal.returns-clause-ok
returns-clause-ok g c =
    let list = (c.in_ok-make_place.ensures.list ∙ ap (λ k. listed_at c.args.sticky k None c.self.inside.list) c.bytes.ensures.bytes) in
    let table = (c.in_ok-make_place.ensures.table ∙ ap (λ k. stuck_at c.args.sticky k None c.self.inside.sticky) c.bytes.ensures.bytes) in
    placed-new c.args.sticky c.args.key None _ _ (subst (λ p. found c.args.key p ≡ None) (sym c.self.view_is) c.requires) list table refl refl
    ∙ ap (placed c.args.sticky c.args.key None) c.self.view_is
