use Rattle.std.proofs.Common.{IsSome, w64, not, refl, subst, sym, ◌∙◌}
use Rattle.std.proofs.lemmas.Int.{to_z-of_z}
use Rattle.byte_account.specs.Accounting.{HasShareFor}
use Rattle.byte_account.specs.ShelfWords.{on_side, weight_at}
use Rattle.byte_account.specs.Weight.{place_weight}
use Rattle.byte_account.proofs.FoundLaws.{found-restuck}
use Rattle.cache_engine.specs.Putting.{weigh}
use Rattle.cache_engine.specs.SettingExpiry.{Crosses}
use Rattle.cache_engine.proofs.ExpiryLaws.{across_no_room, across_place, across_share, across_refused, set_across, none_more}
use Rattle.cache_engine.proofs.set_expiry.set_expiry_across.Goals as goal

pub returns-in_default : goal.returns-in_default
returns-in_default c =
    across_no_room c.args.key.now c.args.expiry c.args.shelf.now c.requires.holds _ (subst (Crosses c.args.expiry c.args.key.now c.args.shelf.now) (sym (to_z-of_z w64 c.args.sticky_extra c.ranges.sticky_extra)) c.requires.crosses) (sym c.in_default.is ∙ c.room.ensures.room)

pub restick-requires-clause-place : goal.restick-requires-clause-place
restick-requires-clause-place c =
    subst (λ b. IsSome (on_side (not b) c.args.key.now c.args.shelf.now)) (sym c.is_sticky.ensures) (across_place c.args.key.now c.args.expiry c.args.shelf.now c.requires.holds c.args.sticky_extra c.requires.crosses)

pub restick-requires-clause-share : goal.restick-requires-clause-share
restick-requires-clause-share c =
    subst (λ b. HasShareFor b (place_weight weigh) c.args.shelf.now (weight_at (place_weight weigh) c.args.key.now c.args.shelf.now)) (sym c.is_sticky.ensures)
    (across_share c.args.key.now c.args.expiry c.args.shelf.now c.requires.holds _ (subst (Crosses c.args.expiry c.args.key.now c.args.shelf.now) (sym (to_z-of_z w64 c.args.sticky_extra c.ranges.sticky_extra)) c.requires.crosses) c.in-Fits.ensures.least.share)

pub returns-in_default-restick : goal.returns-in_default-restick
returns-in_default-restick c =
    across_refused c.args.key.now c.args.expiry c.args.shelf.now c.requires.holds _ (subst (Crosses c.args.expiry c.args.key.now c.args.shelf.now) (sym (to_z-of_z w64 c.args.sticky_extra c.ranges.sticky_extra)) c.requires.crosses)
    c.in-Fits.field-0 c.in-Fits.ensures.room (c.in-Fits.ensures.nothing_added none_more) c.restick.new.self c.in_default-restick.ensures.err

pub set_expiry_there-requires-clause-held : goal.set_expiry_there-requires-clause-held
set_expiry_there-requires-clause-held c =
    (c.requires.crosses.was, rw (c.in-Ok.ensures.ok) (found-restuck c.args.key.now c.is_sticky.result _ c.args.shelf.now c.requires.crosses.held))

pub returns : goal.returns
returns c =
    set_across c.args.key.now c.args.expiry c.args.shelf.now c.requires.holds _ (subst (Crosses c.args.expiry c.args.key.now c.args.shelf.now) (sym (to_z-of_z w64 c.args.sticky_extra c.ranges.sticky_extra)) c.requires.crosses)
    c.in-Fits.field-0 c.in-Fits.ensures.room (c.in-Fits.ensures.nothing_added none_more) c.restick.new.self c.set_expiry_there.new.shelf (rw (c.in-Ok.ensures.ok, c.is_sticky.ensures) refl) c.set_expiry_there.ensures
