use Rattle.std.proofs.Common.{◌≡◌, w64, ap, ◌∙◌}
use Rattle.std.proofs.lemmas.Int.{to_z-of_z}
use Rattle.arc_core.specs.Room.{room}
use Rattle.byte_account.specs.declared.room.Room.TheVariants.{Fits, Nothing}
use Rattle.byte_account.specs.ShelfWords.{added_by, room_answer}
use Rattle.byte_account.specs.Weight.{place_weight}
use Rattle.byte_account.proofs.RoomLaws.{fits_answer, nothing_answer, least_answer, nothing_evicted}
use Rattle.byte_account.proofs.shelf.Shelf.room.Goals as goal

fits : (g : _) (c : goal.In-Some g) → Fits c.in-Some.evictions ≡ room_answer (room (place_weight g.T.Weighs.weigh) c.args.self.now c.args.key.now c.args.extra c.args.sticky_extra)
fits g c =
    fits_answer (place_weight g.T.Weighs.weigh) c.args.self.now c.args.key.now c.args.extra c.args.sticky_extra c.in-Some.evictions
    (c.in-Some.ensures.room c.args.extra c.args.sticky_extra (c.rise.ensures ∙ ap added_by (to_z-of_z w64 c.args.extra c.ranges.extra)) (c.rise-2.ensures ∙ ap added_by (to_z-of_z w64 c.args.sticky_extra c.ranges.sticky_extra)))

nothing : (g : _) (c : goal.In-None g) → Nothing ≡ room_answer (room (place_weight g.T.Weighs.weigh) c.args.self.now c.args.key.now c.args.extra c.args.sticky_extra)
nothing g c =
    nothing_answer (place_weight g.T.Weighs.weigh) c.args.self.now c.args.key.now c.args.extra c.args.sticky_extra
    (c.in-None.ensures.room c.args.extra c.args.sticky_extra (c.rise.ensures ∙ ap added_by (to_z-of_z w64 c.args.extra c.ranges.extra)) (c.rise-2.ensures ∙ ap added_by (to_z-of_z w64 c.args.sticky_extra c.ranges.sticky_extra)))

pub returns-in-Some-clause-room : goal.returns-in-Some-clause-room
returns-in-Some-clause-room g c = fits g c

pub returns-in-Some-clause-least : goal.returns-in-Some-clause-least
returns-in-Some-clause-least g c = least_answer (place_weight g.T.Weighs.weigh) c.args.self.now c.args.key.now c.args.extra c.args.sticky_extra (Fits c.in-Some.evictions) (fits g c)

pub returns-in-Some-clause-nothing_added : goal.returns-in-Some-clause-nothing_added
returns-in-Some-clause-nothing_added g c =
    nothing_evicted (place_weight g.T.Weighs.weigh) c.args.self.now c.args.key.now c.args.extra c.args.sticky_extra (Fits c.in-Some.evictions) c.in-Some.ensures.within (fits g c)

pub returns-in-None-clause-room : goal.returns-in-None-clause-room
returns-in-None-clause-room g c = nothing g c

pub returns-in-None-clause-least : goal.returns-in-None-clause-least
returns-in-None-clause-least g c = least_answer (place_weight g.T.Weighs.weigh) c.args.self.now c.args.key.now c.args.extra c.args.sticky_extra Nothing (nothing g c)

pub returns-in-None-clause-nothing_added : goal.returns-in-None-clause-nothing_added
returns-in-None-clause-nothing_added g c =
    nothing_evicted (place_weight g.T.Weighs.weigh) c.args.self.now c.args.key.now c.args.extra c.args.sticky_extra Nothing c.in-None.ensures.within (nothing g c)
