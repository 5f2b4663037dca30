use Rattle.std.proofs.Common.{◌≡◌, Some, None, length, option_map, refl, subst, sym, ap, ◌∙◌}
use Rattle.arc_core.specs.Places.{placed}
use Rattle.arc_core.specs.Room.{evicted}
use Rattle.byte_account.specs.Putting.{room_for}
use Rattle.byte_account.specs.Weight.{place_weight}
use Rattle.byte_account.proofs.PutLaws.{none_counted, replace_room, is_put, same_side, other_side}
use Rattle.byte_account.proofs.shelf.Shelf.replace.Goals as goal

pub returns-in_default : goal.returns-in_default
returns-in_default g c = (
  none_counted _ (replace_room (place_weight g.T.Weighs.weigh) c.args.sticky c.args.key.now (Some c.args.item) c.args.self.now c.held-held.result c.weight-weight.result c.sticky_part.result c.sticky_part-held_sticky.result c.saturating_sub-more.result c.saturating_sub-sticky_more.result None c.held-held.ensures.held c.held-held.ensures.once
      c.weight-weight.ensures c.sticky_part.ensures c.sticky_part-held_sticky.ensures c.saturating_sub-more.ensures c.saturating_sub-sticky_more.ensures c.in_default.ensures.room),
  refl,
)

pub put_there-requires-clause-room : goal.put_there-requires-clause-room
put_there-requires-clause-room g c =
    subst (λ b. Some c.in-Some.evictions ≡ option_map length (room_for (place_weight g.T.Weighs.weigh) b c.args.key.now (Some c.args.item) c.args.self.now)) (sym (same_side c.held-held.result.sticky c.args.sticky c.if-held-sticky.true))
    (replace_room (place_weight g.T.Weighs.weigh) c.args.sticky c.args.key.now (Some c.args.item) c.args.self.now c.held-held.result c.weight-weight.result c.sticky_part.result c.sticky_part-held_sticky.result c.saturating_sub-more.result c.saturating_sub-sticky_more.result (Some c.in-Some.evictions) c.held-held.ensures.held c.held-held.ensures.once
    c.weight-weight.ensures c.sticky_part.ensures c.sticky_part-held_sticky.ensures c.saturating_sub-more.ensures c.saturating_sub-sticky_more.ensures c.in-Some.ensures.room)

pub returns-then-held-sticky : goal.returns-then-held-sticky
returns-then-held-sticky g c =
    is_put (place_weight g.T.Weighs.weigh) c.args.sticky c.args.key.now (Some c.args.item) c.args.self.now c.in-Some.evictions
    (replace_room (place_weight g.T.Weighs.weigh) c.args.sticky c.args.key.now (Some c.args.item) c.args.self.now c.held-held.result c.weight-weight.result c.sticky_part.result c.sticky_part-held_sticky.result c.saturating_sub-more.result c.saturating_sub-sticky_more.result (Some c.in-Some.evictions) c.held-held.ensures.held c.held-held.ensures.once
    c.weight-weight.ensures c.sticky_part.ensures c.sticky_part-held_sticky.ensures c.saturating_sub-more.ensures c.saturating_sub-sticky_more.ensures c.in-Some.ensures.room)
    c.held-held.ensures.once c.put_there.new.self
    (c.put_there.ensures ∙ ap (λ b. placed b c.args.key.now (Some c.args.item) (evicted c.args.key.now c.in-Some.evictions c.args.self.now)) (same_side c.held-held.result.sticky c.args.sticky c.if-held-sticky.true))

pub put_across-requires-clause-room : goal.put_across-requires-clause-room
put_across-requires-clause-room g c =
    subst (λ b. Some c.in-Some.evictions ≡ option_map length (room_for (place_weight g.T.Weighs.weigh) b c.args.key.now (Some c.args.item) c.args.self.now)) (sym (other_side c.held-held.result.sticky c.args.sticky c.if-held-sticky.false))
    (replace_room (place_weight g.T.Weighs.weigh) c.args.sticky c.args.key.now (Some c.args.item) c.args.self.now c.held-held.result c.weight-weight.result c.sticky_part.result c.sticky_part-held_sticky.result c.saturating_sub-more.result c.saturating_sub-sticky_more.result (Some c.in-Some.evictions) c.held-held.ensures.held c.held-held.ensures.once
    c.weight-weight.ensures c.sticky_part.ensures c.sticky_part-held_sticky.ensures c.saturating_sub-more.ensures c.saturating_sub-sticky_more.ensures c.in-Some.ensures.room)

pub returns-in-Ok : goal.returns-in-Ok
returns-in-Ok g c =
    is_put (place_weight g.T.Weighs.weigh) c.args.sticky c.args.key.now (Some c.args.item) c.args.self.now c.in-Some.evictions
    (replace_room (place_weight g.T.Weighs.weigh) c.args.sticky c.args.key.now (Some c.args.item) c.args.self.now c.held-held.result c.weight-weight.result c.sticky_part.result c.sticky_part-held_sticky.result c.saturating_sub-more.result c.saturating_sub-sticky_more.result (Some c.in-Some.evictions) c.held-held.ensures.held c.held-held.ensures.once
    c.weight-weight.ensures c.sticky_part.ensures c.sticky_part-held_sticky.ensures c.saturating_sub-more.ensures c.saturating_sub-sticky_more.ensures c.in-Some.ensures.room)
    c.held-held.ensures.once c.put_across.new.self
    (c.in-Ok.ensures.ok ∙ ap (λ b. placed b c.args.key.now (Some c.args.item) (evicted c.args.key.now c.in-Some.evictions c.args.self.now)) (other_side c.held-held.result.sticky c.args.sticky c.if-held-sticky.false))
