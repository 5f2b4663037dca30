use Rattle.std.proofs.Common.{sym, refl, subst, ap, ◌∙◌}
use Rattle.cache_engine.specs.Stored.{item_of}
use Rattle.arc_core.specs.Places.{found}
use Rattle.cache_engine.specs.Starting.{PutsInStep, is_held, moves}
use Rattle.cache_engine.proofs.Finishing.{put_done, held_by_state, no_room}
use Rattle.cache_engine.proofs.key_state.put_and_use.Goals as goal

pub put-put-requires : goal.put-put-requires
put-put-requires c =
    c.is_held.ensures ∙ ap is_held c.requires.key_state ∙ held_by_state c.args.latest (found c.args.key.now c.args.items.now)

pub returns-in-Done : goal.returns-in-Done
returns-in-Done c =
    subst (λ p. PutsInStep c.args.latest c.args.key.now (item_of c.args.item) c.args.items.now c.mark_used.new.self p) (sym c.in-Done.is)
    (put_done c.args.latest c.args.key.now (item_of c.args.item) c.args.items.now c.args.key_state c.put-put.new.self c.mark_used.new.self c.requires.placed c.requires.key_state c.in-Done.ensures
    (rw (sym (c.moves_to_front-moves.ensures ∙ ap (moves c.args.latest c.args.key_state) c.expiry.ensures), c.if-moves.true, c.mark_used.ensures, c.bytes.ensures.bytes) refl))

pub returns-else-moves : goal.returns-else-moves
returns-else-moves c =
    subst (λ p. PutsInStep c.args.latest c.args.key.now (item_of c.args.item) c.args.items.now c.put-put.new.self p) (sym c.in-Done.is)
    (put_done c.args.latest c.args.key.now (item_of c.args.item) c.args.items.now c.args.key_state c.put-put.new.self c.put-put.new.self c.requires.placed c.requires.key_state c.in-Done.ensures
    (rw (sym (c.moves_to_front-moves.ensures ∙ ap (moves c.args.latest c.args.key_state) c.expiry.ensures), c.if-moves.false) refl))

pub returns-in-NoRoom : goal.returns-in-NoRoom
returns-in-NoRoom c =
    subst (λ p. PutsInStep c.args.latest c.args.key.now (item_of c.args.item) c.args.items.now c.drop_expired.new.items p) (sym c.in-NoRoom.is)
    (no_room c.args.latest c.args.key.now (item_of c.args.item) c.args.items.now c.requires.placed c.in-NoRoom.ensures.0, rw (c.drop_expired.ensures, c.bytes-in-NoRoom.ensures.bytes, c.in-NoRoom.ensures.1) refl)
