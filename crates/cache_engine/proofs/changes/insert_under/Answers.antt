use Rattle.std.proofs.Common.{w64, pos, ◌-ℤ◌, sym, ap, ◌∙◌}
use Rattle.std.proofs.lemmas.Int.{to_z-of_z}
use Rattle.std.specs.Option.{option_copied}
use Rattle.arc_core.specs.Item.{contents_size, is_sticky}
use Rattle.arc_core.specs.declared.attributes.Attrs.{Attrs}
use Rattle.coll_items.specs.Changing.{inserted}
use Rattle.coll_items.specs.Holding.{Held}
use Rattle.cache_engine.specs.Stored.{item_of}
use Rattle.cache_engine.proofs.CollectionPlaces.{no_room_here, room_here}
use Rattle.cache_engine.proofs.changes.insert_under.Goals as goal

pub returns-in_default-room : goal.returns-in_default-room
returns-in_default-room c =
    let held = c.in-Some-Collection.collection.value in
    no_room_here c.args.key.now c.args.insertion c.args.shelf.now c.requires.holds c.requires.suits _
    (sym c.look.ensures ∙ ap option_copied c.in-Some-Collection.is) held.attrs held.contents (ap item_of c.in-Some-Collection.field-0-is) _ _
    (to_z-of_z w64 c.growth-extra.result (record { sfits = c.growth-extra.type_inv }) ∙ c.growth-extra.ensures
    ∙ ap (λ (h : Held). pos (contents_size (inserted c.args.insertion h.contents)) -ℤ pos (contents_size h.contents)) c.deref.ensures)
    c.is_sticky.result (to_z-of_z w64 c.sticky_part-sticky_extra.result (record { sfits = c.sticky_part-sticky_extra.type_inv }) ∙ c.sticky_part-sticky_extra.ensures)
    (c.is_sticky.ensures ∙ ap (λ (a : Attrs). is_sticky a.expiry) c.attrs.ensures.attrs ∙ ap (λ (h : Held). is_sticky h.attrs.expiry) c.deref-2.ensures)
    (sym c.in_default-room.is ∙ c.room.ensures.room)

pub insert_behind-requires-clause-room : goal.insert_behind-requires-clause-room
insert_behind-requires-clause-room c =
    let held = c.in-Some-Collection.collection.value in
    room_here c.args.key.now c.args.insertion c.args.shelf.now c.requires.holds c.requires.suits _
    (sym c.look.ensures ∙ ap option_copied c.in-Some-Collection.is) held.attrs held.contents (ap item_of c.in-Some-Collection.field-0-is) _ _
    (to_z-of_z w64 c.growth-extra.result (record { sfits = c.growth-extra.type_inv }) ∙ c.growth-extra.ensures
    ∙ ap (λ (h : Held). pos (contents_size (inserted c.args.insertion h.contents)) -ℤ pos (contents_size h.contents)) c.deref.ensures)
    c.is_sticky.result (to_z-of_z w64 c.sticky_part-sticky_extra.result (record { sfits = c.sticky_part-sticky_extra.type_inv }) ∙ c.sticky_part-sticky_extra.ensures)
    (c.is_sticky.ensures ∙ ap (λ (a : Attrs). is_sticky a.expiry) c.attrs.ensures.attrs ∙ ap (λ (h : Held). is_sticky h.attrs.expiry) c.deref-2.ensures)
    c.in-Fits.evictions (sym c.in-Fits.is ∙ c.room.ensures.room)
