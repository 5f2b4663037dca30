use Rattle.std.proofs.Common.{refl, ap, ◌∙◌, arith}
use Rattle.std.specs.Box.{with_value}
use Rattle.coll_items.specs.Changing.{inserted}
use Rattle.coll_items.specs.Holding.{Held}
use Rattle.cache_engine.specs.declared.stored.Stored.TheVariants as stored
use Rattle.cache_engine.specs.Stored.{item_of}
use Rattle.cache_engine.specs.Changing.{with_element}
use Rattle.cache_engine.proofs.CollectionPlaces.{collection_by, is_place_of, evictions_for, no_evictions, place_for, changed_by, has_stayed, hollow_first, hollow_behind, room_count}
use Rattle.cache_engine.proofs.changes.insert_behind.Goals as goal

pub lay_item-requires : goal.lay_item-requires
lay_item-requires c =
    let held = c.in-Some-Collection.collection.value in
    let place = is_place_of c.args.key.now c.args.shelf.now c.requires.room.was c.in-Some-Collection.field-0 held.attrs held.contents c.requires.holds c.requires.room.held
    c.in-Some-Collection.ensures.item (ap item_of c.in-Some-Collection.field-0-is) in
    let next = stored.Collection (with_value c.in-Some-Collection.collection c.reserve_for.new.self) in
    let next_is = collection_by _ _ _ _ (c.reserve_for.ensures.attrs ∙ ap (λ (h : Held). h.attrs) c.deref_mut.ensures.value)
    (c.reserve_for.ensures.contents ∙ ap (λ (h : Held). h.contents) c.deref_mut.ensures.value) in
    let fits = no_evictions place next held.contents next_is (omega arith)
    (omega (arith, c.total.ensures.sum, c.total.ensures.within)) (omega (arith, c.sticky_total.ensures.sum, c.sticky_total.ensures.within)) in
    place_for place next held.contents next_is 0 fits _ (hollow_first c.args.key.now c.args.shelf.now _ c.lift.ensures.places)

pub returns-in_default-reserve_for : goal.returns-in_default-reserve_for
returns-in_default-reserve_for c =
    let held = c.in-Some-Collection.collection.value in
    let place = is_place_of c.args.key.now c.args.shelf.now c.requires.room.was c.in-Some-Collection.field-0 held.attrs held.contents c.requires.holds c.requires.room.held
    c.in-Some-Collection.ensures.item (ap item_of c.in-Some-Collection.field-0-is) in
    let next = stored.Collection (with_value c.in-Some-Collection.collection c.reserve_for.new.self) in
    let next_is = collection_by _ _ _ _ (c.reserve_for.ensures.attrs ∙ ap (λ (h : Held). h.attrs) c.deref_mut.ensures.value)
    (c.reserve_for.ensures.contents ∙ ap (λ (h : Held). h.contents) c.deref_mut.ensures.value) in
    has_stayed place next held.contents next_is refl _ _ c.lift.ensures.places c.lay_item.ensures.laid

pub evict-requires : goal.evict-requires
evict-requires c = room_count c.args.key.now c.args.insertion c.args.shelf.now c.args.evictions c.requires.room _ c.lift.ensures.places

pub lay_item-requires-2 : goal.lay_item-requires-2
lay_item-requires-2 c =
    let held = c.in-Some-Collection.collection.value in
    let place = is_place_of c.args.key.now c.args.shelf.now c.requires.room.was c.in-Some-Collection.field-0 held.attrs held.contents c.requires.holds c.requires.room.held
    c.in-Some-Collection.ensures.item (ap item_of c.in-Some-Collection.field-0-is) in
    let next = stored.Collection (with_value c.in-Some-Collection.collection c.insert.new.self) in
    let attrs_are = c.insert.ensures.attrs ∙ ap (λ (h : Held). h.attrs) c.deref_mut-2.ensures.value ∙ c.reserve_for.ensures.attrs ∙ ap (λ (h : Held). h.attrs) c.deref_mut.ensures.value in
    let before = ap (λ (h : Held). h.contents) c.deref_mut-2.ensures.value ∙ c.reserve_for.ensures.contents ∙ ap (λ (h : Held). h.contents) c.deref_mut.ensures.value in
    let now = inserted c.args.insertion held.contents in
    let next_is = collection_by _ _ _ _ attrs_are (c.insert.ensures.contents ∙ ap (inserted c.args.insertion) before) in
    let fits = evictions_for place next now next_is (with_element c.args.insertion) c.args.evictions refl c.requires.room.fits in
    let hollow = hollow_behind c.args.key.now c.args.shelf.now _ _ c.args.evictions c.lift.ensures.places c.evict.ensures in
    place_for place next now next_is c.args.evictions fits _ hollow

pub returns : goal.returns
returns c =
    let held = c.in-Some-Collection.collection.value in
    let place = is_place_of c.args.key.now c.args.shelf.now c.requires.room.was c.in-Some-Collection.field-0 held.attrs held.contents c.requires.holds c.requires.room.held
    c.in-Some-Collection.ensures.item (ap item_of c.in-Some-Collection.field-0-is) in
    let next = stored.Collection (with_value c.in-Some-Collection.collection c.insert.new.self) in
    let attrs_are = c.insert.ensures.attrs ∙ ap (λ (h : Held). h.attrs) c.deref_mut-2.ensures.value ∙ c.reserve_for.ensures.attrs ∙ ap (λ (h : Held). h.attrs) c.deref_mut.ensures.value in
    let before = ap (λ (h : Held). h.contents) c.deref_mut-2.ensures.value ∙ c.reserve_for.ensures.contents ∙ ap (λ (h : Held). h.contents) c.deref_mut.ensures.value in
    let now = inserted c.args.insertion held.contents in
    let next_is = collection_by _ _ _ _ attrs_are (c.insert.ensures.contents ∙ ap (inserted c.args.insertion) before) in
    let fits = evictions_for place next now next_is (with_element c.args.insertion) c.args.evictions refl c.requires.room.fits in
    let hollow = hollow_behind c.args.key.now c.args.shelf.now _ _ c.args.evictions c.lift.ensures.places c.evict.ensures in
    changed_by place next now next_is c.args.evictions fits _ hollow (with_element c.args.insertion) refl c.lay_item-2.ensures.keeps _ c.lay_item-2.ensures.laid
