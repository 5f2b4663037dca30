use Rattle.std.proofs.Common.{◌≤◌, ◌&&◌, refl, sym, ap, ◌∙◌, arith}
use Rattle.std.specs.Box.{with_value}
use Rattle.arc_core.specs.CollectionRows.{is_empty}
use Rattle.arc_core.specs.Item.{contents_size}
use Rattle.coll_items.specs.Changing.{taken_out}
use Rattle.coll_items.specs.Holding.{Held}
use Rattle.cache_engine.specs.declared.stored.Stored.TheVariants as stored
use Rattle.cache_engine.specs.Stored.{item_of}
use Rattle.cache_engine.specs.Changing.{with_taken_out, is_empty_item}
use Rattle.cache_engine.proofs.CollectionPlaces.{collection_by, is_place_of, no_evictions, place_for, changed_by, hollow_first, cancelled_is}
use Rattle.cache_engine.proofs.changes.remove_under.Goals as goal

pub lay_item-requires : goal.lay_item-requires
lay_item-requires c =
    let held = c.in-Some-Collection.collection.value in
    let place = is_place_of c.args.key.now c.args.shelf.now c.requires.fits.was c.in-Some-Collection.field-0 held.attrs held.contents c.requires.holds c.requires.fits.held
    c.in-Some-Collection.ensures.item (ap item_of c.in-Some-Collection.field-0-is) in
    let next = stored.Collection (with_value c.in-Some-Collection.collection c.remove.new.self) in
    let left = taken_out c.args.removal.now held.contents in
    let contents_are = c.remove.ensures.contents ∙ ap (λ (h : Held). taken_out c.args.removal.now h.contents) c.deref_mut.ensures.value in
    let next_is = collection_by _ _ _ _ (c.remove.ensures.attrs ∙ ap (λ (h : Held). h.attrs) c.deref_mut.ensures.value) contents_are in
    let small : contents_size left ≤ contents_size held.contents =
    omega (arith, c.remove.ensures.size, ap contents_size contents_are, ap (λ (h : Held). contents_size h.contents) c.deref_mut.ensures.value) in
    let fits = no_evictions place next left next_is small (omega (arith, c.total.ensures.sum, c.total.ensures.within)) (omega (arith, c.sticky_total.ensures.sum, c.sticky_total.ensures.within)) in
    let hollow = hollow_first c.args.key.now c.args.shelf.now _ c.lift.ensures.places in
    place_for place next left next_is 0 fits _ hollow

pub returns-then-is_dropped : goal.returns-then-is_dropped
returns-then-is_dropped c =
    let held = c.in-Some-Collection.collection.value in
    let place = is_place_of c.args.key.now c.args.shelf.now c.requires.fits.was c.in-Some-Collection.field-0 held.attrs held.contents c.requires.holds c.requires.fits.held
    c.in-Some-Collection.ensures.item (ap item_of c.in-Some-Collection.field-0-is) in
    let contents_are = c.remove.ensures.contents ∙ ap (λ (h : Held). taken_out c.args.removal.now h.contents) c.deref_mut.ensures.value in
    record {
      was = c.requires.fits.was;
      held = c.requires.fits.held;
      told = sym c.if-is_dropped.true ∙ c.is_dropped.ensures ∙ ap (λ (h : Held). c.args.drop_empty && is_empty h.contents) c.deref.ensures ∙ ap (λ k. c.args.drop_empty && is_empty k) contents_are
          ∙ sym (ap (λ i. c.args.drop_empty && is_empty_item (with_taken_out c.args.removal.now i)) place.is);
      leaves = c.cancel.ensures ∙ cancelled_is c.args.key.now c.args.shelf.now _ c.requires.fits.was c.requires.fits.held c.lift.ensures.places;
    }

pub returns : goal.returns
returns c =
    let held = c.in-Some-Collection.collection.value in
    let place = is_place_of c.args.key.now c.args.shelf.now c.requires.fits.was c.in-Some-Collection.field-0 held.attrs held.contents c.requires.holds c.requires.fits.held
    c.in-Some-Collection.ensures.item (ap item_of c.in-Some-Collection.field-0-is) in
    let next = stored.Collection (with_value c.in-Some-Collection.collection c.remove.new.self) in
    let left = taken_out c.args.removal.now held.contents in
    let contents_are = c.remove.ensures.contents ∙ ap (λ (h : Held). taken_out c.args.removal.now h.contents) c.deref_mut.ensures.value in
    let next_is = collection_by _ _ _ _ (c.remove.ensures.attrs ∙ ap (λ (h : Held). h.attrs) c.deref_mut.ensures.value) contents_are in
    let small : contents_size left ≤ contents_size held.contents =
    omega (arith, c.remove.ensures.size, ap contents_size contents_are, ap (λ (h : Held). contents_size h.contents) c.deref_mut.ensures.value) in
    let fits = no_evictions place next left next_is small (omega (arith, c.total.ensures.sum, c.total.ensures.within)) (omega (arith, c.sticky_total.ensures.sum, c.sticky_total.ensures.within)) in
    let hollow = hollow_first c.args.key.now c.args.shelf.now _ c.lift.ensures.places in
    record {
      was = c.requires.fits.was;
      held = c.requires.fits.held;
      told = sym c.if-is_dropped.false ∙ c.is_dropped.ensures ∙ ap (λ (h : Held). c.args.drop_empty && is_empty h.contents) c.deref.ensures ∙ ap (λ k. c.args.drop_empty && is_empty k) contents_are
          ∙ sym (ap (λ i. c.args.drop_empty && is_empty_item (with_taken_out c.args.removal.now i)) place.is);
      leaves = changed_by place next left next_is 0 fits _ hollow (with_taken_out c.args.removal.now) refl c.lay_item.ensures.keeps _ c.lay_item.ensures.laid;
    }
