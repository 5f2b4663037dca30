-- What changes of a collection leave, as the machine's items in their places.
use Rattle.std.proofs.Common.{◌≡◌, ◌&&◌, ℕ, Bool, true, false, List, length, Option, Some, pos, ◌-ℤ◌, sym, ap, ◌∙◌, subst}
use Rattle.arc_core.specs.Item.{Item, collection, size_of}
use Rattle.arc_core.specs.Places.{Places, found, refilled}
use Rattle.arc_core.specs.Room.{room}
use Rattle.arc_core.specs.Step.{sticky_size, put_behind}
use Rattle.byte_account.specs.Filled.{items_of}
use Rattle.byte_account.specs.Weight.{weight_under}
use Rattle.byte_account.specs.declared.put.Put.{Put}
use Rattle.byte_account.specs.declared.put.Put.TheVariants as put
use Rattle.byte_account.proofs.FilledLaws.{refilled-map}
use Rattle.coll_items.specs.declared.changes.Insertion.{Insertion}
use Rattle.coll_items.specs.declared.changes.Removal.{Removal}
use Rattle.cache_engine.specs.declared.stored.Stored.{Stored}
use Rattle.cache_engine.specs.Stored.{item_of, items_in, Holds}
use Rattle.cache_engine.specs.Putting.{weigh}
use Rattle.cache_engine.specs.Changes.{evicted_for, Puts, SuitsUnder, Inserts, FitsUnder, Removes}
use Rattle.cache_engine.specs.Changing.{with_element, SuitsItem, with_taken_out, FitsItem, is_empty_item, sticky_part, SuitsOnShelf, FitsOnShelf, HasChanged, HasStayed, InsertsOnShelf, RemovesOnShelf}
use Rattle.cache_engine.proofs.Holding.{put_in, HoldsItems, filled_with}
use Rattle.cache_engine.proofs.ItemPlaces.{Leaves, HoldsItems-placed, HoldsItems-without, some_room, no_room, there_is, same_item, stored_under}
use Rattle.cache_engine.proofs.CollectionPlaces.{refilled-same}

-- what is evicted for an item in the place of another
change_same : (key : List ℕ) (was : Stored) (item : Item) (places : Places (Option Stored)) → found key (items_in places) ≡ Some (item_of was)
    → evicted_for key item (items_in places) ≡ room size_of (items_in places) key (pos (size_of key item) -ℤ pos (weigh key was))
    (pos (sticky_part item (size_of key item)) -ℤ pos (sticky_part (item_of was) (weigh key was)))
change_same key was item places there =
    ap (λ o. room size_of (items_in places) key (pos (size_of key item) -ℤ pos (weight_under size_of key o)) (pos (sticky_size key item) -ℤ pos (weight_under sticky_size key o))) there

changed_leaves : (key : List ℕ) (change : Item → Item) (old new : Places (Option Stored)) → Holds old → (h : HasChanged key change old new)
    → Leaves new (λ items. Puts key (change (item_of h.was)) (items_in old) items put.Done)
changed_leaves key change old new holds h =
    let g = some_room key old holds.filled _ _ h.gone h.fits in
    let after = HoldsItems-placed key h.is (length h.gone) old new h.keeps holds h.places in
    record {
      holds = after.holds;
      what = subst (λ i. Puts key i (items_in old) (items_in new) put.Done) h.becomes (record {
        gone = g.0;
        fits = change_same key h.was (item_of h.is) old (there_is key old h.was holds h.held) ∙ g.1;
        places = after.are ∙ ap (λ n. put_behind n key (item_of h.is) (items_in old)) (sym g.2);
      });
    }

stayed_leaves : (key : List ℕ) (old new : Places (Option Stored)) → Holds old → HasStayed key old new → HoldsItems new (items_in old)
stayed_leaves key old new holds h =
    filled_with new (refilled key h.is (items_of old)) (items_in old)
    (h.places ∙ ap (refilled key (Some h.is)) holds.filled ∙ refilled-map put_in key h.is (items_of old))
    (sym (refilled-map item_of key h.is (items_of old)) ∙ ap (λ i. refilled key i (items_in old)) h.stays
    ∙ refilled-same key (item_of h.was) (items_in old) holds.placed.once (there_is key old h.was holds h.held))
    holds.placed

-- an element that is put in

pub suits_on_shelf : (key : List ℕ) (element : Insertion) (places : Places (Option Stored)) → Holds places → SuitsUnder key element (items_in places) → SuitsOnShelf key element places
suits_on_shelf key element places holds h =
    let s = stored_under key places (collection h.attrs h.contents) holds h.held in record { was = s.0; held = s.1; suits = subst (SuitsItem element) (sym s.2) h.suits }

pub insert_leaves : (key : List ℕ) (element : Insertion) (old new : Places (Option Stored)) (answer : Put) → Holds old → InsertsOnShelf key element old new answer
    → Leaves new (λ items. Inserts key element (items_in old) items answer)
insert_leaves key element old new put.Done holds h =
    let after = changed_leaves key (with_element element) old new holds h in
    record {
      holds = after.holds;
      what = λ attrs contents there. subst (λ i. Puts key (with_element element i) (items_in old) (items_in new) put.Done) (same_item key old h.was (collection attrs contents) holds h.held there) after.what;
    }
insert_leaves key element old new put.NoRoom holds h = record {
  holds = subst (λ p. Holds p) (sym h.same) holds;
  what = λ attrs contents there. (
    ap (λ i. evicted_for key (with_element element i) (items_in old)) (sym (same_item key old h.was (collection attrs contents) holds h.held there))
        ∙ change_same key h.was (with_element element (item_of h.was)) old (there_is key old h.was holds h.held) ∙ no_room key old holds.filled _ _ h.none,
    ap items_in h.same,
  );
}
insert_leaves key element old new put.NoMemory holds h = let after = stayed_leaves key old new holds h in record { holds = after.holds; what = λ attrs contents there. after.are }

-- elements that are taken out

pub fits_on_shelf : (key : List ℕ) (removal : Removal) (places : Places (Option Stored)) → Holds places → FitsUnder key removal (items_in places) → FitsOnShelf key removal places
fits_on_shelf key removal places holds h =
    let s = stored_under key places (collection h.attrs h.contents) holds h.held in record { was = s.0; held = s.1; fits = subst (FitsItem removal) (sym s.2) h.fits }

told_of : (key : List ℕ) (removal : Removal) (drop_empty : Bool) (old new : Places (Option Stored)) (dropped : Bool) → Holds old
    → (h : RemovesOnShelf key removal drop_empty old new dropped) → (item : Item) → found key (items_in old) ≡ Some item
    → dropped ≡ (drop_empty && is_empty_item (with_taken_out removal item))
told_of key removal drop_empty old new dropped holds h item there = h.told ∙ ap (λ i. drop_empty && is_empty_item (with_taken_out removal i)) (same_item key old h.was item holds h.held there)

pub removal_leaves : (key : List ℕ) (removal : Removal) (drop_empty : Bool) (old new : Places (Option Stored)) (dropped : Bool) → Holds old → RemovesOnShelf key removal drop_empty old new dropped
    → Leaves new (λ items. Removes key removal drop_empty (items_in old) items dropped)
removal_leaves key removal drop_empty old new true holds h =
    let after = HoldsItems-without key old new holds h.leaves in
    record { holds = after.holds; what = λ attrs contents there. (told_of key removal drop_empty old new true holds h (collection attrs contents) there, after.are) }
removal_leaves key removal drop_empty old new false holds h =
    let after = changed_leaves key (with_taken_out removal) old new holds h.leaves in
    record {
      holds = after.holds;
      what = λ attrs contents there. (
        told_of key removal drop_empty old new false holds h (collection attrs contents) there,
        subst (λ i. Puts key (with_taken_out removal i) (items_in old) (items_in new) put.Done) (same_item key old h.leaves.was (collection attrs contents) holds h.leaves.held there) after.what,
      );
    }
