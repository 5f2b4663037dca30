-- What changes of collections leave in a step that names their key alone.
use Rattle.std.proofs.Common.{◌≡◌, ℕ, Bool, true, false, cond, not, List, Some, refl, sym, ap, ◌∙◌}
use Rattle.arc_core.specs.declared.attributes.Attrs.{Attrs}
use Rattle.arc_core.specs.CacheState.{ArePlaced}
use Rattle.arc_core.specs.Item.{Item, Contents, collection, expiry_of, has_expired}
use Rattle.arc_core.specs.Places.{Places, found, brought_to_front}
use Rattle.byte_account.specs.declared.put.Put.{Put}
use Rattle.byte_account.specs.declared.put.Put.TheVariants as put
use Rattle.coll_items.specs.declared.changes.Insertion.{Insertion}
use Rattle.coll_items.specs.declared.changes.Removal.{Removal}
use Rattle.cache_engine.specs.declared.key_state.KeyState.TheVariants as key_state
use Rattle.cache_engine.specs.Changes.{Puts, Inserts, Leaves, Removes}
use Rattle.cache_engine.specs.Starting.{key_state_of, IsLiveUnder, PutsInStep, InsertsInStep, LeavesInStep, RemovesInStep}
use Rattle.cache_engine.proofs.Finishing.{put_done, no_room, start_live}

pub not_both : (b : Bool) → b ≡ true → b ≡ false → ⊥
not_both true h e = cc
not_both false h e = cc

module _ (latest : ℕ) (key : List ℕ) (old : Places Item) (live : IsLiveUnder latest key old) (placed : ArePlaced old) where
  -- the key of an item that has not expired
  stands_by : (item : Item) → found key old ≡ Some item → has_expired latest (expiry_of item) ≡ false → key_state.Live ≡ key_state_of latest (found key old)
  stands_by item held lives = sym (ap (key_state_of latest) held ∙ ap (λ late. cond late key_state.Expired key_state.Live) lives)

  some_same : (one other : Item) → Some one ≡ Some other → one ≡ other
  some_same one other e = cc

  -- what is put in the place of a collection keeps its expiry
  lives_on : (attrs : Attrs) (contents : Contents) → found key old ≡ Some (collection attrs contents) → has_expired latest attrs.expiry ≡ false
  lives_on attrs contents held =
      ap (λ item. has_expired latest (expiry_of item)) (some_same (collection attrs contents) live.item (sym held ∙ live.held)) ∙ live.lives

  -- another collection was put with the same attributes, and the key was used where it was put
  pub put_in_step : (attrs : Attrs) (contents left : Contents) (done new : Places Item) (answer : Put) → found key old ≡ Some (collection attrs contents)
      → Puts key (collection attrs left) old done answer
      → (answer ≡ put.Done → new ≡ brought_to_front key done) → ((answer ≡ put.Done → ⊥) → new ≡ done)
      → PutsInStep latest key (collection attrs left) old new answer
  put_in_step attrs contents left done new put.Done held puts used same =
      put_done latest key (collection attrs left) old key_state.Live done new placed
      (stands_by live.item live.held live.lives) puts
      (used refl ∙ ap (λ late. cond (not late) (brought_to_front key done) done) (sym (lives_on attrs contents held)))
  put_in_step attrs contents left done new put.NoRoom held puts used same =
      let differ : put.NoRoom ≡ put.Done → ⊥ = λ e. cc in
      (no_room latest key (collection attrs left) old placed puts.0, same differ ∙ puts.1 ∙ sym (start_live latest key old live.item live.held live.lives))
  put_in_step attrs contents left done new put.NoMemory held puts used same =
      let differ : put.NoMemory ≡ put.Done → ⊥ = λ e. cc in
      same differ ∙ puts

  pub inserted_in_step : (element : Insertion) (done new : Places Item) (answer : Put) → Inserts key element old done answer
      → (answer ≡ put.Done → new ≡ brought_to_front key done) → ((answer ≡ put.Done → ⊥) → new ≡ done)
      → InsertsInStep latest key element old new answer
  inserted_in_step element done new answer inserts used same attrs contents held =
      put_in_step attrs contents _ done new answer held (inserts attrs contents held) used same

  left_in_step : (attrs : Attrs) (contents left : Contents) (done new : Places Item) (dropped : Bool) → found key old ≡ Some (collection attrs contents)
      → Leaves key (collection attrs left) old done dropped → (dropped ≡ false → new ≡ brought_to_front key done) → (dropped ≡ true → new ≡ done)
      → LeavesInStep latest key (collection attrs left) old new dropped
  left_in_step attrs contents left done new true held leaves used same = same refl ∙ leaves
  left_in_step attrs contents left done new false held leaves used same =
      put_in_step attrs contents left done new put.Done held leaves (λ e. used refl) (λ differ. absurd (differ refl))

  pub removed_in_step : (removal : Removal) (drop_empty : Bool) (done new : Places Item) (dropped : Bool) → Removes key removal drop_empty old done dropped
      → (dropped ≡ false → new ≡ brought_to_front key done) → (dropped ≡ true → new ≡ done)
      → RemovesInStep latest key removal drop_empty old new dropped
  removed_in_step removal drop_empty done new dropped removes used same attrs contents held =
      let r = removes attrs contents held in
      (r.0, left_in_step attrs contents _ done new dropped held r.1 used same)
