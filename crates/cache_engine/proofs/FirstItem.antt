-- The first item that is put into an empty cache, where it is not sticky.
use Rattle.std.proofs.Common.{◌≡◌, ◌+◌, ◌≤◌, ℕ, List, [], ◌∷◌, length, Some, None, true, false, cond, max, pos, ◌-ℤ◌, sym, ap, ◌∙◌, arith}
use Rattle.std.proofs.lemmas.Bool.{le-leb}
use Rattle.std.specs.Option.{option_map, option_map_or}
use Rattle.std.specs.Ordering.{nat_cmp}
use Rattle.std.specs.Cmp.Lexicographic.{slice_cmp}
use Rattle.std.specs.FinMap as finite
use Rattle.arc_core.specs.declared.replies.Reply.{Reply}
use Rattle.arc_core.specs.Item.{Item, size_of, expiry_of, is_sticky}
use Rattle.arc_core.specs.Places.{Places, empty_places, found, placed, total_of, sticky_total_of}
use Rattle.arc_core.specs.Room.{room, shortest_suffix, fits, share_fits, least_eviction, evicted}
use Rattle.arc_core.specs.CacheState.{opening_state}
use Rattle.arc_core.specs.Step.{sticky_size, started, without_expired, carried_out, put_behind, ended}
use Rattle.arc_core.specs.Plan.{put}
use Rattle.byte_account.proofs.StickySums.{remove-absent}
use Rattle.byte_account.proofs.AccountingLaws.{IsAccounted-empty, weight-empty}
use Rattle.cache_engine.specs.Planning.{state_at}
use Rattle.cache_engine.specs.Changes.{evicted_for}
use Rattle.cache_engine.proofs.ItemPlaces.{none_less}
use Rattle.cache_engine.proofs.Finishing.{used_new}

get_none : (key : List ℕ) → finite.get (finite.empty {X = Item} {R = slice_cmp nat_cmp}) key ≡ None
get_none key = finite.get-empty (slice_cmp nat_cmp) key

-- nothing is held under any key
pub found_none : (key : List ℕ) (limit share : ℕ) → found key (empty_places {X = Item} limit share) ≡ None
found_none key limit share = get_none key

pub removed_none : (key : List ℕ) → finite.remove (finite.empty {X = Item} {R = slice_cmp nat_cmp}) key ≡ finite.empty
removed_none key = remove-absent finite.empty key (get_none key)

-- the places with one item, which is not sticky
abbrev pub only : List ℕ → Item → (limit share : ℕ) → Places Item
only key item limit share = record { shelf = (key, item) ∷ []; sticky = finite.empty; limit = limit; share = share }

-- it is found
pub found_only : (key : List ℕ) (item : Item) (limit share : ℕ) → found key (placed false key item (empty_places limit share)) ≡ found key (only key item limit share)
found_only key item limit share = ap (λ m. found key (record { shelf = (key, item) ∷ []; sticky = m; limit = limit; share = share })) (removed_none key)

-- a step begins
pub starts : (key : List ℕ) (now limit share : ℕ) → started (opening_state limit share) now (key ∷ []) ≡ state_at (max 0 now) 0 (empty_places limit share)
starts key now limit share = ap (λ o. state_at (max 0 now) 0 (without_expired (max 0 now) key o (empty_places limit share))) (found_none key limit share)

module _ (key : List ℕ) (item : Item) (limit share : ℕ) where
  -- there is room
  fits_first : size_of key item ≤ limit → is_sticky (expiry_of item) ≡ false → evicted_for key item (empty_places limit share) ≡ Some []
  fits_first small lasts =
      let kept : share_fits size_of (empty_places limit share) (pos (sticky_size key item) -ℤ pos 0) ≡ true =
      ap (λ b. share_fits size_of (empty_places limit share) (pos (cond b (size_of key item) 0) -ℤ pos 0)) lasts
      ∙ ap (λ e. fits share (sticky_total_of size_of (empty_places {X = Item} limit share)) e 0) (none_less 0)
      ∙ ap (λ t. fits share t (pos 0) 0) (weight-empty size_of) ∙ le-leb (0 + 0) (share + 0) (omega arith) in
      let roomy : least_eviction size_of (empty_places limit share) key (pos (size_of key item) -ℤ pos 0) ≡ Some [] =
      ap (least_eviction size_of (empty_places limit share) key) (none_less (size_of key item))
      ∙ ap (λ t. shortest_suffix (λ suffix. fits limit t (pos (size_of key item)) 0) []) (sym (IsAccounted-empty size_of limit share).sum)
      ∙ ap (λ b. cond b (Some []) None) (le-leb (0 + size_of key item) (limit + 0) (omega arith)) in
      ap (λ o. room size_of (empty_places limit share) key (pos (size_of key item) -ℤ pos (option_map_or (size_of key) o 0)) (pos (sticky_size key item) -ℤ pos (option_map_or (sticky_size key) o 0))) (found_none key limit share)
      ∙ (λ i. cond (kept i) (roomy i) None)

  placed_first : is_sticky (expiry_of item) ≡ false → put_behind 0 key item (empty_places limit share) ≡ only key item limit share
  placed_first lasts = ap (λ b. placed b key item (evicted key 0 (empty_places limit share))) lasts ∙ ap (λ m. record { shelf = (key, item) ∷ []; sticky = m; limit = limit; share = share }) (removed_none key)

  -- the item is put
  pub put_first : (latest counter : ℕ) (answer : Reply) → size_of key item ≤ limit → is_sticky (expiry_of item) ≡ false
      → ended (state_at latest 0 (empty_places limit share)) (key ∷ []) (carried_out (state_at latest 0 (empty_places limit share)) (put key item counter answer)) ≡ (state_at latest counter (only key item limit share), answer)
  put_first latest counter answer small lasts =
      ap (λ o. ended (state_at latest 0 (empty_places limit share)) (key ∷ []) (option_map (λ gone. (state_at latest counter (put_behind (length gone) key item (empty_places limit share)), answer)) o)) (fits_first small lasts)
      ∙ ap (λ p. (state_at latest counter p, answer)) (used_new latest key item (empty_places limit share) 0 (found_none key limit share) ∙ placed_first lasts)

  -- its stated size is accounted
  pub total_first : total_of size_of (only key item limit share) ≡ size_of key item
  total_first = omega (arith, (IsAccounted-empty size_of limit share).sum)
