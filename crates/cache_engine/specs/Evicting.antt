-- What is evicted where an item is put.
use Rattle.std.specs.Prelude.{◌≡◌, ℕ, Bool, if◌then◌else◌, List, Some, None}
use Rattle.arc_core.specs.declared.replies.Reply.{Reply}
use Rattle.arc_core.specs.Item.{Item, size_of, expiry_of, is_sticky}
use Rattle.arc_core.specs.Places.{placed}
use Rattle.arc_core.specs.Room.{share_fits}
use Rattle.arc_core.specs.CacheState.{CacheState}
use Rattle.arc_core.specs.Step.{extra_of, sticky_extra_of, put_behind, carried_out}
use Rattle.arc_core.specs.Plan.{put}
use Rattle.byte_account.specs.LeastEviction.{IsLeastEviction}
use Rattle.byte_account.specs.declared.room.Room.{Room}
use Rattle.byte_account.specs.declared.room.Room.TheVariants.{Fits, Nothing}

-- Room for the item under the key is made by these evictions, and by no fewer; or by none, however many.
abbrev pub MakesRoom : CacheState → List ℕ → Item → Room → Type 0
MakesRoom state key item room = IsLeastEviction size_of state.places key (extra_of state key item) (sticky_extra_of state key item) room

-- The item was put, and so many places were evicted as make room for it, and no more.
pub record EvictsLeast (state : CacheState) (key : List ℕ) (item : Item) (new : CacheState) : Type 0 where
  pub evictions : ℕ
  pub least : MakesRoom state key item (Fits evictions)
  -- the last places of the shelf but the key's are gone, and all others are as they were
  pub places : new.places ≡ put_behind evictions key item state.places

-- whether the sticky items are within their share with the item under the key
abbrev pub has_share : CacheState → List ℕ → Item → Bool
has_share state key item = share_fits size_of state.places (sticky_extra_of state key item)

-- The item, which adds no bytes, was put and nothing was evicted, where the sticky items are within their share; else it was not put.
pub record EvictsNothing (state : CacheState) (key : List ℕ) (item : Item) (counter : ℕ) (answer : Reply) : Type 0 where
  pub least : MakesRoom state key item (if has_share state key item then Fits 0 else Nothing)
  pub places : carried_out state (put key item counter answer)
      ≡ (if has_share state key item then Some (record state { counter = counter; places = placed (is_sticky (expiry_of item)) key item state.places }, answer) else None)
