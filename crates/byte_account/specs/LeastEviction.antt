-- What it means that an eviction is the least that makes room.
use Rattle.std.specs.Prelude.{◌≡◌, ◌⊎◌, ℕ, ◌-◌, ◌<◌, ◌≤◌, Bool, true, false, List, length, drop, ℤ}
use Rattle.arc_core.specs.Places.{Places, others, total_of, weight_of}
use Rattle.arc_core.specs.Room.{fits, share_fits}
use Rattle.byte_account.specs.declared.room.Room.{Room}
use Rattle.byte_account.specs.declared.room.Room.TheVariants.{Fits, Nothing}

-- the last n of a list
abbrev pub last_of : {A : Type 0} → ℕ → List A → List A
last_of n xs = drop (length xs - n) xs

module _ {X : Type 0} (weigh : List ℕ → X → ℕ) (places : Places X) (key : List ℕ) (extra sticky_extra : ℤ) where
  -- whether the limit is kept with `extra` bytes more and without the last n places but the key's
  abbrev pub fits_without : ℕ → Bool
  fits_without n = fits places.limit (total_of weigh places) extra (weight_of weigh (last_of n (others key places.shelf)))

  -- The share is kept; and so many evictions keep the limit, and any fewer break it.
  pub record SufficeLeast (n : ℕ) : Type 0 where
    pub share : share_fits weigh places sticky_extra ≡ true
    pub count : n ≤ length (others key places.shelf)
    pub enough : fits_without n ≡ true
    pub least : (k : ℕ) → k < n → fits_without k ≡ false

  -- So many evictions are the least that make room; or the share is broken, or the limit however many are evicted.
  abbrev pub IsLeastEviction : Room → Type 0
  IsLeastEviction (Fits n) = SufficeLeast n
  IsLeastEviction Nothing = (share_fits weigh places sticky_extra ≡ false) ⊎ ((k : ℕ) → k ≤ length (others key places.shelf) → fits_without k ≡ false)
