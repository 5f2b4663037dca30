-- What an eviction frees, and that evicting what room says makes the room.
use Rattle.std.proofs.Common.{◌≡◌, ℕ, suc, ◌+◌, ◌-◌, ◌≤◌, Bool, true, false, cond, not, ◌||◌, List, [], ◌∷◌, length, bytes_eq, nat_le, ℤ, pos, negsuc, refl, ap, ◌∙◌, inl, inr, arith}
use Rattle.std.proofs.lemmas.List.{drop_all}
use Rattle.std.proofs.lemmas.Bool.{le-leb, leb-true, cases_lt}
use Rattle.arc_core.specs.Places.{Places, others, weight_of, total_of}
use Rattle.arc_core.specs.Room.{survivors, evicted, fits}
use Rattle.byte_account.specs.declared.room.Room.TheVariants.{Fits}
use Rattle.byte_account.specs.LeastEviction.{last_of, IsLeastEviction}
use Rattle.byte_account.proofs.ShelfLists.{weight-cons}
use Rattle.byte_account.proofs.EvictionLemmas.{survivors-go, survivors-stay}
use Rattle.byte_account.proofs.RoomLaws.{last_of-cons, last_of-whole}

module _ {X : Type 0} (weigh : List ℕ → X → ℕ) (key : List ℕ) where
  survivors-own : (n : ℕ) (place : List ℕ × X) (older : List (List ℕ × X)) → bytes_eq key place.0 ≡ true → survivors key n (place ∷ older) ≡ place ∷ survivors key n older
  survivors-own n place older own = ap (λ b. cond (b || nat_le n (length (others key older))) (place ∷ survivors key n older) (survivors key n older)) own

  others-by : (place : List ℕ × X) (older : List (List ℕ × X)) (b : Bool) → bytes_eq key place.0 ≡ b → others key (place ∷ older) ≡ cond (not b) (place ∷ others key older) (others key older)
  others-by place older b e = ap (λ t. cond (not t) (place ∷ others key older) (others key older)) e

  -- where all others are among the last n, they are all gone
  all_by : (n : ℕ) (place : List ℕ × X) (older : List (List ℕ × X)) (b : Bool) → bytes_eq key place.0 ≡ b → length (others key (place ∷ older)) ≤ n → (length (others key older) ≤ n → weight_of weigh (survivors key n older) + weight_of weigh (others key older) ≡ weight_of weigh older)
      → weight_of weigh (survivors key n (place ∷ older)) + weight_of weigh (others key (place ∷ older)) ≡ weight_of weigh (place ∷ older)
  all_by n place older true e few rest =
      let same : length (others key (place ∷ older)) ≡ length (others key older) = ap length (others-by place older true e) in
      omega (arith, rest (omega arith), ap (weight_of weigh) (survivors-own n place older e), ap (weight_of weigh) (others-by place older true e), weight-cons weigh place older, weight-cons weigh place (survivors key n older))
  all_by n place older false e few rest =
      let more : length (others key (place ∷ older)) ≡ length (others key older) + 1 = ap length (others-by place older false e) ∙ (let one : length (place ∷ others key older) ≡ length (others key older) + 1 = omega arith in one) in
      omega (arith, rest (omega arith), ap (weight_of weigh) (survivors-go key n place older e (omega arith)), ap (weight_of weigh) (others-by place older false e), weight-cons weigh place older, weight-cons weigh place (others key older))

  weight-survivors_all : (n : ℕ) (shelf : List (List ℕ × X)) → length (others key shelf) ≤ n → weight_of weigh (survivors key n shelf) + weight_of weigh (others key shelf) ≡ weight_of weigh shelf
  weight-survivors_all n [] few = refl
  weight-survivors_all n (place ∷ older) few = all_by n place older (bytes_eq key place.0) refl few (weight-survivors_all n older)

  part_by : (n : ℕ) (place : List ℕ × X) (older : List (List ℕ × X)) (b : Bool) → bytes_eq key place.0 ≡ b → n ≤ length (others key (place ∷ older))
      → (n ≤ length (others key older) → weight_of weigh (survivors key n older) + weight_of weigh (last_of n (others key older)) ≡ weight_of weigh older)
      → weight_of weigh (survivors key n (place ∷ older)) + weight_of weigh (last_of n (others key (place ∷ older))) ≡ weight_of weigh (place ∷ older)
  part_by n place older true e few rest =
      let same : length (others key (place ∷ older)) ≡ length (others key older) = ap length (others-by place older true e) in
      omega (arith, rest (omega arith), ap (weight_of weigh) (survivors-own n place older e), ap (λ k. weight_of weigh (last_of n k)) (others-by place older true e), weight-cons weigh place older, weight-cons weigh place (survivors key n older))
  part_by n place older false e few rest = elim (cases_lt (length (others key older)) n) [
    | inl all ↦ (let more : length (others key (place ∷ older)) ≡ suc (length (others key older)) = ap length (others-by place older false e) in
        omega (arith, weight-survivors_all n (place ∷ older) (omega arith), ap (weight_of weigh) (last_of-whole n (others key (place ∷ older)) (omega arith))))
    | inr enough ↦ omega (arith, rest enough, ap (weight_of weigh) (survivors-stay key n place older enough), ap (λ k. weight_of weigh (last_of n k)) (others-by place older false e), ap (weight_of weigh) (last_of-cons n place (others key older) enough), weight-cons weigh place older, weight-cons weigh place (survivors key n older))
  ]

  -- what survives weighs less by the last n places but the key's
  pub weight-survivors : (n : ℕ) (shelf : List (List ℕ × X)) → n ≤ length (others key shelf) → weight_of weigh (survivors key n shelf) + weight_of weigh (last_of n (others key shelf)) ≡ weight_of weigh shelf
  weight-survivors n [] few =
      let none : weight_of weigh (last_of n (others key [])) ≡ 0 = ap (weight_of weigh) (drop_all (0 - n) [] (omega arith)) in
      let sum : 0 + weight_of weigh (last_of n (others key [])) ≡ 0 = omega arith in
      sum
  weight-survivors n (place ∷ older) few = part_by n place older (bytes_eq key place.0) refl few (weight-survivors n older)

  pub total-evicted : (n : ℕ) (places : Places X) → n ≤ length (others key places.shelf) → total_of weigh (evicted key n places) + weight_of weigh (last_of n (others key places.shelf)) ≡ total_of weigh places
  total-evicted n places few = omega (arith, weight-survivors n places.shelf few)

  kept_after : (n : ℕ) (places : Places X) (extra : ℤ) → n ≤ length (others key places.shelf) → fits places.limit (total_of weigh places) extra (weight_of weigh (last_of n (others key places.shelf))) ≡ true
      → fits places.limit (total_of weigh (evicted key n places)) extra 0 ≡ true
  kept_after n places (pos extra) few kept = le-leb _ _ (omega (arith, total-evicted n places few, leb-true _ _ kept))
  kept_after n places (negsuc less) few kept = le-leb _ _ (omega (arith, total-evicted n places few, leb-true _ _ kept))

  -- evicting what room says makes the room
  pub evicted_makes_room : (n : ℕ) (places : Places X) (extra sticky_extra : ℤ) → IsLeastEviction weigh places key extra sticky_extra (Fits n) → fits places.limit (total_of weigh (evicted key n places)) extra 0 ≡ true
  evicted_makes_room n places extra sticky_extra least = kept_after n places extra least.count least.enough
