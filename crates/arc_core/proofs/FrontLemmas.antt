-- Bytes in front of a list that pass a test.
use Rattle.std.proofs.Common.{◌≡◌, ℕ, zero, suc, ◌+◌, ◌≤◌, Bool, true, false, cond, List, [], ◌∷◌, take, drop, min, refl, arith}
use Rattle.std.specs.List.{prefix_len}

-- where one test passes wherever another does, it passes at least as many bytes in front
pub prefix_len-weaker : (p q : ℕ → Bool) → ((x : ℕ) → p x ≡ true → q x ≡ true) → (xs : List ℕ) → prefix_len p xs ≤ prefix_len q xs
prefix_len-weaker p q weaker [] = omega arith
prefix_len-weaker p q weaker (x ∷ xs) =
    let more = prefix_len-weaker p q weaker xs in
    let here = weaker x in
    elim (p x) as (λ b. (b ≡ true → q x ≡ true) → cond b (1 + prefix_len p xs) 0 ≤ cond (q x) (1 + prefix_len q xs) 0)
    [ true ↦ (λ h. rw (h refl) (omega (arith, more))) | false ↦ (λ h. omega arith) ] here

-- those behind some of them
pub prefix_len-behind : (p : ℕ → Bool) (xs : List ℕ) (k : ℕ) → k ≤ prefix_len p xs → prefix_len p xs ≡ k + prefix_len p (drop k xs)
prefix_len-behind p xs zero h = omega arith
prefix_len-behind p [] (suc k) h = absurd (omega (arith, h))
prefix_len-behind p (x ∷ xs) (suc k) h =
    elim (p x) as (λ b. suc k ≤ cond b (1 + prefix_len p xs) 0 → cond b (1 + prefix_len p xs) 0 ≡ suc k + prefix_len p (drop k xs))
    [ true ↦ (λ w. let more = prefix_len-behind p xs k (omega (arith, w)) in omega (arith, more)) | false ↦ (λ w. absurd (omega (arith, w))) ] h

-- those among the first bytes
pub prefix_len-take : (p : ℕ → Bool) (xs : List ℕ) (n : ℕ) → prefix_len p (take n xs) ≡ min (prefix_len p xs) n
prefix_len-take p xs zero = omega arith
prefix_len-take p [] (suc n) = omega arith
prefix_len-take p (x ∷ xs) (suc n) =
    let more = prefix_len-take p xs n in
    elim (p x) as (λ b. cond b (1 + prefix_len p (take n xs)) 0 ≡ min (cond b (1 + prefix_len p xs) 0) (suc n))
    [ true ↦ omega (arith, more) | false ↦ omega arith ]
