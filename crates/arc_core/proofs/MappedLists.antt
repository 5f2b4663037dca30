-- A list `ys` that shows what a function gives of each element of another list `xs`.
use Rattle.std.proofs.Common.{◌≡◌, ℕ, Bool, true, false, cond, not, ◌||◌, ltb, suc, ◌+◌, ◌++◌, List, [], ◌∷◌, map, length, position, remove, drop, min, if◌then◌else◌, None, Some, Result, Ok, IfOk, inl, inr, refl, sym, ap, subst, ◌∙◌, arith}
use Rattle.std.specs.List.{prefix_len, position_or_len, list_any, AllByRecursion, IsDistinct, remove_range}
use Rattle.std.proofs.lemmas.Bool.{cases_lt}
use Rattle.std.proofs.lemmas.Bool.Decides.{nat_tests}
use Rattle.std.proofs.lemmas.List.{length-map, take-map, drop-map, drop_all, map-append}

-- whether an element passes, by its place
list_any-position : {X : Type 0} (p : X → Bool) (xs : List X) → list_any p xs ≡ ltb (position_or_len p xs) (length xs)
list_any-position p [] = refl
list_any-position p (x ∷ xs) =
    elim (p x) as (λ b. (b || list_any p xs) ≡ ltb (cond (not b) (1 + position_or_len p xs) 0) (suc (length xs)))
    [ true ↦ grind (arith, nat_tests) | false ↦ list_any-position p xs ∙ grind (arith, nat_tests) ]

-- where no place passes, no element does
pub list_any-position_None : {X : Type 0} (p : X → Bool) (xs : List X) → position p xs ≡ None → list_any p xs ≡ false
list_any-position_None p xs none = list_any-position p xs ∙ by (ltb (position_or_len p xs) (length xs)) none
  where
    by : (b : Bool) → cond b (Some (position_or_len p xs)) None ≡ None → b ≡ false
    by true e = cc
    by false e = refl

-- the list after an insert that found no equal element
pub inserted_last : {X E : Type 0} (eq : X → X → Bool) (xs new : List X) (x : X) (r : Result Bool E) (b : Bool) → r ≡ Ok b
    → IfOk r (λ _. new ≡ (if list_any (eq x) xs then xs else xs ++ x ∷ [])) → list_any (eq x) xs ≡ false → new ≡ xs ++ x ∷ []
inserted_last eq xs new x r b ok inserted absent =
    let P : Result Bool _ → Type 0 = λ r. IfOk r (λ _. new ≡ (if list_any (eq x) xs then xs else xs ++ x ∷ [])) in
    subst P ok inserted ∙ ap (λ found. if found then xs else xs ++ x ∷ []) absent

-- the list after its first n elements, or all where there are fewer, are removed as a range
pub first_removed : {X : Type 0} (xs new : List X) (len n k : ℕ) → len ≡ length xs → k ≡ min len n → new ≡ remove_range xs 0 k
    → new ≡ drop n xs
first_removed xs new len n k count least removed =
    elim (cases_lt n (length xs)) [
      | inl fewer ↦ (let all : k ≡ n = omega arith in removed ∙ ap (λ i. drop i xs) all)
      | inr all ↦ removed ∙ drop_all k xs (omega arith) ∙ sym (drop_all n xs all)
    ]

module _ {X Y : Type 0} (h : X → Y) where
  prefix_len-map : (p : Y → Bool) (xs : List X) → prefix_len p (map h xs) ≡ prefix_len (λ x. p (h x)) xs
  prefix_len-map p [] = refl
  prefix_len-map p (x ∷ xs) = ap (λ n. cond (p (h x)) (1 + n) 0) (prefix_len-map p xs)

  position-map : (p : Y → Bool) (xs : List X) → position p (map h xs) ≡ position (λ x. p (h x)) xs
  position-map p xs = rw (prefix_len-map (λ y. not (p y)) xs, length-map) refl

  remove-map : (xs : List X) (i : ℕ) → remove (map h xs) i ≡ map h (remove xs i)
  remove-map xs i = rw (take-map, drop-map, map-append) refl

  AllByRecursion-map : (P : Y → Type 0) (xs : List X) → AllByRecursion (λ x. P (h x)) xs → AllByRecursion P (map h xs)
  AllByRecursion-map P [] all = all
  AllByRecursion-map P (x ∷ xs) all = (all.0, AllByRecursion-map P xs all.1)

  IsDistinct-map : (eq : Y → Y → Bool) (xs : List X) → IsDistinct (λ a b. eq (h a) (h b)) xs → IsDistinct eq (map h xs)
  unfolding IsDistinct
  IsDistinct-map eq [] distinct = distinct
  IsDistinct-map eq (x ∷ xs) distinct =
      (AllByRecursion-map (λ y. eq (h x) y ≡ false) xs distinct.0, IsDistinct-map eq xs distinct.1)

  module _ (xs : List X) (ys : List Y) (seen : map h xs ≡ ys) where
    -- the first place that passes
    pub position_seen : (p : Y → Bool) → position (λ x. p (h x)) xs ≡ position p ys
    position_seen p = sym (position-map p xs) ∙ ap (position p) seen

    -- no element passes where no place does
    pub absent_seen : (p : Y → Bool) → position p ys ≡ None → list_any (λ x. p (h x)) xs ≡ false
    absent_seen p none = list_any-position_None (λ x. p (h x)) xs (position_seen p ∙ none)

    -- one more element at the end
    pub push_seen : (new : List X) (x : X) → new ≡ xs ++ x ∷ [] → map h new ≡ ys ++ h x ∷ []
    push_seen new x e = ap (map h) e ∙ map-append h xs (x ∷ []) ∙ ap (λ l. l ++ h x ∷ []) seen

    -- the list without the element at a place
    pub remove_seen : (new : List X) (i : ℕ) → new ≡ remove xs i → map h new ≡ remove ys i
    remove_seen new i e = ap (map h) e ∙ sym (remove-map xs i) ∙ ap (λ l. remove l i) seen

    -- the list without its first elements
    pub drop_seen : (new : List X) (n : ℕ) → new ≡ drop n xs → map h new ≡ drop n ys
    drop_seen new n e = ap (map h) e ∙ sym (drop-map h n xs) ∙ ap (drop n) seen

    -- elements that differ
    pub distinct_seen : (eq : Y → Y → Bool) → IsDistinct (λ a b. eq (h a) (h b)) xs → IsDistinct eq ys
    distinct_seen eq distinct = subst (IsDistinct eq) seen (IsDistinct-map eq xs distinct)
