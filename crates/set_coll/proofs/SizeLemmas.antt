-- What a change does to the number that stands for the values' stated sizes together.
use Rattle.std.proofs.Common.{◌≡◌, ℕ, ◌+◌, ◌-◌, ◌%◌, ◌^◌, ◌<◌, List, [], ◌∷◌, ◌++◌, map, take, drop, remove, length, get_or, refl, ap, sym, ◌∙◌, arith}
use Rattle.std.proofs.lemmas.List.Sums.{sum_by_push, sum_by-remove, sum_by-take-drop}
use Rattle.std.proofs.lemmas.List.{length-map, take-map, get_or-map}
use Rattle.arc_core.proofs.MappedLists.{remove_seen, drop_seen}
use Rattle.arc_core.specs.CollectionSize.{value_size, values_size}

-- a number modulo 2^64 is lowered by another
lowered : (all left gone size lost : ℕ) → left + gone ≡ all → size ≡ all % 2 ^ 64 → lost ≡ gone % 2 ^ 64 → (size + (2 ^ 64 - lost)) % 2 ^ 64 ≡ left % 2 ^ 64
lowered all left gone size lost sum size_is lost_is = omega arith

-- one more value, last
pub size_pushed : (xs new : List (List ℕ)) (v : List ℕ) (size gained : ℕ) → new ≡ xs ++ v ∷ [] → size ≡ values_size xs % 2 ^ 64 → gained ≡ value_size v
    → (size + gained) % 2 ^ 64 ≡ values_size new % 2 ^ 64
size_pushed xs new v size gained is size_is gained_is = omega (arith, ap values_size is, sum_by_push value_size xs v, size_is, gained_is)

-- the value at a place is gone
pub size_removed : {X : Type 0} (h : X → List ℕ) (xs new : List X) (i : ℕ) (x : X) (size lost : ℕ) → new ≡ remove xs i → i < length xs → x ≡ get_or xs i x
    → size ≡ values_size (map h xs) % 2 ^ 64 → lost ≡ value_size (h x) → lost < 2 ^ 64 → (size + (2 ^ 64 - lost)) % 2 ^ 64 ≡ values_size (map h new) % 2 ^ 64
size_removed h xs new i x size lost is within at size_is lost_is fits =
    let ys = map h xs in
    let sum = sum_by-remove value_size ys i (h x) (omega (arith, within, length-map xs h)) in
    let same : value_size (get_or ys i (h x)) ≡ value_size (h x) = ap value_size (get_or-map h xs i x (h x) within ∙ ap h (sym at)) in
    lowered (values_size ys) (values_size (remove ys i)) (value_size (h x)) size lost (omega (arith, sum, same)) size_is (omega (arith, lost_is, fits))
    ∙ ap (λ zs. values_size zs % 2 ^ 64) (sym (remove_seen h xs ys refl new i is))

-- the first n values are gone
pub size_dropped : {X : Type 0} (h : X → List ℕ) (xs new first : List X) (n size lost : ℕ) → new ≡ drop n xs → first ≡ take n xs
    → size ≡ values_size (map h xs) % 2 ^ 64 → lost ≡ values_size (map h first) % 2 ^ 64
    → (size + (2 ^ 64 - lost)) % 2 ^ 64 ≡ values_size (map h new) % 2 ^ 64
size_dropped h xs new first n size lost is first_is size_is lost_is =
    let ys = map h xs in
    let front : map h first ≡ take n ys = ap (map h) first_is ∙ sym (take-map h n xs) in
    lowered (values_size ys) (values_size (drop n ys)) (values_size (take n ys)) size lost (omega (arith, sum_by-take-drop value_size ys n)) size_is
    (lost_is ∙ ap (λ zs. values_size zs % 2 ^ 64) front)
    ∙ ap (λ zs. values_size zs % 2 ^ 64) (sym (drop_seen h xs ys refl new n is))
