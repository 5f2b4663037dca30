-- The stated sizes of what collections hold are far below 2^64.
use Rattle.std.proofs.Common.{◌≡◌, ℕ, ◌+◌, ◌*◌, ◌-◌, ◌%◌, ◌^◌, ◌≤◌, ◌<◌, List, [], ◌∷◌, ◌++◌, All, length, zero, suc, take, drop, slice_index_or, slice_get, is_some, refl, Option, Some, None, length-append, length-take, length-drop, ap, ◌∙◌, arith}
use Rattle.std.proofs.lemmas.Bool.{false≢true}
use Rattle.std.proofs.lemmas.List.Elements.{All-head, All-tail}
use Rattle.std.specs.Prelude.{insert}
use Rattle.std.proofs.lemmas.List.Sums.{sum_by-cons, sum_by-append, sum_by-take-drop}
use Rattle.arc_core.specs.CollectionSize.{value_size, values_size, pair_size, pairs_size}
use Rattle.arc_core.specs.declared.attributes.Attrs.{Attrs}
use Rattle.arc_core.specs.MapReading.{with_value_at}
use Rattle.arc_core.specs.declared.collections.Side.{Side}
use Rattle.arc_core.specs.declared.collections.Side.TheVariants.{Low, High}
use Rattle.coll_items.specs.Changing.{perhaps_trimmed, end_size, IsPlaceIn, HasEnd}
use Rattle.arc_core.specs.Item.{Contents, list, set, map, IsElement, IsField, IsCollection, contents_size}

values_small : (xs : List (List ℕ)) → All IsElement xs → values_size xs ≤ 32800 * length xs
values_small [] small = omega arith
values_small (x ∷ xs) small = omega (arith, sum_by-append value_size (x ∷ []) xs, All-head IsElement x xs small, values_small xs (All-tail IsElement x xs small))

pairs_small : (xs : List (List ℕ × List ℕ)) → All (λ pair. IsField pair.0 × IsElement pair.1) xs → pairs_size xs ≤ 33050 * length xs
pairs_small [] small = omega arith
pairs_small (x ∷ xs) small =
    let head = All-head (λ pair. IsField pair.0 × IsElement pair.1) x xs small in
    omega (arith, sum_by-append pair_size (x ∷ []) xs, head.0.short, head.1, pairs_small xs (All-tail (λ pair. IsField pair.0 × IsElement pair.1) x xs small))

-- a collection's elements are stated to take fewer than 2^36 bytes together
pub contents_small : (attrs : Attrs) (contents : Contents) → IsCollection attrs contents → contents_size contents < 2 ^ 36
contents_small attrs (list values) is = omega (arith, values_small values is.elements, is.within, is.most)
contents_small attrs (set values) is = omega (arith, values_small values is.elements.0, is.within, is.most)
contents_small attrs (map pairs) is = omega (arith, pairs_small pairs is.elements.0, is.within, is.most)

-- so the number modulo 2^64 is the sum itself
pub exact : (size result : ℕ) → result ≡ size % 2 ^ 64 → size < 2 ^ 36 → (result ≡ size) × (result < 2 ^ 40)
exact size result is small = (omega arith, omega arith)

-- what a running number tells of the collection
pub size_is : (attrs : Attrs) (own now : Contents) (result : ℕ) → IsCollection attrs own → own ≡ now → result ≡ contents_size own % 2 ^ 64
    → (result ≡ contents_size now) × (result < 2 ^ 40)
size_is attrs own now result is same r =
    let told = exact (contents_size own) result r (contents_small attrs own is) in
    (told.0 ∙ ap contents_size same, told.1)

-- where an end is trimmed, the old elements have one
pub has_end : (place : ℕ) (trim : Option Side) (xs : List (List ℕ)) → IsPlaceIn place (length xs) trim → HasEnd trim xs
has_end place None xs is = omega arith
has_end place (Some Low) xs is = omega (arith, is.0, is.1)
has_end place (Some High) xs is = omega (arith, is)

insert_size : (xs : List (List ℕ)) (place : ℕ) (x : List ℕ) → values_size (insert xs place x) ≡ values_size xs + value_size x
insert_size xs place x = omega (arith, sum_by-take-drop value_size xs place, sum_by-append value_size (take place xs) (x ∷ drop place xs), sum_by-cons value_size x (drop place xs))

-- the elements but the last, and the last
last_size : (y : List ℕ) (ys : List (List ℕ)) → values_size (take (length ys) (y ∷ ys)) + value_size (slice_index_or (y ∷ ys) (length ys) []) ≡ values_size (y ∷ ys)
last_size y [] = omega (arith, sum_by-cons value_size y [])
last_size y (z ∷ zs) =
    let front : values_size (take (length (z ∷ zs)) (y ∷ z ∷ zs)) ≡ value_size y + values_size (take (length zs) (z ∷ zs)) =
    sum_by-cons value_size y (take (length zs) (z ∷ zs)) in
    let last : length (slice_index_or (y ∷ z ∷ zs) (length (z ∷ zs)) []) ≡ length (slice_index_or (z ∷ zs) (length zs) []) = refl in
    omega (arith, front, last, sum_by-cons value_size y (z ∷ zs), last_size z zs)

high_size : (y : List ℕ) (ys : List (List ℕ)) (place : ℕ) (x : List ℕ) → place < length (y ∷ ys)
    → values_size (take (length (y ∷ ys)) (insert (y ∷ ys) place x)) + value_size (slice_index_or (y ∷ ys) (length ys) []) ≡ values_size (y ∷ ys) + value_size x
high_size y ys zero x is =
    let front : values_size (take (length (y ∷ ys)) (insert (y ∷ ys) 0 x)) ≡ value_size x + values_size (take (length ys) (y ∷ ys)) =
    sum_by-cons value_size x (take (length ys) (y ∷ ys)) in
    omega (arith, front, last_size y ys)
high_size y [] (suc place) x is = absurd (omega (arith, is))
high_size y (z ∷ zs) (suc place) x is =
    let front : values_size (take (length (y ∷ z ∷ zs)) (insert (y ∷ z ∷ zs) (suc place) x)) ≡ value_size y + values_size (take (length (z ∷ zs)) (insert (z ∷ zs) place x)) =
    sum_by-cons value_size y (take (length (z ∷ zs)) (insert (z ∷ zs) place x)) in
    let last : length (slice_index_or (y ∷ z ∷ zs) (length (z ∷ zs)) []) ≡ length (slice_index_or (z ∷ zs) (length zs) []) = refl in
    omega (arith, front, last, sum_by-cons value_size y (z ∷ zs), high_size z zs place x (omega (arith, is)))

low_size : (xs : List (List ℕ)) (place : ℕ) (x : List ℕ) → 1 ≤ place → place ≤ length xs
    → values_size (drop 1 (insert xs place x)) + value_size (slice_index_or xs 0 []) ≡ values_size xs + value_size x
low_size xs zero x least most = absurd (omega (arith, least))
low_size [] (suc place) x least most = absurd (omega (arith, most))
low_size (y ∷ ys) (suc place) x least most =
    let rest : values_size (drop 1 (insert (y ∷ ys) (suc place) x)) ≡ values_size (insert ys place x) = refl in
    let first : length (slice_index_or (y ∷ ys) 0 []) ≡ length y = refl in
    omega (arith, rest, first, sum_by-cons value_size y ys, insert_size ys place x)

insert_length : (xs : List (List ℕ)) (place : ℕ) (x : List ℕ) → place ≤ length xs → length (insert xs place x) - 1 ≡ length xs
insert_length xs place x is = omega (arith, is, length-append (take place xs) (x ∷ drop place xs), length-take place xs, length-drop place xs)

-- one more value in a list, and perhaps the one at an end less
pub list_grown : (xs : List (List ℕ)) (place : ℕ) (trim : Option Side) (x : List ℕ) → IsPlaceIn place (length xs) trim
    → values_size (perhaps_trimmed trim (insert xs place x)) + end_size trim xs ≡ values_size xs + value_size x
list_grown xs place None x is = omega (arith, insert_size xs place x)
list_grown xs place (Some Low) x is = low_size xs place x is.0 is.1
list_grown [] place (Some High) x is = absurd (omega (arith, is))
list_grown (y ∷ ys) place (Some High) x is =
    let one : length (y ∷ ys) - 1 ≡ length ys = omega arith in
    omega (
      arith,
      high_size y ys place x is,
      ap (λ n. length (slice_index_or (y ∷ ys) n [])) one,
      ap (λ n. values_size (take n (insert (y ∷ ys) place x))) (insert_length (y ∷ ys) place x (omega (arith, is))),
    )

-- one more value of a set
pub set_grown : (xs : List (List ℕ)) (x : List ℕ) → values_size (xs ++ x ∷ []) ≡ values_size xs + value_size x
set_grown xs x = omega (arith, sum_by-append value_size xs (x ∷ []))

-- one more pair of a map
pub map_grown : (xs : List (List ℕ × List ℕ)) (field x : List ℕ) → pairs_size (xs ++ (field, x) ∷ []) ≡ pairs_size xs + length field + value_size x
map_grown xs field x = omega (arith, sum_by-append pair_size xs ((field, x) ∷ []))

abbrev second : Option (List ℕ × List ℕ) → List ℕ
second None = []
second (Some pair) = pair.1

-- another value for the field at a place
pub field_changed : (xs : List (List ℕ × List ℕ)) (i : ℕ) (field old x : List ℕ) → slice_get xs i ≡ Some (field, old)
    → pairs_size (with_value_at xs i x) + value_size old ≡ pairs_size xs + value_size x
field_changed [] i field old x at = absurd (false≢true (ap is_some at))
field_changed (pair ∷ xs) zero field old x at =
    let same : length pair.1 ≡ length old = ap (λ (o : Option (List ℕ × List ℕ)). length (second o)) at in
    omega (arith, same, sum_by-cons pair_size pair xs, sum_by-cons pair_size (pair.0, x) xs)
field_changed (pair ∷ xs) (suc i) field old x at =
    omega (arith, field_changed xs i field old x at, sum_by-cons pair_size pair xs, sum_by-cons pair_size pair (with_value_at xs i x))

pub field_within : (xs : List (List ℕ × List ℕ)) (i : ℕ) (field old : List ℕ) → slice_get xs i ≡ Some (field, old) → value_size old ≤ pairs_size xs
field_within [] i field old at = absurd (false≢true (ap is_some at))
field_within (pair ∷ xs) zero field old at =
    let same : length pair.1 ≡ length old = ap (λ (o : Option (List ℕ × List ℕ)). length (second o)) at in
    omega (arith, same, sum_by-cons pair_size pair xs)
field_within (pair ∷ xs) (suc i) field old at = omega (arith, field_within xs i field old at, sum_by-cons pair_size pair xs)
