-- The stated sizes behind a change.
use Rattle.std.proofs.Common.{◌≡◌, ℕ, ◌+◌, ◌-◌, ◌≤◌, ◌<◌, ◌%◌, ◌^◌, List, [], ◌∷◌, ◌++◌, length, take, drop, slice_get, slice_range, slice_set, Some, refl, ap, sym, ◌∙◌, arith}
use Rattle.std.specs.List.{between, remove_range}
use Rattle.std.proofs.lemmas.List.Edits.{between_more}
use Rattle.std.proofs.lemmas.List.Sums.{sum_by-append, sum_by-take-drop}
use Rattle.std.proofs.lemmas.Option.{get_or_from_slice_get, slice_get_within}
use Rattle.arc_core.specs.declared.trees.Elem.{Elem}
use Rattle.arc_core.specs.TreeContents.{IsRising, place_of, with_element, elem_size, elem_sizes}
use Rattle.btree_scan.specs.Positions.{position_in}
use Rattle.btree_scan.specs.declared.positions.Position.TheVariants.{At}
use Rattle.tree_coll.specs.TreePlanning.{IsNewFor}
use Rattle.tree_coll.proofs.FoundLemmas.{has_it, place_in, replaced, replace_size}
use Rattle.tree_coll.proofs.SizeLemmas.{range_size}
use Rattle.tree_coll.proofs.StoreLemmas.{new_left, new_placed}

swapped : (all left gained lost size low : ℕ) → left + lost ≡ all + gained → size ≡ all % 2 ^ 64 → low ≡ lost % 2 ^ 64 → ((size + gained) % 2 ^ 64 + (2 ^ 64 - low)) % 2 ^ 64 ≡ left % 2 ^ 64
swapped all left gained lost size low sum size_is low_is = omega arith

-- a new element adds its own size
with_new : (e : Elem) (xs : List Elem) → IsNewFor e.bkey xs → elem_sizes (with_element e xs) ≡ elem_sizes xs + elem_size e
with_new e xs new =
    let n = place_of e.bkey xs in
    let parts = ap elem_sizes (sym (new_placed e xs new)) ∙ sum_by-append elem_size (take n xs) (e ∷ drop n xs) in
    omega (arith, parts, sum_by-append elem_size (e ∷ []) (drop n xs), sum_by-take-drop elem_size xs n)

-- and what is trimmed for it takes its sizes away
pub stored_size : (e : Elem) (xs : List Elem) (low high size gained lost : ℕ) → IsNewFor e.bkey xs → low ≤ high → high ≤ length xs → size ≡ elem_sizes xs % 2 ^ 64 → gained ≡ elem_size e → lost ≡ elem_sizes (slice_range xs low high) % 2 ^ 64
    → ((size + gained) % 2 ^ 64 + (2 ^ 64 - lost)) % 2 ^ 64 ≡ elem_sizes (with_element e (remove_range xs low high)) % 2 ^ 64
stored_size e xs low high size gained lost new order within size_is gained_is lost_is =
    swapped (elem_sizes xs) (elem_sizes (with_element e (remove_range xs low high))) gained (elem_sizes (slice_range xs low high)) size lost
    (omega (arith, range_size xs low high order, with_new e (remove_range xs low high) (new_left e.bkey xs (remove_range xs low high) low high new order within refl), gained_is)) size_is lost_is

-- another element in the place of its bkey
pub other_size : (e out : Elem) (xs : List Elem) (n size gained lost : ℕ) → IsRising xs → At n ≡ position_in e.bkey xs → slice_get xs n ≡ Some out → size ≡ elem_sizes xs % 2 ^ 64 → gained ≡ elem_size e → lost ≡ elem_size out → lost < 2 ^ 64
    → ((size + gained) % 2 ^ 64 + (2 ^ 64 - lost)) % 2 ^ 64 ≡ elem_sizes (with_element e xs) % 2 ^ 64
other_size e out xs n size gained lost rising is at size_is gained_is lost_is small =
    let within = place_in e.bkey xs n rising is in
    replace_size e out xs (slice_set xs n e) n size gained lost within refl (sym (get_or_from_slice_get xs n out out at)) size_is gained_is lost_is small
    ∙ ap (λ ys. elem_sizes ys % 2 ^ 64) (replaced e xs n rising within (has_it e.bkey xs n rising is))

added : (all one size gained : ℕ) → size ≡ all % 2 ^ 64 → gained ≡ one → (size + gained) % 2 ^ 64 ≡ (all + one) % 2 ^ 64
added all one size gained size_is gained_is = omega arith

-- one more element of a part
pub size_more : (xs : List Elem) (low n m size gained : ℕ) (x : Elem) → m ≡ n + 1 → low ≤ n → slice_get xs n ≡ Some x → size ≡ elem_sizes (between low n xs) % 2 ^ 64 → gained ≡ elem_size x
    → (size + gained) % 2 ^ 64 ≡ elem_sizes (between low m xs) % 2 ^ 64
size_more xs low n m size gained x is order at size_is gained_is =
    let here = get_or_from_slice_get xs n x x at in
    let more = ap (λ k. between low k xs) is ∙ (between_more xs low n x order (slice_get_within xs n x at) ∙ ap (λ y. between low n xs ++ y ∷ []) here) in
    let sum : elem_sizes (between low m xs) ≡ elem_sizes (between low n xs) + elem_size x = omega (arith, ap elem_sizes more, sum_by-append elem_size (between low n xs) (x ∷ [])) in
    added (elem_sizes (between low n xs)) (elem_size x) size gained size_is gained_is ∙ ap (λ k. k % 2 ^ 64) (sym sum)
