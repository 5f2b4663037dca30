-- What a change makes of the elements' stated sizes together.
use Rattle.std.proofs.Common.{◌≡◌, ℕ, ◌+◌, ◌-◌, ◌%◌, ◌^◌, ◌≤◌, List, [], ◌++◌, insert, take, drop, slice_range, ap, sym, ◌∙◌, arith}
use Rattle.std.specs.List.{remove_range}
use Rattle.std.proofs.lemmas.List.{take-append-drop}
use Rattle.std.proofs.lemmas.List.Edits.{split_between}
use Rattle.std.proofs.lemmas.List.Sums.{sum_by-append}
use Rattle.arc_core.specs.declared.trees.Elem.{Elem}
use Rattle.arc_core.specs.TreeContents.{IsRising, elem_size, elem_sizes, with_element}
use Rattle.btree_scan.specs.declared.positions.Position.TheVariants.{Before}
use Rattle.btree_scan.specs.Positions.{position_in}
use Rattle.arc_core.specs.declared.trees.Edges.{Edges}
use Rattle.tree_coll.specs.TreeHolding.{contents_of}
use Rattle.tree_coll.specs.TreeOutcomes.{TreeContents, holding}
use Rattle.overflow_trim.specs.NewPlace.{IsNewAt}
use Rattle.overflow_trim.proofs.AroundLemmas.{new_at, position_cuts, with_front, with_back}
use Rattle.overflow_trim.proofs.SeenLemmas.{absent_before}

-- a number modulo 2^64 is lowered by another
lowered : (all left gone size lost : ℕ) → left + gone ≡ all → size ≡ all % 2 ^ 64 → lost ≡ gone % 2 ^ 64 → (size + (2 ^ 64 - lost)) % 2 ^ 64 ≡ left % 2 ^ 64
lowered all left gone size lost sum size_is lost_is = omega arith

-- the sizes of what is left and of what is removed
pub range_size : (xs : List Elem) (low high : ℕ) → low ≤ high → elem_sizes (remove_range xs low high) + elem_sizes (slice_range xs low high) ≡ elem_sizes xs
range_size xs low high order =
    let whole = ap elem_sizes (split_between xs low high order) ∙ sum_by-append elem_size (take low xs) (slice_range xs low high ++ drop high xs) in
    omega (arith, whole, sum_by-append elem_size (slice_range xs low high) (drop high xs), sum_by-append elem_size (take low xs) (drop high xs))

-- the number that stands for the sizes is right behind a removal
pub range_removed : (xs new : List Elem) (low high size lost : ℕ) → low ≤ high → new ≡ remove_range xs low high
    → size ≡ elem_sizes xs % 2 ^ 64 → lost ≡ elem_sizes (slice_range xs low high) % 2 ^ 64 → (size + (2 ^ 64 - lost)) % 2 ^ 64 ≡ elem_sizes new % 2 ^ 64
range_removed xs new low high size lost order is size_is lost_is =
    lowered (elem_sizes xs) (elem_sizes (remove_range xs low high)) (elem_sizes (slice_range xs low high)) size lost (range_size xs low high order) size_is lost_is
    ∙ ap (λ ys. elem_sizes ys % 2 ^ 64) (sym is)

-- an element in the place of its bkey stands behind the smaller ones and before the greater ones
pub placed : (e : Elem) (xs : List Elem) (n : ℕ) → IsNewAt e.bkey xs n → insert xs n e ≡ with_element e xs
placed e xs n at =
    sym (ap (with_element e) (sym (take-append-drop n xs)) ∙ (with_front e (take n xs) (drop n xs) at.before ∙ ap (λ ys. take n xs ++ ys) (with_back e [] (drop n xs) at.behind)))

pub inserted_is : (e : Elem) (xs : List Elem) (n : ℕ) → IsRising xs → Before n ≡ position_in e.bkey xs → insert xs n e ≡ with_element e xs
inserted_is e xs n rising is = placed e xs n (new_at e.bkey xs n (position_cuts e.bkey xs (Before n) rising is) (absent_before e.bkey xs n is))

-- what the tree holds behind an insertion
pub insert_left : (e : Elem) (xs new : List Elem) (edges : Edges) (n : ℕ) (old : TreeContents) → contents_of xs edges ≡ old → IsRising old.elements → Before n ≡ position_in e.bkey old.elements
    → new ≡ insert xs n e → contents_of new edges ≡ holding (with_element e old.elements) old
insert_left e xs new edges n old view rising at is =
    let els = ap (λ (t : TreeContents). t.elements) view in
    let eds = ap (λ (t : TreeContents). t.edges) view in
    ap (λ ys. contents_of ys edges) (is ∙ (ap (λ ys. insert ys n e) els ∙ inserted_is e old.elements n rising at)) ∙ ap (contents_of (with_element e old.elements)) eds
