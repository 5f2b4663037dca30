-- An element that is found, and one that is put in its place.
use Rattle.std.proofs.Common.{◌≡◌, ℕ, suc, ◌+◌, ◌-◌, ◌%◌, ◌^◌, ◌<◌, true, false, if◌then◌else◌, List, [], ◌∷◌, ◌++◌, length, get_or, take, drop, slice_get, slice_set, slice_index_or, Some, None, refl, ap, sym, ◌∙◌, arith}
use Rattle.std.specs.List.{All}
use Rattle.std.specs.Ordering.{is_lt, ordering_reverse}
use Rattle.std.specs.declared.cmp.Ordering.{Ordering}
use Rattle.std.specs.declared.cmp.Ordering.TheVariants.{Less, Equal, Greater}
use Rattle.std.proofs.lemmas.List.{set_split, set-get_or, get_or-take, get_or-drop, length-take-le, length-drop}
use Rattle.std.proofs.lemmas.Option.{get_or_from_slice_get}
use Rattle.std.proofs.lemmas.List.Sums.{sum_by-set}
use Rattle.arc_core.specs.declared.bkeys.Bkey.{Bkey}
use Rattle.arc_core.specs.declared.trees.Edges.{Edges}
use Rattle.arc_core.specs.declared.trees.Elem.{Elem}
use Rattle.arc_core.specs.BkeyOrder.{bkey_cmp}
use Rattle.arc_core.specs.BkeyLaws.{bkey_cmp_total, bkey_cmp-IsAntisymmetric}
use Rattle.arc_core.specs.TreeContents.{IsRising, is_below, is_above, place_of, elem_size, elem_sizes, with_element}
use Rattle.btree_scan.specs.Positions.{position_in}
use Rattle.btree_scan.specs.declared.positions.Position.TheVariants.{At}
use Rattle.btree_scan.proofs.SpanLemmas.{equal, eq_there, found_position, there}
use Rattle.overflow_trim.proofs.AroundLemmas.{with_front, with_back}
use Rattle.tree_coll.specs.TreeHolding.{contents_of}
use Rattle.tree_coll.specs.TreeOutcomes.{TreeContents, holding, found}

-- the element in the place that was found has the bkey
pub has_it : (bkey : Bkey) (xs : List Elem) (place : ℕ) → IsRising xs → At place ≡ position_in bkey xs → (d : Elem) → bkey ≡ (slice_index_or xs place d).bkey
has_it bkey xs place rising is d =
    let at = found_position bkey xs place is in
    bkey_cmp-IsAntisymmetric bkey (get_or xs (place_of bkey xs) d).bkey (equal (bkey_cmp bkey (get_or xs (place_of bkey xs) d).bkey) (eq_there bkey xs d rising at.0))
    ∙ ap (λ n. (get_or xs n d).bkey) (sym at.1)

pub place_in : (bkey : Bkey) (xs : List Elem) (place : ℕ) → IsRising xs → At place ≡ position_in bkey xs → place < length xs
place_in bkey xs place rising is = let at = found_position bkey xs place is in omega (arith, there bkey xs rising at.0, at.1)

-- it is the one that is found
pub found_at : (bkey : Bkey) (xs : List Elem) (place : ℕ) (x : Elem) → At place ≡ position_in bkey xs → slice_get xs place ≡ Some x → found bkey xs ≡ Some x
found_at bkey xs place x is at =
    let seen = found_position bkey xs place is in
    ap (λ b. if b then slice_get xs (place_of bkey xs) else None) seen.0 ∙ (ap (slice_get xs) (sym seen.1) ∙ at)

-- which has the bkey
pub has_at : (bkey : Bkey) (xs : List Elem) (place : ℕ) (x : Elem) → IsRising xs → At place ≡ position_in bkey xs → slice_get xs place ≡ Some x → bkey ≡ x.bkey
has_at bkey xs place x rising is at = has_it bkey xs place rising is x ∙ ap (λ (y : Elem). y.bkey) (get_or_from_slice_get xs place x x at)

not_less : (o : Ordering) → o ≡ ordering_reverse o → is_lt o ≡ false
not_less Less is = cc is
not_less Equal is = refl
not_less Greater is = refl

-- neither below nor above an element of its own bkey
alone : (e x : Elem) → e.bkey ≡ x.bkey → with_element e (x ∷ []) ≡ e ∷ []
alone e x same =
    let below : is_below e.bkey x ≡ false = ap (λ b. is_lt (bkey_cmp b e.bkey)) (sym same) ∙ not_less (bkey_cmp e.bkey e.bkey) (bkey_cmp_total.antisymm e.bkey e.bkey) in
    let above : is_above e.bkey x ≡ false = ap (λ b. is_lt (bkey_cmp e.bkey b)) (sym same) ∙ not_less (bkey_cmp e.bkey e.bkey) (bkey_cmp_total.antisymm e.bkey e.bkey) in
    rw below (rw above refl)

-- an element in the place of one of its bkey stands behind the smaller ones and before the greater ones
pub replaced : (e : Elem) (xs : List Elem) (n : ℕ) → IsRising xs → n < length xs → ((d : Elem) → e.bkey ≡ (get_or xs n d).bkey) → slice_set xs n e ≡ with_element e xs
replaced e xs n rising within same =
    let x = get_or xs n e in
    let T = take n xs in
    let D = drop (suc n) xs in
    let parts : xs ≡ T ++ x ∷ D = sym (set-get_or xs n e) ∙ set_split xs n x within in
    let before : All (λ y. is_below e.bkey y ≡ true) T = λ k d le.
    let low : k < n = omega (arith, le, length-take-le n xs (omega arith)) in
    ap (is_below e.bkey) (get_or-take n xs k d low)
    ∙ (ap (λ b. is_lt (bkey_cmp (get_or xs k d).bkey b)) (same d) ∙ ap is_lt (rising k n d low within).below) in
    let behind : All (λ y. is_above e.bkey y ≡ true) D = λ k d le.
    let high : suc n + k < length xs = omega (arith, le, length-drop (suc n) xs) in
    ap (is_above e.bkey) (get_or-drop (suc n) xs k d)
    ∙ (ap (λ b. is_lt (bkey_cmp b (get_or xs (suc n + k) d).bkey)) (same d) ∙ ap is_lt (rising n (suc n + k) d (omega arith) high).below) in
    set_split xs n e within
    ∙ sym (ap (with_element e) parts ∙ (with_front e T (x ∷ D) before ∙ ap (λ ys. T ++ ys) (with_back e (x ∷ []) D behind ∙ ap (λ ys. ys ++ D) (alone e x (same e)))))

-- what the tree holds behind a replacement
pub replace_left : (e : Elem) (xs new : List Elem) (edges : Edges) (n : ℕ) (old : TreeContents) → contents_of xs edges ≡ old → IsRising old.elements → At n ≡ position_in e.bkey old.elements
    → new ≡ slice_set xs n e → contents_of new edges ≡ holding (with_element e old.elements) old
replace_left e xs new edges n old view rising at is =
    let els = ap (λ (t : TreeContents). t.elements) view in
    let eds = ap (λ (t : TreeContents). t.edges) view in
    ap (λ ys. contents_of ys edges) (is ∙ (ap (λ ys. slice_set ys n e) els ∙ replaced e old.elements n rising (place_in e.bkey old.elements n rising at) (has_it e.bkey old.elements n rising at)))
    ∙ ap (contents_of (with_element e old.elements)) eds

-- the place is one of those of the elements that are held
pub held_within : (bkey : Bkey) (xs : List Elem) (edges : Edges) (n : ℕ) (old : TreeContents) → contents_of xs edges ≡ old → IsRising old.elements → At n ≡ position_in bkey old.elements → n < length xs
held_within bkey xs edges n old view rising at =
    omega (arith, place_in bkey old.elements n rising at, ap (λ (t : TreeContents). length t.elements) view)

pub has_held : (bkey : Bkey) (xs : List Elem) (edges : Edges) (n : ℕ) (old : TreeContents) → contents_of xs edges ≡ old → IsRising old.elements → At n ≡ position_in bkey old.elements
    → (d : Elem) → bkey ≡ (slice_index_or xs n d).bkey
has_held bkey xs edges n old view rising at d =
    has_it bkey old.elements n rising at d ∙ sym (ap (λ (t : TreeContents). (slice_index_or t.elements n d).bkey) view)

-- the number that stands for the sizes is right behind it
swapped : (all left gained lost size : ℕ) → left + lost ≡ all + gained → size ≡ all % 2 ^ 64 → lost < 2 ^ 64 → ((size + gained) % 2 ^ 64 + (2 ^ 64 - lost)) % 2 ^ 64 ≡ left % 2 ^ 64
swapped all left gained lost size sum size_is small = omega arith

pub replace_size : (e out : Elem) (xs new : List Elem) (n size gained lost : ℕ) → n < length xs → new ≡ slice_set xs n e → out ≡ slice_index_or xs n out → size ≡ elem_sizes xs % 2 ^ 64
    → gained ≡ elem_size e → lost ≡ elem_size out → lost < 2 ^ 64 → ((size + gained) % 2 ^ 64 + (2 ^ 64 - lost)) % 2 ^ 64 ≡ elem_sizes new % 2 ^ 64
replace_size e out xs new n size gained lost within is out_is size_is gained_is lost_is small =
    swapped (elem_sizes xs) (elem_sizes new) gained lost size
    (omega (arith, ap elem_sizes is, sum_by-set elem_size xs n e out within, ap elem_size out_is, gained_is, lost_is)) size_is small
