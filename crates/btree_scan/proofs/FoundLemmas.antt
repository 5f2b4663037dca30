-- Whether a bkey is there, told by the element in its place.
use Rattle.std.proofs.Common.{◌≡◌, ◌⊎◌, ℕ, ◌<◌, ◌≤◌, true, false, List, length, get_or, ap, sym, ◌∙◌, subst, inl, inr, arith}
use Rattle.std.specs.Ordering.{is_lt, is_eq, ordering_reverse}
use Rattle.std.specs.declared.cmp.Ordering.{Ordering}
use Rattle.std.specs.declared.cmp.Ordering.TheVariants.{Less, Equal, Greater}
use Rattle.std.proofs.lemmas.Bool.{cases_eq, cases_lt}
use Rattle.std.proofs.lemmas.List.{get_or_default}
use Rattle.std.proofs.lemmas.List.Folds.{list_any_none, list_any-from_Any}
use Rattle.arc_core.specs.declared.bkeys.Bkey.{Bkey}
use Rattle.arc_core.specs.declared.trees.Elem.{Elem}
use Rattle.arc_core.specs.BkeyOrder.{bkey_cmp}
use Rattle.arc_core.specs.BkeyLaws.{bkey_cmp_total}
use Rattle.arc_core.specs.TreeContents.{IsRising, place_of}
use Rattle.btree_nodes.specs.Ways.{has_bkey}
use Rattle.btree_nodes.proofs.TreeLemmas.{IsPlace, place_splits}

-- what is below the bkey does not have it
below_unequal : (o p : Ordering) → p ≡ ordering_reverse o → is_lt o ≡ true → is_eq p ≡ false
below_unequal Less p rev lt = ap is_eq rev
below_unequal Equal p rev lt = cc lt
below_unequal Greater p rev lt = cc lt

above_by : (o p : Ordering) → p ≡ ordering_reverse o → is_lt o ≡ false → is_eq p ≡ false → p ≡ Less
above_by Less p rev lt eq = cc lt
above_by Equal p rev lt eq = let e = ap is_eq rev in cc
above_by Greater p rev lt eq = rev

absent_each : (bkey : Bkey) (elements : List Elem) (place k : ℕ) (d : Elem) → IsRising elements → IsPlace bkey elements place
    → ((d : Elem) → place < length elements → is_eq (bkey_cmp bkey (get_or elements place d).bkey) ≡ false) → k < length elements → (k < place) ⊎ (place ≤ k) → (k ≡ place) ⊎ (k ≡ place → ⊥)
    → is_eq (bkey_cmp bkey (get_or elements k d).bkey) ≡ false
absent_each bkey elements place k d rising at other within (inl front) cases =
    below_unequal (bkey_cmp (get_or elements k d).bkey bkey) (bkey_cmp bkey (get_or elements k d).bkey) (bkey_cmp_total.antisymm bkey (get_or elements k d).bkey) (at.before k d front)
absent_each bkey elements place k d rising at other within (inr behind) (inl same) = ap (λ n. is_eq (bkey_cmp bkey (get_or elements n d).bkey)) same ∙ other d (omega arith)
absent_each bkey elements place k d rising at other within (inr behind) (inr apart) =
    let there = get_or elements place d in
    let first = above_by (bkey_cmp there.bkey bkey) (bkey_cmp bkey there.bkey) (bkey_cmp_total.antisymm bkey there.bkey) (at.behind place d (omega arith) (omega arith)) (other d (omega arith)) in
    ap is_eq (bkey_cmp_total.trans bkey there.bkey (get_or elements k d).bkey first (rising place k d (omega arith) within).below)

-- where it is in its place it is there
pub found_at : (bkey : Bkey) (elements : List Elem) (place : ℕ) (d : Elem) → place < length elements → is_eq (bkey_cmp bkey (get_or elements place d).bkey) ≡ true → has_bkey bkey elements ≡ true
found_at bkey elements place d within eq =
    list_any-from_Any (λ (e : Elem). is_eq (bkey_cmp bkey e.bkey)) elements (place, get_or elements place d, within, get_or_default elements place (get_or elements place d) d within, eq)

-- and where it is not, it is nowhere
pub absent_at : (bkey : Bkey) (elements : List Elem) (place : ℕ) → IsRising elements → place ≡ place_of bkey elements
    → ((d : Elem) → place < length elements → is_eq (bkey_cmp bkey (get_or elements place d).bkey) ≡ false) → has_bkey bkey elements ≡ false
absent_at bkey elements place rising is other =
    let at = subst (IsPlace bkey elements) (sym is) (place_splits bkey elements rising) in
    list_any_none (λ (e : Elem). is_eq (bkey_cmp bkey e.bkey)) elements (λ k d within. absent_each bkey elements place k d rising at other within (cases_lt k place) (cases_eq k place))
