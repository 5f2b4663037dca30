-- The child below which a bkey stands.
use Rattle.std.proofs.Common.{◌≡◌, ℕ, ◌+◌, ◌<◌, ◌≤◌, true, false, List, ◌++◌, length, get_or, take, drop, ap, ◌∙◌, subst, inl, inr, arith}
use Rattle.std.specs.Ordering.{is_le}
use Rattle.std.proofs.lemmas.Bool.{cases_lt}
use Rattle.std.proofs.lemmas.List.{length-append, get_or_append_left, get_or-append-add, drop_more, drop_all}
use Rattle.std.specs.declared.cmp.Ordering.TheVariants.{Less, Greater}
use Rattle.arc_core.specs.declared.bkeys.Bkey.{Bkey}
use Rattle.arc_core.specs.declared.trees.Elem.{Elem}
use Rattle.arc_core.specs.BkeyOrder.{bkey_cmp}
use Rattle.arc_core.specs.TreeContents.{MayPrecede, IsRising, place_of}
use Rattle.btree_nodes.specs.Subtree.{Subtree, all_elements, height_over}
use Rattle.btree_nodes.specs.PartRules.{AreChildren}
use Rattle.btree_nodes.specs.Ways.{IsWayTo, HasEach, has_bkey}
use Rattle.btree_nodes.proofs.ChildrenLemmas.{all_split}
use Rattle.btree_nodes.proofs.BalanceLemmas.{child_some}
use Rattle.btree_nodes.proofs.SearchLemmas.{front_below, behind_above, place_between, found_between}

-- what rises behind other elements rises
pub rising_behind : (A Z : List Elem) → IsRising (A ++ Z) → IsRising Z
rising_behind A Z rising i j d order within =
    let x = get_or-append-add A Z i d in
    let y = get_or-append-add A Z j d in
    subst (λ (e : Elem). MayPrecede e (get_or Z j d)) x (subst (λ (e : Elem). MayPrecede (get_or (A ++ Z) (length A + i) d) e) y (rising (length A + i) (length A + j) d (omega arith) (omega (arith, length-append A Z))))

pub rising_front : (A Z : List Elem) → IsRising (A ++ Z) → IsRising A
rising_front A Z rising i j d order within =
    let x = get_or_append_left A Z d i (omega arith) in
    let y = get_or_append_left A Z d j within in
    subst (λ (e : Elem). MayPrecede e (get_or A j d)) x (subst (λ (e : Elem). MayPrecede (get_or (A ++ Z) i d) e) y (rising i j d order (omega (arith, length-append A Z))))

nothing : (i : ℕ) → i ≤ 0 → i ≡ 0
nothing i none = omega arith

-- The elements before and behind those of a child are below and above the bkey.
pub record AreApart (bkey : Bkey) (A R : List Elem) : Type 0 where
  pub before : (k : ℕ) (d : Elem) → k < length A → bkey_cmp (get_or A k d).bkey bkey ≡ Less
  pub behind : (k : ℕ) (d : Elem) → k < length R → bkey_cmp (get_or R k d).bkey bkey ≡ Greater

pub apart : (bkey : Bkey) (children : List Subtree) (i : ℕ) (d : Subtree) → i < length children → HasEach children → IsRising (all_elements children)
    → ((d : Subtree) (e : Elem) → 0 < i → is_le (bkey_cmp (get_or (get_or children i d).elements 0 e).bkey bkey) ≡ true)
    → ((d : Subtree) (e : Elem) → i + 1 < length children → is_le (bkey_cmp (get_or (get_or children (i + 1) d).elements 0 e).bkey bkey) ≡ false)
    → AreApart bkey (all_elements (take i children)) (all_elements (drop (i + 1) children))
apart bkey children i d within each rising low high =
    let A = all_elements (take i children) in
    let M = (get_or children i d).elements in
    let R = all_elements (drop (i + 1) children) in
    let up : IsRising (A ++ (M ++ R)) = subst IsRising (all_split children i d within) rising in
    let some = each i d within in
    record {
      before = λ k e below. front_below bkey A (M ++ R) k e up below (omega (arith, length-append M R, some))
          (ap (λ (x : Elem). is_le (bkey_cmp x.bkey bkey)) (get_or_append_left M R e 0 some) ∙ low d e (elim (cases_lt 0 i) [ inl positive ↦ positive | inr none ↦ absurd (omega (arith, below, ap (λ n. length (all_elements (take n children))) (nothing i none))) ]));
      behind = λ k e below. elim (cases_lt (i + 1) (length children)) [
        | inl more ↦
            let next = drop_more children (i + 1) d more in
            let there : R ≡ (get_or children (i + 1) d).elements ++ all_elements (drop (i + 1 + 1) children) = ap all_elements next in
            let first = ap (λ ys. get_or ys 0 e) there ∙ get_or_append_left (get_or children (i + 1) d).elements (all_elements (drop (i + 1 + 1) children)) e 0 (each (i + 1) d more) in
            behind_above bkey R k e (rising_behind M R (rising_behind A (M ++ R) up)) below (ap (λ (x : Elem). is_le (bkey_cmp x.bkey bkey)) first ∙ high d e more)
        | inr last ↦ absurd (omega (arith, below, ap (λ ys. length (all_elements ys)) (drop_all (i + 1) children last)))
      ];
    }

pub way_at : (bkey : Bkey) (children : List Subtree) (i : ℕ) → i < length children → HasEach children → IsRising (all_elements children)
    → ((d : Subtree) (e : Elem) → 0 < i → is_le (bkey_cmp (get_or (get_or children i d).elements 0 e).bkey bkey) ≡ true)
    → ((d : Subtree) (e : Elem) → i + 1 < length children → is_le (bkey_cmp (get_or (get_or children (i + 1) d).elements 0 e).bkey bkey) ≡ false)
    → IsWayTo bkey children i
way_at bkey children i within each rising low high = record {
  within = within;
  place = λ d. let sides = apart bkey children i d within each rising low high in
      ap (place_of bkey) (all_split children i d within) ∙ place_between bkey (all_elements (take i children)) (get_or children i d).elements (all_elements (drop (i + 1) children)) sides.before sides.behind;
  found = λ d. let sides = apart bkey children i d within each rising low high in
      ap (has_bkey bkey) (all_split children i d within) ∙ found_between bkey (all_elements (take i children)) (get_or children i d).elements (all_elements (drop (i + 1) children)) sides.before sides.behind;
}

-- below each child of a branch is an element
pub each_some : (children : List Subtree) → AreChildren children → HasEach children
each_some children are k d within = child_some (height_over children) (get_or children k d) (are.balanced k d within)

-- the elements below a child rise
pub rising_child : (children : List Subtree) (i : ℕ) (d : Subtree) → i < length children → IsRising (all_elements children) → IsRising (get_or children i d).elements
rising_child children i d within rising =
    let M = (get_or children i d).elements in
    let A = all_elements (take i children) in
    let R = all_elements (drop (i + 1) children) in
    rising_front M R (rising_behind A (M ++ R) (subst IsRising (all_split children i d within) rising))
