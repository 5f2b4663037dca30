-- Edges that are moved over bkeys, and what is clear of them.
use Rattle.std.proofs.Common.{◌≡◌, Bool, true, false, not, cond, if◌then◌else◌, List, [], ◌∷◌, map, fold, Option, Some, None, refl, ap, sym, ◌∙◌}
use Rattle.std.specs.List.{AllByRecursion, filter}
use Rattle.std.specs.Ordering.{is_lt, is_gt, ordering_reverse}
use Rattle.std.specs.declared.cmp.Ordering.{Ordering}
use Rattle.std.specs.declared.cmp.Ordering.TheVariants.{Less, Equal, Greater}
use Rattle.std.proofs.lemmas.Bool.{both_ways, cond-false, false_from_ne_true}
use Rattle.arc_core.specs.declared.bkeys.Bkey.{Bkey}
use Rattle.arc_core.specs.declared.trees.Elem.{Elem}
use Rattle.arc_core.specs.BkeyOrder.{bkey_cmp}
use Rattle.arc_core.specs.BkeyLaws.{bkey_cmp_total}
use Rattle.arc_core.specs.Settling.{edge_above, edge_below}
use Rattle.tree_history.specs.Agreement.{is_above_edge, is_below_edge}
use Rattle.tree_history.proofs.Lists.{below_then_up, below_twice, up_then_below}

greater_back : (o p : Ordering) → p ≡ ordering_reverse o → is_gt o ≡ is_lt p
greater_back Less p back = sym (ap is_lt back)
greater_back Equal p back = sym (ap is_lt back)
greater_back Greater p back = sym (ap is_lt back)

-- above a bkey is the same as that bkey below
pub greater_is : (a b : Bkey) → is_gt (bkey_cmp a b) ≡ is_lt (bkey_cmp b a)
greater_is a b = greater_back (bkey_cmp a b) (bkey_cmp b a) (bkey_cmp_total.antisymm b a)

-- ONE BKEY

raised : (t : Bool) (old bkey x : Bkey) → is_lt (bkey_cmp old bkey) ≡ t → is_above_edge (if t then Some bkey else Some old) x ≡ true → (is_lt (bkey_cmp old x) ≡ true) × (is_lt (bkey_cmp bkey x) ≡ true)
raised true old bkey x over above = (below_twice old bkey x over above, above)
raised false old bkey x over above = (above, up_then_below bkey old x over above)

raised_one : (edge : Option Bkey) (bkey x : Bkey) → is_above_edge (edge_above edge bkey) x ≡ true → (is_above_edge edge x ≡ true) × (is_lt (bkey_cmp bkey x) ≡ true)
raised_one None bkey x above = (refl, above)
raised_one (Some old) bkey x above = raised (is_lt (bkey_cmp old bkey)) old bkey x refl above

lowered : (t : Bool) (old bkey x : Bkey) → is_gt (bkey_cmp old bkey) ≡ t → is_below_edge (if t then Some bkey else Some old) x ≡ true → (is_lt (bkey_cmp x old) ≡ true) × (is_lt (bkey_cmp x bkey) ≡ true)
lowered true old bkey x over below = (below_twice x bkey old below (sym (greater_is old bkey) ∙ over), below)
lowered false old bkey x over below = (below, below_then_up x old bkey below (sym (greater_is old bkey) ∙ over))

lowered_one : (edge : Option Bkey) (bkey x : Bkey) → is_below_edge (edge_below edge bkey) x ≡ true → (is_below_edge edge x ≡ true) × (is_lt (bkey_cmp x bkey) ≡ true)
lowered_one None bkey x below = (refl, below)
lowered_one (Some old) bkey x below = lowered (is_gt (bkey_cmp old bkey)) old bkey x refl below

-- MANY

-- what is above an edge that was raised over bkeys is above the old one and above them
pub raised_over : (edge : Option Bkey) (bkeys : List Bkey) (x : Bkey) → is_above_edge (fold edge_above edge bkeys) x ≡ true
    → (is_above_edge edge x ≡ true) × AllByRecursion (λ bkey. is_lt (bkey_cmp bkey x) ≡ true) bkeys
raised_over edge [] x above = (above, tt)
raised_over edge (bkey ∷ bkeys) x above =
    let others = raised_over (edge_above edge bkey) bkeys x above in
    let first = raised_one edge bkey x others.0 in
    (first.0, (first.1, others.1))

pub lowered_over : (edge : Option Bkey) (bkeys : List Bkey) (x : Bkey) → is_below_edge (fold edge_below edge bkeys) x ≡ true
    → (is_below_edge edge x ≡ true) × AllByRecursion (λ bkey. is_lt (bkey_cmp x bkey) ≡ true) bkeys
lowered_over edge [] x below = (below, tt)
lowered_over edge (bkey ∷ bkeys) x below =
    let others = lowered_over (edge_below edge bkey) bkeys x below in
    let first = lowered_one edge bkey x others.0 in
    (first.0, (first.1, others.1))

-- TRIMMED ELEMENTS

-- where what passes stands so to each trimmed bkey as no bkey does to itself, trims take nothing that passes
module _ (c : Elem → Bool) (stays : Bkey → Bool) (stands : Bkey → Bkey → Bool) (not_itself : (bkey : Bkey) → stands bkey bkey ≡ false) where
  abbrev Stands : List Elem → Type 0
  Stands trimmed = (x : Elem) → c x ≡ true → AllByRecursion (λ bkey. stands bkey x.bkey ≡ true) (map (λ (element : Elem). element.bkey) trimmed)

  one_more : (t : Bool) (y : Elem) (staying trimmed rest : List Elem) → (Stands trimmed → filter c staying ≡ filter c rest) → Stands (cond (not t) (y ∷ trimmed) trimmed)
      → filter c (cond t (y ∷ staying) staying) ≡ filter c (y ∷ rest)
  one_more true y staying trimmed rest others stand = ap (λ ys. cond (c y) (y ∷ ys) ys) (others stand)
  one_more false y staying trimmed rest others stand =
      let out : c y ≡ false = false_from_ne_true (c y) (λ passes. both_ways (stands y.bkey y.bkey) (not_itself y.bkey) (stand y passes).0) in
      others (λ x passes. (stand x passes).1) ∙ sym (cond-false (c y) (y ∷ filter c rest) (filter c rest) out)

  pub clear_of_trims : (all : List Elem) → Stands (filter (λ element. not (stays element.bkey)) all) → filter c (filter (λ element. stays element.bkey) all) ≡ filter c all
  clear_of_trims [] stand = refl
  clear_of_trims (y ∷ ys) stand =
      one_more (stays y.bkey) y (filter (λ element. stays element.bkey) ys) (filter (λ element. not (stays element.bkey)) ys) ys (clear_of_trims ys) stand
