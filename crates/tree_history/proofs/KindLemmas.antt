-- What an insert leaves is of one kind.
use Rattle.std.proofs.Common.{◌≡◌, ℕ, Bool, true, false, not, ◌&&◌, ◌==◌, if◌then◌else◌, List, [], ◌∷◌, length, map, fold, Option, Some, None, refl, sym, ◌∙◌, arith}
use Rattle.std.specs.List.{All, filter}
use Rattle.std.specs.Ordering.{is_gt, is_lt}
use Rattle.std.specs.declared.cmp.Ordering.TheVariants.{Less}
use Rattle.std.proofs.lemmas.List.Elements.{All-append, All-cons, All-filter, All-head, All-nil, All-tail}
use Rattle.std.proofs.lemmas.List.Kept.{AllPairs-filter}
use Rattle.arc_core.specs.declared.bkeys.Bkey.{Bkey}
use Rattle.arc_core.specs.declared.bkeys.Bkey.TheVariants.{Bytes, Number}
use Rattle.arc_core.specs.declared.collections.Action.{Action}
use Rattle.arc_core.specs.declared.collections.Action.TheVariants as action
use Rattle.arc_core.specs.declared.collections.Side.TheVariants.{High, Low}
use Rattle.arc_core.specs.declared.trees.Edges.{Edges}
use Rattle.arc_core.specs.declared.trees.Elem.{Elem}
use Rattle.arc_core.specs.BkeyOrder.{are_of_one_kind, bkey_cmp}
use Rattle.arc_core.specs.Settling.{Settled, edge_above, edge_below, greatest, is_same, is_too_wide, least, lowered, out_of_range, overflowed, parted, raised, settled, settled_above, settled_below, settled_edges, settled_full, stored, trims_greatest, trims_smallest}
use Rattle.arc_core.specs.TreeContents.{IsRising, is_above, is_below, with_element}
use Rattle.tree_coll.specs.TreeOutcomes.{empty_tree, is_bytes, is_of_kind}
use Rattle.tree_history.specs.Agreement.{AreByBkey}
use Rattle.tree_history.specs.TreeKinds.{IsEdgeOf, IsInOrder}
use Rattle.tree_history.proofs.Lists.{with_rises}

one_kind : (x y : Bkey) → is_bytes x ≡ is_bytes y → are_of_one_kind x y ≡ true
one_kind (Number a) (Number b) same = refl
one_kind (Number a) (Bytes b) same = cc same
one_kind (Bytes a) (Number b) same = cc same
one_kind (Bytes a) (Bytes b) same = refl

pub same_kind : (x y : Bkey) → are_of_one_kind x y ≡ true → is_bytes y ≡ is_bytes x
same_kind (Number a) (Number b) same = refl
same_kind (Number a) (Bytes b) same = cc same
same_kind (Bytes a) (Number b) same = cc same
same_kind (Bytes a) (Bytes b) same = refl

pub by_bkey : (xs : List Elem) → IsRising xs → AreByBkey xs
by_bkey xs rising i j d order within = (rising i j d order within).below

abbrev pub Ofs : Bool → List Elem → Type 0
Ofs bytes xs = All (λ (x : Elem). is_bytes x.bkey ≡ bytes) xs

pub to_rising : (bytes : Bool) (xs : List Elem) → AreByBkey xs → Ofs bytes xs → IsRising xs
to_rising bytes xs rise kind i j d order within =
    record { below = rise i j d order within; of_one_kind = one_kind _ _ (kind i d (omega (arith, order, within)) ∙ sym (kind j d within)) }

pub with_kind : (bytes : Bool) (element : Elem) (xs : List Elem) → is_bytes element.bkey ≡ bytes → Ofs bytes xs → Ofs bytes (with_element element xs)
with_kind bytes element xs is kind =
    let P : Elem → Type 0 = λ x. is_bytes x.bkey ≡ bytes in
    All-append P (filter (is_below element.bkey) xs) (element ∷ filter (is_above element.bkey) xs) (All-filter (is_below element.bkey) P xs kind)
    (All-cons P element (filter (is_above element.bkey) xs) is (All-filter (is_above element.bkey) P xs kind))

-- What stays and what goes is by bkey and of the kind.
abbrev pub Parts : Bool → Settled → Type 0
Parts bytes (stored kept trimmed) = AreByBkey kept × Ofs bytes kept × Ofs bytes trimmed
Parts bytes _ = Unit {0}

module _ (bytes : Bool) (element : Elem) (all : List Elem) (rise : AreByBkey all) (kind : Ofs bytes all) where
  pick : (b : Bool) (s t : Settled) → Parts bytes s → Parts bytes t → Parts bytes (if b then s else t)
  pick true s t one other = one
  pick false s t one other = other

  parts : (stays : Bkey → Bool) → Parts bytes (parted stays all)
  parts stays =
      let P : Elem → Type 0 = λ x. is_bytes x.bkey ≡ bytes in
      (AllPairs-filter (λ (x y : Elem). bkey_cmp x.bkey y.bkey ≡ Less) (λ (x : Elem). stays x.bkey) all rise, All-filter (λ (x : Elem). stays x.bkey) P all kind, All-filter (λ (x : Elem). not (stays x.bkey)) P all kind)

  pub all_parts : (how : Action) (first second third : Bool) (range : ℕ)
      → Parts bytes (if first then settled_above range how element.bkey all else (if second then settled_below range how element.bkey all else (if third then settled_full how element all else stored all [])))
  all_parts how first second third range =
      let low = λ (other : Bkey). not (is_lt (bkey_cmp other (lowered range element.bkey))) in
      let high = λ (other : Bkey). not (is_gt (bkey_cmp other (raised range element.bkey))) in
      let above = λ (other : Bkey). is_gt (bkey_cmp other (least element all)) in
      let below = λ (other : Bkey). is_lt (bkey_cmp other (greatest element all)) in
      let lows = if is_same element.bkey (least element all) then out_of_range Low else parted above all in
      let highs = if is_same element.bkey (greatest element all) then out_of_range High else parted below all in
      let rest = if trims_greatest how then highs else overflowed in
      let whole : Parts bytes (stored all []) = (rise, kind, All-nil (λ (x : Elem). is_bytes x.bkey ≡ bytes)) in
      pick first (settled_above range how element.bkey all) _ (pick (trims_smallest how) (parted low all) (out_of_range High) (parts low) tt)
      (pick second (settled_below range how element.bkey all) _ (pick (trims_greatest how) (parted high all) (out_of_range Low) (parts high) tt)
      (pick third (settled_full how element all) (stored all []) (pick (trims_smallest how) lows rest (pick (is_same element.bkey (least element all)) (out_of_range Low) (parted above all) tt (parts above))
      (pick (trims_greatest how) highs overflowed (pick (is_same element.bkey (greatest element all)) (out_of_range High) (parted below all) tt (parts below)) tt)) whole))

pick_edge : (bytes b : Bool) (x y : Bkey) → is_bytes x ≡ bytes → is_bytes y ≡ bytes → IsEdgeOf bytes (if b then Some x else Some y)
pick_edge bytes true x y one other = one
pick_edge bytes false x y one other = other

raised_kind : (bytes : Bool) (edge : Option Bkey) (xs : List Elem) → IsEdgeOf bytes edge → Ofs bytes xs → IsEdgeOf bytes (fold edge_above edge (map (λ (x : Elem). x.bkey) xs))
raised_kind bytes edge [] is kind = is
raised_kind bytes None (x ∷ xs) is kind = let P : Elem → Type 0 = λ y. is_bytes y.bkey ≡ bytes in raised_kind bytes (Some x.bkey) xs (All-head P x xs kind) (All-tail P x xs kind)
raised_kind bytes (Some old) (x ∷ xs) is kind =
    let P : Elem → Type 0 = λ y. is_bytes y.bkey ≡ bytes in
    raised_kind bytes (edge_above (Some old) x.bkey) xs (pick_edge bytes (is_lt (bkey_cmp old x.bkey)) x.bkey old (All-head P x xs kind) is) (All-tail P x xs kind)

lowered_kind : (bytes : Bool) (edge : Option Bkey) (xs : List Elem) → IsEdgeOf bytes edge → Ofs bytes xs → IsEdgeOf bytes (fold edge_below edge (map (λ (x : Elem). x.bkey) xs))
lowered_kind bytes edge [] is kind = is
lowered_kind bytes None (x ∷ xs) is kind = let P : Elem → Type 0 = λ y. is_bytes y.bkey ≡ bytes in lowered_kind bytes (Some x.bkey) xs (All-head P x xs kind) (All-tail P x xs kind)
lowered_kind bytes (Some old) (x ∷ xs) is kind =
    let P : Elem → Type 0 = λ y. is_bytes y.bkey ≡ bytes in
    lowered_kind bytes (edge_below (Some old) x.bkey) xs (pick_edge bytes (is_gt (bkey_cmp old x.bkey)) x.bkey old (All-head P x xs kind) is) (All-tail P x xs kind)

-- the edges of a tree whose new bkey is of its kind
pub edges_kind : (bytes : Bool) (how : Action) (element : Elem) (outcome : Settled) (edges : Edges) → Parts bytes outcome → is_bytes element.bkey ≡ bytes → IsEdgeOf bytes edges.low → IsEdgeOf bytes edges.high
    → IsEdgeOf bytes (settled_edges how element.bkey outcome edges).low × IsEdgeOf bytes (settled_edges how element.bkey outcome edges).high
edges_kind bytes action.SmallestTrim element (stored kept trimmed) edges are is low high = (raised_kind bytes edges.low trimmed low are.2, high)
edges_kind bytes action.SmallestTrim element (out_of_range Low) edges are is low high =
    (raised_kind bytes edges.low (element ∷ []) low (All-cons (λ (x : Elem). is_bytes x.bkey ≡ bytes) element [] is (All-nil (λ (x : Elem). is_bytes x.bkey ≡ bytes))), high)
edges_kind bytes action.SmallestTrim element (out_of_range High) edges are is low high = (low, high)
edges_kind bytes action.SmallestTrim element overflowed edges are is low high = (low, high)
edges_kind bytes action.LargestTrim element (stored kept trimmed) edges are is low high = (low, lowered_kind bytes edges.high trimmed high are.2)
edges_kind bytes action.LargestTrim element (out_of_range High) edges are is low high =
    (low, lowered_kind bytes edges.high (element ∷ []) high (All-cons (λ (x : Elem). is_bytes x.bkey ≡ bytes) element [] is (All-nil (λ (x : Elem). is_bytes x.bkey ≡ bytes))))
edges_kind bytes action.LargestTrim element (out_of_range Low) edges are is low high = (low, high)
edges_kind bytes action.LargestTrim element overflowed edges are is low high = (low, high)
edges_kind bytes action.Error element outcome edges are is low high = (low, high)
edges_kind bytes action.HeadTrim element outcome edges are is low high = (low, high)
edges_kind bytes action.TailTrim element outcome edges are is low high = (low, high)
edges_kind bytes action.SmallestSilentTrim element outcome edges are is low high = (low, high)
edges_kind bytes action.LargestSilentTrim element outcome edges are is low high = (low, high)

-- a bkey of the tree's kind
pub fits_kind : (bkey : Bkey) (bytes : Bool) (elements : List Elem) (low high : Option Bkey) → Ofs bytes elements → IsEdgeOf bytes low → IsEdgeOf bytes high
    → is_of_kind bkey (record { elements = elements; edges = record { low = low; high = high } }) ≡ true → (b : Bool) × (Ofs b elements × IsEdgeOf b low × IsEdgeOf b high × (is_bytes bkey ≡ b))
fits_kind bkey bytes [] None None all is_low is_high fits = (is_bytes bkey, (All-nil (λ (x : Elem). is_bytes x.bkey ≡ is_bytes bkey), tt, tt, refl))
fits_kind bkey bytes [] None (Some high) all is_low is_high fits = (bytes, (all, is_low, is_high, same_kind high bkey fits ∙ is_high))
fits_kind bkey bytes [] (Some low) high all is_low is_high fits = (bytes, (all, is_low, is_high, same_kind low bkey fits ∙ is_low))
fits_kind bkey bytes (x ∷ xs) low high all is_low is_high fits = (bytes, (all, is_low, is_high, same_kind x.bkey bkey fits ∙ All-head (λ (y : Elem). is_bytes y.bkey ≡ bytes) x xs all))

-- what an insert comes to
pub settled_parts : (bytes : Bool) (maxcount range : ℕ) (how : Action) (element : Elem) (elements : List Elem) → AreByBkey elements → Ofs bytes elements → is_bytes element.bkey ≡ bytes → Parts bytes (settled maxcount range how element elements)
settled_parts bytes maxcount range how element elements rise kind is =
    let all = with_element element elements in
    all_parts bytes element all (with_rises element elements rise) (with_kind bytes element elements is kind) how (is_same element.bkey (greatest element all) && is_too_wide range element.bkey (least element all))
    (is_same element.bkey (least element all) && is_too_wide range (greatest element all) element.bkey) (length elements == maxcount) range

pub empty_order : IsInOrder empty_tree
empty_order = record { rising = λ i j d order within. absurd (omega (arith, within)); kind = (false, record { elements = λ k d within. absurd (omega (arith, within)); low = tt; high = tt }) }
