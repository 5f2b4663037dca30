-- What an insert leaves agrees with the elements and the new one, clear of the edges then.
use Rattle.std.proofs.Common.{◌≡◌, ℕ, Bool, true, false, not, ◌&&◌, ◌==◌, if◌then◌else◌, List, [], ◌∷◌, length, map, refl}
use Rattle.std.specs.List.{filter}
use Rattle.std.specs.Ordering.{is_lt, is_gt}
use Rattle.std.specs.declared.cmp.Ordering.TheVariants.{Less}
use Rattle.std.proofs.lemmas.Bool.{and_from, and_parts}
use Rattle.std.proofs.lemmas.List.Kept.{AllPairs-filter}
use Rattle.arc_core.specs.declared.bkeys.Bkey.{Bkey}
use Rattle.arc_core.specs.declared.collections.Action.{Action}
use Rattle.arc_core.specs.declared.collections.Action.TheVariants as action
use Rattle.arc_core.specs.declared.collections.Side.TheVariants.{Low, High}
use Rattle.arc_core.specs.declared.trees.Edges.{Edges}
use Rattle.arc_core.specs.declared.trees.Elem.{Elem}
use Rattle.arc_core.specs.BkeyOrder.{bkey_cmp}
use Rattle.arc_core.specs.Settling.{Settled, greatest, is_same, is_too_wide, least, lowered, out_of_range, overflowed, parted, raised, settled, settled_above, settled_below, settled_edges, settled_full, stored}
use Rattle.arc_core.specs.TreeContents.{with_element}
use Rattle.tree_history.specs.Agreement.{AreByBkey, is_above_edge, is_below_edge, is_clear}
use Rattle.tree_history.specs.Kept.{announces, is_silent}
use Rattle.tree_history.proofs.Lists.{not_itself, with_high, with_low}
use Rattle.tree_history.proofs.EdgeLemmas.{clear_of_trims, lowered_over, raised_over}

-- What is clear of the new edges was clear of the old ones.
abbrev pub Narrows : (old new : Edges) → Type 0
Narrows old new = (x : Elem) → is_clear new x ≡ true → is_clear old x ≡ true

-- Clear of these edges the two lists are one.
abbrev pub AgreeAt : Edges → (xs ys : List Elem) → Type 0
AgreeAt edges xs ys = filter (is_clear edges) xs ≡ filter (is_clear edges) ys

-- What an insert comes to agrees with all elements and the new one among them.
abbrev pub Settles : Action → Elem → List Elem → Edges → Settled → Type 0
Settles how element all edges (stored kept trimmed) =
    Narrows edges (settled_edges how element.bkey (stored kept trimmed) edges) × AgreeAt (settled_edges how element.bkey (stored kept trimmed) edges) kept all × AreByBkey kept
Settles how element all edges (out_of_range side) =
    Narrows edges (settled_edges how element.bkey (out_of_range side) edges)
    × (announces how ≡ true → (others : List Elem) → AgreeAt (settled_edges how element.bkey (out_of_range side) edges) (with_element element others) others)
Settles how element all edges overflowed = Unit {0}

module _ (element : Elem) (all : List Elem) (edges : Edges) (rise : AreByBkey all) where
  abbrev is_before : Elem → Elem → Type 0
  is_before x y = bkey_cmp x.bkey y.bkey ≡ Less

  -- SMALLEST ELEMENTS

  low_parted : (stays : Bkey → Bool) → Settles action.SmallestTrim element all edges (parted stays all)
  low_parted stays =
      let kept = filter (λ (other : Elem). stays other.bkey) all in
      let trimmed = filter (λ (other : Elem). not (stays other.bkey)) all in
      let new = settled_edges action.SmallestTrim element.bkey (stored kept trimmed) edges in
      let bkeys = map (λ (other : Elem). other.bkey) trimmed in (
        λ x clear. let parts = and_parts (is_above_edge new.low x.bkey) (is_below_edge new.high x.bkey) clear in
            and_from (is_above_edge edges.low x.bkey) (is_below_edge edges.high x.bkey) (raised_over edges.low bkeys x.bkey parts.0).0 parts.1,
        clear_of_trims (is_clear new) stays (λ bkey x. is_lt (bkey_cmp bkey x)) not_itself all
            (λ x clear. (raised_over edges.low bkeys x.bkey (and_parts (is_above_edge new.low x.bkey) (is_below_edge new.high x.bkey) clear).0).1),
        AllPairs-filter is_before (λ (other : Elem). stays other.bkey) all rise,
      )

  low_refused : Settles action.SmallestTrim element all edges (out_of_range Low)
  low_refused =
      let new = settled_edges action.SmallestTrim element.bkey (out_of_range Low) edges in
      let over = λ (x : Elem) (clear : is_clear new x ≡ true). raised_over edges.low (element.bkey ∷ []) x.bkey (and_parts (is_above_edge new.low x.bkey) (is_below_edge new.high x.bkey) clear).0 in (
        λ x clear. and_from (is_above_edge edges.low x.bkey) (is_below_edge edges.high x.bkey) (over x clear).0 (and_parts (is_above_edge new.low x.bkey) (is_below_edge new.high x.bkey) clear).1,
        λ announced others. with_low (is_clear new) element others (λ x clear. (over x clear).1.0),
      )

  -- GREATEST ELEMENTS

  high_parted : (stays : Bkey → Bool) → Settles action.LargestTrim element all edges (parted stays all)
  high_parted stays =
      let kept = filter (λ (other : Elem). stays other.bkey) all in
      let trimmed = filter (λ (other : Elem). not (stays other.bkey)) all in
      let new = settled_edges action.LargestTrim element.bkey (stored kept trimmed) edges in
      let bkeys = map (λ (other : Elem). other.bkey) trimmed in (
        λ x clear. let parts = and_parts (is_above_edge new.low x.bkey) (is_below_edge new.high x.bkey) clear in
            and_from (is_above_edge edges.low x.bkey) (is_below_edge edges.high x.bkey) parts.0 (lowered_over edges.high bkeys x.bkey parts.1).0,
        clear_of_trims (is_clear new) stays (λ bkey x. is_lt (bkey_cmp x bkey)) not_itself all
            (λ x clear. (lowered_over edges.high bkeys x.bkey (and_parts (is_above_edge new.low x.bkey) (is_below_edge new.high x.bkey) clear).1).1),
        AllPairs-filter is_before (λ (other : Elem). stays other.bkey) all rise,
      )

  high_refused : Settles action.LargestTrim element all edges (out_of_range High)
  high_refused =
      let new = settled_edges action.LargestTrim element.bkey (out_of_range High) edges in
      let over = λ (x : Elem) (clear : is_clear new x ≡ true). lowered_over edges.high (element.bkey ∷ []) x.bkey (and_parts (is_above_edge new.low x.bkey) (is_below_edge new.high x.bkey) clear).1 in (
        λ x clear. and_from (is_above_edge edges.low x.bkey) (is_below_edge edges.high x.bkey) (and_parts (is_above_edge new.low x.bkey) (is_below_edge new.high x.bkey) clear).0 (over x clear).0,
        λ announced others. with_high (is_clear new) element others (λ x clear. (over x clear).1.0),
      )

  -- THE RULE

  by_rule : (how : Action) → (first second third : Bool) → (above below full : Settled) → Settles how element all edges above → Settles how element all edges below → Settles how element all edges full
      → Settles how element all edges (stored all []) → Settles how element all edges (if first then above else (if second then below else (if third then full else stored all [])))
  by_rule how true second third above below full a b f s = a
  by_rule how false true third above below full a b f s = b
  by_rule how false false true above below full a b f s = f
  by_rule how false false false above below full a b f s = s

  by_end : (how : Action) → (is_end : Bool) → (refused parts : Settled) → Settles how element all edges refused → Settles how element all edges parts → Settles how element all edges (if is_end then refused else parts)
  by_end how true refused parts r p = r
  by_end how false refused parts r p = p

  pub rule : (how : Action) → is_silent how ≡ false → (first second third : Bool) → (maxbkeyrange : ℕ)
      → Settles how element all edges (if first then settled_above maxbkeyrange how element.bkey all else (if second then settled_below maxbkeyrange how element.bkey all else (if third then settled_full how element all else stored all [])))
  rule action.Error told first second third range = by_rule action.Error first second third (out_of_range High) (out_of_range Low) overflowed (λ x clear. clear, λ announced. cc) (λ x clear. clear, λ announced. cc) tt (λ x clear. clear, refl, rise)
  rule action.HeadTrim told first second third range = by_rule action.HeadTrim first second third (out_of_range High) (out_of_range Low) overflowed (λ x clear. clear, λ announced. cc) (λ x clear. clear, λ announced. cc) tt (λ x clear. clear, refl, rise)
  rule action.TailTrim told first second third range = by_rule action.TailTrim first second third (out_of_range High) (out_of_range Low) overflowed (λ x clear. clear, λ announced. cc) (λ x clear. clear, λ announced. cc) tt (λ x clear. clear, refl, rise)
  rule action.SmallestTrim told first second third range =
      by_rule action.SmallestTrim first second third (settled_above range action.SmallestTrim element.bkey all) (out_of_range Low) (settled_full action.SmallestTrim element all)
      (low_parted (λ other. not (is_lt (bkey_cmp other (lowered range element.bkey))))) low_refused
      (by_end action.SmallestTrim (is_same element.bkey (least element all)) (out_of_range Low) (parted (λ other. is_gt (bkey_cmp other (least element all))) all) low_refused (low_parted (λ other. is_gt (bkey_cmp other (least element all)))))
      (λ x clear. clear, refl, rise)
  rule action.LargestTrim told first second third range =
      by_rule action.LargestTrim first second third (out_of_range High) (settled_below range action.LargestTrim element.bkey all) (settled_full action.LargestTrim element all)
      high_refused (high_parted (λ other. not (is_gt (bkey_cmp other (raised range element.bkey)))))
      (by_end action.LargestTrim (is_same element.bkey (greatest element all)) (out_of_range High) (parted (λ other. is_lt (bkey_cmp other (greatest element all))) all) high_refused (high_parted (λ other. is_lt (bkey_cmp other (greatest element all)))))
      (λ x clear. clear, refl, rise)
  rule action.SmallestSilentTrim told first second third range = cc told
  rule action.LargestSilentTrim told first second third range = cc told

-- an insert under an action that is not silent
pub settles : (maxcount maxbkeyrange : ℕ) (how : Action) (element : Elem) (elements : List Elem) (edges : Edges) → is_silent how ≡ false → AreByBkey (with_element element elements)
    → Settles how element (with_element element elements) edges (settled maxcount maxbkeyrange how element elements)
settles maxcount maxbkeyrange how element elements edges told rise =
    let all = with_element element elements in
    rule element all edges rise how told (is_same element.bkey (greatest element all) && is_too_wide maxbkeyrange element.bkey (least element all))
    (is_same element.bkey (least element all) && is_too_wide maxbkeyrange (greatest element all) element.bkey) (length elements == maxcount) maxbkeyrange
