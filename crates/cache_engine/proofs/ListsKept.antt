-- What requests on lists leave keeps the rules of a list.
use Rattle.std.proofs.Common.{◌≡◌, ℕ, ◌+◌, ◌-◌, ◌≤◌, ◌==◌, Bool, true, false, List, ◌∷◌, All, length, take, drop, Option, Some, None, refl, arith, length-append, length-take, length-drop}
use Rattle.std.specs.Prelude.{insert, nat_le, if◌then◌else◌, ℤ, pos, negsuc, ◌-ℤ◌, ◌≤ℤ◌, int_le, unsigned_abs}
use Rattle.std.specs.Int.{int_min, int_max}
use Rattle.std.proofs.lemmas.Bool.{false≢true}
use Rattle.std.proofs.lemmas.Bool.Decides.{nat_tests}
use Rattle.std.proofs.lemmas.Int.{ints, clamps}
use Rattle.std.proofs.lemmas.List.Elements.{All-append, All-take, All-drop, All-cons}
use Rattle.arc_core.specs.declared.attributes.Attrs.{Attrs}
use Rattle.arc_core.specs.declared.collections.Action.{Action}
use Rattle.arc_core.specs.declared.collections.Action.TheVariants as action
use Rattle.arc_core.specs.declared.collections.IndexRange.{IndexRange}
use Rattle.arc_core.specs.declared.collections.Side.{Side}
use Rattle.arc_core.specs.declared.collections.Side.TheVariants.{Low, High}
use Rattle.arc_core.specs.declared.collections.Take.{Take}
use Rattle.arc_core.specs.declared.lists.ListPlan.{ListPlan}
use Rattle.arc_core.specs.declared.lists.ListPlan.TheVariants.{Store, StoreAndTrim, OutOfRange, Overflowed}
use Rattle.arc_core.specs.declared.lists.Part.{Part}
use Rattle.arc_core.specs.InsertPlan.{KeepsLimit, insert_place, insert_plan, plan_at, full_plan, trim_plan, trimmed_side}
use Rattle.arc_core.specs.Item.{list, IsCollection, IsElement}
use Rattle.arc_core.specs.ListRows.{trimmed, inserted, list_insert, list_delete, list_get, part_deleted, part_read, without_part}
use Rattle.arc_core.specs.Span.{span, between, clipped, place_of}
use Rattle.cache_engine.proofs.CollectionsKept.{Leaves, removed_leaves, read_leaves}

-- other values, which are no more than maxcount
other_values : (attrs : Attrs) (old values : List (List ℕ)) → IsCollection attrs (list old) → All IsElement values
    → length values ≤ attrs.maxcount → IsCollection attrs (list values)
other_values attrs old values is good few = record { elements = good; action = is.action; within = few; least = is.least; most = is.most; no_bkeys = is.no_bkeys }

-- AN INSERT

abbrev IsWithin : ℕ → Option ℕ → Type 0
IsWithin n None = Unit {0}
IsWithin n (Some place) = place ≤ n

place_within : (index : ℤ) (n : ℕ) → IsWithin n (insert_place index n)
place_within (pos i) n = by (nat_le i n) refl
  where
    by : (b : Bool) → nat_le i n ≡ b → IsWithin n (if b then Some i else None)
    by true is = grind (arith, nat_tests, is)
    by false is = tt
place_within (negsuc j) n = by (nat_le j n)
  where
    by : (b : Bool) → IsWithin n (if b then Some (n - j) else None)
    by true = omega arith
    by false = tt

trim_keeps : (index : ℤ) (n maxcount place : ℕ) (side : Side) → place ≤ n → KeepsLimit n maxcount (trim_plan index n place side)
trim_keeps index n maxcount place Low within = by (place == 0) refl
  where
    by : (b : Bool) → (place == 0) ≡ b → KeepsLimit n maxcount (if b then OutOfRange index n else StoreAndTrim place Low)
    by true is = tt
    by false is = (grind (arith, nat_tests, is), within)
trim_keeps index n maxcount place High within = by (place == n) refl
  where
    by : (b : Bool) → (place == n) ≡ b → KeepsLimit n maxcount (if b then OutOfRange index n else StoreAndTrim place High)
    by true is = tt
    by false is = grind (arith, nat_tests, is, within)

full_keeps : (index : ℤ) (n maxcount place : ℕ) (a : Action) → place ≤ n → KeepsLimit n maxcount (full_plan index n place a)
full_keeps index n maxcount place action.Error within = tt
full_keeps index n maxcount place action.HeadTrim within = trim_keeps index n maxcount place (trimmed_side index action.HeadTrim) within
full_keeps index n maxcount place action.TailTrim within = trim_keeps index n maxcount place (trimmed_side index action.TailTrim) within
full_keeps index n maxcount place action.SmallestTrim within = trim_keeps index n maxcount place (trimmed_side index action.SmallestTrim) within
full_keeps index n maxcount place action.LargestTrim within = trim_keeps index n maxcount place (trimmed_side index action.LargestTrim) within
full_keeps index n maxcount place action.SmallestSilentTrim within = trim_keeps index n maxcount place (trimmed_side index action.SmallestSilentTrim) within
full_keeps index n maxcount place action.LargestSilentTrim within = trim_keeps index n maxcount place (trimmed_side index action.LargestSilentTrim) within

at_keeps : (index : ℤ) (n maxcount : ℕ) (a : Action) (place : Option ℕ) → n ≤ maxcount → IsWithin n place → KeepsLimit n maxcount (plan_at index n maxcount a place)
at_keeps index n maxcount a None few within = tt
at_keeps index n maxcount a (Some place) few within = by (n == maxcount) refl
  where
    by : (b : Bool) → (n == maxcount) ≡ b → KeepsLimit n maxcount (if b then full_plan index n place a else Store place)
    by true is = full_keeps index n maxcount place a within
    by false is = (within, grind (arith, nat_tests, is, few))

-- a list with room for one more stores it, and a full one trims an old one for it
plan_keeps : (index : ℤ) (n maxcount : ℕ) (a : Action) → n ≤ maxcount → KeepsLimit n maxcount (insert_plan index n maxcount a)
plan_keeps index n maxcount a few = at_keeps index n maxcount a (insert_place index n) few (place_within index n)

insert_good : (xs : List (List ℕ)) (place : ℕ) (x : List ℕ) → IsElement x → All IsElement xs → All IsElement (insert xs place x)
insert_good xs place x good all =
    All-append IsElement (take place xs) (x ∷ drop place xs) (All-take IsElement place xs all) (All-cons IsElement x (drop place xs) good (All-drop IsElement place xs all))

insert_count : (xs : List (List ℕ)) (place : ℕ) (x : List ℕ) → place ≤ length xs → length (insert xs place x) ≡ length xs + 1
insert_count xs place x is = omega (arith, is, length-append (take place xs) (x ∷ drop place xs), length-take place xs, length-drop place xs)

trim_good : (side : Side) (xs : List (List ℕ)) → All IsElement xs → All IsElement (trimmed side xs)
trim_good Low xs all = All-drop IsElement 1 xs all
trim_good High xs all = All-take IsElement (length xs - 1) xs all

trim_count : (side : Side) (xs : List (List ℕ)) → length (trimmed side xs) ≡ length xs - 1
trim_count Low xs = omega (arith, length-drop 1 xs)
trim_count High xs = omega (arith, length-take (length xs - 1) xs)

old_place : (n maxcount place : ℕ) (side : Side) → KeepsLimit n maxcount (StoreAndTrim place side) → place ≤ n
old_place n maxcount place Low keeps = keeps.1
old_place n maxcount place High keeps = omega (arith, keeps)

module _ (attrs : Attrs) (xs : List (List ℕ)) (is : IsCollection attrs (list xs)) where
  insert_as_planned : (value : List ℕ) (plan : ListPlan) → IsElement value → KeepsLimit (length xs) attrs.maxcount plan → Leaves attrs (inserted value xs plan)
  insert_as_planned value (Store place) small keeps =
      other_values attrs xs (insert xs place value) is (insert_good xs place value small is.elements) (omega (arith, insert_count xs place value keeps.0, keeps.1))
  insert_as_planned value (StoreAndTrim place side) small keeps =
      let whole = insert xs place value in
      other_values attrs xs (trimmed side whole) is (trim_good side whole (insert_good xs place value small is.elements))
      (omega (arith, insert_count xs place value (old_place (length xs) attrs.maxcount place side keeps), trim_count side whole, is.within))
  insert_as_planned value (OutOfRange index n) small keeps = tt
  insert_as_planned value Overflowed small keeps = tt

  pub list_insert_leaves : (index : ℤ) (value : List ℕ) → IsElement value → Leaves attrs (list_insert index value attrs xs)
  list_insert_leaves index value small =
      insert_as_planned value (insert_plan index (length xs) attrs.maxcount attrs.action) small (plan_keeps index (length xs) attrs.maxcount attrs.action is.within)

-- A REMOVAL

-- the part, if there is one, does not end before it begins
abbrev IsOrdered : Option Part → Type 0
IsOrdered None = Unit {0}
IsOrdered (Some part) = part.low ≤ part.high

in_order : (first last : ℤ) → pos 0 ≤ℤ first → int_le first last ≡ true → unsigned_abs first ≤ unsigned_abs last
in_order (pos a) (pos b) up is = grind (arith, nat_tests, is)
in_order (pos a) (negsuc b) up is = absurd (false≢true is)
in_order (negsuc a) last up is = absurd (omega (arith, ints, up))

clipped_ordered : (low high : ℤ) (n : ℕ) (down : Bool) → IsOrdered (clipped low high n down)
clipped_ordered low high n down = by (int_le first last) refl
  where
    first : ℤ
    first = int_max low (pos 0)

    last : ℤ
    last = int_min high (pos n -ℤ pos 1)

    by : (b : Bool) → int_le first last ≡ b → IsOrdered (if b then Some (record { low = unsigned_abs first; high = unsigned_abs last; down = down }) else None)
    by true is = in_order first last (omega (arith, ints, clamps)) is
    by false is = tt

between_ordered : (first last : ℤ) (n : ℕ) → IsOrdered (between first last n)
between_ordered first last n = by (int_le first last)
  where
    by : (b : Bool) → IsOrdered (if b then clipped first last n false else clipped last first n true)
    by true = clipped_ordered first last n false
    by false = clipped_ordered last first n true

module _ (attrs : Attrs) (xs : List (List ℕ)) (is : IsCollection attrs (list xs)) where
  part_left : (part : Part) → part.low ≤ part.high → IsCollection attrs (list (without_part part xs))
  part_left part order =
      let end = part.high + 1 in
      other_values attrs xs (without_part part xs) is
      (All-append IsElement (take part.low xs) (drop end xs) (All-take IsElement part.low xs is.elements) (All-drop IsElement end xs is.elements))
      (omega (arith, length-append (take part.low xs) (drop end xs), length-take part.low xs, length-drop end xs, order, is.within))

  deleted_leaves : (drop_empty : Bool) (part : Option Part) → IsOrdered part → Leaves attrs (part_deleted drop_empty xs part)
  deleted_leaves drop_empty None order = tt
  deleted_leaves drop_empty (Some part) order = removed_leaves attrs drop_empty (list (without_part part xs)) (part_left part order)

  taken_leaves : (take_out : Take) (flags : ℕ) (part : Option Part) → IsOrdered part → Leaves attrs (part_read take_out flags xs part)
  taken_leaves take_out flags None order = tt
  taken_leaves take_out flags (Some part) order = read_leaves attrs take_out flags _ (list (without_part part xs)) (part_left part order)

  span_ordered : (range : IndexRange) → IsOrdered (span range (length xs))
  span_ordered range = between_ordered (place_of range.first (length xs)) (place_of range.last (length xs)) (length xs)

  pub list_delete_leaves : (range : IndexRange) (drop_empty : Bool) → Leaves attrs (list_delete range drop_empty attrs xs)
  list_delete_leaves range drop_empty = deleted_leaves drop_empty (span range (length xs)) (span_ordered range)

  pub list_get_leaves : (range : IndexRange) (take_out : Take) → Leaves attrs (list_get range take_out attrs xs)
  list_get_leaves range take_out = taken_leaves take_out attrs.flags (span range (length xs)) (span_ordered range)
