-- An insert into a list as it is planned keeps its rules.
use Rattle.std.proofs.Common.{◌≡◌, ℕ, ◌+◌, ◌-◌, ◌≤◌, ◌<◌, ◌==◌, Bool, true, false, List, ◌∷◌, length, take, drop, Option, Some, None, refl, sym, subst, ap, ◌∙◌, arith, length-append, length-take, length-drop}
use Rattle.std.specs.Prelude.{insert, nat_le, if◌then◌else◌, ℤ, pos, negsuc}
use Rattle.std.proofs.lemmas.Bool.Decides.{nat_tests}
use Rattle.arc_core.specs.declared.attributes.Attrs.{Attrs}
use Rattle.arc_core.specs.declared.collections.Action.{Action}
use Rattle.arc_core.specs.declared.collections.Action.TheVariants as action
use Rattle.arc_core.specs.declared.collections.Side.{Side}
use Rattle.arc_core.specs.declared.collections.Side.TheVariants.{Low, High}
use Rattle.arc_core.specs.declared.lists.ListPlan.{ListPlan}
use Rattle.arc_core.specs.declared.lists.ListPlan.TheVariants.{Store, StoreAndTrim, OutOfRange}
use Rattle.arc_core.specs.InsertPlan.{insert_place, insert_plan, plan_at, full_plan, trim_plan, trimmed_side}
use Rattle.arc_core.specs.Item.{Contents, list, IsCollection, IsElement}
use Rattle.coll_items.specs.Changing.{perhaps_trimmed, IsPlaceIn, SuitsInsertion}
use Rattle.coll_items.specs.declared.changes.Insertion.TheVariants as insertion

-- what is stored has its place, and room or an old element to trim
abbrev IsFine : ℕ → ℕ → ListPlan → Type 0
IsFine n maxcount (Store place) = (place ≤ n) × (n < maxcount)
IsFine n maxcount (StoreAndTrim place side) = IsPlaceIn place n (Some side)
IsFine n maxcount _ = Unit {0}

abbrev IsWithin : ℕ → Option ℕ → Type 0
IsWithin n None = Unit {0}
IsWithin n (Some place) = place ≤ n

place_within : (index : ℤ) (n : ℕ) → IsWithin n (insert_place index n)
place_within (pos i) n = by (nat_le i n) refl
  where
    by : (b : Bool) → nat_le i n ≡ b → IsWithin n (if b then Some i else None)
    by true is = grind (arith, nat_tests, is)
    by false is = tt
place_within (negsuc j) n = by (nat_le j n)
  where
    by : (b : Bool) → IsWithin n (if b then Some (n - j) else None)
    by true = omega arith
    by false = tt

trim_fine : (index : ℤ) (n maxcount place : ℕ) (side : Side) → place ≤ n → IsFine n maxcount (trim_plan index n place side)
trim_fine index n maxcount place Low within = by (place == 0) refl
  where
    by : (b : Bool) → (place == 0) ≡ b → IsFine n maxcount (if b then OutOfRange index n else StoreAndTrim place Low)
    by true is = tt
    by false is = (grind (arith, nat_tests, is), within)
trim_fine index n maxcount place High within = by (place == n) refl
  where
    by : (b : Bool) → (place == n) ≡ b → IsFine n maxcount (if b then OutOfRange index n else StoreAndTrim place High)
    by true is = tt
    by false is = grind (arith, nat_tests, is, within)

full_fine : (index : ℤ) (n maxcount place : ℕ) (a : Action) → place ≤ n → IsFine n maxcount (full_plan index n place a)
full_fine index n maxcount place action.Error within = tt
full_fine index n maxcount place action.HeadTrim within = trim_fine index n maxcount place (trimmed_side index action.HeadTrim) within
full_fine index n maxcount place action.TailTrim within = trim_fine index n maxcount place (trimmed_side index action.TailTrim) within
full_fine index n maxcount place action.SmallestTrim within = trim_fine index n maxcount place (trimmed_side index action.SmallestTrim) within
full_fine index n maxcount place action.LargestTrim within = trim_fine index n maxcount place (trimmed_side index action.LargestTrim) within
full_fine index n maxcount place action.SmallestSilentTrim within = trim_fine index n maxcount place (trimmed_side index action.SmallestSilentTrim) within
full_fine index n maxcount place action.LargestSilentTrim within = trim_fine index n maxcount place (trimmed_side index action.LargestSilentTrim) within

at_fine : (index : ℤ) (n maxcount : ℕ) (a : Action) (place : Option ℕ) → n ≤ maxcount → IsWithin n place → IsFine n maxcount (plan_at index n maxcount a place)
at_fine index n maxcount a None few within = tt
at_fine index n maxcount a (Some place) few within = by (n == maxcount) refl
  where
    by : (b : Bool) → (n == maxcount) ≡ b → IsFine n maxcount (if b then full_plan index n place a else Store place)
    by true is = full_fine index n maxcount place a within
    by false is = (within, grind (arith, nat_tests, is, few))

plan_fine : (index : ℤ) (n maxcount : ℕ) (a : Action) (plan : ListPlan) → n ≤ maxcount → plan ≡ insert_plan index n maxcount a → IsFine n maxcount plan
plan_fine index n maxcount a plan few is = subst (IsFine n maxcount) (sym is) (at_fine index n maxcount a (insert_place index n) few (place_within index n))

insert_count : (xs : List (List ℕ)) (place : ℕ) (x : List ℕ) → place ≤ length xs → length (insert xs place x) ≡ length xs + 1
insert_count xs place x is = omega (arith, is, length-append (take place xs) (x ∷ drop place xs), length-take place xs, length-drop place xs)

trim_count : (trim : Side) (ys : List (List ℕ)) → length (perhaps_trimmed (Some trim) ys) ≡ length ys - 1
trim_count Low ys = omega (arith, length-drop 1 ys)
trim_count High ys = omega (arith, length-take (length ys - 1) ys)

place_least : (place n : ℕ) (side : Side) → IsPlaceIn place n (Some side) → place ≤ n
place_least place n Low is = is.1
place_least place n High is = omega (arith, is)

Suits : Attrs → List ℕ → Contents → ℕ × Option Side → Type 0
Suits attrs value contents at = SuitsInsertion (insertion.IntoList at.0 at.1 value) attrs contents

-- an insert without a trim
pub stored_suits : (own attrs : Attrs) (contents : Contents) (xs : List (List ℕ)) (index : ℤ) (plan : ListPlan) (place : ℕ) (at : ℕ × Option Side) (value : List ℕ)
    → IsCollection attrs contents → contents ≡ list xs → own ≡ attrs → plan ≡ insert_plan index (length xs) own.maxcount own.action → plan ≡ Store place → at ≡ (place, None)
    → IsElement value → SuitsInsertion (insertion.IntoList at.0 at.1 value) attrs contents
unfolding Suits
stored_suits own attrs contents xs index plan place at value is same owned planned_own stored at_is small =
    let planned = planned_own ∙ ap (λ (a : Attrs). insert_plan index (length xs) a.maxcount a.action) owned in
    let few : length xs ≤ attrs.maxcount = (subst (IsCollection attrs) same is).within in
    let fine : IsFine (length xs) attrs.maxcount (Store place) =
    subst (IsFine (length xs) attrs.maxcount) stored (plan_fine index (length xs) attrs.maxcount attrs.action plan few planned) in
    subst (Suits attrs value contents) (sym at_is)
    (subst (SuitsInsertion (insertion.IntoList place None value) attrs) (sym same) (record {
      fits = (fine.0, small);
      within = omega (arith, insert_count xs place value fine.0, fine.1);
    }))

-- an insert with a trim
pub trimmed_suits : (own attrs : Attrs) (contents : Contents) (xs : List (List ℕ)) (index : ℤ) (plan : ListPlan) (place : ℕ) (side : Side) (at : ℕ × Option Side) (value : List ℕ)
    → IsCollection attrs contents → contents ≡ list xs → own ≡ attrs → plan ≡ insert_plan index (length xs) own.maxcount own.action → plan ≡ StoreAndTrim place side
    → at ≡ (place, Some side) → IsElement value → SuitsInsertion (insertion.IntoList at.0 at.1 value) attrs contents
unfolding Suits
trimmed_suits own attrs contents xs index plan place side at value is same owned planned_own stored at_is small =
    let planned = planned_own ∙ ap (λ (a : Attrs). insert_plan index (length xs) a.maxcount a.action) owned in
    let few : length xs ≤ attrs.maxcount = (subst (IsCollection attrs) same is).within in
    let fine : IsPlaceIn place (length xs) (Some side) =
    subst (IsFine (length xs) attrs.maxcount) stored (plan_fine index (length xs) attrs.maxcount attrs.action plan few planned) in
    subst (Suits attrs value contents) (sym at_is)
    (subst (SuitsInsertion (insertion.IntoList place (Some side) value) attrs) (sym same) (record {
      fits = (fine, small);
      within = omega (arith, insert_count xs place value (place_least place (length xs) side fine), trim_count side (insert xs place value), few);
    }))
