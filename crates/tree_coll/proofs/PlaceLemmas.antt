-- Elements by their positions.
use Rattle.std.proofs.Common.{◌≡◌, ℕ, ◌+◌, ◌-◌, ◌<◌, Bool, true, false, if◌then◌else◌, List, [], ◌∷◌, ◌++◌, length, map, take, slice_get, Some, ap, sym, ◌∙◌, arith}
use Rattle.std.specs.Prelude.{get_or}
use Rattle.std.proofs.lemmas.List.{map_push, take_more}
use Rattle.std.proofs.lemmas.Option.{slice_get_within, get_or_from_slice_get}
use Rattle.arc_core.specs.declared.rows.Row.{Row}
use Rattle.arc_core.specs.declared.trees.Elem.{Elem}
use Rattle.tree_coll.specs.TreeOutcomes.{tree_row}

-- the rows of so many elements, and one more
pub one_more : (xs : List Elem) (i : ℕ) (x : Elem) (rows new : List Row) → slice_get xs i ≡ Some x → rows ≡ map tree_row (take i xs) → new ≡ rows ++ tree_row x ∷ []
    → new ≡ map tree_row (take (i + 1) xs)
one_more xs i x rows new at so_far now =
    now ∙ ap (λ l. l ++ tree_row x ∷ []) so_far
    ∙ sym (ap (map tree_row) (take_more xs i x (slice_get_within xs i x at)) ∙ map_push tree_row (take i xs) (get_or xs i x)
    ∙ ap (λ y. map tree_row (take i xs) ++ tree_row y ∷ []) (get_or_from_slice_get xs i x x at))

-- fewer than all elements come before one of them
pub before_within : (desc : Bool) (xs : List Elem) (place position : ℕ) → place < length xs → position ≡ (if desc then length xs - 1 - place else place) → position < length xs
before_within true xs place position le is = omega (arith, le, is)
before_within false xs place position le is = omega (arith, le, is)
