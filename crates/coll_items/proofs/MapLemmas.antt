-- The pairs that requests on maps name.
use Rattle.std.proofs.Common.{◌≡◌, ◌||◌, ℕ, zero, suc, ◌+◌, ◌*◌, ◌≤◌, ◌<◌, ◌^◌, ◌==◌, Bool, true, false, not, List, [], ◌∷◌, ◌++◌, All, length, map, take, filter, get_or, slice_get, Option, Some, None, refl, sym, ap, subst, ◌∙◌, arith, is_some, append-nil}
use Rattle.std.proofs.lemmas.Bool.{true≢false}
use Rattle.std.proofs.lemmas.Bool.Decides.{nat_tests}
use Rattle.std.specs.Prelude.{nat_eq, bytes_eq}
use Rattle.std.specs.List.{filter_map, cons_option, flat_map}
use Rattle.std.proofs.lemmas.List.{take_more, map-append}
use Rattle.std.proofs.lemmas.List.Elements.{All-cons, All-filter, All-get_or, All-head, All-nil, All-tail, filter_map-append}
use Rattle.std.proofs.lemmas.List.Filters.{length-filter_both}
use Rattle.std.proofs.lemmas.List.Quantifiers.{position-Some}
use Rattle.std.proofs.lemmas.Option.{slice_get_within, get_or_from_slice_get}
use Rattle.arc_core.specs.declared.attributes.Attrs.{Attrs}
use Rattle.arc_core.specs.declared.collections.Take.{Take}
use Rattle.arc_core.specs.declared.rows.Row.{Row}
use Rattle.arc_core.specs.CollectionRows.{Outcome, field_row}
use Rattle.arc_core.specs.CollectionStep.{on_map, plan_of_held}
use Rattle.arc_core.specs.Item.{Contents, map as map_of, IsCollection, IsElement, IsField}
use Rattle.arc_core.specs.MapReading.{fields_of, place_of, each_once, chosen, named_pairs, with_value_at}
use Rattle.arc_core.specs.MapRows.{pairs_asked, map_insert, map_upsert, new_inserted, upserted}
use Rattle.arc_core.specs.ReplyText.{element_text}
use Rattle.coll_items.specs.Changing.{SuitsInsertion}
use Rattle.coll_items.specs.Holding.{Held}
use Rattle.coll_items.specs.Planning.{IsPlan, IsShort, IsTaken, Plans, are_some}
use Rattle.coll_items.specs.declared.changes.Insertion.TheVariants as insertion
use Rattle.coll_items.specs.declared.changes.Removal.{Removal}
use Rattle.coll_items.specs.declared.planned.Planned.{Planned}
use Rattle.coll_items.proofs.RowLemmas.{pairs_long, read_short}

abbrev pub places_named : List (List ℕ) → List (List ℕ × List ℕ) → List ℕ
places_named names pairs = filter_map (λ name. place_of name pairs) names

fields_length : (pairs : List (List ℕ × List ℕ)) → length (fields_of pairs) ≡ length pairs
fields_length [] = refl
fields_length (pair ∷ pairs) = ap suc (fields_length pairs)

place_within : (name : List ℕ) (pairs : List (List ℕ × List ℕ)) (place : ℕ) → place_of name pairs ≡ Some place → place < length pairs
place_within name pairs place at = omega (arith, (position-Some (bytes_eq name) (fields_of pairs) place [] at).0, fields_length pairs)

abbrev IsPlace : List (List ℕ × List ℕ) → ℕ → Type 0
IsPlace pairs place = place < length pairs

named_within : (names : List (List ℕ)) (pairs : List (List ℕ × List ℕ)) → All (IsPlace pairs) (places_named names pairs)
named_within [] pairs = All-nil (IsPlace pairs)
named_within (name ∷ names) pairs = by (named_within names pairs) (place_of name pairs) refl
  where
    by : All (IsPlace pairs) (places_named names pairs) → (o : Option ℕ) → place_of name pairs ≡ o → All (IsPlace pairs) (cons_option o (places_named names pairs))
    by rest None is = rest
    by rest (Some place) is = All-cons (IsPlace pairs) place (places_named names pairs) (place_within name pairs place is) rest

once_all : (P : ℕ → Type 0) (ns : List ℕ) → All P ns → All P (each_once ns)
once_all P [] all = all
once_all P (n ∷ ns) all =
    All-cons P n (filter (λ other. not (nat_eq n other)) (each_once ns)) (All-head P n ns all)
    (All-filter (λ other. not (nat_eq n other)) P (each_once ns) (once_all P ns (All-tail P n ns all)))

-- the places of named fields are places of the map
pub chosen_within : (names : List (List ℕ)) (pairs : List (List ℕ × List ℕ)) (places : List ℕ) (i : ℕ) → places ≡ chosen names pairs → i < length places → get_or places i 0 < length pairs
chosen_within names pairs places i are fits =
    All-get_or (IsPlace pairs) places i 0 fits (subst (All (IsPlace pairs)) (sym are) (once_all (IsPlace pairs) (places_named names pairs) (named_within names pairs)))

-- the rows of so many named pairs, and one more
pub named_more : (pairs : List (List ℕ × List ℕ)) (places : List ℕ) (i : ℕ) (rows new : List Row) → i < length places
    → rows ≡ map field_row (filter_map (slice_get pairs) (take i places)) → slice_get pairs (get_or places i 0) ≡ Some (get_or pairs (get_or places i 0) ([], []))
    → new ≡ rows ++ field_row (get_or pairs (get_or places i 0) ([], [])) ∷ [] → new ≡ map field_row (filter_map (slice_get pairs) (take (i + 1) places))
named_more pairs places i rows new fits so_far at now =
    let next = ap (filter_map (slice_get pairs)) (take_more places i 0 fits) ∙ filter_map-append (slice_get pairs) (take i places) (get_or places i 0 ∷ [])
    ∙ ap (λ o. filter_map (slice_get pairs) (take i places) ++ cons_option o []) at in
    now ∙ ap (λ l. l ++ field_row (get_or pairs (get_or places i 0) ([], [])) ∷ []) so_far
    ∙ sym (ap (map field_row) next ∙ map-append field_row (filter_map (slice_get pairs) (take i places)) (get_or pairs (get_or places i 0) ([], []) ∷ []))

-- how many and how long they are

some_few : {X Y : Type 0} (h : X → Option Y) (xs : List X) → length (filter_map h xs) ≤ length xs
some_few h [] = omega arith
some_few {X} {Y} h (x ∷ xs) = by (some_few h xs) (h x)
  where
    by : length (filter_map h xs) ≤ length xs → (o : Option Y) → length (cons_option o (filter_map h xs)) ≤ length (x ∷ xs)
    by rest None = omega (arith, rest)
    by rest (Some y) = omega (arith, rest)

once_few : (ns : List ℕ) → length (each_once ns) ≤ length ns
once_few [] = omega arith
once_few (n ∷ ns) =
    let others : ℕ → Bool = λ other. nat_eq n other in
    omega (arith, once_few ns, length-filter_both others (λ other. not (nat_eq n other)) (λ other. refl) (each_once ns))

abbrev IsPair : List ℕ × List ℕ → Type 0
IsPair pair = IsField pair.0 × IsElement pair.1

found_good : (pairs : List (List ℕ × List ℕ)) (places : List ℕ) → All IsPair pairs → All IsPair (filter_map (slice_get pairs) places)
found_good pairs [] all = All-nil IsPair
found_good pairs (place ∷ places) all = by (found_good pairs places all) (slice_get pairs place) refl
  where
    by : All IsPair (filter_map (slice_get pairs) places) → (o : Option (List ℕ × List ℕ)) → slice_get pairs place ≡ o → All IsPair (cons_option o (filter_map (slice_get pairs) places))
    by rest None is = rest
    by rest (Some pair) is =
        All-cons IsPair pair (filter_map (slice_get pairs) places)
        (subst IsPair (get_or_from_slice_get pairs place pair pair is) (All-get_or IsPair pairs place pair (slice_get_within pairs place pair is) all))
        rest

asked_long : (names : List (List ℕ)) (pairs : List (List ℕ × List ℕ)) → All IsPair pairs
    → length (flat_map element_text (map field_row (pairs_asked names pairs))) ≤ 40000 * (length pairs + length names)
asked_long [] pairs all = omega (arith, pairs_long pairs all)
asked_long (name ∷ names) pairs all =
    let places = chosen (name ∷ names) pairs in
    omega (
      arith,
      pairs_long (named_pairs (name ∷ names) pairs) (found_good pairs places all),
      some_few (slice_get pairs) places,
      once_few (places_named (name ∷ names) pairs),
      some_few (λ (n : List ℕ). place_of n pairs) (name ∷ names),
    )

-- the answer of a read of a map is short
pub map_read_short : (attrs : Attrs) (contents : Contents) (pairs : List (List ℕ × List ℕ)) (names : List (List ℕ)) (flags : ℕ) (rows : List Row) (take_out : Take) (removal : Removal) (plan : Planned)
    → IsCollection attrs contents → contents ≡ map_of pairs → length names < 2 ^ 32 → rows ≡ map field_row (pairs_asked names pairs)
    → IsTaken flags rows take_out removal plan → IsShort plan
map_read_short attrs contents pairs names flags rows take_out removal plan is same few read taken =
    let of_map = subst (IsCollection attrs) same is in
    read_short flags rows take_out removal plan taken
    (omega (arith, ap (λ r. length (flat_map element_text r)) read, asked_long names pairs of_map.elements.0, few, of_map.within, of_map.most))

-- the pair at a place
at_place : (pairs : List (List ℕ × List ℕ)) (place : ℕ) → place < length pairs → slice_get pairs place ≡ Some (get_or pairs place ([], []))
at_place [] place fits = absurd (omega (arith, fits))
at_place (pair ∷ pairs) zero fits = refl
at_place (pair ∷ pairs) (suc place) fits = at_place pairs place (omega (arith, fits))

pub chosen_at : (names : List (List ℕ)) (pairs : List (List ℕ × List ℕ)) (places : List ℕ) (i : ℕ) → places ≡ chosen names pairs → i < length places
    → slice_get pairs (get_or places i 0) ≡ Some (get_or pairs (get_or places i 0) ([], []))
chosen_at names pairs places i are fits = at_place pairs (get_or places i 0) (chosen_within names pairs places i are fits)

-- whether some are there

abbrev is_filled : {X : Type 0} → List X → Bool
is_filled [] = false
is_filled (x ∷ xs) = true

filled_is : {X : Type 0} (xs : List X) → is_filled xs ≡ not (length xs == 0)
filled_is [] = refl
filled_is (x ∷ xs) = sym (ap not (none (length xs)))
  where
    none : (n : ℕ) → (suc n == 0) ≡ false
    none n = grind (arith, nat_tests)

filled_last : {X : Type 0} (xs : List X) (x : X) → is_filled (xs ++ x ∷ []) ≡ true
filled_last [] x = refl
filled_last (y ∷ xs) x = refl

abbrev there : List (List ℕ) → List (List ℕ × List ℕ) → Bool
there names pairs = is_filled (places_named names pairs)

some_asked : (pairs : List (List ℕ × List ℕ)) (places : List ℕ) → All (IsPlace pairs) places
    → is_filled (filter_map (slice_get pairs) (each_once places)) ≡ is_filled places
some_asked pairs [] all = refl
some_asked pairs (place ∷ places) all =
    ap (λ o. is_filled (cons_option o (filter_map (slice_get pairs) (filter (λ other. not (nat_eq place other)) (each_once places)))))
    (at_place pairs place (All-head (IsPlace pairs) place places all))

asked_there : (names : List (List ℕ)) (pairs : List (List ℕ × List ℕ)) → (length names ≡ 0 → ⊥) → there names pairs ≡ not (length (pairs_asked names pairs) == 0)
asked_there [] pairs some = absurd (some refl)
asked_there (name ∷ names) pairs some =
    sym (some_asked pairs (places_named (name ∷ names) pairs) (named_within (name ∷ names) pairs)) ∙ filled_is (named_pairs (name ∷ names) pairs)

-- one more field that is looked for
more_named : (names : List (List ℕ)) (name n : List ℕ) (pairs : List (List ℕ × List ℕ)) (place : Option ℕ) → n ≡ name → place ≡ place_of n pairs
    → places_named (names ++ name ∷ []) pairs ≡ places_named names pairs ++ cons_option place []
more_named names name n pairs place same at =
    filter_map-append (λ (m : List ℕ). place_of m pairs) names (name ∷ [])
    ∙ ap (λ o. places_named names pairs ++ cons_option o []) (ap (λ (m : List ℕ). place_of m pairs) (sym same) ∙ sym at)

some_there : (names : List (List ℕ)) (name n : List ℕ) (pairs : List (List ℕ × List ℕ)) (place : Option ℕ) → n ≡ name → place ≡ place_of n pairs → is_some place ≡ true
    → true ≡ there (names ++ name ∷ []) pairs
some_there names name n pairs None same at some = absurd (true≢false (sym some))
some_there names name n pairs (Some place) same at some =
    sym (ap is_filled (more_named names name n pairs (Some place) same at) ∙ filled_last (places_named names pairs) place)

none_there : (names : List (List ℕ)) (name n : List ℕ) (pairs : List (List ℕ × List ℕ)) (place : Option ℕ) (found : Bool) → n ≡ name → place ≡ place_of n pairs → is_some place ≡ false
    → found ≡ there names pairs → found ≡ there (names ++ name ∷ []) pairs
none_there names name n pairs (Some place) found same at none so_far = absurd (true≢false none)
none_there names name n pairs None found same at none so_far =
    so_far ∙ sym (ap is_filled (more_named names name n pairs None same at ∙ append-nil (places_named names pairs)))

any_there : (names : List (List ℕ)) (pairs : List (List ℕ × List ℕ)) → there names pairs ≡ are_some names pairs
any_there [] pairs = refl
any_there (name ∷ names) pairs = by (place_of name pairs) (any_there names pairs)
  where
    by : (o : Option ℕ) → there names pairs ≡ are_some names pairs → is_filled (cons_option o (places_named names pairs)) ≡ (is_some o || are_some names pairs)
    by None rest = rest
    by (Some place) rest = refl

pub asked_are : (names : List (List ℕ)) (pairs : List (List ℕ × List ℕ)) → (length names ≡ 0 → ⊥) → are_some names pairs ≡ not (length (pairs_asked names pairs) == 0)
asked_are names pairs some = sym (any_there names pairs) ∙ asked_there names pairs some

pub some_more : (names : List (List ℕ)) (name n : List ℕ) (pairs : List (List ℕ × List ℕ)) (place : Option ℕ) → n ≡ name → place ≡ place_of n pairs → is_some place ≡ true
    → true ≡ are_some (names ++ name ∷ []) pairs
some_more names name n pairs place same at some = some_there names name n pairs place same at some ∙ any_there (names ++ name ∷ []) pairs

pub none_more : (names : List (List ℕ)) (name n : List ℕ) (pairs : List (List ℕ × List ℕ)) (place : Option ℕ) (found : Bool) → n ≡ name → place ≡ place_of n pairs → is_some place ≡ false
    → found ≡ are_some names pairs → found ≡ are_some (names ++ name ∷ []) pairs
none_more names name n pairs place found same at none so_far =
    none_there names name n pairs place found same at none (so_far ∙ sym (any_there names pairs)) ∙ any_there (names ++ name ∷ []) pairs

-- another value for a field that is there

same_count : (pairs : List (List ℕ × List ℕ)) (place : ℕ) (value : List ℕ) → length (with_value_at pairs place value) ≡ length pairs
same_count [] place value = refl
same_count (pair ∷ pairs) zero value = refl
same_count (pair ∷ pairs) (suc place) value = ap suc (same_count pairs place value)

pub field_suits : (attrs : Attrs) (contents : Contents) (pairs : List (List ℕ × List ℕ)) (place : ℕ) (value : List ℕ) → IsCollection attrs contents → contents ≡ map_of pairs
    → place < length pairs → IsElement value → SuitsInsertion (insertion.OfField place value) attrs contents
field_suits attrs contents pairs place value is same fits small =
    let of_map = subst (IsCollection attrs) same is in
    subst (SuitsInsertion (insertion.OfField place value) attrs) (sym same) (record {
      fits = (fits, small);
      within = omega (arith, same_count pairs place value, of_map.within);
    })

-- where the field is not there, an upsert is an insert
pub upsert_plans : (held : Held) (pairs : List (List ℕ × List ℕ)) (field value : List ℕ) (plan : Planned) → held.contents ≡ map_of pairs → place_of field pairs ≡ None
    → Plans false (on_map (map_insert field value)) held plan → Plans false (on_map (map_upsert field value)) held plan
upsert_plans held pairs field value plan same none plans counter key =
    let rows = ap (on_map (map_upsert field value) held.attrs) same
    ∙ ap (λ o. Some (upserted field value held.attrs pairs o)) none
    ∙ sym (ap (λ o. Some (new_inserted field value held.attrs pairs o)) none)
    ∙ sym (ap (on_map (map_insert field value) held.attrs) same) in
    subst (λ (o : Option Outcome). IsPlan counter key held (plan_of_held counter key false held.attrs o) plan) (sym rows) (plans counter key)
