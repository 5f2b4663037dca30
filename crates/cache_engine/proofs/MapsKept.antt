-- What requests on maps leave keeps the rules of a map.
use Rattle.std.proofs.Common.{◌≡◌, ℕ, zero, suc, ◌≤◌, ◌<◌, ◌==◌, Bool, true, false, cond, not, List, [], ◌∷◌, ◌++◌, All, length, filter, Option, Some, None, refl, sym, ap, ◌∙◌, subst, arith, length-append}
use Rattle.std.specs.Prelude.{◌≢◌, if◌then◌else◌}
use Rattle.std.proofs.lemmas.Bool.Decides.{nat_tests}
use Rattle.std.proofs.lemmas.List.{map_push}
use Rattle.std.proofs.lemmas.List.Elements.{All-filter, All-nil, All-cons, All-push, All-head, All-tail}
use Rattle.std.proofs.lemmas.List.Filters.{length-filter_both}
use Rattle.std.proofs.lemmas.List.Kept.{AllPairs-filter}
use Rattle.arc_core.specs.declared.attributes.Attrs.{Attrs}
use Rattle.arc_core.specs.declared.collections.Take.{Take}
use Rattle.arc_core.specs.declared.replies.Reply.TheVariants as reply
use Rattle.arc_core.specs.declared.replies.Word.{Word}
use Rattle.arc_core.specs.declared.replies.Word.TheVariants as word
use Rattle.arc_core.specs.CollectionRows.{stays, becomes}
use Rattle.arc_core.specs.Item.{map, IsCollection, IsElement, IsField}
use Rattle.arc_core.specs.MapReading.{HaveDistinctFields, fields_of, is_named, place_of, with_value_at}
use Rattle.arc_core.specs.MapRows.{map_insert, map_update, map_upsert, map_delete, map_get, put_last, put_at, new_inserted, held_updated, upserted, pairs_asked, pairs_left}
use Rattle.cache_engine.proofs.CollectionsKept.{Leaves, either_leaves, removed_leaves, read_leaves}
use Rattle.arc_core.specs.SetReading.{AreDistinct}
use Rattle.cache_engine.proofs.SetsKept.{distinct_push}

abbrev IsPair : List ℕ × List ℕ → Type 0
IsPair pair = IsField pair.0 × IsElement pair.1

-- other pairs, which are no more than maxcount
other_pairs : (attrs : Attrs) (old pairs : List (List ℕ × List ℕ)) → IsCollection attrs (map old) → All IsPair pairs → HaveDistinctFields pairs
    → length pairs ≤ attrs.maxcount → IsCollection attrs (map pairs)
other_pairs attrs old pairs is good distinct few = record { elements = (good, distinct); action = is.action; within = few; least = is.least; most = is.most; no_bkeys = is.no_bkeys }

same_fields : (pairs : List (List ℕ × List ℕ)) (place : ℕ) (value : List ℕ) → fields_of (with_value_at pairs place value) ≡ fields_of pairs
same_fields [] place value = refl
same_fields (pair ∷ pairs) zero value = refl
same_fields (pair ∷ pairs) (suc place) value = ap (λ l. pair.0 ∷ l) (same_fields pairs place value)

same_count : (pairs : List (List ℕ × List ℕ)) (place : ℕ) (value : List ℕ) → length (with_value_at pairs place value) ≡ length pairs
same_count [] place value = refl
same_count (pair ∷ pairs) zero value = refl
same_count (pair ∷ pairs) (suc place) value = ap suc (same_count pairs place value)

other_value : (pairs : List (List ℕ × List ℕ)) (place : ℕ) (value : List ℕ) → IsElement value → All IsPair pairs → All IsPair (with_value_at pairs place value)
other_value [] place value small all = all
other_value (pair ∷ pairs) zero value small all = All-cons IsPair (pair.0, value) pairs ((All-head IsPair pair pairs all).0, small) (All-tail IsPair pair pairs all)
other_value (pair ∷ pairs) (suc place) value small all =
    All-cons IsPair pair (with_value_at pairs place value) (All-head IsPair pair pairs all) (other_value pairs place value small (All-tail IsPair pair pairs all))

-- the fields of the pairs that pass a test on fields
fields-filter : (passes : List ℕ → Bool) (pairs : List (List ℕ × List ℕ)) → fields_of (filter (λ pair. passes pair.0) pairs) ≡ filter passes (fields_of pairs)
fields-filter passes [] = refl
fields-filter passes (pair ∷ pairs) = by (passes pair.0) (filter (λ (pair : List ℕ × List ℕ). passes pair.0) pairs) ∙ ap (λ l. cond (passes pair.0) (pair.0 ∷ l) l) (fields-filter passes pairs)
  where
    by : (b : Bool) (rest : List (List ℕ × List ℕ)) → fields_of (cond b (pair ∷ rest) rest) ≡ cond b (pair.0 ∷ fields_of rest) (fields_of rest)
    by true rest = refl
    by false rest = refl

module _ (attrs : Attrs) (pairs : List (List ℕ × List ℕ)) (is : IsCollection attrs (map pairs)) where
  one_more : (field value : List ℕ) → IsField field → IsElement value → place_of field pairs ≡ None → (length pairs == attrs.maxcount) ≡ false
      → IsCollection attrs (map (pairs ++ (field, value) ∷ []))
  one_more field value named small none room =
      other_pairs attrs pairs (pairs ++ (field, value) ∷ []) is (All-push IsPair pairs (field, value) is.elements.0 (named, small))
      (subst AreDistinct (sym (map_push (λ (pair : List ℕ × List ℕ). pair.0) pairs (field, value))) (distinct_push field (fields_of pairs) is.elements.1 none))
      (let fewer : length pairs < attrs.maxcount = grind (arith, nat_tests, room, is.within) in omega (arith, length-append pairs ((field, value) ∷ []), fewer))

  last_leaves : (field value : List ℕ) → IsField field → IsElement value → place_of field pairs ≡ None → Leaves attrs (put_last field value attrs pairs)
  last_leaves field value named small none = by (length pairs == attrs.maxcount) refl
    where
      by : (full : Bool) → (length pairs == attrs.maxcount) ≡ full
          → Leaves attrs (if full then stays (reply.Word word.Overflowed) else becomes (map (pairs ++ (field, value) ∷ [])) (reply.Word word.Stored))
      by true is = tt
      by false is = one_more field value named small none is

  at_leaves : (place : ℕ) (value : List ℕ) (answer : Word) → IsElement value → Leaves attrs (put_at place value pairs answer)
  at_leaves place value answer small =
      other_pairs attrs pairs (with_value_at pairs place value) is (other_value pairs place value small is.elements.0)
      (subst AreDistinct (sym (same_fields pairs place value)) is.elements.1)
      (omega (arith, same_count pairs place value, is.within))

  new_leaves : (field value : List ℕ) (place : Option ℕ) → IsField field → IsElement value → place_of field pairs ≡ place → Leaves attrs (new_inserted field value attrs pairs place)
  new_leaves field value None named small at = last_leaves field value named small at
  new_leaves field value (Some place) named small at = tt

  pub map_insert_leaves : (field value : List ℕ) → IsField field → IsElement value → Leaves attrs (map_insert field value attrs pairs)
  map_insert_leaves field value named small = new_leaves field value (place_of field pairs) named small refl

  updated_leaves : (value : List ℕ) (place : Option ℕ) → IsElement value → Leaves attrs (held_updated value pairs place)
  updated_leaves value None small = tt
  updated_leaves value (Some place) small = at_leaves place value word.Updated small

  pub map_update_leaves : (field value : List ℕ) → IsElement value → Leaves attrs (map_update field value attrs pairs)
  map_update_leaves field value small = updated_leaves value (place_of field pairs) small

  upserted_leaves : (field value : List ℕ) (place : Option ℕ) → IsField field → IsElement value → place_of field pairs ≡ place → Leaves attrs (upserted field value attrs pairs place)
  upserted_leaves field value None named small at = last_leaves field value named small at
  upserted_leaves field value (Some place) named small at = at_leaves place value word.Replaced small

  pub map_upsert_leaves : (field value : List ℕ) → IsField field → IsElement value → Leaves attrs (map_upsert field value attrs pairs)
  map_upsert_leaves field value named small = upserted_leaves field value (place_of field pairs) named small refl

  filtered : (passes : List ℕ → Bool) → IsCollection attrs (map (filter (λ pair. passes pair.0) pairs))
  filtered passes =
      let left : List ℕ × List ℕ → Bool = λ pair. passes pair.0 in
      other_pairs attrs pairs (filter left pairs) is (All-filter left IsPair pairs is.elements.0)
      (subst AreDistinct (sym (fields-filter passes pairs)) (AllPairs-filter (λ x y. x ≢ y) passes (fields_of pairs) is.elements.1))
      (omega (arith, length-filter_both left (λ pair. not (left pair)) (λ pair. refl) pairs, is.within))

  others_left : (fields : List (List ℕ)) → IsCollection attrs (map (pairs_left fields pairs))
  others_left [] = other_pairs attrs pairs [] is (All-nil IsPair) (λ i j d below within. absurd (omega (arith, within))) (omega arith)
  others_left (field ∷ fields) = filtered (λ name. not (is_named (field ∷ fields) name))

  pub map_delete_leaves : (fields : List (List ℕ)) (drop_empty : Bool) → Leaves attrs (map_delete fields drop_empty attrs pairs)
  map_delete_leaves fields drop_empty =
      either_leaves attrs (length (pairs_asked fields pairs) == 0) (stays (reply.Word word.NotFoundElement)) _ tt
      (removed_leaves attrs drop_empty (map (pairs_left fields pairs)) (others_left fields))

  pub map_get_leaves : (fields : List (List ℕ)) (take_out : Take) → Leaves attrs (map_get fields take_out attrs pairs)
  map_get_leaves fields take_out =
      either_leaves attrs (length (pairs_asked fields pairs) == 0) (stays (reply.Word word.NotFoundElement)) _ tt
      (read_leaves attrs take_out attrs.flags _ (map (pairs_left fields pairs)) (others_left fields))
