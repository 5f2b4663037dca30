-- What requests on sets leave keeps the rules of a set.
use Rattle.std.proofs.Common.{◌≡◌, ◌≢◌, ℕ, suc, ◌+◌, ◌≤◌, ◌<◌, ◌==◌, ◌||◌, Bool, true, false, List, [], ◌∷◌, ◌++◌, All, length, get_or, take, drop, remove, is_some, Option, Some, None, refl, sym, ◌∙◌, subst, arith, length-append, length-take, length-drop}
use Rattle.std.specs.Prelude.{bytes_eq, if◌then◌else◌}
use Rattle.std.specs.List.{list_any}
use Rattle.std.proofs.lemmas.Bool.{false≢true, true≢false}
use Rattle.std.proofs.lemmas.Bool.Decides.{nat_tests}
use Rattle.std.proofs.lemmas.List.{get_or-drop}
use Rattle.std.proofs.lemmas.List.Elements.{All-append, All-take, All-drop, All-nil, All-cons, All-push}
use Rattle.std.proofs.lemmas.List.Quantifiers.{position-Some, all_pairs_push, all_pairs_remove}
use Rattle.std.proofs.lemmas.Slice.Eq.{bytes_eq-Decides}
use Rattle.arc_core.specs.declared.attributes.Attrs.{Attrs}
use Rattle.arc_core.specs.declared.collections.Take.{Take}
use Rattle.arc_core.specs.declared.replies.Reply.TheVariants as reply
use Rattle.arc_core.specs.declared.replies.Word.TheVariants as word
use Rattle.arc_core.specs.CollectionRows.{stays, becomes}
use Rattle.arc_core.specs.Item.{set, IsCollection, IsElement}
use Rattle.arc_core.specs.SetReading.{AreDistinct, place_of}
use Rattle.arc_core.specs.SetRows.{set_insert, set_delete, set_get, value_deleted, number_read}
use Rattle.arc_core.proofs.MappedLists.{list_any-position_None}
use Rattle.cache_engine.proofs.CollectionsKept.{Leaves, either_leaves, removed_leaves, read_leaves}

-- other values, which are no more than maxcount
other_values : (attrs : Attrs) (old values : List (List ℕ)) → IsCollection attrs (set old) → All IsElement values → AreDistinct values
    → length values ≤ attrs.maxcount → IsCollection attrs (set values)
other_values attrs old values is good distinct few = record { elements = (good, distinct); action = is.action; within = few; least = is.least; most = is.most; no_bkeys = is.no_bkeys }

-- AN INSERT

none_equal : (x : List ℕ) (xs : List (List ℕ)) → list_any (bytes_eq x) xs ≡ false → All (λ y. y ≢ x) xs
none_equal x [] none = All-nil (λ y. y ≢ x)
none_equal x (y ∷ ys) none = by (bytes_eq x y) refl none (none_equal x ys)
  where
    by : (b : Bool) → bytes_eq x y ≡ b → (b || list_any (bytes_eq x) ys) ≡ false → (list_any (bytes_eq x) ys ≡ false → All (λ y. y ≢ x) ys) → All (λ y. y ≢ x) (y ∷ ys)
    by true is none rest = absurd (true≢false none)
    by false is none rest = All-cons (λ y. y ≢ x) y ys (λ same. false≢true (sym is ∙ (bytes_eq-Decides x y).1 (sym same))) (rest none)

-- a value that has no place is another than each
pub all_others : (x : List ℕ) (xs : List (List ℕ)) → place_of x xs ≡ None → All (λ y. y ≢ x) xs
all_others x xs none = none_equal x xs (list_any-position_None (bytes_eq x) xs none)

pub distinct_push : (x : List ℕ) (xs : List (List ℕ)) → AreDistinct xs → place_of x xs ≡ None → AreDistinct (xs ++ x ∷ [])
distinct_push x xs distinct none = all_pairs_push (λ x y. x ≢ y) xs x distinct (all_others x xs none)

module _ (attrs : Attrs) (xs : List (List ℕ)) (is : IsCollection attrs (set xs)) where
  one_more : (value : List ℕ) → IsElement value → place_of value xs ≡ None → (length xs == attrs.maxcount) ≡ false → IsCollection attrs (set (xs ++ value ∷ []))
  one_more value small none room =
      other_values attrs xs (xs ++ value ∷ []) is (All-push IsElement xs value is.elements.0 small) (distinct_push value xs is.elements.1 none)
      (let fewer : length xs < attrs.maxcount = grind (arith, nat_tests, room, is.within) in omega (arith, length-append xs (value ∷ []), fewer))

  pub set_insert_leaves : (value : List ℕ) → IsElement value → Leaves attrs (set_insert value attrs xs)
  set_insert_leaves value small = by (place_of value xs) refl (length xs == attrs.maxcount) refl
    where
      by : (place : Option ℕ) → place_of value xs ≡ place → (full : Bool) → (length xs == attrs.maxcount) ≡ full
          → Leaves attrs (if is_some place then stays (reply.Word word.ElementExists) else if full then stays (reply.Word word.Overflowed)
          else becomes (set (xs ++ value ∷ [])) (reply.Word word.Stored))
      by (Some place) at full is = tt
      by None at true is = tt
      by None at false is = one_more value small at is

-- A REMOVAL

distinct_drop : (n : ℕ) (xs : List (List ℕ)) → AreDistinct xs → AreDistinct (drop n xs)
distinct_drop n xs distinct i j d below within =
    subst (λ x. x ≢ get_or (drop n xs) j d) (sym (get_or-drop n xs i d))
    (subst (λ y. get_or xs (n + i) d ≢ y) (sym (get_or-drop n xs j d)) (distinct (n + i) (n + j) d (omega (arith, below)) (omega (arith, within, length-drop n xs))))

module _ (attrs : Attrs) (xs : List (List ℕ)) (is : IsCollection attrs (set xs)) where
  value_left : (place : ℕ) → place < length xs → IsCollection attrs (set (remove xs place))
  value_left place fits =
      let end = suc place in
      other_values attrs xs (remove xs place) is
      (All-append IsElement (take place xs) (drop end xs) (All-take IsElement place xs is.elements.0) (All-drop IsElement end xs is.elements.0))
      (all_pairs_remove (λ x y. x ≢ y) xs place fits is.elements.1)
      (omega (arith, length-append (take place xs) (drop end xs), length-take place xs, length-drop end xs, is.within))

  deleted_leaves : (value : List ℕ) (drop_empty : Bool) (place : Option ℕ) → place_of value xs ≡ place → Leaves attrs (value_deleted drop_empty xs place)
  deleted_leaves value drop_empty None at = tt
  deleted_leaves value drop_empty (Some place) at =
      removed_leaves attrs drop_empty (set (remove xs place)) (value_left place (position-Some (bytes_eq value) xs place [] at).0)

  pub set_delete_leaves : (value : List ℕ) (drop_empty : Bool) → Leaves attrs (set_delete value drop_empty attrs xs)
  set_delete_leaves value drop_empty = deleted_leaves value drop_empty (place_of value xs) refl

  first_left : (n : ℕ) → IsCollection attrs (set (drop n xs))
  first_left n =
      other_values attrs xs (drop n xs) is (All-drop IsElement n xs is.elements.0) (distinct_drop n xs is.elements.1) (omega (arith, length-drop n xs, is.within))

  pub set_get_leaves : (number : ℕ) (take_out : Take) → Leaves attrs (set_get number take_out attrs xs)
  set_get_leaves number take_out =
      either_leaves attrs (length xs == 0) (stays (reply.Word word.NotFoundElement)) _ tt
      (read_leaves attrs take_out attrs.flags _ (set (drop (number_read number xs) xs)) (first_left (number_read number xs)))
