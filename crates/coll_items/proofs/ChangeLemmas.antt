-- What changes of a collection leave.
use Rattle.std.proofs.Common.{◌≡◌, ℕ, suc, ◌+◌, ◌≤◌, Bool, List, [], ◌∷◌, ◌++◌, All, length, Option, Some, None, zero, take, drop, filter, slice_range, refl, sym, subst, ap, ◌∙◌, arith, length-append, length-take, length-drop}
use Rattle.std.specs.Prelude.{not, insert}
use Rattle.std.specs.List.{remove_range}
use Rattle.std.proofs.lemmas.List.Edits.{split_between}
use Rattle.std.proofs.lemmas.List.Elements.{All-append, All-take, All-drop, All-filter, All-nil, All-cons, All-push, All-head, All-tail}
use Rattle.std.proofs.lemmas.List.Filters.{length-filter_both, sum_by-filter_both}
use Rattle.std.proofs.lemmas.List.Sums.{sum_by-append, sum_by-take-drop}
use Rattle.arc_core.specs.CollectionSize.{value_size, values_size, pair_size, pairs_size}
use Rattle.arc_core.specs.declared.attributes.Attrs.{Attrs}
use Rattle.arc_core.specs.Item.{Contents, list, set, map, IsElement, IsField, IsCollection, contents_size}
use Rattle.arc_core.specs.MapReading.{is_named, with_value_at}
use Rattle.arc_core.specs.declared.collections.Side.{Side}
use Rattle.arc_core.specs.declared.collections.Side.TheVariants.{Low, High}
use Rattle.coll_items.specs.Changing.{inserted, perhaps_trimmed, taken_out, FitsOut, SuitsInsertion}
use Rattle.coll_items.specs.Holding.{AreApart}
use Rattle.coll_items.specs.declared.changes.Insertion.{Insertion}
use Rattle.coll_items.specs.declared.changes.Insertion.TheVariants as insertion
use Rattle.coll_items.specs.declared.changes.Removal.{Removal}
use Rattle.coll_items.specs.declared.changes.Removal.TheVariants as removal

-- a part of a list, which has no more elements and no greater ones
record IsPart {X : Type 0} (Good : X → Type 0) (size : List X → ℕ) (xs part : List X) : Type 0 where
  good : All Good xs → All Good part
  count : length part ≤ length xs
  sum : size part ≤ size xs

range_part : (xs : List (List ℕ)) (low high : ℕ) → low ≤ high → IsPart IsElement values_size xs (remove_range xs low high)
range_part xs low high order =
    let whole = ap values_size (split_between xs low high order) ∙ sum_by-append value_size (take low xs) (slice_range xs low high ++ drop high xs) in
    record {
      good = λ all. All-append IsElement (take low xs) (drop high xs) (All-take IsElement low xs all) (All-drop IsElement high xs all);
      count = omega (arith, length-append (take low xs) (drop high xs), length-take low xs, length-drop high xs);
      sum = omega (arith, whole, sum_by-append value_size (slice_range xs low high) (drop high xs), sum_by-append value_size (take low xs) (drop high xs));
    }

drop_part : (xs : List (List ℕ)) (n : ℕ) → IsPart IsElement values_size xs (drop n xs)
drop_part xs n = record {
  good = All-drop IsElement n xs;
  count = omega (arith, length-drop n xs);
  sum = omega (arith, sum_by-take-drop value_size xs n);
}

abbrev IsPair : List ℕ × List ℕ → Type 0
IsPair pair = IsField pair.0 × IsElement pair.1

filter_part : (stays : List ℕ × List ℕ → Bool) (pairs : List (List ℕ × List ℕ)) → IsPart IsPair pairs_size pairs (filter stays pairs)
filter_part stays pairs =
    let others : List ℕ × List ℕ → Bool = λ pair. not (stays pair) in
    record {
      good = All-filter stays IsPair pairs;
      count = omega (arith, length-filter_both stays others (λ pair. refl) pairs);
      sum = omega (arith, sum_by-filter_both stays others (λ pair. refl) pair_size pairs);
    }

-- the rules stay where a part is left
list_left : (attrs : Attrs) (xs part : List (List ℕ)) → IsCollection attrs (list xs) → IsPart IsElement values_size xs part → IsCollection attrs (list part)
list_left attrs xs part is p = record { elements = p.good is.elements; action = is.action; within = omega (arith, p.count, is.within); least = is.least; most = is.most; no_bkeys = is.no_bkeys }

set_left : (attrs : Attrs) (xs part : List (List ℕ)) → IsCollection attrs (set xs) → IsPart IsElement values_size xs part → AreApart (set part) → IsCollection attrs (set part)
set_left attrs xs part is p apart = record { elements = (p.good is.elements.0, apart); action = is.action; within = omega (arith, p.count, is.within); least = is.least; most = is.most; no_bkeys = is.no_bkeys }

map_left : (attrs : Attrs) (xs part : List (List ℕ × List ℕ)) → IsCollection attrs (map xs) → IsPart IsPair pairs_size xs part → AreApart (map part) → IsCollection attrs (map part)
map_left attrs xs part is p apart = record { elements = (p.good is.elements.0, apart); action = is.action; within = omega (arith, p.count, is.within); least = is.least; most = is.most; no_bkeys = is.no_bkeys }

-- what a removal leaves keeps the rules, and is no larger
Leaves : Attrs → (old new : Contents) → Type 0
Leaves attrs old new = IsCollection attrs new × (contents_size new ≤ contents_size old)

left_by : (taken : Removal) (attrs : Attrs) (old : Contents) → IsCollection attrs old → FitsOut taken old → AreApart (taken_out taken old) → Leaves attrs old (taken_out taken old)
unfolding Leaves
left_by (removal.FromList low high) attrs (list xs) is fits apart =
    let p = range_part xs low (high + 1) (omega (arith, fits.0)) in (list_left attrs xs _ is p, p.sum)
left_by (removal.FromSet place) attrs (set xs) is fits apart =
    let p = range_part xs place (suc place) (omega arith) in (set_left attrs xs _ is p apart, p.sum)
left_by (removal.FirstOfSet number) attrs (set xs) is fits apart = let p = drop_part xs number in (set_left attrs xs _ is p apart, p.sum)
left_by (removal.FromMap names) attrs (map pairs) is fits apart =
    let p = filter_part (λ pair. not (is_named names.now pair.0)) pairs in (map_left attrs pairs _ is p apart, p.sum)
left_by removal.AllOfMap attrs (map pairs) is fits apart =
    (map_left attrs pairs [] is (record { good = λ all. All-nil IsPair; count = omega arith; sum = omega arith }) apart, omega arith)
left_by _ attrs _ is fits apart = absurd fits

pub left_over : (taken : Removal) (attrs : Attrs) (old new : Contents) → IsCollection attrs old → FitsOut taken old → new ≡ taken_out taken old → AreApart new
    → IsCollection attrs new × (contents_size new ≤ contents_size old)
unfolding Leaves
left_over taken attrs old new is fits e apart =
    subst (Leaves attrs old) (sym e) (left_by taken attrs old is fits (subst AreApart e apart))

-- the elements with one more, or with another value for a field

trimmed_good : (trim : Option Side) (xs : List (List ℕ)) → All IsElement xs → All IsElement (perhaps_trimmed trim xs)
trimmed_good None xs all = all
trimmed_good (Some Low) xs all = All-drop IsElement 1 xs all
trimmed_good (Some High) xs all = All-take IsElement _ xs all

insert_good : (xs : List (List ℕ)) (place : ℕ) (x : List ℕ) → IsElement x → All IsElement xs → All IsElement (insert xs place x)
insert_good xs place x good all = All-append IsElement (take place xs) (x ∷ drop place xs) (All-take IsElement place xs all) (All-cons IsElement x (drop place xs) good (All-drop IsElement place xs all))

replace_good : (pairs : List (List ℕ × List ℕ)) (place : ℕ) (x : List ℕ) → IsElement x → All IsPair pairs → All IsPair (with_value_at pairs place x)
replace_good [] place x good all = all
replace_good (pair ∷ pairs) zero x good all = All-cons IsPair (pair.0, x) pairs ((All-head IsPair pair pairs all).0, good) (All-tail IsPair pair pairs all)
replace_good (pair ∷ pairs) (suc place) x good all = All-cons IsPair pair (with_value_at pairs place x) (All-head IsPair pair pairs all) (replace_good pairs place x good (All-tail IsPair pair pairs all))

put_by : (put : Insertion) (attrs : Attrs) (old : Contents) → IsCollection attrs old → SuitsInsertion put attrs old → AreApart (inserted put old) → IsCollection attrs (inserted put old)
put_by (insertion.IntoList place trim value) attrs (list xs) is suits apart = record {
  elements = trimmed_good trim (insert xs place value) (insert_good xs place value suits.fits.1 is.elements);
  action = is.action;
  within = suits.within;
  least = is.least;
  most = is.most;
  no_bkeys = is.no_bkeys;
}
put_by (insertion.IntoSet value) attrs (set xs) is suits apart = record {
  elements = (All-push IsElement xs value.items is.elements.0 suits.fits.1, apart);
  action = is.action;
  within = suits.within;
  least = is.least;
  most = is.most;
  no_bkeys = is.no_bkeys;
}
put_by (insertion.IntoMap field value) attrs (map pairs) is suits apart = record {
  elements = (All-push IsPair pairs (field, value) is.elements.0 (suits.fits.1, suits.fits.2), apart);
  action = is.action;
  within = suits.within;
  least = is.least;
  most = is.most;
  no_bkeys = is.no_bkeys;
}
put_by (insertion.OfField place value) attrs (map pairs) is suits apart = record {
  elements = (replace_good pairs place value suits.fits.1 is.elements.0, apart);
  action = is.action;
  within = suits.within;
  least = is.least;
  most = is.most;
  no_bkeys = is.no_bkeys;
}
put_by _ attrs _ is suits apart = absurd suits.fits

-- with an element more the rules stay
pub put_in : (put : Insertion) (attrs : Attrs) (old new : Contents) → IsCollection attrs old → SuitsInsertion put attrs old → new ≡ inserted put old → AreApart new → IsCollection attrs new
put_in put attrs old new is suits e apart = subst (IsCollection attrs) (sym e) (put_by put attrs old is suits (subst AreApart e apart))
