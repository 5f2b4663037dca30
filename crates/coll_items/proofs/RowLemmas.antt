-- Rows of what a collection holds: one more row, and how long their text may get.
use Rattle.std.proofs.Common.{◌≡◌, ℕ, slice_get, Some, zero, suc, ◌+◌, ◌*◌, ◌-◌, ◌/◌, ◌%◌, ◌^◌, ◌≤◌, ◌<◌, ◌==◌, Bool, true, false, cond, List, [], ◌∷◌, ◌++◌, All, length, map, take, drop, reverse, get_or, sym, ap, subst, ◌∙◌, arith, length-append, length-take, length-drop, refl}
use Rattle.std.proofs.lemmas.List.{take_more, length-reverse, reverse-append}
use Rattle.std.specs.Prelude.{if◌then◌else◌}
use Rattle.std.specs.Fmt.{digits, digits_onto, digit_glyph}
use Rattle.std.specs.List.{flat_map}
use Rattle.std.proofs.lemmas.Option.{slice_get_within, get_or_from_slice_get}
use Rattle.std.specs.Prelude.{decimal}
use Rattle.std.proofs.lemmas.List.{map_push}
use Rattle.std.proofs.lemmas.List.Concat.{flat_map-cons}
use Rattle.std.proofs.lemmas.List.Elements.{All-drop, All-head, All-push, All-tail, All-take}
use Rattle.arc_core.specs.declared.collections.Take.{Take}
use Rattle.arc_core.specs.declared.collections.Take.TheVariants as taking
use Rattle.arc_core.specs.declared.lists.Part.{Part}
use Rattle.arc_core.specs.declared.rows.Row.{Row}
use Rattle.arc_core.specs.declared.rows.Tail.{Tail}
use Rattle.arc_core.specs.declared.rows.Tail.TheVariants as tail
use Rattle.arc_core.specs.CollectionRows.{plain_row, field_row}
use Rattle.arc_core.specs.declared.attributes.Attrs.{Attrs}
use Rattle.arc_core.specs.Item.{Contents, list, set, IsCollection, IsElement, IsField}
use Rattle.arc_core.specs.ListRows.{values_of}
use Rattle.arc_core.specs.ReplyText.{element_text, elements_text, tail_text, reply_text}
use Rattle.coll_items.specs.Planning.{IsShort, IsTaken, reply_of}
use Rattle.coll_items.specs.declared.changes.Removal.{Removal}
use Rattle.coll_items.specs.declared.planned.Planned.{Planned}
use Rattle.coll_items.specs.declared.planned.Removed.TheVariants as removed

-- the rows so far, and one more
pub row_more : {X : Type 0} (row : X → Row) (xs : List X) (i : ℕ) (x : X) (rows new : List Row) → slice_get xs i ≡ Some x
    → rows ≡ map row (take i xs) → new ≡ rows ++ row x ∷ [] → new ≡ map row (take (i + 1) xs)
row_more row xs i x rows new at so_far now =
    let one = ap (λ y. map row (take i xs) ++ row y ∷ []) (get_or_from_slice_get xs i x x at) in
    now ∙ ap (λ l. l ++ row x ∷ []) so_far
    ∙ sym (ap (map row) (take_more xs i x (slice_get_within xs i x at)) ∙ map_push row (take i xs) (get_or xs i x) ∙ one)

-- the length of a text

either_long : (b : Bool) (xs ys : List ℕ) (n : ℕ) → length xs ≤ n → length ys ≤ n → length (cond b xs ys) ≤ n
either_long true xs ys n p q = p
either_long false xs ys n p q = q

digits_long : (k base : ℕ) (upper : Bool) (n : ℕ) (more : List ℕ) → length (digits_onto k base upper n more) ≤ k + length more
digits_long zero base upper n more = omega arith
digits_long (suc k) base upper n more =
    let digit = digit_glyph upper (n % base) in
    either_long (n / base == 0) (digit ∷ more) (digits_onto k base upper (n / base) (digit ∷ more)) (suc k + length more)
    (omega arith)
    (omega (arith, digits_long k base upper (n / base) (digit ∷ more)))

-- a number has at most 64 digits
decimal_long : (n : ℕ) → length (decimal n) ≤ 64
unfolding digits
decimal_long n = digits_long 64 10 false n []

plain_long : (value : List ℕ) → IsElement value → length (element_text (plain_row value)) ≤ 40000
plain_long value small = let number = decimal_long (length value) in simp length-append (omega (arith, small))

field_long : (pair : List ℕ × List ℕ) → IsField pair.0 → IsElement pair.1 → length (element_text (field_row pair)) ≤ 40000
field_long pair field small = let number = decimal_long (length pair.1) in let short = field.short in simp length-append (omega (arith, small))

pub values_long : (xs : List (List ℕ)) → All IsElement xs → length (flat_map element_text (map plain_row xs)) ≤ 40000 * length xs
values_long [] all = omega arith
values_long (x ∷ xs) all =
    let same = ap length (flat_map-cons element_text (plain_row x) (map plain_row xs)) in
    let sum = length-append (element_text (plain_row x)) (flat_map element_text (map plain_row xs)) in
    omega (arith, same, sum, plain_long x (All-head IsElement x xs all), values_long xs (All-tail IsElement x xs all))

pub pairs_long : (xs : List (List ℕ × List ℕ)) → All (λ pair. IsField pair.0 × IsElement pair.1) xs → length (flat_map element_text (map field_row xs)) ≤ 40000 * length xs
pairs_long [] all = omega arith
pairs_long (x ∷ xs) all =
    let head = All-head (λ pair. IsField pair.0 × IsElement pair.1) x xs all in
    let same = ap length (flat_map-cons element_text (field_row x) (map field_row xs)) in
    let sum = length-append (element_text (field_row x)) (flat_map element_text (map field_row xs)) in
    omega (arith, same, sum, field_long x head.0 head.1, pairs_long xs (All-tail (λ pair. IsField pair.0 × IsElement pair.1) x xs all))

tail_long : (end : Tail) → length (tail_text end) ≤ 20
tail_long tail.End = omega arith
tail_long tail.Trimmed = omega arith
tail_long tail.Deleted = omega arith
tail_long tail.DeletedDropped = omega arith

answer_short : (flags : ℕ) (rows : List Row) (end : Tail) → length (flat_map element_text rows) ≤ 2 ^ 60 → length (elements_text flags rows end) < 2 ^ 64
answer_short flags rows end small =
    let first = decimal_long flags in let second = decimal_long (length rows) in let last = tail_long end in
    simp length-append (omega (arith, small))

reply_short : (flags : ℕ) (rows : List Row) → length (flat_map element_text rows) ≤ 2 ^ 60 → (dropped : Bool) → length (reply_text (reply_of (removed.Read flags rows) dropped)) < 2 ^ 64
reply_short flags rows small false = answer_short flags rows tail.Deleted small
reply_short flags rows small true = answer_short flags rows tail.DeletedDropped small

-- what is planned for a read of few and short elements has a short answer
pub read_short : (flags : ℕ) (rows : List Row) (take : Take) (removal : Removal) (plan : Planned) → IsTaken flags rows take removal plan
    → length (flat_map element_text rows) ≤ 2 ^ 60 → IsShort plan
read_short flags rows taking.Keep removal plan is small = subst IsShort (sym is) (answer_short flags rows tail.End small)
read_short flags rows taking.Delete removal plan is small = subst IsShort (sym is) (reply_short flags rows small)
read_short flags rows taking.Drop removal plan is small = subst IsShort (sym is) (reply_short flags rows small)

-- lists

reversed_good : (xs : List (List ℕ)) → All IsElement xs → All IsElement (reverse xs)
reversed_good [] all = all
reversed_good (x ∷ xs) all =
    subst (All IsElement) (sym (reverse-append (x ∷ []) xs))
    (All-push IsElement (reverse xs) x (reversed_good xs (All-tail IsElement x xs all)) (All-head IsElement x xs all))

either_good : (down : Bool) (xs : List (List ℕ)) → All IsElement xs → All IsElement (if down then reverse xs else xs) × (length (if down then reverse xs else xs) ≡ length xs)
either_good true xs all = (reversed_good xs all, length-reverse xs)
either_good false xs all = (all, refl)

-- the answer of a read of a list is short
pub list_read_short : (attrs : Attrs) (contents : Contents) (xs : List (List ℕ)) (part : Part) (flags : ℕ) (rows : List Row) (take_out : Take) (removal : Removal) (plan : Planned)
    → IsCollection attrs contents → contents ≡ list xs → rows ≡ map plain_row (values_of part xs) → IsTaken flags rows take_out removal plan → IsShort plan
list_read_short attrs contents xs part flags rows take_out removal plan is same read taken =
    let of_list = subst (IsCollection attrs) same is in
    let up : List (List ℕ) = take (part.high + 1 - part.low) (drop part.low xs) in
    let good = either_good part.down up (All-take IsElement (part.high + 1 - part.low) (drop part.low xs) (All-drop IsElement part.low xs of_list.elements)) in
    let few = length-take (part.high + 1 - part.low) (drop part.low xs) in
    let fewer = length-drop part.low xs in
    read_short flags rows take_out removal plan taken
    (omega (arith, ap (λ r. length (flat_map element_text r)) read, values_long (values_of part xs) good.0, good.1, few, fewer, of_list.within, of_list.most))

-- sets

-- the answer of a read of a set is short
pub set_read_short : (attrs : Attrs) (contents : Contents) (xs : List (List ℕ)) (number flags : ℕ) (rows : List Row) (take_out : Take) (removal : Removal) (plan : Planned)
    → IsCollection attrs contents → contents ≡ set xs → rows ≡ map plain_row (take number xs) → IsTaken flags rows take_out removal plan → IsShort plan
set_read_short attrs contents xs number flags rows take_out removal plan is same read taken =
    let of_set = subst (IsCollection attrs) same is in
    let good = All-take IsElement number xs of_set.elements.0 in
    read_short flags rows take_out removal plan taken
    (omega (arith, ap (λ r. length (flat_map element_text r)) read, values_long (take number xs) good, length-take number xs, of_set.within, of_set.most))
