-- How long the text of a reply may get.
use Rattle.std.proofs.Common.{◌≡◌, ◌+◌, ◌*◌, ◌^◌, ◌/◌, ◌%◌, ◌≤◌, ◌<◌, ℕ, zero, suc, List, [], ◌∷◌, ◌++◌, length, Option, Some, None, Bool, true, false, cond, refl, sym, ap, ◌∙◌, arith, length-append, append_assoc}
use Rattle.std.proofs.lemmas.Bool.Decides.{nat_tests}
use Rattle.std.specs.Prelude.{◌==◌, codes, decimal}
use Rattle.std.specs.Fmt.{digits, digits_onto, digit_glyph}
use Rattle.std.specs.Option.{option_map_or}
use Rattle.std.specs.List.{flat_map}
use Rattle.std.proofs.lemmas.List.Elements.{All-head, All-tail}
use Rattle.arc_core.specs.Words.{AreKeys}
use Rattle.arc_core.specs.Key.{IsKey}
use Rattle.arc_core.specs.Item.{Item, key_value, collection, IsItem}
use Rattle.arc_core.specs.declared.replies.ValueRow.{ValueRow}
use Rattle.arc_core.specs.declared.replies.Reply.TheVariants as reply
use Rattle.arc_core.specs.Places.{Places, found}
use Rattle.arc_core.specs.Step.{rows_of_item, rows_of}
use Rattle.arc_core.specs.ReplyText.{row_text, reply_text, line_end}

key_len : (key : List ℕ) → IsKey key → length key ≤ 16000
key_len key is = grind (arith, nat_tests)

either_long : (b : Bool) (xs ys : List ℕ) (n : ℕ) → length xs ≤ n → length ys ≤ n → length (cond b xs ys) ≤ n
either_long true xs ys n p q = p
either_long false xs ys n p q = q

digits_long : (k base : ℕ) (upper : Bool) (n : ℕ) (more : List ℕ) → length (digits_onto k base upper n more) ≤ k + length more
digits_long zero base upper n more = omega arith
digits_long (suc k) base upper n more =
    let digit = digit_glyph upper (n % base) in
    either_long (n / base == 0) (digit ∷ more) (digits_onto k base upper (n / base) (digit ∷ more)) (suc k + length more)
    (omega arith)
    (omega (arith, digits_long k base upper (n / base) (digit ∷ more)))

-- a number has at most 64 digits
pub decimal_long : (n : ℕ) → length (decimal n) ≤ 64
unfolding digits
decimal_long n = digits_long 64 10 false n []

unique_long : (o : Option ℕ) → length (option_map_or (λ unique. codes " " ++ decimal unique) o []) ≤ 65
unique_long None = omega arith
unique_long (Some n) = omega (arith, decimal_long n)

-- the text of a row has at most 2 MiB
row_long : (row : ValueRow) → length row.key ≤ 16000 → length row.value ≤ 1048576 → length (row_text row) ≤ 2097152
row_long row key value =
    let flags = decimal_long row.flags in
    let number = decimal_long (length row.value) in
    let unique = unique_long row.unique in
    simp length-append (omega arith)

item_long : (unique : Bool) (key : List ℕ) (item : Item) → IsKey key → IsItem item → length (flat_map row_text (rows_of_item unique key item)) ≤ 2097152
item_long unique key (key_value flags expiry number value) is ok =
    let row : ValueRow = record { key = key; flags = flags; unique = cond unique (Some number) None; value = value } in
    omega (arith, row_long row (key_len key is) ok, length-append (row_text row) [])
item_long unique key (collection attrs contents) is ok = omega arith

texts_of : (rows more : List ValueRow) → flat_map row_text (rows ++ more) ≡ flat_map row_text rows ++ flat_map row_text more
texts_of [] more = refl
texts_of (row ∷ rows) more = ap (λ t. row_text row ++ t) (texts_of rows more) ∙ sym (append_assoc (row_text row) (flat_map row_text rows) (flat_map row_text more))

rows_long : (unique : Bool) (places : Places Item) (keys : List (List ℕ)) → ((key : List ℕ) (item : Item) → found key places ≡ Some item → IsItem item) → AreKeys keys → length (flat_map row_text (rows_of unique places keys)) ≤ 2097152 * length keys
rows_long unique places [] ok are = omega arith
rows_long unique places (key ∷ keys) ok are =
    let more = rows_long unique places keys ok (All-tail IsKey key keys are) in
    elim (found key places) as (λ o. found key places ≡ o → length (flat_map row_text (option_map_or (rows_of_item unique key) o [] ++ rows_of unique places keys)) ≤ 2097152 * length (key ∷ keys)) [
      | None ↦ λ is. omega (arith, more)
      | Some item ↦ λ is.
          rw (texts_of (rows_of_item unique key item) (rows_of unique places keys))
          (omega (arith, more, item_long unique key item (All-head IsKey key keys are) (ok key item is), length-append (flat_map row_text (rows_of_item unique key item)) (flat_map row_text (rows_of unique places keys))))
    ] refl

-- the text of a retrieval's answer is below 2^64 bytes
pub retrieval_short : (unique : Bool) (places : Places Item) (keys : List (List ℕ)) → ((key : List ℕ) (item : Item) → found key places ≡ Some item → IsItem item) → AreKeys keys → length keys < 2 ^ 32 → length (reply_text (reply.Values (rows_of unique places keys))) < 2 ^ 64
retrieval_short unique places keys ok are few =
    omega (arith, rows_long unique places keys ok are, length-append (flat_map row_text (rows_of unique places keys) ++ codes "END") line_end, length-append (flat_map row_text (rows_of unique places keys)) (codes "END"))

-- and so is that of a number
pub number_short : (n : ℕ) → length (reply_text (reply.Number n)) < 2 ^ 64
number_short n = omega (arith, decimal_long n, length-append (decimal n) line_end)
