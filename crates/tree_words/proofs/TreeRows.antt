-- The rows of the commands on trees and on attributes are clear: what is spelled by them is read.
use Rattle.std.proofs.Common.{◌≡◌, ℕ, ◌^◌, Bool, true, false, ◌&&◌, if◌then◌else◌, List, [], ◌∷◌, ◌++◌, length, take, drop, refl, Option, Some, None, option_map, option_and_then, bytes_eq}
use Rattle.std.specs.Prelude.{codes, nat_lt, nat_le, is_some}
use Rattle.std.specs.Option.{option_map_or}
use Rattle.std.specs.List.{list_all}
use Rattle.std.specs.Char.{is_ascii_digit}
use Rattle.std.proofs.lemmas.Slice.Eq.{bytes_eq-Decides}
use Rattle.arc_core.specs.declared.attributes.CreateArgs.{CreateArgs}
use Rattle.arc_core.specs.declared.bkeys.BkeyRange.{BkeyRange}
use Rattle.arc_core.specs.declared.coll_commands.CollCommand.{CollCommand}
use Rattle.arc_core.specs.declared.coll_commands.CollCommand.TheVariants as coll_command
use Rattle.arc_core.specs.declared.collections.Kind.TheVariants as kind
use Rattle.arc_core.specs.declared.collections.Take.{Take}
use Rattle.arc_core.specs.declared.collections.Take.TheVariants as taking
use Rattle.arc_core.specs.declared.filters.BitOp.{BitOp}
use Rattle.arc_core.specs.declared.filters.BitOp.TheVariants.{And, Or, Xor}
use Rattle.arc_core.specs.declared.filters.CompOp.{CompOp}
use Rattle.arc_core.specs.declared.filters.CompOp.TheVariants as comp
use Rattle.arc_core.specs.declared.filters.EflagChange.{EflagChange}
use Rattle.arc_core.specs.declared.filters.EflagChange.TheVariants as change
use Rattle.arc_core.specs.declared.filters.Filter.{Filter}
use Rattle.arc_core.specs.declared.requests.Answer.{Answer}
use Rattle.arc_core.specs.declared.requests.Answer.TheVariants as answer
use Rattle.arc_core.specs.CollectionGrammar.{create_word, drop_word, ends, head, len_word, pipe_word, sent_word, take_word, unreadable_word}
use Rattle.arc_core.specs.HexText.{eflag_word, short_bytes}
use Rattle.arc_core.specs.KeyValueGrammar.{noreply_word}
use Rattle.arc_core.specs.Rows.{Row, one, both, perhaps, followed_by, gives, SpellsPart, Spells, part_read}
use Rattle.arc_core.specs.Words.{number_below, number_of}
use Rattle.item_attrs.specs.Attributes.{tree_action_word}
use Rattle.line_grammar.proofs.RowLemmas.{IsClear, IsClearPart, IsOther, one-is_clear, both-is_clear, perhaps-is_clear, all_left-is_clear}
use Rattle.tree_words.specs.declared.commands.TreeCommand.{TreeCommand}
use Rattle.tree_words.specs.declared.commands.TreeCommand.TheVariants as command
use Rattle.tree_words.specs.AttrGrammar.{getattr_row, setattr_row}
use Rattle.tree_words.specs.TreeGrammar.{FilterBegin, bits_part, bitop_word, behind_or, changed, combined, combining_part, compop_word, filter_begin, filter_of, filtered, fwhere_word, initial_part, new_flag_word, numbers_part, or_else, putting_part, read_of, sent_or_getrim_word, tree_args_of, tree_attributes, tree_attributes_behind, tree_creation, value_len_word, values_behind}
use Rattle.tree_words.specs.TreeLines.{ends_or_trims, insert_head, said_or_plain, tree_arith_row, tree_count_row, tree_create_row, tree_delete_rest, tree_delete_row, tree_ends_or_pipes, tree_get_rest, tree_get_row, tree_head, tree_insert_row, tree_update_row, tree_upsert_row}
use Rattle.tree_words.proofs.ClearLemmas.{never, clash, none-where, mapped-some, choice, named, BeginsWith, StartsWith, weaker-list, weaker, end-begins, one-begins, perhaps-begins, other-list, one-is_other, first-none, behind-none, last-is_clear, or_else-is_clear}

-- the words that may be left out are different words

-- a word with which a line may end: none of those that may be left out before it
record IsLast (word : List ℕ) : Type 0 where
  number : (bound : ℕ) → number_below bound word ≡ None
  flag : eflag_word word ≡ None
  bitop : bitop_word word ≡ None
  compop : compop_word word ≡ None
  len : value_len_word word ≡ None
  trims : tree_action_word word ≡ None
  unreadable : unreadable_word word ≡ None
  create : create_word word ≡ None

noreply-is_last : IsLast (codes "noreply")
unfolding number_below eflag_word bitop_word compop_word value_len_word unreadable_word create_word
noreply-is_last = record { number = λ bound. refl; flag = refl; bitop = refl; compop = refl; len = refl; trims = refl; unreadable = refl; create = refl }

pipe-is_last : IsLast (codes "pipe")
unfolding number_below eflag_word bitop_word compop_word value_len_word unreadable_word create_word
pipe-is_last = record { number = λ bound. refl; flag = refl; bitop = refl; compop = refl; len = refl; trims = refl; unreadable = refl; create = refl }

getrim-is_last : IsLast (codes "getrim")
unfolding number_below eflag_word bitop_word compop_word value_len_word unreadable_word create_word
getrim-is_last = record { number = λ bound. refl; flag = refl; bitop = refl; compop = refl; len = refl; trims = refl; unreadable = refl; create = refl }

drop-is_last : IsLast (codes "drop")
unfolding number_below eflag_word bitop_word compop_word value_len_word unreadable_word create_word
drop-is_last = record { number = λ bound. refl; flag = refl; bitop = refl; compop = refl; len = refl; trims = refl; unreadable = refl; create = refl }

delete-is_last : IsLast (codes "delete")
unfolding number_below eflag_word bitop_word compop_word value_len_word unreadable_word create_word
delete-is_last = record { number = λ bound. refl; flag = refl; bitop = refl; compop = refl; len = refl; trims = refl; unreadable = refl; create = refl }

-- what all words of a kind have

noreply-has : (P : List ℕ → Type 0) → P (codes "noreply") → (word : List ℕ) (sent : Answer) → noreply_word word ≡ Some sent → P word
unfolding noreply_word
noreply-has P h word sent = choice (bytes_eq word (codes "noreply")) answer.NoReply None sent (named P word (codes "noreply") h) (never sent)

pipe-has : (P : List ℕ → Type 0) → P (codes "pipe") → (word : List ℕ) (sent : Answer) → pipe_word word ≡ Some sent → P word
unfolding pipe_word
pipe-has P h word sent = choice (bytes_eq word (codes "pipe")) answer.Pipe None sent (named P word (codes "pipe") h) (never sent)

sent-has : (P : List ℕ → Type 0) → P (codes "noreply") → P (codes "pipe") → (word : List ℕ) (sent : Answer) → sent_word word ≡ Some sent → P word
unfolding sent_word
sent-has P h k word sent =
    choice (bytes_eq word (codes "noreply")) answer.NoReply (pipe_word word) sent (named P word (codes "noreply") h) (pipe-has P k word sent)

said-has : (P : List ℕ → Type 0) → P (codes "noreply") → P (codes "pipe") → P (codes "getrim") → (word : List ℕ) (said : Answer × Bool)
    → sent_or_getrim_word word ≡ Some said → P word
unfolding sent_or_getrim_word
said-has P h k l word said =
    choice (bytes_eq word (codes "getrim")) (answer.Plain, true) (option_map (λ sent. (sent, false)) (sent_word word)) said (named P word (codes "getrim") l)
    (λ m. let sent = mapped-some (λ sent. (sent, false)) (sent_word word) said m in sent-has P h k word sent.0 sent.1)

drop-has : (P : List ℕ → Type 0) → P (codes "drop") → (word : List ℕ) (said : Bool) → drop_word word ≡ Some said → P word
unfolding drop_word
drop-has P h word said = choice (bytes_eq word (codes "drop")) true None said (named P word (codes "drop") h) (never said)

take-has : (P : List ℕ → Type 0) → P (codes "delete") → P (codes "drop") → (word : List ℕ) (said : Take) → take_word word ≡ Some said → P word
unfolding take_word
take-has P h k word said =
    choice (bytes_eq word (codes "delete")) taking.Delete (if bytes_eq word (codes "drop") then Some taking.Drop else None) said (named P word (codes "delete") h)
    (choice (bytes_eq word (codes "drop")) taking.Drop None said (named P word (codes "drop") k) (never said))

unreadable-has : (P : List ℕ → Type 0) → P (codes "unreadable") → (word : List ℕ) (said : Bool) → unreadable_word word ≡ Some said → P word
unfolding unreadable_word
unreadable-has P h word said = choice (bytes_eq word (codes "unreadable")) true None said (named P word (codes "unreadable") h) (never said)

bitop-has : (P : List ℕ → Type 0) → P (codes "&") → P (codes "|") → P (codes "^") → (word : List ℕ) (op : BitOp) → bitop_word word ≡ Some op → P word
unfolding bitop_word
bitop-has P h k l word op =
    choice (bytes_eq word (codes "&")) And _ op (named P word (codes "&") h)
    (choice (bytes_eq word (codes "|")) Or _ op (named P word (codes "|") k) (choice (bytes_eq word (codes "^")) Xor None op (named P word (codes "^") l) (never op)))

compop-has : (P : List ℕ → Type 0) → P (codes "EQ") → P (codes "NE") → P (codes "LT") → P (codes "LE") → P (codes "GT") → P (codes "GE")
    → (word : List ℕ) (c : CompOp) → compop_word word ≡ Some c → P word
unfolding compop_word
compop-has P eq ne lt le gt ge word c =
    choice (bytes_eq word (codes "EQ")) comp.Eq _ c (named P word (codes "EQ") eq)
    (choice (bytes_eq word (codes "NE")) comp.Ne _ c (named P word (codes "NE") ne)
    (choice (bytes_eq word (codes "LT")) comp.Lt _ c (named P word (codes "LT") lt)
    (choice (bytes_eq word (codes "LE")) comp.Le _ c (named P word (codes "LE") le)
    (choice (bytes_eq word (codes "GT")) comp.Gt _ c (named P word (codes "GT") gt)
    (choice (bytes_eq word (codes "GE")) comp.Ge None c (named P word (codes "GE") ge) (never c))))))

-- a number is no flag, since its second byte is no `x`

and-false : (x y : Bool) → y ≡ false → (x && y) ≡ false
and-false true y h = h
and-false false y h = refl

has_no_digits : (word : List ℕ) → take 2 word ≡ codes "0x" → list_all is_ascii_digit word ≡ false
has_no_digits [] h = cc
has_no_digits (a ∷ []) h = cc
has_no_digits (a ∷ b ∷ more) h =
    let second : b ≡ 120 = cc in
    and-false (is_ascii_digit a) _ (rw second refl)

no_digits : {A : Type 0} (a b d : Bool) (n : A) → (if (a && b && false) && d then Some n else None) ≡ None
no_digits true true d n = refl
no_digits true false d n = refl
no_digits false b d n = refl

is_no_number : (bound : ℕ) (word : List ℕ) → list_all is_ascii_digit word ≡ false → number_below bound word ≡ None
unfolding number_below
is_no_number bound word h = rw h (no_digits (nat_lt 0 (length word)) (nat_le (length word) 20) (nat_lt (number_of word) bound) (number_of word))

by_prefix : (test : Bool) (word : List ℕ) → (test ≡ true → ⊥) → option_and_then short_bytes (if test then Some (drop 2 word) else None) ≡ None
by_prefix true word h = absurd (h refl)
by_prefix false word h = refl

number-is_no_flag : (bound : ℕ) (word : List ℕ) (n : ℕ) → number_below bound word ≡ Some n → eflag_word word ≡ None
unfolding eflag_word
number-is_no_flag bound word n h =
    by_prefix (bytes_eq (take 2 word) (codes "0x")) word
    (λ test. clash (number_below bound word) n (is_no_number bound word (has_no_digits word ((bytes_eq-Decides (take 2 word) (codes "0x")).0 test))) h)

-- nor is it an operator, nor the length of a value

record IsNoOperator (word : List ℕ) : Type 0 where
  bitop : bitop_word word ≡ None
  compop : compop_word word ≡ None

last-is_no_operator : (word : List ℕ) → IsLast word → IsNoOperator word
last-is_no_operator word h = record { bitop = h.bitop; compop = h.compop }

bitop-is_no_number : (bound : ℕ) (word : List ℕ) (op : BitOp) → bitop_word word ≡ Some op → number_below bound word ≡ None
unfolding number_below
bitop-is_no_number bound = bitop-has (λ word. number_below bound word ≡ None) refl refl refl

compop-is_no_number : (bound : ℕ) (word : List ℕ) (c : CompOp) → compop_word word ≡ Some c → number_below bound word ≡ None
unfolding number_below
compop-is_no_number bound = compop-has (λ word. number_below bound word ≡ None) refl refl refl refl refl refl

number-is_no_operator : (bound : ℕ) (word : List ℕ) (n : ℕ) → number_below bound word ≡ Some n → IsNoOperator word
number-is_no_operator bound word n h = record {
  bitop = none-where (bitop_word word) (λ op k. clash (number_below bound word) n (bitop-is_no_number bound word op k) h);
  compop = none-where (compop_word word) (λ c k. clash (number_below bound word) n (compop-is_no_number bound word c k) h);
}

bitop-is_no_len : (word : List ℕ) (op : BitOp) → bitop_word word ≡ Some op → value_len_word word ≡ None
unfolding number_below value_len_word
bitop-is_no_len = bitop-has (λ word. value_len_word word ≡ None) refl refl refl

len-is_no_bitop : (word : List ℕ) (len : Option ℕ) → value_len_word word ≡ Some len → bitop_word word ≡ None
len-is_no_bitop word len h = none-where (bitop_word word) (λ op k. clash (value_len_word word) len (bitop-is_no_len word op k) h)

compop-is_no_bitop : (word : List ℕ) (c : CompOp) → compop_word word ≡ Some c → bitop_word word ≡ None
unfolding bitop_word
compop-is_no_bitop = compop-has (λ word. bitop_word word ≡ None) refl refl refl refl refl refl

-- ends of lines

noreply-begins : (asked : CollCommand) → StartsWith IsLast (ends asked)
noreply-begins asked = perhaps-begins IsLast noreply_word (λ silent. gives (head asked silent)) (noreply-has IsLast noreply-is_last) (end-begins IsLast (head asked None))

sent-begins : (asked : TreeCommand) → StartsWith IsLast (tree_ends_or_pipes asked)
sent-begins asked =
    perhaps-begins IsLast sent_word (λ sent. gives (tree_head asked sent)) (sent-has IsLast noreply-is_last pipe-is_last) (end-begins IsLast (tree_head asked None))

trims-begin : (asked : Bool → TreeCommand) → StartsWith IsLast (ends_or_trims asked)
trims-begin asked =
    perhaps-begins IsLast sent_or_getrim_word (λ said. gives (insert_head asked (said_or_plain said)))
    (said-has IsLast noreply-is_last pipe-is_last getrim-is_last) (end-begins IsLast (insert_head asked (said_or_plain None)))

-- attributes of a tree that is made

actions-before : {A : Type 0} (next : Option Bool → Row A) → StartsWith IsLast (next None)
    → StartsWith (λ word. tree_action_word word ≡ None) (followed_by (perhaps (one unreadable_word)) next)
actions-before next last =
    perhaps-begins (λ word. tree_action_word word ≡ None) unreadable_word next (unreadable-has (λ word. tree_action_word word ≡ None) refl)
    (weaker IsLast (λ word. tree_action_word word ≡ None) (next None) (λ word h. h.trims) last)

attributes-are_clear : {A : Type 0} (next : CreateArgs → Row A) → ((args : CreateArgs) → StartsWith IsLast (next args)) → ((args : CreateArgs) → IsClear (next args))
    → IsClear (tree_attributes next)
attributes-are_clear next last clear = (
  one-is_clear _ _,
  λ flags. (
    one-is_clear _ _,
    λ exptime. (
      one-is_clear _ _,
      λ maxcount. (
        perhaps-is_clear _ _ (one-is_clear _ _)
            (one-is_other tree_action_word (followed_by (perhaps (one unreadable_word)) (λ unreadable. next (tree_args_of flags exptime maxcount None unreadable)))
            (actions-before (λ unreadable. next (tree_args_of flags exptime maxcount None unreadable)) (last (tree_args_of flags exptime maxcount None None)))),
        λ action. (
          perhaps-is_clear _ _ (one-is_clear _ _)
              (one-is_other unreadable_word (next (tree_args_of flags exptime maxcount action None))
              (weaker IsLast (λ word. unreadable_word word ≡ None) (next (tree_args_of flags exptime maxcount action None)) (λ word h. h.unreadable)
              (last (tree_args_of flags exptime maxcount action None)))),
          λ unreadable. clear (tree_args_of flags exptime maxcount action unreadable),
        ),
      ),
    ),
  ),
)

behind-is_clear : {A : Type 0} (next : Option CreateArgs → Row A) → ((args : Option CreateArgs) → StartsWith IsLast (next args))
    → ((args : Option CreateArgs) → IsClear (next args)) → (create : Option Bool) → IsClear (tree_attributes_behind next create)
behind-is_clear next last clear None = clear None
behind-is_clear next last clear (Some create) = attributes-are_clear (λ args. next (Some args)) (λ args. last (Some args)) (λ args. clear (Some args))

creation-is_clear : {A : Type 0} (next : Option CreateArgs → Row A) → ((args : Option CreateArgs) → StartsWith IsLast (next args))
    → ((args : Option CreateArgs) → IsClear (next args)) → IsClear (tree_creation next)
creation-is_clear next last clear = (
  perhaps-is_clear _ _ (one-is_clear _ _)
      (one-is_other create_word (next None) (weaker IsLast (λ word. create_word word ≡ None) (next None) (λ word h. h.create) (last None))),
  λ create. behind-is_clear next last clear create,
)

-- filters

bits-none : (list : List (List ℕ)) → BeginsWith (λ word. bitop_word word ≡ None) list → part_read bits_part list ≡ None
bits-none [] h = refl
bits-none (word ∷ more) h = rw h refl

bits-is_clear : {A : Type 0} (next : BitOp × List ℕ → Row A) → IsClearPart bits_part next
bits-is_clear next = both-is_clear (one bitop_word) (one eflag_word) next (one-is_clear _ _) (λ op. one-is_clear _ _)

begin-is_clear : {A : Type 0} (next : FilterBegin → Row A) → IsClearPart filter_begin next
begin-is_clear next =
    both-is_clear (one fwhere_word) (both (perhaps bits_part) (one compop_word)) next (one-is_clear _ _)
    (λ place. both-is_clear (perhaps bits_part) (one compop_word) (λ said. next (place, said))
    (perhaps-is_clear bits_part (λ bits. followed_by (one compop_word) (λ c. next (place, (bits, c)))) (bits-is_clear _)
    (λ back a s. bits-none back (one-begins (λ word. bitop_word word ≡ None) compop_word (λ c. next (place, (None, c))) compop-is_no_bitop back a s)))
    (λ bits. one-is_clear _ _))

values-are_clear : {A : Type 0} (next : Option Filter → Row A) → ((filter : Option Filter) → IsClear (next filter)) → (begun : Option FilterBegin) → IsClear (values_behind next begun)
values-are_clear next clear None = clear None
values-are_clear next clear (Some begun) = (one-is_clear _ _, λ values. clear (Some (filter_of begun values)))

filter-is_clear : {A : Type 0} (next : Option Filter → Row A) → IsOther filter_begin (next None) → ((filter : Option Filter) → IsClear (next filter)) → IsClear (filtered next)
filter-is_clear next other clear =
    (perhaps-is_clear filter_begin (values_behind next) (begin-is_clear (λ begun. values_behind next (Some begun))) other, λ begun. values-are_clear next clear begun)

operators-none : (list : List (List ℕ)) → BeginsWith IsNoOperator list → part_read (both (perhaps bits_part) (one compop_word)) list ≡ None
operators-none [] h = refl
operators-none (word ∷ more) h = rw (h.bitop, h.compop) refl

-- a word begins no filter where what stands behind it is no operator
begin-none : (word : List ℕ) (more : List (List ℕ)) → BeginsWith IsNoOperator more → part_read filter_begin (word ∷ more) ≡ None
begin-none word more h =
    behind-none fwhere_word (both (perhaps bits_part) (one compop_word)) word more (operators-none more h)

last-begins_none : (list : List (List ℕ)) → BeginsWith IsLast list → part_read filter_begin list ≡ None
last-begins_none [] h = refl
last-begins_none (word ∷ more) h = rw (h.number 31) refl

-- offset and count

numbers-none : (list : List (List ℕ)) → BeginsWith IsLast list → part_read numbers_part list ≡ None
numbers-none [] h = refl
numbers-none (word ∷ more) h = rw (h.number (2 ^ 32)) refl

number-before_last : {A : Type 0} (bound : ℕ) (row : Row A) → StartsWith IsLast row → IsOther (one (number_below bound)) row
number-before_last bound row last =
    one-is_other (number_below bound) row (weaker IsLast (λ word. number_below bound word ≡ None) row (λ word h. h.number bound) last)

numbers-are_clear : {A : Type 0} (next : Option (ℕ × Option ℕ) → Row A) → ((numbers : Option (ℕ × Option ℕ)) → StartsWith IsLast (next numbers))
    → IsClearPart (perhaps numbers_part) next
numbers-are_clear next last =
    perhaps-is_clear numbers_part next
    (both-is_clear (one (number_below (2 ^ 32))) (perhaps (one (number_below (2 ^ 32)))) (λ numbers. next (Some numbers)) (one-is_clear _ _)
    (λ first. perhaps-is_clear (one (number_below (2 ^ 32))) (λ second. next (Some (first, second))) (one-is_clear _ _)
    (number-before_last (2 ^ 32) (next (Some (first, None))) (last (Some (first, None))))))
    (λ back a s. numbers-none back (last None back a s))

second-begins : (n : Option ℕ) (front back : List (List ℕ)) → SpellsPart (perhaps (one (number_below (2 ^ 32)))) front n → BeginsWith IsLast back
    → BeginsWith IsNoOperator (front ++ back)
second-begins None front back s last = rw s (weaker-list IsLast IsNoOperator last-is_no_operator back last)
second-begins (Some n) front back s last = rw s.1 (number-is_no_operator (2 ^ 32) s.0 n s.2)

numbers-begin_none : (numbers : Option (ℕ × Option ℕ)) (list front back : List (List ℕ)) → list ≡ front ++ back → SpellsPart (perhaps numbers_part) front numbers
    → BeginsWith IsLast back → part_read filter_begin list ≡ None
numbers-begin_none None list front back at s last = rw (at, s) (last-begins_none back last)
numbers-begin_none (Some numbers) list front back at s last =
    rw (at, s.2, s.3.1) (begin-none s.3.0 (s.1 ++ back) (second-begins numbers.1 s.1 back s.4 last))

count-begins_none : (count : Option ℕ) (list front back : List (List ℕ)) → list ≡ front ++ back → SpellsPart (perhaps (one (number_below (2 ^ 32)))) front count
    → BeginsWith IsLast back → part_read filter_begin list ≡ None
count-begins_none None list front back at s last = rw (at, s) (last-begins_none back last)
count-begins_none (Some count) list front back at s last =
    rw (at, s.1) (begin-none s.0 back (weaker-list IsLast IsNoOperator last-is_no_operator back last))

-- changes

inner-none : (word : List ℕ) (more : List (List ℕ)) → BeginsWith (λ word. bitop_word word ≡ None) more → part_read (both (one fwhere_word) bits_part) (word ∷ more) ≡ None
inner-none word more h =
    behind-none fwhere_word bits_part word more (bits-none more h)

combining-none : (word : List ℕ) (more : List (List ℕ)) → BeginsWith (λ word. bitop_word word ≡ None) more → part_read combining_part (word ∷ more) ≡ None
combining-none word more h = first-none (both (one fwhere_word) bits_part) (one value_len_word) (word ∷ more) (inner-none word more h)

putting-none : (word : List ℕ) (more : List (List ℕ)) → BeginsWith IsLast more → part_read putting_part (word ∷ more) ≡ None
putting-none word more h =
    behind-none new_flag_word (one value_len_word) word more
    (other-list value_len_word more (weaker-list IsLast (λ word. value_len_word word ≡ None) (λ word h. h.len) more h))

module _ {A : Type 0} (next : EflagChange → Option ℕ → Row A) (last : (how : EflagChange) (len : Option ℕ) → StartsWith IsLast (next how len)) where
  abbrev keeping_row : Row A
  keeping_row = followed_by (one value_len_word) (λ len. next change.Keep len)

  abbrev putting_row : Row A
  putting_row = or_else putting_part (λ said. next said.0 said.1) keeping_row

  keeping-is_no_putting-at : (list front back : List (List ℕ)) (len : Option ℕ) (a : A) → list ≡ front ++ back → SpellsPart (one value_len_word) front len
      → Spells (next change.Keep len) back a → part_read putting_part list ≡ None
  keeping-is_no_putting-at list front back len a at s t = rw (at, s.1) (putting-none s.0 back (last change.Keep len back a t))

  keeping-is_no_putting : IsOther putting_part keeping_row
  keeping-is_no_putting = λ list a s. keeping-is_no_putting-at list s.1 s.2 s.0 a s.3 s.4 s.5

  keeping-is_no_combining : (list front back : List (List ℕ)) (len : Option ℕ) (a : A) → list ≡ front ++ back → SpellsPart (one value_len_word) front len
      → Spells (next change.Keep len) back a → part_read combining_part list ≡ None
  keeping-is_no_combining list front back len a at s t =
      rw (at, s.1) (combining-none s.0 back (weaker-list IsLast (λ word. bitop_word word ≡ None) (λ word h. h.bitop) back (last change.Keep len back a t)))

  putting-is_no_combining-at : (said : Option (EflagChange × Option ℕ)) (list front back : List (List ℕ)) (a : A) → list ≡ front ++ back
      → SpellsPart (perhaps putting_part) front said → Spells (behind_or (λ said. next said.0 said.1) keeping_row said) back a → part_read combining_part list ≡ None
  putting-is_no_combining-at None list front back a at s t = rw (at, s) (keeping-is_no_combining back t.1 t.2 t.0 a t.3 t.4 t.5)
  putting-is_no_combining-at (Some said) list front back a at s t =
      rw (at, s.2, s.3.1, s.4.1) (combining-none s.3.0 (s.4.0 ∷ back) (len-is_no_bitop s.4.0 said.1 s.4.2))

  putting-is_no_combining : IsOther combining_part putting_row
  putting-is_no_combining = λ list a s. putting-is_no_combining-at s.0 list s.1 s.2 a s.3 s.4 s.5

change-is_clear : {A : Type 0} (next : EflagChange → Option ℕ → Row A) → ((how : EflagChange) (len : Option ℕ) → StartsWith IsLast (next how len))
    → ((how : EflagChange) (len : Option ℕ) → IsClear (next how len)) → IsClear (changed next)
change-is_clear next last clear =
    or_else-is_clear combining_part (λ said. next (combined said.0) said.1) (putting_row next last)
    (both-is_clear (both (one fwhere_word) bits_part) (one value_len_word) (λ said. next (combined said.0) said.1)
    (both-is_clear (one fwhere_word) bits_part _ (one-is_clear _ _) (λ place. bits-is_clear _)) (λ how. one-is_clear _ _))
    (putting-is_no_combining next last) (λ said. clear (combined said.0) said.1)
    (or_else-is_clear putting_part (λ said. next said.0 said.1) (keeping_row next last)
    (both-is_clear (one new_flag_word) (one value_len_word) (λ said. next said.0 said.1) (one-is_clear _ _) (λ how. one-is_clear _ _))
    (keeping-is_no_putting next last) (λ said. clear said.0 said.1) (one-is_clear _ _, λ len. clear change.Keep len))

-- initial numbers

initial-none : (list : List (List ℕ)) → BeginsWith IsLast list → part_read initial_part list ≡ None
initial-none [] h = refl
initial-none (word ∷ more) h = rw (h.number (2 ^ 64)) refl

initial-is_clear : {A : Type 0} (next : Option (ℕ × Option (List ℕ)) → Row A) → ((said : Option (ℕ × Option (List ℕ))) → StartsWith IsLast (next said))
    → IsClearPart (perhaps initial_part) next
initial-is_clear next last =
    perhaps-is_clear initial_part next
    (both-is_clear (one (number_below (2 ^ 64))) (perhaps (one eflag_word)) (λ said. next (Some said)) (one-is_clear _ _)
    (λ n. perhaps-is_clear (one eflag_word) (λ eflag. next (Some (n, eflag))) (one-is_clear _ _)
    (one-is_other eflag_word (next (Some (n, None)))
    (weaker IsLast (λ word. eflag_word word ≡ None) (next (Some (n, None))) (λ word h. h.flag) (last (Some (n, None)))))))
    (λ back a s. initial-none back (last None back a s))

-- the rows

pub tree_create_row-is_clear : IsClear tree_create_row
unfolding tree_create_row
tree_create_row-is_clear =
    (one-is_clear _ _, λ key. attributes-are_clear (λ args. ends (coll_command.Create kind.Tree key args)) (λ args. noreply-begins _) (λ args. last-is_clear noreply_word _))

-- `[<eflag>] <bytes> [create ..] [noreply|pipe|getrim]`
put-is_clear : (asked : Option (List ℕ) → ℕ → Option CreateArgs → Bool → TreeCommand)
    → IsClear (followed_by (perhaps (one eflag_word)) (λ eflag. followed_by (one len_word) (λ len. tree_creation (λ create. ends_or_trims (asked eflag len create)))))
put-is_clear asked = (
  perhaps-is_clear _ _ (one-is_clear _ _)
      (one-is_other eflag_word (followed_by (one len_word) (λ len. tree_creation (λ create. ends_or_trims (asked None len create))))
      (one-begins (λ word. eflag_word word ≡ None) len_word (λ len. tree_creation (λ create. ends_or_trims (asked None len create)))
      (λ word n h. number-is_no_flag (2 ^ 31) word n h))),
  λ eflag. (
    one-is_clear _ _,
    λ len. creation-is_clear (λ create. ends_or_trims (asked eflag len create)) (λ create. trims-begin (asked eflag len create)) (λ create. last-is_clear sent_or_getrim_word _),
  ),
)

pub tree_insert_row-is_clear : IsClear tree_insert_row
unfolding tree_insert_row
tree_insert_row-is_clear = (one-is_clear _ _, λ key. (one-is_clear _ _, λ bkey. put-is_clear (command.TreeInsert key bkey)))

pub tree_upsert_row-is_clear : IsClear tree_upsert_row
unfolding tree_upsert_row
tree_upsert_row-is_clear = (one-is_clear _ _, λ key. (one-is_clear _ _, λ bkey. put-is_clear (command.TreeUpsert key bkey)))

pub tree_update_row-is_clear : IsClear tree_update_row
unfolding tree_update_row
tree_update_row-is_clear = (
  one-is_clear _ _,
  λ key. (
    one-is_clear _ _,
    λ bkey. change-is_clear (λ how len. tree_ends_or_pipes (command.TreeUpdate key bkey how len)) (λ how len. sent-begins _) (λ how len. last-is_clear sent_word _),
  ),
)

drop-begins : (asked : Option Bool → TreeCommand) → StartsWith IsLast (followed_by (perhaps (one drop_word)) (λ drop. tree_ends_or_pipes (asked drop)))
drop-begins asked = perhaps-begins IsLast drop_word (λ drop. tree_ends_or_pipes (asked drop)) (drop-has IsLast drop-is_last) (sent-begins (asked None))

drop-before_sent : (asked : TreeCommand) → IsOther (one drop_word) (tree_ends_or_pipes asked)
unfolding drop_word
drop-before_sent asked =
    one-is_other drop_word (tree_ends_or_pipes asked)
    (perhaps-begins (λ word. drop_word word ≡ None) sent_word (λ sent. gives (tree_head asked sent)) (sent-has (λ word. drop_word word ≡ None) refl refl)
    (end-begins (λ word. drop_word word ≡ None) (tree_head asked None)))

abbrev deleting : List ℕ → BkeyRange → Option Filter → Option ℕ → Option Bool → TreeCommand
deleting key range filter count drop = command.TreeDelete key (read_of range filter (0, option_map_or (λ n. n) count 0)) (is_some drop)

delete_rest-is_clear : (key : List ℕ) (range : BkeyRange) (filter : Option Filter) → IsClear (tree_delete_rest key range filter)
delete_rest-is_clear key range filter = (
  perhaps-is_clear _ _ (one-is_clear _ _)
      (number-before_last (2 ^ 32) (followed_by (perhaps (one drop_word)) (λ drop. tree_ends_or_pipes (deleting key range filter None drop)))
      (drop-begins (deleting key range filter None))),
  λ count. (perhaps-is_clear _ _ (one-is_clear _ _) (drop-before_sent _), λ drop. last-is_clear sent_word _),
)

pub tree_delete_row-is_clear : IsClear tree_delete_row
unfolding tree_delete_row
tree_delete_row-is_clear = (
  one-is_clear _ _,
  λ key. (
    one-is_clear _ _,
    λ range. filter-is_clear (tree_delete_rest key range) (λ list a s. count-begins_none s.0 list s.1 s.2 s.3 s.4 (drop-begins (deleting key range None s.0) s.2 a s.5))
        (delete_rest-is_clear key range),
  ),
)

take-begins : (asked : Option Take → TreeCommand) → StartsWith IsLast (followed_by (perhaps (one take_word)) (λ taking. gives (tree_head (asked taking) None)))
take-begins asked =
    perhaps-begins IsLast take_word (λ taking. gives (tree_head (asked taking) None)) (take-has IsLast delete-is_last drop-is_last)
    (end-begins IsLast (tree_head (asked None) None))

get_rest-is_clear : (key : List ℕ) (range : BkeyRange) (filter : Option Filter) → IsClear (tree_get_rest key range filter)
get_rest-is_clear key range filter = (numbers-are_clear _ (λ numbers. take-begins _), λ numbers. last-is_clear take_word _)

pub tree_get_row-is_clear : IsClear tree_get_row
unfolding tree_get_row
tree_get_row-is_clear = (
  one-is_clear _ _,
  λ key. (
    one-is_clear _ _,
    λ range. filter-is_clear (tree_get_rest key range) (λ list a s. numbers-begin_none s.0 list s.1 s.2 s.3 s.4 (take-begins _ s.2 a s.5))
        (get_rest-is_clear key range),
  ),
)

pub tree_count_row-is_clear : IsClear tree_count_row
unfolding tree_count_row
tree_count_row-is_clear = (
  one-is_clear _ _,
  λ key. (
    one-is_clear _ _,
    λ range. filter-is_clear (λ filter. gives (tree_head (command.TreeCount key range filter) None)) (λ list a s. rw (s.0) refl) (λ filter. tt),
  ),
)

pub tree_arith_row-is_clear : (up : Bool) → IsClear (tree_arith_row up)
unfolding tree_arith_row
tree_arith_row-is_clear up = (
  one-is_clear _ _,
  λ key. (
    one-is_clear _ _,
    λ bkey. (one-is_clear _ _, λ delta. (initial-is_clear _ (λ said. sent-begins _), λ said. last-is_clear sent_word _)),
  ),
)

pub getattr_row-is_clear : IsClear getattr_row
unfolding getattr_row
getattr_row-is_clear = (one-is_clear _ _, λ key. (all_left-is_clear _ _, λ names. tt))

pub setattr_row-is_clear : IsClear setattr_row
unfolding setattr_row
setattr_row-is_clear = (one-is_clear _ _, λ key. (all_left-is_clear _ _, λ pairs. tt))
