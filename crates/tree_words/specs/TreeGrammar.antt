-- Words and parts that the rows of the commands on trees have in common. (`bop` of the ARCUS protocol; the limits are this
-- server's own.)
use Rattle.std.specs.Prelude.{ℕ, ◌+◌, ◌^◌, ◌==◌, ◌&&◌, Bool, true, false, if◌then◌else◌, List, length, position, take, drop, slice_index, bytes_eq, codes, is_none, Option, Some, None, ℤ}
use Rattle.std.specs.Option.{option_map, option_map_or, option_and_then}
use Rattle.arc_core.specs.declared.attributes.CreateArgs.{CreateArgs}
use Rattle.arc_core.specs.declared.bkeys.Bkey.{Bkey}
use Rattle.arc_core.specs.declared.bkeys.BkeyRange.{BkeyRange}
use Rattle.arc_core.specs.declared.collections.Action.{Action}
use Rattle.arc_core.specs.declared.collections.Action.TheVariants as action
use Rattle.arc_core.specs.declared.filters.BitOp.{BitOp}
use Rattle.arc_core.specs.declared.filters.BitOp.TheVariants.{And, Or, Xor}
use Rattle.arc_core.specs.declared.filters.CompOp.{CompOp}
use Rattle.arc_core.specs.declared.filters.CompOp.TheVariants as comp
use Rattle.arc_core.specs.declared.filters.EflagChange.{EflagChange}
use Rattle.arc_core.specs.declared.filters.EflagChange.TheVariants as change
use Rattle.arc_core.specs.declared.filters.Filter.{Filter}
use Rattle.arc_core.specs.declared.requests.Answer.{Answer}
use Rattle.arc_core.specs.declared.requests.Answer.TheVariants as answer
use Rattle.arc_core.specs.declared.trees.TreeRead.{TreeRead}
use Rattle.arc_core.specs.BkeyOrder.{are_of_one_kind}
use Rattle.arc_core.specs.BkeyText.{bkey_word}
use Rattle.arc_core.specs.CollectionGrammar.{is_dot, len_word, create_word, unreadable_word, sent_word}
use Rattle.arc_core.specs.HexText.{eflag_word, flag_words, first_of}
use Rattle.arc_core.specs.Rows.{Part, Row, one, both, perhaps, ◌>>=◌}
use Rattle.arc_core.specs.Words.{number_below, exptime_word}
use Rattle.item_attrs.specs.Attributes.{tree_action_word}

-- Ranges

-- one bkey as a range
abbrev pub single_bkey : Bkey → BkeyRange
single_bkey bkey = record { first = bkey; last = bkey }

-- the range from one bkey to another of its kind
abbrev pub bkeys_between : Option Bkey → Option Bkey → Option BkeyRange
bkeys_between (Some first) (Some last) = if are_of_one_kind first last then Some (record { first = first; last = last }) else None
bkeys_between _ _ = None

-- a range of bkeys by the place of its first dot, behind which another one stands
abbrev pub bkey_range_at : List ℕ → Option ℕ → Option BkeyRange
bkey_range_at word None = option_map single_bkey (bkey_word word)
bkey_range_at word (Some place) =
    if is_dot (slice_index word (place + 1)) then bkeys_between (bkey_word (take place word)) (bkey_word (drop (place + 2) word)) else None

-- a bkey, or two of one kind with `..` between them
unfoldable pub bkey_range_word : List ℕ → Option BkeyRange
bkey_range_word word = bkey_range_at word (position is_dot word)

-- Filters

-- the place in a flag where its part begins: 0 to 30
abbrev pub fwhere_word : List ℕ → Option ℕ
fwhere_word = number_below 31

-- how a part is combined with an operand: `&`, `|` or `^`
unfoldable pub bitop_word : List ℕ → Option BitOp
bitop_word word =
    if bytes_eq word (codes "&") then Some And
    else if bytes_eq word (codes "|") then Some Or
    else if bytes_eq word (codes "^") then Some Xor
    else None

-- how it is compared with values: `EQ`, `NE`, `LT`, `LE`, `GT` or `GE`
unfoldable pub compop_word : List ℕ → Option CompOp
compop_word word =
    if bytes_eq word (codes "EQ") then Some comp.Eq
    else if bytes_eq word (codes "NE") then Some comp.Ne
    else if bytes_eq word (codes "LT") then Some comp.Lt
    else if bytes_eq word (codes "LE") then Some comp.Le
    else if bytes_eq word (codes "GT") then Some comp.Gt
    else if bytes_eq word (codes "GE") then Some comp.Ge
    else None

-- <bitwop> <foperand>
abbrev pub bits_part : Part (BitOp × List ℕ)
bits_part = both (one bitop_word) (one eflag_word)

-- what stands before a filter's values: the place, the operand and the comparison
abbrev pub FilterBegin : Type 0
FilterBegin = ℕ × (Option (BitOp × List ℕ) × CompOp)

-- <fwhere> [<bitwop> <foperand>] <compop>
abbrev pub filter_begin : Part FilterBegin
filter_begin = both (one fwhere_word) (both (perhaps bits_part) (one compop_word))

-- `EQ` and `NE` compare with so many values as there are, the others with one
abbrev pub takes_number : CompOp → ℕ → Bool
takes_number comp.Eq number = true
takes_number comp.Ne number = true
takes_number _ number = number == 1

-- an operand is as long as a value
abbrev pub fits_operand : Option (BitOp × List ℕ) → List ℕ → Bool
fits_operand None value = true
fits_operand (Some bits) value = length bits.1 == length value

-- whether a filter with this operand and this comparison may have these values
abbrev pub may_have : Option (BitOp × List ℕ) → CompOp → List (List ℕ) → Bool
may_have bits comp values = takes_number comp (length values) && fits_operand bits (first_of values)

-- the values, where the filter may have them
abbrev pub where_fitting : Option (BitOp × List ℕ) → CompOp → List (List ℕ) → Option (List (List ℕ))
where_fitting bits comp values = if may_have bits comp values then Some values else None

-- <fvalue>[,<fvalue>..] of a filter with this operand and this comparison
unfoldable pub fvalues_word : Option (BitOp × List ℕ) → CompOp → List ℕ → Option (List (List ℕ))
fvalues_word bits comp word = option_and_then (where_fitting bits comp) (flag_words word)

-- the filter of a place, an operand, a comparison and values
abbrev pub filter_of : FilterBegin → List (List ℕ) → Filter
filter_of begun values = record { fwhere = begun.0; bits = begun.1.0; comp = begun.1.1; values = values }

-- the values of a filter that was begun, and what follows
abbrev pub values_behind : {A : Type 0} → (Option Filter → Row A) → Option FilterBegin → Row A
values_behind next None = next None
values_behind next (Some begun) = do
  values ← one (fvalues_word begun.1.0 begun.1.1)
  next (Some (filter_of begun values))

-- [<fwhere> [<bitwop> <foperand>] <compop> <fvalue>[,<fvalue>..]], and what follows
abbrev pub filtered : {A : Type 0} → (Option Filter → Row A) → Row A
filtered next = do
  begun ← perhaps filter_begin
  values_behind next begun

-- Offset and count

-- <number> [<number>]
abbrev pub numbers_part : Part (ℕ × Option ℕ)
numbers_part = both (one (number_below (2 ^ 32))) (perhaps (one (number_below (2 ^ 32))))

-- the offset and the count that one or two numbers are: one is a count, of two the first is an offset
abbrev pub offset_and_count : ℕ → Option ℕ → ℕ × ℕ
offset_and_count first None = (0, first)
offset_and_count first (Some second) = (first, second)

-- the offset and the count, both 0 where no number is written
abbrev pub counted_by : Option (ℕ × Option ℕ) → ℕ × ℕ
counted_by None = (0, 0)
counted_by (Some numbers) = offset_and_count numbers.0 numbers.1

-- the read that a range, a filter, and an offset and a count ask for
abbrev pub read_of : BkeyRange → Option Filter → ℕ × ℕ → TreeRead
read_of range filter counted = record { range = range; filter = filter; offset = counted.0; count = counted.1 }

-- Changes of a flag and a value

-- what follows a part that is there, and another row where it is not
abbrev pub behind_or : {A B : Type 0} → (B → Row A) → Row A → Option B → Row A
behind_or next other None = other
behind_or next other (Some read) = next read

-- one part and what follows it, or else another row
abbrev pub or_else : {A B : Type 0} → Part B → (B → Row A) → Row A → Row A
or_else part next other = do
  read ← perhaps part
  behind_or next other read

-- the length of a new value; `-1` says that the value stays
unfoldable pub value_len_word : List ℕ → Option (Option ℕ)
value_len_word word = if bytes_eq word (codes "-1") then Some None else option_map Some (len_word word)

-- a new flag; the word `0` removes the flag
unfoldable pub new_flag_word : List ℕ → Option EflagChange
new_flag_word word = if bytes_eq word (codes "0") then Some change.Remove else option_map change.Put (eflag_word word)

-- <fwhere> <bitwop> <fvalue> <bytes>
abbrev pub combining_part : Part ((ℕ × (BitOp × List ℕ)) × Option ℕ)
combining_part = both (both (one fwhere_word) bits_part) (one value_len_word)

-- <fvalue> <bytes>
abbrev pub putting_part : Part (EflagChange × Option ℕ)
putting_part = both (one new_flag_word) (one value_len_word)

-- the flag's bytes from a place on are combined with an operand
abbrev pub combined : ℕ × (BitOp × List ℕ) → EflagChange
combined how = change.Combine how.0 how.1.0 how.1.1

-- [[<fwhere> <bitwop>] <fvalue>] <bytes>, and what follows
abbrev pub changed : {A : Type 0} → (EflagChange → Option ℕ → Row A) → Row A
changed next =
    or_else combining_part (λ said. next (combined said.0) said.1)
    (or_else putting_part (λ said. next said.0 said.1)
    (one value_len_word >>= (λ len. next change.Keep len)))

-- Initial numbers

-- <initial> [<eflag>]
abbrev pub initial_part : Part (ℕ × Option (List ℕ))
initial_part = both (one (number_below (2 ^ 64))) (perhaps (one eflag_word))

-- the number with which an element is made, where the line has one
abbrev pub initial_of : Option (ℕ × Option (List ℕ)) → Option ℕ
initial_of said = option_map (λ initial. initial.0) said

-- the flag with which it is made, where the line has one
abbrev pub flag_of : Option (ℕ × Option (List ℕ)) → Option (List ℕ)
flag_of said = option_and_then (λ initial. initial.1) said

-- Attributes of a tree that is made

-- the action of a tree whose line names none
abbrev pub default_tree_action : Action
default_tree_action = action.SmallestTrim

-- the attributes that a line names
abbrev pub tree_args_of : ℕ → ℤ → ℕ → Option Action → Option Bool → CreateArgs
tree_args_of flags exptime maxcount action unreadable = record {
  flags = flags;
  exptime = exptime;
  maxcount = maxcount;
  action = option_map_or (λ a. a) action default_tree_action;
  readable = is_none unreadable;
}

-- <flags> <exptime> <maxcount> [<action>] [unreadable], and what follows
abbrev pub tree_attributes : {A : Type 0} → (CreateArgs → Row A) → Row A
tree_attributes next = do
  flags ← one (number_below (2 ^ 32))
  exptime ← one exptime_word
  maxcount ← one (number_below (2 ^ 32))
  action ← perhaps (one tree_action_word)
  unreadable ← perhaps (one unreadable_word)
  next (tree_args_of flags exptime maxcount action unreadable)

-- what follows the word `create`, where it is there
abbrev pub tree_attributes_behind : {A : Type 0} → (Option CreateArgs → Row A) → Option Bool → Row A
tree_attributes_behind next None = next None
tree_attributes_behind next (Some create) = tree_attributes (λ args. next (Some args))

-- [create <flags> <exptime> <maxcount> [<action>] [unreadable]], and what follows
abbrev pub tree_creation : {A : Type 0} → (Option CreateArgs → Row A) → Row A
tree_creation next = do
  create ← perhaps (one create_word)
  tree_attributes_behind next create

-- The end of an insert's line

-- what one of the words `noreply`, `pipe` and `getrim` says: how the answer is sent, and whether it has the elements that are trimmed
unfoldable pub sent_or_getrim_word : List ℕ → Option (Answer × Bool)
sent_or_getrim_word word = if bytes_eq word (codes "getrim") then Some (answer.Plain, true) else option_map (λ sent. (sent, false)) (sent_word word)
