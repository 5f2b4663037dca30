-- Parts of rows that stand for more than one word, as they are read from the left: what is made of them, and the words behind.
use Rattle.std.specs.Prelude.{ℕ, ◌^◌, Bool, true, false, List, bytes_eq, if◌then◌else◌, is_some, Option, Some, None, ℤ}
use Rattle.std.specs.Option.{option_map, option_map_or}
use Rattle.arc_core.specs.declared.attributes.CreateArgs.{CreateArgs}
use Rattle.arc_core.specs.declared.collections.Action.{Action}
use Rattle.arc_core.specs.declared.collections.Take.{Take}
use Rattle.arc_core.specs.declared.filters.EflagChange.{EflagChange}
use Rattle.arc_core.specs.declared.filters.EflagChange.TheVariants as change
use Rattle.arc_core.specs.declared.filters.Filter.{Filter}
use Rattle.arc_core.specs.declared.requests.Answer.{Answer}
use Rattle.arc_core.specs.CollectionGrammar.{take_word, taking_of, unreadable_word, create_word}
use Rattle.arc_core.specs.Rows.{Part, one, both, perhaps, followed_by, gives, part_read, row_read, or_left_out}
use Rattle.arc_core.specs.Words.{number_below, exptime_word}
use Rattle.item_attrs.specs.Attributes.{tree_action_word}
use Rattle.tree_words.specs.TreeGrammar.{FilterBegin, filter_begin, filter_of, fvalues_word, numbers_part, counted_by, combining_part, putting_part, combined, value_len_word, tree_args_of, sent_or_getrim_word}
use Rattle.tree_words.specs.TreeLines.{said_or_plain}

-- this one word
abbrev pub fixed : List ℕ → List ℕ → Option Bool
fixed name word = if bytes_eq word name then Some true else None

-- whether a word that may be left out is there, and the words behind
abbrev pub said : {A : Type 0} → (List ℕ → Option A) → List (List ℕ) → Bool × List (List ℕ)
said kind list = (is_some (or_left_out list (part_read (one kind) list)).0, (or_left_out list (part_read (one kind) list)).1)

-- [delete|drop] in front, and the words behind
abbrev pub taking_read : List (List ℕ) → Take × List (List ℕ)
taking_read list = (taking_of (or_left_out list (part_read (one take_word) list)).0, (or_left_out list (part_read (one take_word) list)).1)

-- the values of a filter that was begun, and the words behind
abbrev pub values_read : Option FilterBegin → List (List ℕ) → Option (Option Filter × List (List ℕ))
values_read None list = Some (None, list)
values_read (Some begun) list =
    option_map (λ read. (Some (filter_of begun read.0), read.1)) (part_read (one (fvalues_word begun.1.0 begun.1.1)) list)

-- [<fwhere> [<bitwop> <foperand>] <compop> <fvalue>[,<fvalue>..]] in front, and the words behind
abbrev pub filter_read : List (List ℕ) → Option (Option Filter × List (List ℕ))
filter_read list = values_read (or_left_out list (part_read filter_begin list)).0 (or_left_out list (part_read filter_begin list)).1

-- [[<offset>] <count>] in front, and the words behind
abbrev pub counted_read : List (List ℕ) → (ℕ × ℕ) × List (List ℕ)
counted_read list = (counted_by (or_left_out list (part_read numbers_part list)).0, (or_left_out list (part_read numbers_part list)).1)

-- [<count>] in front, 0 where it is left out, and the words behind
abbrev pub count_read : List (List ℕ) → ℕ × List (List ℕ)
count_read list =
    (option_map_or (λ n. n) (or_left_out list (part_read (one (number_below (2 ^ 32))) list)).0 0, (or_left_out list (part_read (one (number_below (2 ^ 32))) list)).1)

-- the first of two readings that there is
abbrev pub first_read : {A : Type 0} → Option A → Option A → Option A
first_read (Some read) other = Some read
first_read None other = other

-- <fwhere> <bitwop> <fvalue> <bytes> in front, and the words behind
abbrev pub combining_read : List (List ℕ) → Option ((EflagChange × Option ℕ) × List (List ℕ))
combining_read list = option_map (λ read. ((combined read.0.0, read.0.1), read.1)) (part_read combining_part list)

-- <bytes> in front, and the words behind
abbrev pub keeping_read : List (List ℕ) → Option ((EflagChange × Option ℕ) × List (List ℕ))
keeping_read list = option_map (λ read. ((change.Keep, read.0), read.1)) (part_read (one value_len_word) list)

-- [[<fwhere> <bitwop>] <fvalue>] <bytes> in front, and the words behind
abbrev pub changed_read : List (List ℕ) → Option ((EflagChange × Option ℕ) × List (List ℕ))
changed_read list = first_read (combining_read list) (first_read (part_read putting_part list) (keeping_read list))

-- <flags> <exptime> <maxcount> [<action>] [unreadable]
abbrev pub tree_attributes_part : Part (ℕ × (ℤ × (ℕ × (Option Action × Option Bool))))
tree_attributes_part =
    both (one (number_below (2 ^ 32))) (both (one exptime_word) (both (one (number_below (2 ^ 32))) (both (perhaps (one tree_action_word)) (perhaps (one unreadable_word)))))

-- the attributes that the part names
abbrev pub named_args : ℕ × (ℤ × (ℕ × (Option Action × Option Bool))) → CreateArgs
named_args named = tree_args_of named.0 named.1.0 named.1.1.0 named.1.1.1.0 named.1.1.1.1

-- the attributes that stand in front, and the words behind
abbrev pub tree_attributes_read : List (List ℕ) → Option (CreateArgs × List (List ℕ))
tree_attributes_read list = option_map (λ read. (named_args read.0, read.1)) (part_read tree_attributes_part list)

-- the attributes behind the word `create`, where that is there
abbrev pub tree_attributes_where : Bool → List (List ℕ) → Option (Option CreateArgs × List (List ℕ))
tree_attributes_where false behind = Some (None, behind)
tree_attributes_where true behind = option_map (λ read. (Some read.0, read.1)) (tree_attributes_read behind)

-- [create <flags> <exptime> <maxcount> [<action>] [unreadable]] in front, and the words behind
abbrev pub tree_creation_read : List (List ℕ) → Option (Option CreateArgs × List (List ℕ))
tree_creation_read list = tree_attributes_where (said create_word list).0 (said create_word list).1

-- [noreply|pipe|getrim] and the end of the line
abbrev pub insert_end_read : List (List ℕ) → Option (Answer × Bool)
insert_end_read list = row_read (followed_by (perhaps (one sent_or_getrim_word)) (λ said. gives (said_or_plain said))) list
