-- Parts of rows that stand for more than one word, as they are read: what is made of them, and the words behind.
use Rattle.std.specs.Prelude.{ℕ, ◌^◌, Bool, true, false, List, bytes_eq, if◌then◌else◌, is_some, Option, Some, None, ℤ}
use Rattle.std.specs.Option.{option_map}
use Rattle.arc_core.specs.declared.attributes.CreateArgs.{CreateArgs}
use Rattle.arc_core.specs.declared.collections.Action.{Action}
use Rattle.arc_core.specs.declared.collections.Kind.{Kind}
use Rattle.arc_core.specs.declared.collections.Take.{Take}
use Rattle.arc_core.specs.CollectionGrammar.{take_word, taking_of, action_word, unreadable_word, create_word, args_of}
use Rattle.arc_core.specs.Rows.{Part, one, both, perhaps, part_read, or_left_out}
use Rattle.arc_core.specs.Words.{number_below, exptime_word}

-- this one word
abbrev pub fixed : List ℕ → List ℕ → Option Bool
fixed name word = if bytes_eq word name then Some true else None

-- whether a word that may be left out is there, and the words behind
abbrev pub said : {A : Type 0} → (List ℕ → Option A) → List (List ℕ) → Bool × List (List ℕ)
said kind list = (is_some (or_left_out list (part_read (one kind) list)).0, (or_left_out list (part_read (one kind) list)).1)

-- [delete|drop] in front, and the words behind
abbrev pub taking_read : List (List ℕ) → Take × List (List ℕ)
taking_read list = (taking_of (or_left_out list (part_read (one take_word) list)).0, (or_left_out list (part_read (one take_word) list)).1)

-- <flags> <exptime> <maxcount> [<action>] [unreadable]
abbrev pub attributes_part : Kind → Part (ℕ × (ℤ × (ℕ × (Option Action × Option Bool))))
attributes_part kind =
    both (one (number_below (2 ^ 32))) (both (one exptime_word) (both (one (number_below (2 ^ 32))) (both (perhaps (one (action_word kind))) (perhaps (one unreadable_word)))))

-- the attributes that the part names
abbrev pub named_args : Kind → ℕ × (ℤ × (ℕ × (Option Action × Option Bool))) → CreateArgs
named_args kind named = args_of kind named.0 named.1.0 named.1.1.0 named.1.1.1.0 named.1.1.1.1

-- the attributes that stand in front, and the words behind
abbrev pub attributes_read : Kind → List (List ℕ) → Option (CreateArgs × List (List ℕ))
attributes_read kind list = option_map (λ read. (named_args kind read.0, read.1)) (part_read (attributes_part kind) list)

-- the attributes behind the word `create`, where that is there
abbrev pub attributes_where : Kind → Bool → List (List ℕ) → Option (Option CreateArgs × List (List ℕ))
attributes_where kind false behind = Some (None, behind)
attributes_where kind true behind = option_map (λ read. (Some read.0, read.1)) (attributes_read kind behind)

-- [create <flags> <exptime> <maxcount> [<action>] [unreadable]] in front, and the words behind
abbrev pub creation_read : Kind → List (List ℕ) → Option (Option CreateArgs × List (List ℕ))
creation_read kind list = attributes_where kind (said create_word list).0 (said create_word list).1
