-- How rows are read in which a part of several words stands: the part first, and then what follows.
use Rattle.std.proofs.Common.{◌≡◌, ℕ, ◌^◌, Bool, List, [], ◌∷◌, is_some, refl, sym, ◌∙◌, ap, Option, Some, None, option_map, option_and_then, ℤ}
use Rattle.arc_core.specs.declared.attributes.CreateArgs.{CreateArgs}
use Rattle.arc_core.specs.declared.collections.Action.{Action}
use Rattle.arc_core.specs.declared.filters.EflagChange.{EflagChange}
use Rattle.arc_core.specs.declared.filters.EflagChange.TheVariants as change
use Rattle.arc_core.specs.declared.filters.Filter.{Filter}
use Rattle.arc_core.specs.CollectionGrammar.{unreadable_word, create_word}
use Rattle.arc_core.specs.Rows.{Part, Row, one, both, perhaps, followed_by, part_read, row_read, or_left_out, at_end}
use Rattle.arc_core.specs.Words.{number_below, exptime_word}
use Rattle.item_attrs.specs.Attributes.{tree_action_word}
use Rattle.tree_words.specs.declared.commands.TreeCommand.{TreeCommand}
use Rattle.tree_words.specs.Reading.{values_read, filter_read, first_read, keeping_read, changed_read, tree_attributes_part, named_args, tree_attributes_read, tree_attributes_where, tree_creation_read, insert_end_read}
use Rattle.tree_words.specs.TreeGrammar.{FilterBegin, filter_begin, filter_of, fvalues_word, values_behind, filtered, behind_or, or_else, combining_part, putting_part, combined, value_len_word, changed, tree_args_of, tree_attributes, tree_attributes_behind, tree_creation, sent_or_getrim_word}
use Rattle.tree_words.specs.TreeLines.{said_or_plain, insert_head, ends_or_trims}

-- what follows two options, one after the other

behind-options : {A B C : Type 0} (a : A) (o : Option (B × List (List ℕ))) (f : A × B → List (List ℕ) → Option C)
    → option_and_then (λ (read : (A × B) × List (List ℕ)). f read.0 read.1) (option_map (λ (behind : B × List (List ℕ)). ((a, behind.0), behind.1)) o)
    ≡ option_and_then (λ (behind : B × List (List ℕ)). f (a, behind.0) behind.1) o
behind-options a None f = refl
behind-options a (Some behind) f = refl

both-options : {A B C : Type 0} (o : Option (A × List (List ℕ))) (second : List (List ℕ) → Option (B × List (List ℕ))) (f : A × B → List (List ℕ) → Option C)
    → option_and_then (λ (read : (A × B) × List (List ℕ)). f read.0 read.1)
    (option_and_then (λ (read : A × List (List ℕ)). option_map (λ (behind : B × List (List ℕ)). ((read.0, behind.0), behind.1)) (second read.1)) o)
    ≡ option_and_then (λ (read : A × List (List ℕ)). option_and_then (λ (behind : B × List (List ℕ)). f (read.0, behind.0) behind.1) (second read.1)) o
both-options None second f = refl
both-options (Some read) second f = behind-options read.0 (second read.1) f

-- two parts as one
both-row : {A B C : Type 0} (first : Part A) (second : Part B) (next : A × B → Row C) (list : List (List ℕ))
    → row_read (followed_by (both first second) next) list ≡ row_read (followed_by first (λ a. followed_by second (λ b. next (a, b)))) list
both-row first second next list = both-options (part_read first list) (part_read second) (λ pair behind. row_read (next pair) behind)

-- what follows a mapped option
mapped-option : {A B C : Type 0} (name : A → B) (o : Option (A × List (List ℕ))) (f : B → List (List ℕ) → Option C)
    → option_and_then (λ (read : B × List (List ℕ)). f read.0 read.1) (option_map (λ (read : A × List (List ℕ)). (name read.0, read.1)) o)
    ≡ option_and_then (λ (read : A × List (List ℕ)). f (name read.0) read.1) o
mapped-option name None f = refl
mapped-option name (Some read) f = refl

-- rows that go on alike are read alike

alike-options : {A B : Type 0} (o : Option (A × List (List ℕ))) (f g : A → List (List ℕ) → Option B) → ((a : A) (list : List (List ℕ)) → f a list ≡ g a list)
    → option_and_then (λ (read : A × List (List ℕ)). f read.0 read.1) o ≡ option_and_then (λ (read : A × List (List ℕ)). g read.0 read.1) o
alike-options None f g same = refl
alike-options (Some read) f g same = same read.0 read.1

alike-rows : {A B : Type 0} (part : Part A) (next other : A → Row B) (list : List (List ℕ))
    → ((a : A) (behind : List (List ℕ)) → row_read (next a) behind ≡ row_read (other a) behind)
    → row_read (followed_by part next) list ≡ row_read (followed_by part other) list
alike-rows part next other list same = alike-options (part_read part list) (λ a behind. row_read (next a) behind) (λ a behind. row_read (other a) behind) same

-- two parts as one, where what follows the first is read alike
both-alike : {A B C : Type 0} (first : Part A) (second : Part B) (next : A × B → Row C) (other : A → Row C) (list : List (List ℕ))
    → ((a : A) (behind : List (List ℕ)) → row_read (followed_by second (λ b. next (a, b))) behind ≡ row_read (other a) behind)
    → row_read (followed_by (both first second) next) list ≡ row_read (followed_by first other) list
both-alike first second next other list same = both-row first second next list ∙ alike-rows first (λ a. followed_by second (λ b. next (a, b))) other list same

-- a filter, or none, and what follows it

filter-where : {A : Type 0} (next : Option Filter → Row A) (begun : Option FilterBegin) (list : List (List ℕ))
    → row_read (values_behind next begun) list
    ≡ option_and_then (λ (read : Option Filter × List (List ℕ)). row_read (next read.0) read.1) (values_read begun list)
filter-where next None list = refl
filter-where next (Some begun) list =
    sym (mapped-option (λ values. Some (filter_of begun values)) (part_read (one (fvalues_word begun.1.0 begun.1.1)) list) (λ filter behind. row_read (next filter) behind))

pub filter_is_read : {A : Type 0} (next : Option Filter → Row A) (list : List (List ℕ))
    → row_read (filtered next) list ≡ option_and_then (λ (read : Option Filter × List (List ℕ)). row_read (next read.0) read.1) (filter_read list)
filter_is_read next list =
    filter-where next (or_left_out list (part_read filter_begin list)).0 (or_left_out list (part_read filter_begin list)).1

-- a change of flag and value, and what follows it

else-options : {A B : Type 0} (o : Option (B × List (List ℕ))) (list : List (List ℕ)) (next : B → Row A) (other : Row A) (name : B → EflagChange × Option ℕ)
    (more : Option ((EflagChange × Option ℕ) × List (List ℕ))) (f : EflagChange × Option ℕ → Row A)
    → ((b : B) → next b ≡ f (name b))
    → row_read other list ≡ option_and_then (λ (read : (EflagChange × Option ℕ) × List (List ℕ)). row_read (f read.0) read.1) more
    → row_read (behind_or next other (or_left_out list o).0) (or_left_out list o).1
    ≡ option_and_then (λ (read : (EflagChange × Option ℕ) × List (List ℕ)). row_read (f read.0) read.1)
    (first_read (option_map (λ (read : B × List (List ℕ)). (name read.0, read.1)) o) more)
else-options None list next other name more f same h = h
else-options (Some read) list next other name more f same h = rw (same read.0) refl

id-mapped : {A : Type 0} (o : Option (A × List (List ℕ))) → option_map (λ (read : A × List (List ℕ)). (read.0, read.1)) o ≡ o
id-mapped None = refl
id-mapped (Some read) = refl

keeping-row : {A : Type 0} (next : EflagChange → Option ℕ → Row A) (list : List (List ℕ))
    → row_read (followed_by (one value_len_word) (λ len. next change.Keep len)) list
    ≡ option_and_then (λ (read : (EflagChange × Option ℕ) × List (List ℕ)). row_read (next read.0.0 read.0.1) read.1) (keeping_read list)
keeping-row next list =
    sym (mapped-option (λ len. (change.Keep, len)) (part_read (one value_len_word) list) (λ said behind. row_read (next said.0 said.1) behind))

putting-row : {A : Type 0} (next : EflagChange → Option ℕ → Row A) (list : List (List ℕ))
    → row_read (or_else putting_part (λ said. next said.0 said.1) (followed_by (one value_len_word) (λ len. next change.Keep len))) list
    ≡ option_and_then (λ (read : (EflagChange × Option ℕ) × List (List ℕ)). row_read (next read.0.0 read.0.1) read.1)
    (first_read (part_read putting_part list) (keeping_read list))
putting-row next list =
    else-options (part_read putting_part list) list (λ said. next said.0 said.1) (followed_by (one value_len_word) (λ len. next change.Keep len))
    (λ said. said) (keeping_read list) (λ said. next said.0 said.1) (λ b. refl) (keeping-row next list)
    ∙ ap
    (λ o. option_and_then (λ (read : (EflagChange × Option ℕ) × List (List ℕ)). row_read (next read.0.0 read.0.1) read.1) (first_read o (keeping_read list)))
    (id-mapped (part_read putting_part list))

pub change_is_read : {A : Type 0} (next : EflagChange → Option ℕ → Row A) (list : List (List ℕ))
    → row_read (changed next) list
    ≡ option_and_then (λ (read : (EflagChange × Option ℕ) × List (List ℕ)). row_read (next read.0.0 read.0.1) read.1) (changed_read list)
change_is_read next list =
    else-options (part_read combining_part list) list (λ said. next (combined said.0) said.1)
    (or_else putting_part (λ said. next said.0 said.1) (followed_by (one value_len_word) (λ len. next change.Keep len)))
    (λ said. (combined said.0, said.1)) (first_read (part_read putting_part list) (keeping_read list)) (λ said. next said.0 said.1) (λ b. refl) (putting-row next list)

-- attributes and what follows them, from the last part to the first

abbrev last_part : Part (Option Action × Option Bool)
last_part = both (perhaps (one tree_action_word)) (perhaps (one unreadable_word))

abbrev last_row : {A : Type 0} → (CreateArgs → Row A) → ℕ → ℤ → ℕ → Row A
last_row next flags exptime maxcount =
    followed_by (perhaps (one tree_action_word)) (λ action. followed_by (perhaps (one unreadable_word)) (λ unreadable. next (tree_args_of flags exptime maxcount action unreadable)))

last-read : {A : Type 0} (next : CreateArgs → Row A) (flags : ℕ) (exptime : ℤ) (maxcount : ℕ) (list : List (List ℕ))
    → row_read (followed_by last_part (λ named. next (tree_args_of flags exptime maxcount named.0 named.1))) list
    ≡ row_read (last_row next flags exptime maxcount) list
last-read next flags exptime maxcount list =
    both-row (perhaps (one tree_action_word)) (perhaps (one unreadable_word)) (λ named. next (tree_args_of flags exptime maxcount named.0 named.1)) list

abbrev maxcount_part : Part (ℕ × (Option Action × Option Bool))
maxcount_part = both (one (number_below (2 ^ 32))) last_part

abbrev maxcount_row : {A : Type 0} → (CreateArgs → Row A) → ℕ → ℤ → Row A
maxcount_row next flags exptime = followed_by (one (number_below (2 ^ 32))) (λ maxcount. last_row next flags exptime maxcount)

maxcount-read : {A : Type 0} (next : CreateArgs → Row A) (flags : ℕ) (exptime : ℤ) (list : List (List ℕ))
    → row_read (followed_by maxcount_part (λ named. next (tree_args_of flags exptime named.0 named.1.0 named.1.1))) list
    ≡ row_read (maxcount_row next flags exptime) list
maxcount-read next flags exptime list =
    both-alike (one (number_below (2 ^ 32))) last_part (λ named. next (tree_args_of flags exptime named.0 named.1.0 named.1.1))
    (λ maxcount. last_row next flags exptime maxcount) list (last-read next flags exptime)

abbrev exptime_part : Part (ℤ × (ℕ × (Option Action × Option Bool)))
exptime_part = both (one exptime_word) maxcount_part

abbrev exptime_row : {A : Type 0} → (CreateArgs → Row A) → ℕ → Row A
exptime_row next flags = followed_by (one exptime_word) (λ exptime. maxcount_row next flags exptime)

exptime-read : {A : Type 0} (next : CreateArgs → Row A) (flags : ℕ) (list : List (List ℕ))
    → row_read (followed_by exptime_part (λ named. next (tree_args_of flags named.0 named.1.0 named.1.1.0 named.1.1.1))) list
    ≡ row_read (exptime_row next flags) list
exptime-read next flags list =
    both-alike (one exptime_word) maxcount_part (λ named. next (tree_args_of flags named.0 named.1.0 named.1.1.0 named.1.1.1))
    (λ exptime. maxcount_row next flags exptime) list (maxcount-read next flags)

all-read : {A : Type 0} (next : CreateArgs → Row A) (list : List (List ℕ))
    → row_read (followed_by tree_attributes_part (λ named. next (named_args named))) list ≡ row_read (tree_attributes next) list
all-read next list =
    both-alike (one (number_below (2 ^ 32))) exptime_part (λ named. next (named_args named)) (λ flags. exptime_row next flags) list (exptime-read next)

pub attributes_are_read : {A : Type 0} (next : CreateArgs → Row A) (list : List (List ℕ))
    → row_read (tree_attributes next) list ≡ option_and_then (λ (read : CreateArgs × List (List ℕ)). row_read (next read.0) read.1) (tree_attributes_read list)
attributes_are_read next list =
    sym (mapped-option named_args (part_read tree_attributes_part list) (λ args behind. row_read (next args) behind) ∙ all-read next list)

-- attributes behind the word `create`, or none, and what follows them

where-read : {A : Type 0} (next : Option CreateArgs → Row A) (create : Option Bool) (list : List (List ℕ))
    → row_read (tree_attributes_behind next create) list
    ≡ option_and_then (λ (read : Option CreateArgs × List (List ℕ)). row_read (next read.0) read.1) (tree_attributes_where (is_some create) list)
where-read next None list = refl
where-read next (Some create) list =
    attributes_are_read (λ args. next (Some args)) list
    ∙ sym (mapped-option (λ args. Some args) (tree_attributes_read list) (λ args behind. row_read (next args) behind))

pub creation_is_read : {A : Type 0} (next : Option CreateArgs → Row A) (list : List (List ℕ))
    → row_read (tree_creation next) list ≡ option_and_then (λ (read : Option CreateArgs × List (List ℕ)). row_read (next read.0) read.1) (tree_creation_read list)
creation_is_read next list =
    where-read next (or_left_out list (part_read (one create_word) list)).0 (or_left_out list (part_read (one create_word) list)).1

-- the end of an insert's line

mapped-end : {A B : Type 0} (f : A → B) (a : A) (list : List (List ℕ)) → at_end (f a) list ≡ option_map f (at_end a list)
mapped-end f a [] = refl
mapped-end f a (word ∷ more) = refl

pub end_is_read : (asked : Bool → TreeCommand) (list : List (List ℕ)) → row_read (ends_or_trims asked) list ≡ option_map (insert_head asked) (insert_end_read list)
end_is_read asked list =
    let read = or_left_out list (part_read (one sent_or_getrim_word) list) in
    mapped-end (insert_head asked) (said_or_plain read.0) read.1
