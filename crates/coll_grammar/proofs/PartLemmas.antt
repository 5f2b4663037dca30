-- How rows with attributes are read: the attributes first, and then what follows.
use Rattle.std.proofs.Common.{◌≡◌, ℕ, ◌^◌, Bool, List, is_some, refl, sym, ◌∙◌, Option, Some, None, option_map, option_and_then, ℤ}
use Rattle.arc_core.specs.declared.attributes.CreateArgs.{CreateArgs}
use Rattle.arc_core.specs.declared.coll_commands.CollHead.{CollHead}
use Rattle.arc_core.specs.declared.collections.Action.{Action}
use Rattle.arc_core.specs.declared.collections.Kind.{Kind}
use Rattle.arc_core.specs.CollectionGrammar.{attributes, attributes_behind, creation, action_word, unreadable_word, create_word, args_of}
use Rattle.arc_core.specs.Rows.{Part, Row, one, both, perhaps, followed_by, part_read, row_read, or_left_out}
use Rattle.arc_core.specs.Words.{number_below, exptime_word}
use Rattle.coll_grammar.specs.Parts.{attributes_part, attributes_read, named_args, attributes_where, creation_read}

-- what follows two options, one after the other

behind-options : {A B C : Type 0} (a : A) (o : Option (B × List (List ℕ))) (f : A × B → List (List ℕ) → Option C)
    → option_and_then (λ (read : (A × B) × List (List ℕ)). f read.0 read.1) (option_map (λ (behind : B × List (List ℕ)). ((a, behind.0), behind.1)) o)
    ≡ option_and_then (λ (behind : B × List (List ℕ)). f (a, behind.0) behind.1) o
behind-options a None f = refl
behind-options a (Some behind) f = refl

both-options : {A B C : Type 0} (o : Option (A × List (List ℕ))) (second : List (List ℕ) → Option (B × List (List ℕ))) (f : A × B → List (List ℕ) → Option C)
    → option_and_then (λ (read : (A × B) × List (List ℕ)). f read.0 read.1)
    (option_and_then (λ (read : A × List (List ℕ)). option_map (λ (behind : B × List (List ℕ)). ((read.0, behind.0), behind.1)) (second read.1)) o)
    ≡ option_and_then (λ (read : A × List (List ℕ)). option_and_then (λ (behind : B × List (List ℕ)). f (read.0, behind.0) behind.1) (second read.1)) o
both-options None second f = refl
both-options (Some read) second f = behind-options read.0 (second read.1) f

-- two parts as one
both-row : {A B C : Type 0} (first : Part A) (second : Part B) (next : A × B → Row C) (list : List (List ℕ))
    → row_read (followed_by (both first second) next) list ≡ row_read (followed_by first (λ a. followed_by second (λ b. next (a, b)))) list
both-row first second next list = both-options (part_read first list) (part_read second) (λ pair behind. row_read (next pair) behind)

-- what follows a mapped option
mapped-option : {A B C : Type 0} (name : A → B) (o : Option (A × List (List ℕ))) (f : B → List (List ℕ) → Option C)
    → option_and_then (λ (read : B × List (List ℕ)). f read.0 read.1) (option_map (λ (read : A × List (List ℕ)). (name read.0, read.1)) o)
    ≡ option_and_then (λ (read : A × List (List ℕ)). f (name read.0) read.1) o
mapped-option name None f = refl
mapped-option name (Some read) f = refl

-- rows that go on alike are read alike

alike-options : {A B : Type 0} (o : Option (A × List (List ℕ))) (f g : A → List (List ℕ) → Option B) → ((a : A) (list : List (List ℕ)) → f a list ≡ g a list)
    → option_and_then (λ (read : A × List (List ℕ)). f read.0 read.1) o ≡ option_and_then (λ (read : A × List (List ℕ)). g read.0 read.1) o
alike-options None f g same = refl
alike-options (Some read) f g same = same read.0 read.1

alike-rows : {A B : Type 0} (part : Part A) (next other : A → Row B) (list : List (List ℕ))
    → ((a : A) (behind : List (List ℕ)) → row_read (next a) behind ≡ row_read (other a) behind)
    → row_read (followed_by part next) list ≡ row_read (followed_by part other) list
alike-rows part next other list same = alike-options (part_read part list) (λ a behind. row_read (next a) behind) (λ a behind. row_read (other a) behind) same

-- two parts as one, where what follows the first is read alike
both-alike : {A B C : Type 0} (first : Part A) (second : Part B) (next : A × B → Row C) (other : A → Row C) (list : List (List ℕ))
    → ((a : A) (behind : List (List ℕ)) → row_read (followed_by second (λ b. next (a, b))) behind ≡ row_read (other a) behind)
    → row_read (followed_by (both first second) next) list ≡ row_read (followed_by first other) list
both-alike first second next other list same = both-row first second next list ∙ alike-rows first (λ a. followed_by second (λ b. next (a, b))) other list same

-- attributes and what follows them, from the last part to the first

abbrev last_part : Kind → Part (Option Action × Option Bool)
last_part kind = both (perhaps (one (action_word kind))) (perhaps (one unreadable_word))

abbrev last_row : Kind → (CreateArgs → Row CollHead) → ℕ → ℤ → ℕ → Row CollHead
last_row kind next flags exptime maxcount =
    followed_by (perhaps (one (action_word kind))) (λ action. followed_by (perhaps (one unreadable_word)) (λ unreadable. next (args_of kind flags exptime maxcount action unreadable)))

last-read : (kind : Kind) (next : CreateArgs → Row CollHead) (flags : ℕ) (exptime : ℤ) (maxcount : ℕ) (list : List (List ℕ))
    → row_read (followed_by (last_part kind) (λ named. next (args_of kind flags exptime maxcount named.0 named.1))) list
    ≡ row_read (last_row kind next flags exptime maxcount) list
last-read kind next flags exptime maxcount list =
    both-row (perhaps (one (action_word kind))) (perhaps (one unreadable_word)) (λ named. next (args_of kind flags exptime maxcount named.0 named.1)) list

abbrev maxcount_part : Kind → Part (ℕ × (Option Action × Option Bool))
maxcount_part kind = both (one (number_below (2 ^ 32))) (last_part kind)

abbrev maxcount_row : Kind → (CreateArgs → Row CollHead) → ℕ → ℤ → Row CollHead
maxcount_row kind next flags exptime = followed_by (one (number_below (2 ^ 32))) (λ maxcount. last_row kind next flags exptime maxcount)

maxcount-read : (kind : Kind) (next : CreateArgs → Row CollHead) (flags : ℕ) (exptime : ℤ) (list : List (List ℕ))
    → row_read (followed_by (maxcount_part kind) (λ named. next (args_of kind flags exptime named.0 named.1.0 named.1.1))) list
    ≡ row_read (maxcount_row kind next flags exptime) list
maxcount-read kind next flags exptime list =
    both-alike (one (number_below (2 ^ 32))) (last_part kind) (λ named. next (args_of kind flags exptime named.0 named.1.0 named.1.1))
    (λ maxcount. last_row kind next flags exptime maxcount) list (last-read kind next flags exptime)

abbrev exptime_part : Kind → Part (ℤ × (ℕ × (Option Action × Option Bool)))
exptime_part kind = both (one exptime_word) (maxcount_part kind)

abbrev exptime_row : Kind → (CreateArgs → Row CollHead) → ℕ → Row CollHead
exptime_row kind next flags = followed_by (one exptime_word) (λ exptime. maxcount_row kind next flags exptime)

exptime-read : (kind : Kind) (next : CreateArgs → Row CollHead) (flags : ℕ) (list : List (List ℕ))
    → row_read (followed_by (exptime_part kind) (λ named. next (args_of kind flags named.0 named.1.0 named.1.1.0 named.1.1.1))) list
    ≡ row_read (exptime_row kind next flags) list
exptime-read kind next flags list =
    both-alike (one exptime_word) (maxcount_part kind) (λ named. next (args_of kind flags named.0 named.1.0 named.1.1.0 named.1.1.1))
    (λ exptime. maxcount_row kind next flags exptime) list (maxcount-read kind next flags)

all-read : (kind : Kind) (next : CreateArgs → Row CollHead) (list : List (List ℕ))
    → row_read (followed_by (attributes_part kind) (λ named. next (named_args kind named))) list ≡ row_read (attributes kind next) list
all-read kind next list =
    both-alike (one (number_below (2 ^ 32))) (exptime_part kind) (λ named. next (named_args kind named)) (λ flags. exptime_row kind next flags) list (exptime-read kind next)

pub attributes_are_read : (kind : Kind) (next : CreateArgs → Row CollHead) (list : List (List ℕ))
    → row_read (attributes kind next) list ≡ option_and_then (λ (read : CreateArgs × List (List ℕ)). row_read (next read.0) read.1) (attributes_read kind list)
attributes_are_read kind next list =
    sym (mapped-option (named_args kind) (part_read (attributes_part kind) list) (λ args behind. row_read (next args) behind) ∙ all-read kind next list)

-- attributes behind the word `create`, or none, and what follows them

where-read : (kind : Kind) (next : Option CreateArgs → Row CollHead) (create : Option Bool) (list : List (List ℕ))
    → row_read (attributes_behind kind next create) list
    ≡ option_and_then (λ (read : Option CreateArgs × List (List ℕ)). row_read (next read.0) read.1) (attributes_where kind (is_some create) list)
where-read kind next None list = refl
where-read kind next (Some create) list =
    attributes_are_read kind (λ args. next (Some args)) list
    ∙ sym (mapped-option (λ args. Some args) (attributes_read kind list) (λ args behind. row_read (next args) behind))

pub creation_is_read : (kind : Kind) (next : Option CreateArgs → Row CollHead) (list : List (List ℕ))
    → row_read (creation kind next) list ≡ option_and_then (λ (read : Option CreateArgs × List (List ℕ)). row_read (next read.0) read.1) (creation_read kind list)
creation_is_read kind next list =
    where-read kind next (or_left_out list (part_read (one create_word) list)).0 (or_left_out list (part_read (one create_word) list)).1
