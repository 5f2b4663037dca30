-- Rows of the grammar's table as data, what a row spells by the words of a line, and how it is read.
use Rattle.std.specs.Prelude.{◌≡◌, ℕ, List, [], ◌∷◌, ◌++◌, Option, Some, None}
use Rattle.std.specs.Option.{option_map, option_and_then}

-- A part of a row, and what is made of its words.
pub data Part : Type 0 → Type 1 where
  -- one word of a kind
  one : {A : Type 0} → (List ℕ → Option A) → Part A
  -- one part, and then another
  both : {A B : Type 0} → Part A → Part B → Part (A × B)
  -- a part that may be left out
  perhaps : {A : Type 0} → Part A → Part (Option A)
  -- all words that are left
  all_left : {A : Type 0} → (List (List ℕ) → Option A) → Part A

-- A row: a part and what follows it, or the end of the line with what was spelled.
pub data Row : Type 0 → Type 1 where
  followed_by : {A B : Type 0} → Part B → (B → Row A) → Row A
  gives : {A : Type 0} → A → Row A

-- In a row, `x ← part` names what is made of the part.
infixl 10 ◌>>=◌
abbrev pub ◌>>=◌ : {A B : Type 0} → Part B → (B → Row A) → Row A
part >>= next = followed_by part next

-- The part spells this by these words.
abbrev pub SpellsPart : {A : Type 0} → Part A → List (List ℕ) → A → Type 0
SpellsPart (one kind) list a = (word : List ℕ) × (list ≡ word ∷ []) × (kind word ≡ Some a)
SpellsPart (both first second) list a =
    (front : List (List ℕ)) × (back : List (List ℕ)) × (list ≡ front ++ back) × SpellsPart first front a.0 × SpellsPart second back a.1
SpellsPart (perhaps part) list None = list ≡ []
SpellsPart (perhaps part) list (Some a) = SpellsPart part list a
SpellsPart (all_left kind) list a = kind list ≡ Some a

-- The row spells this by these words: those of its parts, one part after another, and no more.
abbrev pub Spells : {A : Type 0} → Row A → List (List ℕ) → A → Type 0
Spells (followed_by {B = B} part next) list a =
    (b : B) × (front : List (List ℕ)) × (back : List (List ℕ)) × (list ≡ front ++ back) × SpellsPart part front b × Spells (next b) back a
Spells (gives result) list a = (list ≡ []) × (a ≡ result)

-- what is made of an optional part by its reading: where it is not read it is left out
abbrev pub or_left_out : {A : Type 0} → List (List ℕ) → Option (A × List (List ℕ)) → Option A × List (List ℕ)
or_left_out list None = (None, list)
or_left_out list (Some read) = (Some read.0, read.1)

-- what a part makes of the first words, and the words behind them
abbrev pub part_read : {A : Type 0} → Part A → List (List ℕ) → Option (A × List (List ℕ))
part_read (one kind) [] = None
part_read (one kind) (word ∷ more) = option_map (λ a. (a, more)) (kind word)
part_read (both first second) list =
    option_and_then (λ read. option_map (λ behind. ((read.0, behind.0), behind.1)) (part_read second read.1)) (part_read first list)
part_read (perhaps part) list = Some (or_left_out list (part_read part list))
part_read (all_left kind) list = option_map (λ a. (a, [])) (kind list)

-- what is spelled at the end of the line
abbrev pub at_end : {A : Type 0} → A → List (List ℕ) → Option A
at_end a [] = Some a
at_end a (word ∷ more) = None

-- what a row makes of the words, read from the left
abbrev pub row_read : {A : Type 0} → Row A → List (List ℕ) → Option A
row_read (followed_by part next) list = option_and_then (λ read. row_read (next read.0) read.1) (part_read part list)
row_read (gives result) list = at_end result list
