-- When the words of a row are read as the parts by which they are spelled: what may follow a part that is left out.
use Rattle.std.proofs.Common.{◌≡◌, ℕ, Bool, true, false, if◌then◌else◌, List, [], ◌∷◌, ◌++◌, refl, sym, ap, subst, Option, Some, None, option_map, option_and_then, bytes_eq}
use Rattle.std.specs.Prelude.{◌↔◌}
use Rattle.std.proofs.lemmas.Slice.Eq.{bytes_eq-Decides}
use Rattle.arc_core.specs.Rows.{Part, Row, one, both, perhaps, followed_by, gives, SpellsPart, Spells, part_read, row_read}
use Rattle.line_grammar.proofs.RowLemmas.{IsClear, IsClearPart, IsOther, one-is_clear, perhaps-is_clear, row_read-from_Spells, Spells-from_row_read, Some-same}
use Rattle.tree_words.specs.TreeGrammar.{behind_or, or_else}

-- options

pub never : {A P : Type 0} (b : A) → None ≡ Some b → P
never b h = cc

pub clash : {A P : Type 0} (o : Option A) (a : A) → o ≡ None → o ≡ Some a → P
clash o a h k = cc

pub none-where : {A : Type 0} (o : Option A) → ((a : A) → o ≡ Some a → ⊥) → o ≡ None
none-where None h = refl
none-where (Some a) h = absurd (h a refl)

pub mapped-some : {A B : Type 0} (f : A → B) (o : Option A) (b : B) → option_map f o ≡ Some b → (a : A) × (o ≡ Some a)
mapped-some f None b h = cc
mapped-some f (Some a) b h = (a, refl)

mapped-none : {A B : Type 0} (f : A → B) (o : Option A) → o ≡ None → option_map f o ≡ None
mapped-none f o h = rw h refl

and_then-none : {A B : Type 0} (f : A → Option B) (o : Option A) → ((a : A) → o ≡ Some a → f a ≡ None) → option_and_then f o ≡ None
and_then-none f None h = refl
and_then-none f (Some a) h = h a refl

-- a choice between words: what each of them has, the word that was read has

pub choice : {A P : Type 0} (test : Bool) (said : A) (other : Option A) (b : A) → (test ≡ true → P) → (other ≡ Some b → P)
    → (if test then Some said else other) ≡ Some b → P
choice true said other b is_named is_other h = is_named refl
choice false said other b is_named is_other h = is_other h

pub named : (P : List ℕ → Type 0) (word name : List ℕ) → P name → bytes_eq word name ≡ true → P word
named P word name h test = subst P (sym ((bytes_eq-Decides word name).0 test)) h

-- how lists begin

-- The list is empty, or its first word has this.
abbrev pub BeginsWith : (List ℕ → Type 0) → List (List ℕ) → Type 0
BeginsWith P [] = Unit {0}
BeginsWith P (word ∷ more) = P word

-- So are all lists that the row spells.
abbrev pub StartsWith : {A : Type 0} → (List ℕ → Type 0) → Row A → Type 0
StartsWith {A = A} P row = (list : List (List ℕ)) (a : A) → Spells row list a → BeginsWith P list

pub weaker-list : (P Q : List ℕ → Type 0) → ((word : List ℕ) → P word → Q word) → (list : List (List ℕ)) → BeginsWith P list → BeginsWith Q list
weaker-list P Q h [] s = tt
weaker-list P Q h (word ∷ more) s = h word s

pub weaker : {A : Type 0} (P Q : List ℕ → Type 0) (row : Row A) → ((word : List ℕ) → P word → Q word) → StartsWith P row → StartsWith Q row
weaker P Q row h s = λ list a t. weaker-list P Q h list (s list a t)

pub end-begins : {A : Type 0} (P : List ℕ → Type 0) (result : A) → StartsWith P (gives result)
end-begins P result = λ list a s. subst (BeginsWith P) (sym s.0) tt

one-list : {B : Type 0} (P : List ℕ → Type 0) (kind : List ℕ → Option B) (list front back : List (List ℕ)) (b : B)
    → ((word : List ℕ) (b : B) → kind word ≡ Some b → P word) → list ≡ front ++ back → SpellsPart (one kind) front b → BeginsWith P list
one-list P kind list front back b has at s = rw (at, s.1) (has s.0 b s.2)

pub one-begins : {A B : Type 0} (P : List ℕ → Type 0) (kind : List ℕ → Option B) (next : B → Row A)
    → ((word : List ℕ) (b : B) → kind word ≡ Some b → P word) → StartsWith P (followed_by (one kind) next)
one-begins P kind next has = λ list a s. one-list P kind list s.1 s.2 s.0 has s.3 s.4

perhaps-list : {A B : Type 0} (P : List ℕ → Type 0) (kind : List ℕ → Option B) (next : Option B → Row A)
    → ((word : List ℕ) (b : B) → kind word ≡ Some b → P word) → StartsWith P (next None)
    → (b : Option B) (list front back : List (List ℕ)) (a : A) → list ≡ front ++ back → SpellsPart (perhaps (one kind)) front b → Spells (next b) back a
    → BeginsWith P list
perhaps-list P kind next has other None list front back a at s t = rw (at, s) (other back a t)
perhaps-list P kind next has other (Some b) list front back a at s t = rw (at, s.1) (has s.0 b s.2)

pub perhaps-begins : {A B : Type 0} (P : List ℕ → Type 0) (kind : List ℕ → Option B) (next : Option B → Row A)
    → ((word : List ℕ) (b : B) → kind word ≡ Some b → P word) → StartsWith P (next None) → StartsWith P (followed_by (perhaps (one kind)) next)
perhaps-begins P kind next has other = λ list a s. perhaps-list P kind next has other s.0 list s.1 s.2 a s.3 s.4 s.5

-- what follows is not read as one word of a kind where it begins with none

pub other-list : {B : Type 0} (kind : List ℕ → Option B) (list : List (List ℕ)) → BeginsWith (λ word. kind word ≡ None) list → part_read (one kind) list ≡ None
other-list kind [] h = refl
other-list kind (word ∷ more) h = rw h refl

pub one-is_other : {A B : Type 0} (kind : List ℕ → Option B) (row : Row A) → StartsWith (λ word. kind word ≡ None) row → IsOther (one kind) row
one-is_other kind row s = λ back a t. other-list kind back (s back a t)

-- nor as two parts where the first is not read, or the second is not behind it

pub first-none : {A B : Type 0} (first : Part A) (second : Part B) (list : List (List ℕ)) → part_read first list ≡ None → part_read (both first second) list ≡ None
first-none first second list h = rw h refl

both-none : {A B : Type 0} (first : Part A) (second : Part B) (list : List (List ℕ))
    → ((read : A × List (List ℕ)) → part_read first list ≡ Some read → part_read second read.1 ≡ None) → part_read (both first second) list ≡ None
both-none first second list h =
    and_then-none (λ read. option_map (λ behind. ((read.0, behind.0), behind.1)) (part_read second read.1)) (part_read first list)
    (λ read k. mapped-none (λ behind. ((read.0, behind.0), behind.1)) (part_read second read.1) (h read k))

mapped-behind : {A : Type 0} (more : List (List ℕ)) (o : Option A) (read : A × List (List ℕ)) → option_map (λ a. (a, more)) o ≡ Some read → more ≡ read.1
mapped-behind more None read h = cc
mapped-behind more (Some a) read h = ap (λ pair. pair.1) (Some-same (a, more) read h)

-- one word that was read leaves the others
one-behind : {A : Type 0} (kind : List ℕ → Option A) (word : List ℕ) (more : List (List ℕ)) (read : A × List (List ℕ))
    → part_read (one kind) (word ∷ more) ≡ Some read → more ≡ read.1
one-behind kind word more read h = mapped-behind more (kind word) read h

-- nor as a word and another part, where this is not read behind the word
pub behind-none : {A B : Type 0} (kind : List ℕ → Option A) (second : Part B) (word : List ℕ) (more : List (List ℕ)) → part_read second more ≡ None
    → part_read (both (one kind) second) (word ∷ more) ≡ None
behind-none kind second word more h =
    both-none (one kind) second (word ∷ more) (λ read k. subst (λ list. part_read second list ≡ None) (one-behind kind word more read k) h)

-- rows

-- a last word that may be left out is clear
pub last-is_clear : {A B : Type 0} (kind : List ℕ → Option B) (result : Option B → A) → IsClear (followed_by (perhaps (one kind)) (λ b. gives (result b)))
last-is_clear kind result = (perhaps-is_clear _ _ (one-is_clear _ _) (λ back a spelled. rw (spelled.0) refl), λ b. tt)

behind_or-is_clear : {A B : Type 0} (next : B → Row A) (other : Row A) → ((b : B) → IsClear (next b)) → IsClear other → (read : Option B) → IsClear (behind_or next other read)
behind_or-is_clear next other h k None = k
behind_or-is_clear next other h k (Some b) = h b

-- so is a part and what follows it, or else another row, where this is not read as the part
pub or_else-is_clear : {A B : Type 0} (part : Part B) (next : B → Row A) (other : Row A) → IsClearPart part next → IsOther part other
    → ((b : B) → IsClear (next b)) → IsClear other → IsClear (or_else part next other)
or_else-is_clear part next other clear is_other h k =
    (perhaps-is_clear part (behind_or next other) clear is_other, λ read. behind_or-is_clear next other h k read)

-- a clear row reads what it spells
pub reads : {A : Type 0} (row : Row A) → IsClear row → (list : List (List ℕ)) (a : A) → Spells row list a ↔ (row_read row list ≡ Some a)
reads row clear list a = (row_read-from_Spells row list a clear, Spells-from_row_read row list a)
