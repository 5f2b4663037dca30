-- A row reads exactly what it spells.
--
-- What is read is spelled, whatever the row is. What is spelled is read where the row is clear: the words that spell a
-- part and what follows it are read as that part. A part of one word is clear before anything, and one of all the
-- words that are left is clear before the end. Two parts are clear where each is before what follows it. A part that
-- may be left out is clear where it is clear as it is written, and what follows it is not read as that part.
use Rattle.std.proofs.Common.{◌≡◌, ℕ, List, [], ◌∷◌, ◌++◌, refl, sym, ◌∙◌, ap, Option, Some, None, option_map, option_and_then, subst}
use Rattle.std.proofs.lemmas.List.{append-nil, append_assoc}
use Rattle.arc_core.specs.Rows.{Part, Row, one, both, perhaps, all_left, followed_by, gives, SpellsPart, Spells, or_left_out, part_read, row_read}

-- what was mapped from a value
option_map-some : {A B : Type 0} (f : A → B) (o : Option A) (b : B) → option_map f o ≡ Some b → (a : A) × (o ≡ Some a) × (f a ≡ b)
option_map-some f None b h = cc
option_map-some f (Some a) b h = (a, refl, cc)

-- what followed from a value
option_and_then-some : {A B : Type 0} (f : A → Option B) (o : Option A) (b : B) → option_and_then f o ≡ Some b → (a : A) × (o ≡ Some a) × (f a ≡ Some b)
option_and_then-some f None b h = cc
option_and_then-some f (Some a) b h = (a, refl, h)

-- Words in front spell the part, and the others are left.
abbrev IsSplit : {A : Type 0} → Part A → List (List ℕ) → A × List (List ℕ) → Type 0
IsSplit part list read = (front : List (List ℕ)) × (list ≡ front ++ read.1) × SpellsPart part front read.0

-- values that are equal as options
pub Some-same : {A : Type 0} (a b : A) → Some a ≡ Some b → a ≡ b
Some-same a b h = cc

both-split : {A B : Type 0} (first : Part A) (second : Part B) (list middle back : List (List ℕ)) (a : A) (b : B)
    → IsSplit first list (a, middle) → IsSplit second middle (b, back) → IsSplit (both first second) list ((a, b), back)
both-split first second list middle back a b h k =
    (h.0 ++ k.0, h.1 ∙ ap (λ rest. h.0 ++ rest) k.1 ∙ sym (append_assoc h.0 k.0 back), (h.0, k.0, refl, h.2, k.2))

perhaps-split : {A : Type 0} (part : Part A) (list : List (List ℕ)) (o : Option (A × List (List ℕ))) (read : Option A × List (List ℕ))
    → ((given : A × List (List ℕ)) → o ≡ Some given → IsSplit part list given) → or_left_out list o ≡ read → IsSplit (perhaps part) list read
perhaps-split part list None read splits h = subst (λ r. IsSplit (perhaps part) list r) h ([], refl, refl)
perhaps-split part list (Some given) read splits h = subst (λ r. IsSplit (perhaps part) list r) h (splits given refl)

-- a part is read off words that spell it, and the others are left
pub SpellsPart-from_part_read : {A : Type 0} (part : Part A) (list : List (List ℕ)) (a : A) (back : List (List ℕ))
    → part_read part list ≡ Some (a, back) → (front : List (List ℕ)) × (list ≡ front ++ back) × SpellsPart part front a
SpellsPart-from_part_read (one kind) [] a back h = cc
SpellsPart-from_part_read (one kind) (word ∷ more) a back h =
    let p = option_map-some (λ x. (x, more)) (kind word) (a, back) h in
    (word ∷ [], ap (λ pair. word ∷ pair.1) p.2, (word, refl, p.1 ∙ ap (λ pair. Some pair.0) p.2))
SpellsPart-from_part_read (both first second) list a back h =
    let p = option_and_then-some (λ read. option_map (λ behind. ((read.0, behind.0), behind.1)) (part_read second read.1)) (part_read first list) (a, back) h in
    let q = option_map-some (λ behind. ((p.0.0, behind.0), behind.1)) (part_read second p.0.1) (a, back) p.2 in
    subst (λ read. IsSplit (both first second) list read) q.2
    (both-split first second list p.0.1 q.0.1 p.0.0 q.0.0
    (SpellsPart-from_part_read first list p.0.0 p.0.1 p.1) (SpellsPart-from_part_read second p.0.1 q.0.0 q.0.1 q.1))
SpellsPart-from_part_read (perhaps part) list a back h =
    perhaps-split part list (part_read part list) (a, back) (λ given is. SpellsPart-from_part_read part list given.0 given.1 is)
    (Some-same (or_left_out list (part_read part list)) (a, back) h)
SpellsPart-from_part_read (all_left kind) list a back h =
    let p = option_map-some (λ x. (x, [])) (kind list) (a, back) h in
    (list, sym (append-nil list) ∙ ap (λ pair. list ++ pair.1) p.2, p.1 ∙ ap (λ pair. Some pair.0) p.2)

-- what is read is spelled
pub Spells-from_row_read : {A : Type 0} (row : Row A) (list : List (List ℕ)) (a : A) → row_read row list ≡ Some a → Spells row list a
Spells-from_row_read (followed_by part next) list a h =
    let p = option_and_then-some (λ read. row_read (next read.0) read.1) (part_read part list) a h in
    let read = p.0 in
    let q = SpellsPart-from_part_read part list read.0 read.1 p.1 in
    (read.0, q.0, read.1, q.1, q.2, Spells-from_row_read (next read.0) read.1 a p.2)
Spells-from_row_read (gives result) [] a h = (refl, cc)
Spells-from_row_read (gives result) (word ∷ more) a h = cc

-- The words that spell the part and what follows it are read as the part.
pub record IsClearPart {A B : Type 0} (part : Part B) (next : B → Row A) : Type 0 where
  pub reads : (b : B) (front back : List (List ℕ)) (a : A) → SpellsPart part front b → Spells (next b) back a → part_read part (front ++ back) ≡ Some (b, back)

-- So are those of each part of the row.
abbrev pub IsClear : {A : Type 0} → Row A → Type 0
IsClear (followed_by {A = A} {B = B} part next) = IsClearPart {A = A} {B = B} part next × ((b : B) → IsClear (next b))
IsClear (gives result) = Unit {0}

-- What follows is not read as the part.
abbrev pub IsOther : {A B : Type 0} → Part B → Row A → Type 0
IsOther {A = A} part row = (back : List (List ℕ)) (a : A) → Spells row back a → part_read part back ≡ None

-- what is spelled is read
pub row_read-from_Spells : {A : Type 0} (row : Row A) (list : List (List ℕ)) (a : A) → IsClear row → Spells row list a → row_read row list ≡ Some a
row_read-from_Spells (followed_by part next) list a clear h =
    let b = h.0 in
    let front = h.1 in
    let back = h.2 in
    rw (h.3, clear.0.reads b front back a h.4 h.5) (row_read-from_Spells (next b) back a (clear.1 b) h.5)
row_read-from_Spells (gives result) list a clear h = rw (h.0, h.1) refl

-- a part of one word is clear before anything
pub one-is_clear : {A B : Type 0} (kind : List ℕ → Option B) (next : B → Row A) → IsClearPart (one kind) next
one-is_clear kind next = record { reads = λ b front back a s t. rw (s.1, s.2) refl }

-- a part of all the words that are left is clear before the end
pub all_left-is_clear : {A B : Type 0} (kind : List (List ℕ) → Option B) (result : B → A) → IsClearPart (all_left kind) (λ b. gives (result b))
all_left-is_clear kind result = record { reads = λ b front back a s t. rw (t.0, append-nil, s) refl }

-- two parts are clear where the first is before the second and what follows, and the second is before what follows
pub both-is_clear : {A B C : Type 0} (first : Part B) (second : Part C) (next : B × C → Row A)
    → IsClearPart first (λ b. followed_by second (λ c. next (b, c))) → ((b : B) → IsClearPart second (λ c. next (b, c)))
    → IsClearPart (both first second) next
both-is_clear first second next one_clear other_clear = record {
  reads = λ b front back a s t.
      rw (s.2, append_assoc s.0 s.1 back, one_clear.reads b.0 s.0 (s.1 ++ back) a s.3 (b.1, s.1, back, refl, s.4, t), (other_clear b.0).reads b.1 s.1 back a s.4 t)
      refl;
}

perhaps-reads : {A B : Type 0} (part : Part B) (next : Option B → Row A) → IsClearPart part (λ b. next (Some b)) → IsOther part (next None)
    → (b : Option B) (front back : List (List ℕ)) (a : A) → SpellsPart (perhaps part) front b → Spells (next b) back a
    → part_read (perhaps part) (front ++ back) ≡ Some (b, back)
perhaps-reads part next clear other None front back a s t = rw (s, other back a t) refl
perhaps-reads part next clear other (Some b) front back a s t = rw (clear.reads b front back a s t) refl

-- a part that may be left out is clear where it is as it is written, and what follows where it is not is no such part
pub perhaps-is_clear : {A B : Type 0} (part : Part B) (next : Option B → Row A)
    → IsClearPart part (λ b. next (Some b)) → IsOther part (next None) → IsClearPart (perhaps part) next
perhaps-is_clear part next clear other = record { reads = perhaps-reads part next clear other }
