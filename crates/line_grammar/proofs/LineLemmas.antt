-- What the one answer to a line's words says of the line.
use Rattle.std.proofs.Common.{◌≡◌, ℕ, true, false, List, [], ◌∷◌, refl, sym, ◌∙◌, Option, Some, None, Result, Ok, Err, inl, inr}
use Rattle.std.specs.Result.{IfOk}
use Rattle.arc_core.specs.Words.{words}
use Rattle.arc_core.specs.declared.requests.StoreVerb.TheVariants as verb
use Rattle.arc_core.specs.Rows.{Spells, row_read}
use Rattle.arc_core.specs.declared.commands.CommandName.{CommandName}
use Rattle.arc_core.specs.declared.commands.CommandName.TheVariants as named
use Rattle.arc_core.specs.declared.commands.Head.{Head}
use Rattle.arc_core.specs.Grammar.{IsHead, IsUnknown, IsBadFormat, command_of, row_of}
use Rattle.line_grammar.specs.declared.faults.LineFault.{LineFault}
use Rattle.line_grammar.specs.declared.faults.LineFault.TheVariants.{BadFormat}
use Rattle.line_grammar.specs.Reading.{or_bad_format, answer_by, answer_to}
use Rattle.line_grammar.proofs.RowLemmas.{IsClear, Spells-from_row_read, row_read-from_Spells}
use Rattle.line_grammar.proofs.KeyValueRows.{store_row-is_clear, cas_row-is_clear, get_row-is_clear, mget_row-is_clear, count_row-is_clear, delete_row-is_clear, touch_row-is_clear, flush_all_row-is_clear}

-- each row of the table is clear

row_of-is_clear : (command : CommandName) → IsClear (row_of command)
row_of-is_clear named.Set = store_row-is_clear verb.Set
row_of-is_clear named.Add = store_row-is_clear verb.Add
row_of-is_clear named.Replace = store_row-is_clear verb.Replace
row_of-is_clear named.Append = store_row-is_clear verb.Append
row_of-is_clear named.Prepend = store_row-is_clear verb.Prepend
row_of-is_clear named.Cas = cas_row-is_clear
row_of-is_clear named.Get = get_row-is_clear false
row_of-is_clear named.Gets = get_row-is_clear true
row_of-is_clear named.Mget = mget_row-is_clear
row_of-is_clear named.Incr = count_row-is_clear true
row_of-is_clear named.Decr = count_row-is_clear false
row_of-is_clear named.Delete = delete_row-is_clear
row_of-is_clear named.Touch = touch_row-is_clear
row_of-is_clear named.FlushAll = flush_all_row-is_clear
row_of-is_clear named.Version = tt
row_of-is_clear named.Quit = tt

-- a head is answered where the row spells one

or_bad_format-Ok : (o : Option Head) (head : Head) → or_bad_format o ≡ Ok head → o ≡ Some head
or_bad_format-Ok None head h = cc
or_bad_format-Ok (Some other) head h = cc

IsHead-by : (line first : List ℕ) (after : List (List ℕ)) (head : Head) (o : Option CommandName)
    → words line ≡ first ∷ after → command_of first ≡ o → answer_by o after ≡ Ok head → IsHead line head
IsHead-by line first after head None at is h = cc
IsHead-by line first after head (Some command) at is h =
    let read = or_bad_format-Ok (row_read (row_of command) after) head h in
    (command, after, record { first = first; words_are = at; is_command = is }, Spells-from_row_read (row_of command) after head read)

IsHead-at : (line : List ℕ) (list : List (List ℕ)) (head : Head) → words line ≡ list → answer_to list ≡ Ok head → IsHead line head
IsHead-at line [] head at h = cc
IsHead-at line (first ∷ after) head at h = IsHead-by line first after head (command_of first) at refl h

-- the answered head is spelled
pub IsHead-from_answer : (line : List ℕ) (head : Head) → answer_to (words line) ≡ Ok head → IsHead line head
IsHead-from_answer line head h = IsHead-at line (words line) head refl h

-- the head that is spelled is answered
pub answer-from_IsHead : (line : List ℕ) (head : Head) → IsHead line head → answer_to (words line) ≡ Ok head
answer-from_IsHead line head h =
    rw (h.2.words_are, h.2.is_command, row_read-from_Spells (row_of h.0) h.1 head (row_of-is_clear h.0) h.3) refl

Ok-same : {A E : Type 0} (a b : A) → ◌≡◌ {A = Result A E} (Ok a) (Ok b) → a ≡ b
Ok-same a b h = cc

pub one_head : (line : List ℕ) (head other : Head) → IsHead line head → IsHead line other → head ≡ other
one_head line head other h k = Ok-same {E = LineFault} head other (sym (answer-from_IsHead line head h) ∙ answer-from_IsHead line other k)

-- the format is bad where the row spells no head

or_bad_format-Err : (o : Option Head) → or_bad_format o ≡ Err BadFormat → o ≡ None
or_bad_format-Err None h = refl
or_bad_format-Err (Some head) h = cc

IsBadFormat-by : (line first : List ℕ) (after : List (List ℕ)) (o : Option CommandName)
    → words line ≡ first ∷ after → command_of first ≡ o → answer_by o after ≡ Err BadFormat → IsBadFormat line
IsBadFormat-by line first after None at is h = cc
IsBadFormat-by line first after (Some command) at is h =
    let read = or_bad_format-Err (row_read (row_of command) after) h in
    let not_spelled : (head : Head) → Spells (row_of command) after head → ⊥ =
    λ head spelled. let e = row_read-from_Spells (row_of command) after head (row_of-is_clear command) spelled in cc in
    (command, after, record { first = first; words_are = at; is_command = is }, not_spelled)

IsBadFormat-at : (line : List ℕ) (list : List (List ℕ)) → words line ≡ list → answer_to list ≡ Err BadFormat → IsBadFormat line
IsBadFormat-at line [] at h = cc
IsBadFormat-at line (first ∷ after) at h = IsBadFormat-by line first after (command_of first) at refl h

pub IsBadFormat-from_answer : (line : List ℕ) → answer_to (words line) ≡ Err BadFormat → IsBadFormat line
IsBadFormat-from_answer line h = IsBadFormat-at line (words line) refl h

not_read : (o : Option Head) → ((head : Head) → o ≡ Some head → ⊥) → or_bad_format o ≡ Err BadFormat
not_read None h = refl
not_read (Some head) h = absurd (h head refl)

pub answer-from_IsBadFormat : (line : List ℕ) → IsBadFormat line → answer_to (words line) ≡ Err BadFormat
answer-from_IsBadFormat line h =
    rw (h.2.words_are, h.2.is_command)
    (not_read (row_read (row_of h.0) h.1) (λ head read. h.3 head (Spells-from_row_read (row_of h.0) h.1 head read)))

-- a line that spells a head has none of the faults

same_words : (name word : List ℕ) (after behind : List (List ℕ)) (command : CommandName) → ◌≡◌ {A = List (List ℕ)} (name ∷ after) (word ∷ behind)
    → command_of name ≡ Some command → command_of word ≡ None → ⊥
same_words name word after behind command h known unknown = cc

pub head_is_known : (line : List ℕ) (head : Head) → IsHead line head → IsUnknown line → ⊥
head_is_known line head h (inl none) = let e = sym none ∙ h.2.words_are in cc
head_is_known line head h (inr unknown) =
    same_words h.2.first unknown.0 h.1 unknown.1 h.0 (sym h.2.words_are ∙ unknown.2) h.2.is_command unknown.3

pub head_is_well_formed : (line : List ℕ) (head : Head) → IsHead line head → IsBadFormat line → ⊥
head_is_well_formed line head h bad = let e = sym (answer-from_IsHead line head h) ∙ answer-from_IsBadFormat line bad in cc

-- the clauses of a line's reading

pub found : (line : List ℕ) (result : Result Head LineFault) → result ≡ answer_to (words line) → IfOk result (λ head. IsHead line head)
found line (Ok head) h = IsHead-from_answer line head (sym h)
found line (Err fault) h = tt

pub only : (line : List ℕ) (result : Result Head LineFault) (head : Head) → result ≡ answer_to (words line) → IsHead line head → result ≡ Ok head
only line result head h spelled = h ∙ answer-from_IsHead line head spelled

pub bad_format : (line : List ℕ) (result : Result Head LineFault) → result ≡ answer_to (words line)
    → (result ≡ Err BadFormat → IsBadFormat line) × (IsBadFormat line → result ≡ Err BadFormat)
bad_format line result h = (λ e. IsBadFormat-from_answer line (sym h ∙ e), λ bad. h ∙ answer-from_IsBadFormat line bad)
