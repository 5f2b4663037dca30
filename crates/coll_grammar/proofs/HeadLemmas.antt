-- What the answer to a line's words says of the line.
use Rattle.std.proofs.Common.{◌≡◌, ℕ, Bool, true, false, List, [], ◌∷◌, refl, sym, ◌∙◌, ap, subst, Option, Some, None, option_map, Result, Ok, Err, inl, inr, bytes_eq, if◌then◌else◌}
use Rattle.std.specs.Prelude.{codes}
use Rattle.std.specs.Bool.{Decides}
use Rattle.std.specs.Result.{IfOk}
use Rattle.std.proofs.lemmas.Slice.Eq.{bytes_eq-Decides}
use Rattle.arc_core.specs.declared.coll_commands.CollHead.{CollHead}
use Rattle.arc_core.specs.declared.coll_commands.CollHead.TheVariants as coll_head
use Rattle.arc_core.specs.declared.coll_commands.CollName.{CollName}
use Rattle.arc_core.specs.declared.commands.CommandName.{CommandName}
use Rattle.arc_core.specs.declared.commands.Head.{Head}
use Rattle.arc_core.specs.CollectionLines.{IsCollLine, IsCollHead, IsCollBadFormat, coll_head_of, coll_name_of, coll_row_of, coll_is_quit, list_name_of, set_name_of, map_name_of}
use Rattle.arc_core.specs.Grammar.{IsCommandLine, IsHead, IsUnknown, IsBadFormat, command_of, row_of}
use Rattle.arc_core.specs.Rows.{Spells, row_read}
use Rattle.arc_core.specs.Words.{words}
use Rattle.line_grammar.specs.declared.faults.LineFault.{LineFault}
use Rattle.line_grammar.specs.declared.faults.LineFault.TheVariants.{BadFormat, Unknown}
use Rattle.line_grammar.specs.Reading as kv_answer
use Rattle.line_grammar.proofs.LineLemmas.{answer-from_IsHead, answer-from_IsBadFormat}
use Rattle.line_grammar.proofs.RowLemmas.{Spells-from_row_read, row_read-from_Spells}
use Rattle.coll_grammar.specs.Reading.{or_bad_format, answer_by, answer_to}
use Rattle.coll_grammar.proofs.CollectionRows.{coll_row_of-is_clear, row_spells_no_key_value}

-- a word that begins commands on collections names no key-value command

lop_is_no_command : command_of (codes "lop") ≡ None
unfolding command_of
lop_is_no_command = refl

sop_is_no_command : command_of (codes "sop") ≡ None
unfolding command_of
sop_is_no_command = refl

mop_is_no_command : command_of (codes "mop") ≡ None
unfolding command_of
mop_is_no_command = refl

no_command-by : (first second : List ℕ) (name : CollName) (lop sop mop : Bool)
    → Decides lop (first ≡ codes "lop") → Decides sop (first ≡ codes "sop") → Decides mop (first ≡ codes "mop")
    → (if lop then list_name_of second else if sop then set_name_of second else if mop then map_name_of second else None) ≡ Some name
    → command_of first ≡ None
no_command-by first second name true sop mop is_lop is_sop is_mop h = rw (is_lop.0 refl) lop_is_no_command
no_command-by first second name false true mop is_lop is_sop is_mop h = rw (is_sop.0 refl) sop_is_no_command
no_command-by first second name false false true is_lop is_sop is_mop h = rw (is_mop.0 refl) mop_is_no_command
no_command-by first second name false false false is_lop is_sop is_mop h = cc

no_command : (first second : List ℕ) (name : CollName) → coll_name_of first second ≡ Some name → command_of first ≡ None
unfolding coll_name_of
no_command first second name h =
    no_command-by first second name (bytes_eq first (codes "lop")) (bytes_eq first (codes "sop")) (bytes_eq first (codes "mop"))
    (bytes_eq-Decides first (codes "lop")) (bytes_eq-Decides first (codes "sop")) (bytes_eq-Decides first (codes "mop")) h

-- what a word names is the same where its line's words are

same_first : (first word : List ℕ) (after behind : List (List ℕ)) → ◌≡◌ {A = List (List ℕ)} (first ∷ after) (word ∷ behind) → first ≡ word
same_first first word after behind h = cc

pub None-is_no_Some : {A : Type 0} (a : A) → None ≡ Some a → ⊥
None-is_no_Some a h = cc

-- a line begins with a key-value command, or with one on a collection, and not with both
pub other_line : (line : List ℕ) (name : CommandName) (after : List (List ℕ)) (of : CollName) (behind : List (List ℕ))
    → IsCommandLine line name after → IsCollLine line of behind → ⊥
other_line line name after of behind h k =
    let same = same_first k.first h.first (k.second ∷ behind) after (sym k.words_are ∙ h.words_are) in
    None-is_no_Some name (sym (no_command k.first k.second of k.is_command) ∙ ap command_of same ∙ h.is_command)

-- two commands on collections that one line names are one, and so are the words behind them

same_words : (first second word other : List ℕ) (after behind : List (List ℕ)) (name of : CollName)
    → ◌≡◌ {A = List (List ℕ)} (first ∷ second ∷ after) (word ∷ other ∷ behind)
    → coll_name_of first second ≡ Some name → coll_name_of word other ≡ Some of → (name ≡ of) × (after ≡ behind)
same_words first second word other after behind name of h k l = (cc, cc)

one_line : (line : List ℕ) (name of : CollName) (after behind : List (List ℕ)) → IsCollLine line name after → IsCollLine line of behind → (name ≡ of) × (after ≡ behind)
one_line line name of after behind h k =
    same_words h.first h.second k.first k.second after behind name of (sym h.words_are ∙ k.words_are) h.is_command k.is_command

-- what a command's row spells, the command being the one that the line names
same_spelled : (line : List ℕ) (name of : CollName) (after behind : List (List ℕ)) (head : CollHead)
    → IsCollLine line name after → IsCollLine line of behind → Spells (coll_row_of name) after head → Spells (coll_row_of of) behind head
same_spelled line name of after behind head h k spelled =
    let same = one_line line name of after behind h k in
    subst (λ words. Spells (coll_row_of of) words head) same.1 (subst (λ command. Spells (coll_row_of command) after head) same.0 spelled)

-- a head is answered where the row spells one

or_bad_format-Ok : (o : Option CollHead) (head : CollHead) → or_bad_format o ≡ Ok head → o ≡ Some head
or_bad_format-Ok None head h = cc
or_bad_format-Ok (Some other) head h = cc

IsCollHead-of : (line : List ℕ) (name : CollName) (after : List (List ℕ)) (head : CollHead) → IsCollLine line name after → Spells (coll_row_of name) after head → IsCollHead line head
IsCollHead-of line name after (coll_head.KeyValue head) at spelled = absurd (row_spells_no_key_value name after head spelled)
IsCollHead-of line name after (coll_head.Collection asked answer) at spelled = (name, after, at, spelled)

IsCollHead-by : (line first second : List ℕ) (after : List (List ℕ)) (head : CollHead) (o : Option CollName)
    → words line ≡ first ∷ second ∷ after → coll_name_of first second ≡ o → answer_by o after ≡ Ok head → IsCollHead line head
IsCollHead-by line first second after head None at is h = cc
IsCollHead-by line first second after head (Some name) at is h =
    let read = or_bad_format-Ok (row_read (coll_row_of name) after) head h in
    IsCollHead-of line name after head (record { first = first; second = second; words_are = at; is_command = is })
    (Spells-from_row_read (coll_row_of name) after head read)

IsCollHead-at : (line : List ℕ) (list : List (List ℕ)) (head : CollHead) → words line ≡ list → answer_to list ≡ Ok head → IsCollHead line head
IsCollHead-at line [] head at h = cc
IsCollHead-at line (first ∷ []) head at h = cc
IsCollHead-at line (first ∷ second ∷ after) head at h = IsCollHead-by line first second after head (coll_name_of first second) at refl h

pub found : (line : List ℕ) (result : Result CollHead LineFault) → result ≡ answer_to (words line) → IfOk result (λ head. IsCollHead line head)
found line (Ok head) h = IsCollHead-at line (words line) head refl (sym h)
found line (Err fault) h = tt

-- the head that is spelled is answered
answer-of : (line : List ℕ) (name : CollName) (after : List (List ℕ)) (head : CollHead) → IsCollLine line name after → Spells (coll_row_of name) after head
    → answer_to (words line) ≡ Ok head
answer-of line name after head at spelled =
    rw (at.words_are, at.is_command, row_read-from_Spells (coll_row_of name) after head (coll_row_of-is_clear name) spelled) refl

-- a line that is no key-value command

no_command_line : (line : List ℕ) (name : CommandName) (after : List (List ℕ)) → IsUnknown line → IsCommandLine line name after → ⊥
no_command_line line name after (inl none) h = let e = sym none ∙ h.words_are in cc
no_command_line line name after (inr unknown) h =
    let same = same_first unknown.0 h.first unknown.1 after (sym unknown.2 ∙ h.words_are) in
    None-is_no_Some name (sym unknown.3 ∙ ap command_of same ∙ h.is_command)

pub only : (line : List ℕ) (result : Result CollHead LineFault) (head : CollHead) → IsUnknown line → result ≡ answer_to (words line) → IsCollHead line head → result ≡ Ok head
only line result (coll_head.KeyValue head) unknown h spelled = absurd (no_command_line line spelled.0 spelled.1 unknown spelled.2)
only line result (coll_head.Collection asked answer) unknown h spelled = h ∙ answer-of line spelled.0 spelled.1 _ spelled.2 spelled.3

-- the format is bad where the row spells no head

or_bad_format-Err : (o : Option CollHead) → or_bad_format o ≡ Err BadFormat → o ≡ None
or_bad_format-Err None h = refl
or_bad_format-Err (Some head) h = cc

IsCollBadFormat-by : (line first second : List ℕ) (after : List (List ℕ)) (o : Option CollName)
    → words line ≡ first ∷ second ∷ after → coll_name_of first second ≡ o → answer_by o after ≡ Err BadFormat → IsCollBadFormat line
IsCollBadFormat-by line first second after None at is h = cc
IsCollBadFormat-by line first second after (Some name) at is h =
    let read = or_bad_format-Err (row_read (coll_row_of name) after) h in
    let not_spelled : (head : CollHead) → Spells (coll_row_of name) after head → ⊥ =
    λ head spelled. let e = row_read-from_Spells (coll_row_of name) after head (coll_row_of-is_clear name) spelled in cc in
    inr (name, after, record { first = first; second = second; words_are = at; is_command = is }, not_spelled)

IsCollBadFormat-at : (line : List ℕ) (list : List (List ℕ)) → words line ≡ list → answer_to list ≡ Err BadFormat → IsCollBadFormat line
IsCollBadFormat-at line [] at h = cc
IsCollBadFormat-at line (first ∷ []) at h = cc
IsCollBadFormat-at line (first ∷ second ∷ after) at h = IsCollBadFormat-by line first second after (coll_name_of first second) at refl h

not_read : (o : Option CollHead) → ((head : CollHead) → o ≡ Some head → ⊥) → or_bad_format o ≡ Err BadFormat
not_read None h = refl
not_read (Some head) h = absurd (h head refl)

bad_format-from : (line : List ℕ) (result : Result CollHead LineFault) → IsUnknown line → result ≡ answer_to (words line) → IsCollBadFormat line → result ≡ Err BadFormat
bad_format-from line result unknown h (inl bad) = absurd (no_command_line line bad.0 bad.1 unknown bad.2)
bad_format-from line result unknown h (inr bad) =
    h
    ∙ rw (bad.2.words_are, bad.2.is_command)
    (not_read (row_read (coll_row_of bad.0) bad.1) (λ head read. bad.3 head (Spells-from_row_read (coll_row_of bad.0) bad.1 head read)))

pub bad_format : (line : List ℕ) (result : Result CollHead LineFault) → IsUnknown line → result ≡ answer_to (words line)
    → (result ≡ Err BadFormat → IsCollBadFormat line) × (IsCollBadFormat line → result ≡ Err BadFormat)
bad_format line result unknown h = (λ e. IsCollBadFormat-at line (words line) refl (sym h ∙ e), bad_format-from line result unknown h)

-- a line that begins with a key-value command spells no command on a collection

pub only_key_value : (line : List ℕ) (name : CommandName) (after : List (List ℕ)) (result : Result CollHead LineFault) (head : CollHead)
    → IsCommandLine line name after → ((spelled : Head) → IsHead line spelled → result ≡ Ok (coll_head.KeyValue spelled)) → IsCollHead line head → result ≡ Ok head
only_key_value line name after result (coll_head.KeyValue head) at read spelled = read head spelled
only_key_value line name after result (coll_head.Collection asked answer) at read spelled = absurd (other_line line name after spelled.0 spelled.1 at spelled.2)

pub bad_key_value : (line : List ℕ) (name : CommandName) (after : List (List ℕ)) → IsCommandLine line name after → IsCollBadFormat line → IsBadFormat line
bad_key_value line name after at (inl bad) = bad
bad_key_value line name after at (inr bad) = absurd (other_line line name after bad.0 bad.1 at bad.2)

-- the laws on lines, of which those on key-value lines are known

Ok-same : {A E : Type 0} (a b : A) → ◌≡◌ {A = Result A E} (Ok a) (Ok b) → a ≡ b
Ok-same a b h = cc

pub one_head : (line : List ℕ) (one other : CollHead) → ((head spelled : Head) → IsHead line head → IsHead line spelled → head ≡ spelled)
    → IsCollHead line one → IsCollHead line other → one ≡ other
one_head line (coll_head.KeyValue head) (coll_head.KeyValue other) law h k = ap coll_head.KeyValue (law head other h k)
one_head line (coll_head.KeyValue head) (coll_head.Collection asked answer) law h k = absurd (other_line line h.0 h.1 k.0 k.1 h.2 k.2)
one_head line (coll_head.Collection asked answer) (coll_head.KeyValue other) law h k = absurd (other_line line k.0 k.1 h.0 h.1 k.2 h.2)
one_head line (coll_head.Collection asked answer) (coll_head.Collection other reply) law h k =
    Ok-same {E = LineFault} _ _ (sym (answer-of line h.0 h.1 _ h.2 h.3) ∙ answer-of line k.0 k.1 _ k.2 k.3)

pub head_is_well_formed : (line : List ℕ) (head : CollHead) → ((spelled : Head) → IsHead line spelled → IsBadFormat line → ⊥)
    → IsCollHead line head → IsCollBadFormat line → ⊥
head_is_well_formed line (coll_head.KeyValue head) law h (inl bad) = law head h bad
head_is_well_formed line (coll_head.KeyValue head) law h (inr bad) = other_line line h.0 h.1 bad.0 bad.1 h.2 bad.2
head_is_well_formed line (coll_head.Collection asked answer) law h (inl bad) = other_line line bad.0 bad.1 h.0 h.1 bad.2 h.2
head_is_well_formed line (coll_head.Collection asked answer) law h (inr bad) =
    bad.3 _ (same_spelled line h.0 bad.0 h.1 bad.1 _ h.2 bad.2 h.3)

pub same_end : (line : List ℕ) (head other : CollHead) → ((one spelled : Head) → IsHead line one → IsHead line spelled → one ≡ spelled)
    → IsCollHead line head → coll_is_quit head ≡ true → IsCollHead line other → coll_is_quit other ≡ true
same_end line head other law h quit k = subst (λ one. coll_is_quit one ≡ true) (one_head line head other law h k) quit

-- the clauses where the line is read as a key-value command, or has a bad format as one

key_value-same : (head other : Head) → ◌≡◌ {A = Result Head LineFault} (Ok head) (Ok other)
    → ◌≡◌ {A = Result CollHead LineFault} (Ok (coll_head.KeyValue head)) (Ok (coll_head.KeyValue other))
key_value-same head other h = cc

pub only-where_read : (line : List ℕ) (head : Head) (other : CollHead) → IsHead line head
    → ((spelled : Head) → IsHead line spelled → ◌≡◌ {A = Result Head LineFault} (Ok head) (Ok spelled))
    → IsCollHead line other → ◌≡◌ {A = Result CollHead LineFault} (Ok (coll_head.KeyValue head)) (Ok other)
only-where_read line head other at read =
    only_key_value line at.0 at.1 (Ok (coll_head.KeyValue head)) other at.2 (λ spelled is. key_value-same head spelled (read spelled is))

no_Err : (head : Head) → ◌≡◌ {A = Result Head LineFault} (Ok head) (Err BadFormat) → ⊥
no_Err head h = cc

no_Err_here : (head : CollHead) → ◌≡◌ {A = Result CollHead LineFault} (Ok head) (Err BadFormat) → ⊥
no_Err_here head h = cc

pub bad_format-where_read : (line : List ℕ) (head : Head) → IsHead line head
    → (IsBadFormat line → ◌≡◌ {A = Result Head LineFault} (Ok head) (Err BadFormat))
    → (◌≡◌ {A = Result CollHead LineFault} (Ok (coll_head.KeyValue head)) (Err BadFormat) → IsCollBadFormat line)
    × (IsCollBadFormat line → ◌≡◌ {A = Result CollHead LineFault} (Ok (coll_head.KeyValue head)) (Err BadFormat))
bad_format-where_read line head at read =
    (λ e. absurd (no_Err_here (coll_head.KeyValue head) e), λ bad. absurd (no_Err head (read (bad_key_value line at.0 at.1 at.2 bad))))

no_Ok : (head : Head) → ◌≡◌ {A = Result Head LineFault} (Err BadFormat) (Ok head) → ⊥
no_Ok head h = cc

pub only-where_bad : (line : List ℕ) (fault : LineFault) (other : CollHead) → fault ≡ BadFormat
    → (◌≡◌ {A = Result Head LineFault} (Err fault) (Err BadFormat) → IsBadFormat line)
    → ((spelled : Head) → IsHead line spelled → ◌≡◌ {A = Result Head LineFault} (Err fault) (Ok spelled))
    → IsCollHead line other → ◌≡◌ {A = Result CollHead LineFault} (Err BadFormat) (Ok other)
only-where_bad line fault other is bad read =
    let at = bad (rw is refl) in
    only_key_value line at.0 at.1 (Err BadFormat) other at.2 (λ spelled spells. absurd (no_Ok spelled (rw is at (read spelled spells))))

-- the line is no key-value command where that fault is told
pub is_unknown : (line : List ℕ) (fault : LineFault) → fault ≡ Unknown → (◌≡◌ {A = Result Head LineFault} (Err fault) (Err Unknown) → IsUnknown line) → IsUnknown line
is_unknown line fault is unknown = unknown (rw is refl)

-- the head that the line's words spell, read from the left, where it is a key-value command, or has a bad format as one

key_value_read : (row : Option Head) (head : Head) → (kv_answer.or_bad_format row ≡ Ok head) → option_map coll_head.KeyValue row ≡ Some (coll_head.KeyValue head)
key_value_read None head h = cc
key_value_read (Some other) head h =
    let same : other ≡ head = cc in
    ap (λ one. Some (coll_head.KeyValue one)) same

pub read-where_read : (line : List ℕ) (head : Head) → IsHead line head → coll_head_of (words line) ≡ Some (coll_head.KeyValue head)
read-where_read line head at =
    let row = row_of at.0 in
    let answered = answer-from_IsHead line head at in
    let read : kv_answer.or_bad_format (row_read row at.1) ≡ Ok head =
    sym (ap kv_answer.answer_to at.2.words_are ∙ ap (λ name. kv_answer.answer_by name at.1) at.2.is_command) ∙ answered in
    rw (at.2.words_are, at.2.is_command) (key_value_read (row_read row at.1) head read)

not_key_value : (row : Option Head) → (kv_answer.or_bad_format row ≡ Err BadFormat) → option_map coll_head.KeyValue row ≡ None
not_key_value None h = refl
not_key_value (Some other) h = cc

pub read-where_bad : (line : List ℕ) → IsBadFormat line → coll_head_of (words line) ≡ None
read-where_bad line at =
    let row = row_of at.0 in
    let answered = answer-from_IsBadFormat line at in
    let read : kv_answer.or_bad_format (row_read row at.1) ≡ Err BadFormat =
    sym (ap kv_answer.answer_to at.2.words_are ∙ ap (λ name. kv_answer.answer_by name at.1) at.2.is_command) ∙ answered in
    rw (at.2.words_are, at.2.is_command) (not_key_value (row_read row at.1) read)
