-- The lines of statuses, how long the answer to a run of piped commands is, and that a number fails no run.
use Rattle.std.proofs.Common.{◌≡◌, ◌+◌, ◌*◌, ◌^◌, ◌/◌, ◌%◌, ◌≤◌, ◌<◌, ℕ, zero, suc, List, [], ◌∷◌, ◌++◌, length, take, drop, get_or, Bool, true, false, cond, eqb, arith, length-append}
use Rattle.std.proofs.lemmas.List.{get_or_default}
use Rattle.std.proofs.lemmas.Bool.{ne_eqb}
use Rattle.std.proofs.lemmas.Bool.Decides.{nat_tests}
use Rattle.std.specs.Prelude.{◌==◌, decimal}
use Rattle.std.specs.Fmt.{digits, digits_onto, digit_glyph}
use Rattle.std.specs.List.{flat_map}
use Rattle.arc_core.specs.declared.pipes.PipeStatus.{PipeStatus}
use Rattle.arc_core.specs.declared.pipes.PipeStatus.TheVariants as status
use Rattle.arc_core.specs.declared.pipes.PipeFault.{PipeFault}
use Rattle.arc_core.specs.declared.pipes.PipeFault.TheVariants as fault
use Rattle.arc_core.specs.declared.replies.Word.{Word}
use Rattle.arc_core.specs.declared.replies.Word.TheVariants as word
use Rattle.arc_core.specs.ReplyText.{word_line, line_end}
use Rattle.reply_print.specs.Parts.{run_line}
use Rattle.reply_print.specs.PipeText.{status_text, fault_text, pipe_text, fails_run}
use Rattle.reply_print.proofs.Pieces.{next_text, texts_more, room_for_text}

either_long : (b : Bool) (xs ys : List ℕ) (n : ℕ) → length xs ≤ n → length ys ≤ n → length (cond b xs ys) ≤ n
either_long true xs ys n p q = p
either_long false xs ys n p q = q

digits_long : (k : ℕ) (n : ℕ) (more : List ℕ) → length (digits_onto k 10 false n more) ≤ k + length more
digits_long zero n more = omega arith
digits_long (suc k) n more =
    let digit = digit_glyph false (n % 10) in
    either_long (n / 10 == 0) (digit ∷ more) (digits_onto k 10 false (n / 10) (digit ∷ more)) (suc k + length more)
    (omega arith)
    (omega (arith, digits_long k (n / 10) (digit ∷ more)))

-- a number has at most 64 digits
decimal_long : (n : ℕ) → length (decimal n) ≤ 64
unfolding digits
decimal_long n = digits_long 64 n []

word_long : (w : Word) → length (word_line w) ≤ 66
word_long word.Stored = omega arith
word_long w = omega arith

status_long : (s : PipeStatus) → length (status_text s) ≤ 66
status_long (status.Word w) = word_long w
status_long (status.Number n) = omega (arith, decimal_long n, length-append (decimal n) line_end)

statuses_long : (ss : List PipeStatus) → length (flat_map status_text ss) ≤ 66 * length ss
statuses_long [] = omega arith
statuses_long (s ∷ ss) = omega (arith, status_long s, statuses_long ss, length-append (status_text s) (flat_map status_text ss))

fault_long : (f : PipeFault) → length (fault_text f) ≤ 128
fault_long fault.Nothing = omega arith
fault_long f = omega arith

-- the answer for 500 commands is short
pub answer_short : (ss : List PipeStatus) (f : PipeFault) → length ss ≤ 500 → length (pipe_text ss f) < 2 ^ 64
answer_short ss f few =
    let number = decimal_long (length ss) in
    let lines = statuses_long ss in
    let end = fault_long f in
    simp length-append (omega arith)

-- the line of the next status
pub next_status : (ss : List PipeStatus) (i : ℕ) (d : PipeStatus) (rest : List ℕ) → i < length ss
    → flat_map status_text (drop i ss) ++ rest ≡ status_text (get_or ss i d) ++ (flat_map status_text (drop (i + 1) ss) ++ rest)
next_status ss i d rest in' = next_text status_text ss i (get_or ss i d) rest in' (get_or_default ss i d (get_or ss i d) in')

-- the answer for 500 commands has room in the memory of an outbox
pub answer_fits : (ss : List PipeStatus) (f : PipeFault) → length ss ≤ 500 → length (pipe_text ss f) ≤ 34816
answer_fits ss f few =
    let number = decimal_long (length ss) in
    let lines = statuses_long ss in
    let end = fault_long f in
    simp length-append (omega arith)

-- how long its three parts are
pub three_parts : (ss : List PipeStatus) (f : PipeFault) → length (pipe_text ss f) ≡ length (run_line (length ss)) + length (flat_map status_text ss) + length (fault_text f ++ line_end)
three_parts ss f = simp length-append (omega arith)

-- the lines of the statuses before one, with its own
pub status_more : (ss : List PipeStatus) (i : ℕ) (d : PipeStatus) → i < length ss
    → flat_map status_text (take i ss) ++ status_text (get_or ss i d) ≡ flat_map status_text (take (i + 1) ss)
status_more ss i d in' = texts_more status_text ss i (get_or ss i d) in' (get_or_default ss i d (get_or ss i d) in')

-- where all statuses have room, the next one has
pub room_for_status : (ss : List PipeStatus) (i : ℕ) (d : PipeStatus) → i < length ss
    → length (flat_map status_text (take i ss)) + length (status_text (get_or ss i d)) ≤ length (flat_map status_text ss)
room_for_status ss i d in' = room_for_text status_text ss i (get_or ss i d) in' (get_or_default ss i d (get_or ss i d) in')

-- a text that begins with a digit
BeginsWithDigit : List ℕ → Type 0
BeginsWithDigit [] = ⊥
BeginsWithDigit (b ∷ bs) = b < 58

either_begins : (b : Bool) (xs ys : List ℕ) → BeginsWithDigit xs → BeginsWithDigit ys → BeginsWithDigit (cond b xs ys)
unfolding BeginsWithDigit
either_begins true xs ys p q = p
either_begins false xs ys p q = q

digit_is_low : (n : ℕ) → digit_glyph false (n % 10) < 58
digit_is_low n = grind (arith, nat_tests)

digits_begin : (k : ℕ) (n : ℕ) (b : ℕ) (more : List ℕ) → b < 58 → BeginsWithDigit (digits_onto k 10 false n (b ∷ more))
unfolding BeginsWithDigit
digits_begin zero n b more low = low
digits_begin (suc k) n b more low =
    let digit = digit_glyph false (n % 10) in
    either_begins (n / 10 == 0) (digit ∷ b ∷ more) (digits_onto k 10 false (n / 10) (digit ∷ b ∷ more)) (digit_is_low n)
    (digits_begin k (n / 10) digit (b ∷ more) (digit_is_low n))

-- a number begins with a digit
decimal_begins : (n : ℕ) → BeginsWithDigit (decimal n)
unfolding digits BeginsWithDigit
decimal_begins n =
    let digit = digit_glyph false (n % 10) in
    either_begins (n / 10 == 0) (digit ∷ []) (digits_onto 63 10 false (n / 10) (digit ∷ [])) (digit_is_low n)
    (digits_begin 63 (n / 10) digit [] (digit_is_low n))

digit_stands : (bs : List ℕ) → BeginsWithDigit bs → fails_run (bs ++ line_end) ≡ false
unfolding BeginsWithDigit
digit_stands [] none = absurd none
digit_stands (b ∷ bs) low =
    let no_e : eqb b 69 ≡ false = ne_eqb b 69 (λ same. omega (arith, same)) in
    let no_c : eqb b 67 ≡ false = ne_eqb b 67 (λ same. omega (arith, same)) in
    let no_s : eqb b 83 ≡ false = ne_eqb b 83 (λ same. omega (arith, same)) in
    rw (no_e, no_c, no_s)

-- a number fails no run
pub number_stands : (n : ℕ) → fails_run (decimal n ++ line_end) ≡ false
number_stands n = digit_stands (decimal n) (decimal_begins n)
