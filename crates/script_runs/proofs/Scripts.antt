-- Scripts that are read part by part.
use Rattle.std.proofs.Common.{◌≡◌, ◌∙◌, ℕ, zero, suc, ◌+◌, ◌-◌, ◌<◌, true, false, cond, List, [], ◌∷◌, ◌++◌, length, drop, Option, Some, None, Result, Ok, Err, is_ok, is_err, ◌==◌, ne_eqb, refl, sym, ap, subst, arith}
use Rattle.std.proofs.lemmas.List.{append-nil, append_assoc}
use Rattle.arc_core.specs.Outside.{Linked, linked}
use Rattle.script_runs.specs.Script.{Session, bytes_of, Read, with_piece, then_pieces, pieces, piece_record, session_record, then_read, then_sessions, behind_end, is_at_end, most_sessions, sessions}
use Rattle.script_runs.specs.declared.script.Stop.{Stop}
use Rattle.script_runs.specs.declared.script.Stop.TheVariants as stop
use Rattle.script_runs.specs.Reading.{fresh_link, AreLinksOf, IsSessionRead, AreSessionsRead}

pub most_is : most_sessions ≡ 1000
unfolding most_sessions
most_is = refl

-- these pieces, and then those of what was read
abbrev pub with_pieces : Session → Read (Session × List ℕ) → Read (Session × List ℕ)
with_pieces front (Ok (more, rest)) = Ok (front ++ more, rest)
with_pieces front (Err rest) = Err rest

pub with_none : (read : Read (Session × List ℕ)) → read ≡ with_pieces [] read
with_none (Ok (more, rest)) = refl
with_none (Err rest) = refl

with_last : (front : Session) (piece : List ℕ) (read : Read (Session × List ℕ)) → with_pieces front (with_piece piece read) ≡ with_pieces (front ++ piece ∷ []) read
with_last front piece (Ok (more, rest)) = ap (λ ps. Ok (ps, rest)) (sym (append_assoc front (piece ∷ []) more))
with_last front piece (Err rest) = refl

more_pieces : (number : ℕ) (text : List ℕ) → 0 < number → pieces number text ≡ then_pieces (pieces (number - 1)) text (piece_record text)
more_pieces zero text some = absurd (omega (arith, some))
more_pieces (suc number) text some = ap (λ n. then_pieces (pieces n) text (piece_record text)) (omega arith)

-- the piece that stands in front was read
pub read_piece : (number : ℕ) (text : List ℕ) (piece rest : List ℕ) (front : Session) (whole : Read (Session × List ℕ)) → 0 < number → Some (piece, rest) ≡ piece_record text
    → whole ≡ with_pieces front (pieces number text) → whole ≡ with_pieces (front ++ piece ∷ []) (pieces (number - 1) rest)
read_piece number text piece rest front whole some at is =
    is ∙ (ap (with_pieces front) (more_pieces number text some ∙ ap (then_pieces (pieces (number - 1)) text) (sym at)) ∙ with_last front piece (pieces (number - 1) rest))

-- no piece stands in front
pub bad_piece : (number : ℕ) (text : List ℕ) (front : Session) (whole : Read (Session × List ℕ)) → 0 < number → None ≡ piece_record text
    → whole ≡ with_pieces front (pieces number text) → whole ≡ Err text
bad_piece number text front whole some at is =
    is ∙ ap (with_pieces front) (more_pieces number text some ∙ ap (then_pieces (pieces (number - 1)) text) (sym at))

pub all_pieces : (number : ℕ) (text : List ℕ) (front : Session) (whole : Read (Session × List ℕ)) → number ≡ 0
    → whole ≡ with_pieces front (pieces number text) → whole ≡ Ok (front, text)
all_pieces number text front whole none is =
    is ∙ (ap (λ n. with_pieces front (pieces n text)) none ∙ ap (λ ps. Ok (ps, text)) (append-nil front))

pub bytes_last : (front : Session) (piece : List ℕ) → bytes_of (front ++ piece ∷ []) ≡ bytes_of front ++ piece
bytes_last [] piece = append-nil piece
bytes_last (first ∷ front) piece = ap (λ bytes. first ++ bytes) (bytes_last front piece) ∙ sym (append_assoc first (bytes_of front) piece)

pub then_none : (read : Read (List Session)) → read ≡ then_read [] read
then_none (Ok more) = refl
then_none (Err rest) = refl

then_last : (front : List Session) (session : Session) (read : Read (List Session)) → then_read front (then_read (session ∷ []) read) ≡ then_read (front ++ session ∷ []) read
then_last front session (Ok more) = ap Ok (sym (append_assoc front (session ∷ []) more))
then_last front session (Err rest) = refl

sessions_at_end : (most : ℕ) (text : List ℕ) → is_at_end text ≡ true → sessions most text ≡ behind_end (drop 4 text)
sessions_at_end zero text at = ap (λ b. cond b (behind_end (drop 4 text)) (Err text)) at
sessions_at_end (suc most) text at = ap (λ b. cond b (behind_end (drop 4 text)) (then_sessions (sessions most) (session_record text))) at

sessions_on : (most : ℕ) (text : List ℕ) → 0 < most → is_at_end text ≡ false → sessions most text ≡ then_sessions (sessions (most - 1)) (session_record text)
sessions_on zero text some at = absurd (omega (arith, some))
sessions_on (suc most) text some at =
    ap (λ b. cond b (behind_end (drop 4 text)) (then_sessions (sessions most) (session_record text))) at
    ∙ ap (λ m. then_sessions (sessions m) (session_record text)) (omega arith)

sessions_full : (most : ℕ) (text : List ℕ) → most ≡ 0 → is_at_end text ≡ false → sessions most text ≡ Err text
sessions_full most text none at = ap (λ m. sessions m text) none ∙ ap (λ b. cond b (behind_end (drop 4 text)) (Err text)) at

-- So far these sessions were read, of which there may be so many more.
pub record ReadsOn (whole : Read (List Session)) (so_far : List Session) (most : ℕ) (text : List ℕ) : Type 0 where
  pub is : whole ≡ then_read so_far (sessions most text)

pub too_many : (whole : Read (List Session)) (so_far : List Session) (most : ℕ) (text : List ℕ) → most ≡ 0 → is_at_end text ≡ false → ReadsOn whole so_far most text → whole ≡ Err text
too_many whole so_far most text none at reads = reads.is ∙ ap (then_read so_far) (sessions_full most text none at)

pub bad_session : (whole : Read (List Session)) (so_far : List Session) (most : ℕ) (text rest : List ℕ) → 0 < most → is_at_end text ≡ false → session_record text ≡ Err rest
    → ReadsOn whole so_far most text → whole ≡ Err rest
bad_session whole so_far most text rest some at bad reads =
    reads.is ∙ ap (then_read so_far) (sessions_on most text some at ∙ ap (then_sessions (sessions (most - 1))) bad)

pub one_session : (whole : Read (List Session)) (so_far : List Session) (most : ℕ) (text : List ℕ) (session : Session) (rest : List ℕ) → 0 < most → is_at_end text ≡ false
    → session_record text ≡ Ok (session, rest) → ReadsOn whole so_far most text → ReadsOn whole (so_far ++ session ∷ []) (most - 1) rest
one_session whole so_far most text session rest some at good reads = record {
  is = reads.is ∙ (ap (then_read so_far) (sessions_on most text some at ∙ ap (then_sessions (sessions (most - 1))) good) ∙ then_last so_far session (sessions (most - 1) rest));
}

pub at_end_ends : (whole : Read (List Session)) (so_far : List Session) (most : ℕ) (text : List ℕ) → is_at_end text ≡ true → drop 4 text ≡ [] → ReadsOn whole so_far most text → whole ≡ Ok so_far
at_end_ends whole so_far most text at none reads =
    reads.is ∙ (ap (then_read so_far) (sessions_at_end most text at ∙ ap behind_end none) ∙ ap Ok (append-nil so_far))

pub more_behind_end : (whole : Read (List Session)) (so_far : List Session) (most : ℕ) (text : List ℕ) → is_at_end text ≡ true → 0 < length (drop 4 text) → ReadsOn whole so_far most text
    → whole ≡ Err (drop 4 text)
more_behind_end whole so_far most text at some reads = reads.is ∙ ap (then_read so_far) (sessions_at_end most text at ∙ behind (drop 4 text) some)
  where
    behind : (rest : List ℕ) → 0 < length rest → behind_end rest ≡ Err rest
    behind [] some = absurd (omega (arith, some))
    behind (byte ∷ more) some = refl

module _ {L : Type 0} (look : L → Linked) where
  pub links_last : (all : List Session) (links : List L) (session : Session) (link : L) → AreLinksOf look all links → look link ≡ fresh_link (bytes_of session)
      → AreLinksOf look (all ++ session ∷ []) (links ++ link ∷ [])
  links_last [] [] session link are is = (is, tt)
  links_last (first ∷ all) (one ∷ links) session link (here, are) is = (here, links_last all links session link are is)
  links_last [] (one ∷ links) session link are is = absurd are
  links_last (first ∷ all) [] session link are is = absurd are

pub is_good : {A E : Type 0} (r : Result A E) → is_err r ≡ false → is_ok r ≡ true
is_good (Ok x) good = refl
is_good (Err e) good = cc

-- what is in a vector behind a call that succeeded
pub grown : {A E X : Type 0} (r : Result A E) (new old more : List X) → is_err r ≡ false → new ≡ cond (is_ok r) (old ++ more) old → new ≡ old ++ more
grown r new old more good is = is ∙ ap (λ b. cond b (old ++ more) old) (is_good r good)

pub fresh_is : (left sent : Option (List ℕ)) (refused : ℕ) (bytes : List ℕ) → left ≡ Some bytes → sent ≡ Some [] → refused ≡ 0 → linked left 0 sent 0 refused 0 ≡ fresh_link bytes
fresh_is left sent refused bytes is is' is'' =
    ap (λ l. linked l 0 sent 0 refused 0) is ∙ (ap (λ s. linked (Some bytes) 0 s 0 refused 0) is' ∙ ap (λ n. linked (Some bytes) 0 (Some []) 0 n 0) is'')

pub empty_is : {X : Type 0} (xs : List X) → length xs ≡ 0 → xs ≡ []
empty_is [] none = refl
empty_is (x ∷ xs) none = absurd (omega (arith, none))

module _ {L : Type 0} (look : L → Linked) where
  -- reading stopped in a session record
  pub stops : (whole : Read (List Session)) (so_far : List Session) (most : ℕ) (text : List ℕ) (why : Stop) → 0 < most → is_at_end text ≡ false → ReadsOn whole so_far most text
      → IsSessionRead look (session_record text) (Err why) → AreSessionsRead look whole (Err why)
  stops whole so_far most text (stop.Bad left) some at reads (rest, bad, long) = (rest, bad_session whole so_far most text rest some at bad reads, long)
  stops whole so_far most text stop.NoMemory some at reads is = tt

pub one_longer : {A E : Type 0} (r : Result A E) (new old : ℕ) → is_err r ≡ false → new ≡ cond (is_ok r) (old + 1) old → new ≡ old + 1
one_longer r new old good is = is ∙ ap (λ b. cond b (old + 1) old) (is_good r good)

apart : {P : Type 0} → true ≡ false → P
apart e = absurd (subst (λ b. cond b (Unit {0}) ⊥) e tt)

pub none_behind : (behind rest : List ℕ) → behind ≡ rest → true ≡ (length behind == 0) → rest ≡ []
none_behind [] rest is none = sym is
none_behind (byte ∷ more) rest is none =
    let other : true ≡ false = none ∙ ne_eqb (length (byte ∷ more)) 0 (λ same. absurd (omega (arith, same))) in apart other

pub some_behind : (behind rest : List ℕ) → behind ≡ rest → false ≡ (length behind == 0) → 0 < length rest
some_behind [] rest is some = apart (sym some)
some_behind (byte ∷ more) rest is some = omega (arith, ap length is)
