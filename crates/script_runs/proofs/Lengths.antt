-- A session of a script has no more bytes than the script.
use Rattle.std.proofs.Common.{◌≡◌, ℕ, zero, suc, ◌+◌, ◌≤◌, Bool, true, false, cond, List, [], ◌∷◌, length, take, drop, Option, Some, None, Result, Ok, Err, option_map, option_and_then, position, codes, subst, arith, length-append, length-take, length-drop}
use Rattle.std.specs.List.{AllByRecursion}
use Rattle.script_runs.specs.Script.{Session, bytes_of, is_feed, number_behind, numbered_line, counted, piece_record, session_line, Read, with_piece, then_pieces, pieces, session_behind, session_record, behind_end, then_read, then_sessions, is_at_end, sessions, offset_in, most_sessions, script_of}
use Rattle.script_runs.specs.Dealing.{At}
use Rattle.script_runs.proofs.Places.{at_all}

abbrev LineFits : ℕ → Option (ℕ × List ℕ) → Type 0
LineFits n None = Unit {0}
LineFits n (Some (number, rest)) = length rest ≤ n

abbrev PieceFits : ℕ → Option (List ℕ × List ℕ) → Type 0
PieceFits n None = Unit {0}
PieceFits n (Some (piece, rest)) = length piece + length rest ≤ n

abbrev SessionFits : ℕ → Read (Session × List ℕ) → Type 0
SessionFits n (Ok (session, rest)) = length (bytes_of session) + length rest ≤ n
SessionFits n (Err rest) = Unit {0}

abbrev Fit : ℕ → List Session → Type 0
Fit n all = AllByRecursion (λ session. length (bytes_of session) ≤ n) all

abbrev AllFit : {E : Type 0} → ℕ → Result (List Session) E → Type 0
AllFit n (Ok all) = Fit n all
AllFit n (Err rest) = Unit {0}

line_fits : (front : List ℕ) (below : ℕ) (text : List ℕ) → LineFits (length text) (numbered_line front below text)
line_fits front below text = by (position is_feed text)
  where
    by_number : (at : ℕ) (number : Option ℕ) → LineFits (length text) (option_map (λ number. (number, drop (at + 1) text)) number)
    by_number at None = tt
    by_number at (Some number) = omega (arith, length-drop (at + 1) text)

    by : (at : Option ℕ) → LineFits (length text) (option_and_then (λ at. option_map (λ number. (number, drop (at + 1) text)) (number_behind front below (take at text))) at)
    by None = tt
    by (Some at) = by_number at (number_behind front below (take at text))

counted_fits : (n number : ℕ) (rest : List ℕ) → length rest ≤ n → PieceFits n (counted (number, rest))
counted_fits n number rest fits = by _
  where
    by : (b : Bool) → PieceFits n (cond b (Some (take number rest, drop (number + 1) rest)) None)
    by false = tt
    by true = omega (arith, fits, length-take number rest, length-drop (number + 1) rest)

piece_fits : (text : List ℕ) → PieceFits (length text) (piece_record text)
piece_fits text = by (numbered_line (codes "piece ") 268435457 text) (line_fits (codes "piece ") 268435457 text)
  where
    by : (line : Option (ℕ × List ℕ)) → LineFits (length text) line → PieceFits (length text) (option_and_then counted line)
    by None fits = tt
    by (Some (number, rest)) fits = counted_fits (length text) number rest fits

pieces_fit : (number : ℕ) (text : List ℕ) → SessionFits (length text) (pieces number text)
pieces_fit zero text = omega arith
pieces_fit (suc number) text = by (pieces_fit number) (piece_record text) (piece_fits text)
  where
    by_more : (piece rest : List ℕ) (more : Read (Session × List ℕ)) → length piece + length rest ≤ length text → SessionFits (length rest) more → SessionFits (length text) (with_piece piece more)
    by_more piece rest (Err left) fits fits' = tt
    by_more piece rest (Ok (all, left)) fits fits' = omega (arith, fits, fits', length-append piece (bytes_of all))

    by : ((rest : List ℕ) → SessionFits (length rest) (pieces number rest)) → (piece : Option (List ℕ × List ℕ)) → PieceFits (length text) piece
        → SessionFits (length text) (then_pieces (pieces number) text piece)
    by others None fits = tt
    by others (Some (piece, rest)) fits = by_more piece rest (pieces number rest) fits (others rest)

session_fits : (text : List ℕ) → SessionFits (length text) (session_record text)
session_fits text = by (session_line text) (line_fits (codes "session ") 100001 text)
  where
    wider : (n : ℕ) (read : Read (Session × List ℕ)) → n ≤ length text → SessionFits n read → SessionFits (length text) read
    wider n (Ok (session, rest)) up fits = omega (arith, up, fits)
    wider n (Err rest) up fits = tt

    by : (line : Option (ℕ × List ℕ)) → LineFits (length text) line → SessionFits (length text) (session_behind text line)
    by None fits = tt
    by (Some (number, rest)) fits = wider (length rest) (pieces number rest) fits (pieces_fit number rest)

wider_all : (n m : ℕ) (all : List Session) → n ≤ m → Fit n all → Fit m all
wider_all n m [] up fit = tt
wider_all n m (session ∷ all) up fit = (omega (arith, up, fit.0), wider_all n m all up fit.1)

behind_fits : (n : ℕ) (rest : List ℕ) → AllFit n (behind_end rest)
behind_fits n [] = tt
behind_fits n (byte ∷ rest) = tt

sessions_fit : (most : ℕ) (text : List ℕ) → AllFit (length text) (sessions most text)
sessions_fit zero text = by (is_at_end text)
  where
    by : (b : Bool) → AllFit (length text) (cond b (behind_end (drop 4 text)) (Err text))
    by true = behind_fits (length text) (drop 4 text)
    by false = tt
sessions_fit (suc most) text = by (sessions_fit most) (is_at_end text)
  where
    by_more : (session : Session) (rest : List ℕ) (more : Read (List Session)) → length (bytes_of session) + length rest ≤ length text → AllFit (length rest) more
        → AllFit (length text) (then_read (session ∷ []) more)
    by_more session rest (Err left) fits fit = tt
    by_more session rest (Ok all) fits fit = (omega (arith, fits), wider_all (length rest) (length text) all (omega (arith, fits)) fit)

    by_session : ((rest : List ℕ) → AllFit (length rest) (sessions most rest)) → (read : Read (Session × List ℕ)) → SessionFits (length text) read
        → AllFit (length text) (then_sessions (sessions most) read)
    by_session others (Err rest) fits = tt
    by_session others (Ok (session, rest)) fits = by_more session rest (sessions most rest) fits (others rest)

    by : ((rest : List ℕ) → AllFit (length rest) (sessions most rest)) → (b : Bool)
        → AllFit (length text) (cond b (behind_end (drop 4 text)) (then_sessions (sessions most) (session_record text)))
    by others true = behind_fits (length text) (drop 4 text)
    by others false = by_session others (session_record text) (session_fits text)

script_fits : (text : List ℕ) → AllFit (length text) (script_of text)
script_fits text = by (sessions most_sessions text) (sessions_fit most_sessions text)
  where
    by : (read : Read (List Session)) → AllFit (length text) read → AllFit (length text) (offset_in text read)
    by (Ok all) fit = fit
    by (Err rest) fit = tt

-- each session of a script is as long as the script at most
pub session_within : (text : List ℕ) (all : List Session) → script_of text ≡ Ok all → (k : ℕ) (session : Session) → At all k session → length (bytes_of session) ≤ length text
session_within text all is k session at =
    at_all (λ session. length (bytes_of session) ≤ length text) all (subst (AllFit (length text)) is (script_fits text)) k session at
