-- What a script of sessions is, and where a text that is none stops being one.
--
-- A script is session records, and then the line `end`. A session record is a line `session <pieces>`, and then so many
-- piece records. A piece record is a line `piece <bytes>`, so many bytes, and a line feed. Each line ends with a line feed.
-- Numbers are decimal digits without a leading zero. (This server's own format.)
use Rattle.std.specs.Prelude.{◌==◌, ◌&&◌, ℕ, ◌+◌, ◌-◌, nat_lt, if◌then◌else◌, zero, suc, List, [], ◌∷◌, ◌++◌, length, take, drop, position, slice_index, bytes_eq, codes, Bool, Option, Some, None, Result, Ok, Err}
use Rattle.std.specs.Option.{option_map, option_and_then}
use Rattle.arc_core.specs.Words.{number_below}

-- One session of a script: its bytes, in pieces.
abbrev pub Session : Type 0
Session = List (List ℕ)

-- all its bytes, one piece behind the other
abbrev pub bytes_of : Session → List ℕ
bytes_of [] = []
bytes_of (piece ∷ pieces) = piece ++ bytes_of pieces

abbrev pub is_feed : ℕ → Bool
is_feed byte = byte == 10

-- a number below a bound, in decimal digits without a leading zero (`0` itself has none)
abbrev pub plain_number : ℕ → List ℕ → Option ℕ
plain_number below word = if nat_lt 1 (length word) && (slice_index word 0 == 48) then None else number_below below word

-- the number below the bound that a line has behind this front, where that is all of the line
abbrev pub number_behind : (front : List ℕ) (below : ℕ) → List ℕ → Option ℕ
number_behind front below line = if bytes_eq (take (length front) line) front then plain_number below (drop (length front) line) else None

-- such a line in front of a text: its number, and what stands behind the line
abbrev pub numbered_line : (front : List ℕ) (below : ℕ) → List ℕ → Option (ℕ × List ℕ)
numbered_line front below text =
    option_and_then (λ at. option_map (λ number. (number, drop (at + 1) text)) (number_behind front below (take at text))) (position is_feed text)

-- so many bytes, at least one, and a line feed behind them: these bytes, and what stands behind the line feed
abbrev pub counted : ℕ × List ℕ → Option (List ℕ × List ℕ)
counted header =
    if nat_lt 0 header.0 && nat_lt header.0 (length header.1) && is_feed (slice_index header.1 header.0)
    then Some (take header.0 header.1, drop (header.0 + 1) header.1)
    else None

-- the piece record in front of a text, of 1 to 268,435,456 bytes: its bytes, and what stands behind it
abbrev pub piece_record : List ℕ → Option (List ℕ × List ℕ)
piece_record text = option_and_then counted (numbered_line (codes "piece ") 268435457 text)

-- the line of a session in front of a text: its number of pieces, 0 to 100,000, and what stands behind it
abbrev pub session_line : List ℕ → Option (ℕ × List ℕ)
session_line text = numbered_line (codes "session ") 100001 text

-- What was read of a text, or what is left of it from the first bad part on. The parts are the line of a session, a piece
-- record, and the line `end`; nothing may stand behind that.
abbrev pub Read : Type 0 → Type 0
Read A = Result A (List ℕ)

-- one piece more before these
abbrev pub with_piece : List ℕ → Read (Session × List ℕ) → Read (Session × List ℕ)
with_piece piece (Ok (pieces, rest)) = Ok (piece ∷ pieces, rest)
with_piece piece (Err rest) = Err rest

-- the piece in front of a text, and then more pieces; the text is bad where no piece record is in front of it
abbrev pub then_pieces : (List ℕ → Read (Session × List ℕ)) → List ℕ → Option (List ℕ × List ℕ) → Read (Session × List ℕ)
then_pieces more text None = Err text
then_pieces more text (Some (piece, rest)) = with_piece piece (more rest)

-- so many piece records in front of a text: their pieces, and what stands behind them
abbrev pub pieces : ℕ → List ℕ → Read (Session × List ℕ)
pieces zero text = Ok ([], text)
pieces (suc number) text = then_pieces (pieces number) text (piece_record text)

-- the session record in front of a text, by the line of the session
abbrev pub session_behind : List ℕ → Option (ℕ × List ℕ) → Read (Session × List ℕ)
session_behind text None = Err text
session_behind text (Some (number, rest)) = pieces number rest

-- the session record in front of a text: its pieces, and what stands behind it
abbrev pub session_record : List ℕ → Read (Session × List ℕ)
session_record text = session_behind text (session_line text)

-- behind the line `end` nothing may stand
abbrev pub behind_end : List ℕ → Read (List Session)
behind_end [] = Ok []
behind_end (byte ∷ more) = Err (byte ∷ more)

-- these sessions, and then more ones
abbrev pub then_read : List Session → Read (List Session) → Read (List Session)
then_read first (Ok more) = Ok (first ++ more)
then_read first (Err rest) = Err rest

-- the session in front of a text, and then more sessions
abbrev pub then_sessions : (List ℕ → Read (List Session)) → Read (Session × List ℕ) → Read (List Session)
then_sessions more (Ok (session, rest)) = then_read (session ∷ []) (more rest)
then_sessions more (Err rest) = Err rest

abbrev pub end_line : List ℕ
end_line = codes "end" ++ 10 ∷ []

-- whether a text begins with the line `end`
abbrev pub is_at_end : List ℕ → Bool
is_at_end text = bytes_eq (take 4 text) end_line

-- the sessions of a text that has at most so many session records, and then the line `end`, and nothing else
abbrev pub sessions : ℕ → List ℕ → Read (List Session)
sessions zero text = if is_at_end text then behind_end (drop 4 text) else Err text
sessions (suc most) text = if is_at_end text then behind_end (drop 4 text) else then_sessions (sessions most) (session_record text)

-- what was read of a text, or the offset of the first bad part, which is the text's length where a part is missing
abbrev pub offset_in : List ℕ → Read (List Session) → Result (List Session) ℕ
offset_in text (Ok all) = Ok all
offset_in text (Err rest) = Err (length text - length rest)

-- a script has at most so many sessions
unfoldable pub most_sessions : ℕ
most_sessions = 1000

-- THE SCRIPT. The sessions of a text, of which there are at most 1,000; or the offset of its first bad part.
abbrev pub script_of : List ℕ → Result (List Session) ℕ
script_of text = offset_in text (sessions most_sessions text)
