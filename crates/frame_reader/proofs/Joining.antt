-- How a cut of a stream grows as bytes and units come.
use Rattle.std.proofs.Common.{◌≢◌, List, [], ◌∷◌, ◌++◌, All, sym, ap, ◌∙◌, subst, append_assoc, ℕ}
use Rattle.std.proofs.lemmas.List.Elements.{All-head, All-tail}
use Rattle.arc_core.specs.declared.outside.Need.{Need}
use Rattle.arc_core.specs.Framing.{Whole, line_too_long, BeginsWith, IsLast, Cuts}
use Rattle.frame_reader.proofs.Existence.{put_first}

-- Bytes that come stand behind the tail.
pub BeginsWith-more : (needs : List ℕ → Need) (bytes : List ℕ) (units : List Whole) (tail more : List ℕ) → BeginsWith needs bytes units tail → BeginsWith needs (bytes ++ more) units (tail ++ more)
BeginsWith-more needs bytes [] tail more spans = ap (λ b. b ++ more) spans
BeginsWith-more needs bytes (unit ∷ units) tail more spans =
    (spans.0, spans.1 ++ more, ap (λ b. b ++ more) spans.2 ∙ append_assoc spans.0 spans.1 more, spans.3, BeginsWith-more needs spans.1 units tail more spans.4)

-- Units of the tail stand behind those before it.
pub BeginsWith-join : (needs : List ℕ → Need) (bytes : List ℕ) (units later : List Whole) (tail rest : List ℕ) → BeginsWith needs bytes units tail → BeginsWith needs tail later rest → BeginsWith needs bytes (units ++ later) rest
BeginsWith-join needs bytes [] later tail rest spans behind = subst (λ b. BeginsWith needs b later rest) (sym spans) behind
BeginsWith-join needs bytes (unit ∷ units) later tail rest spans behind =
    (spans.0, spans.1, spans.2, spans.3, BeginsWith-join needs spans.1 units later tail rest spans.4 behind)

IsLast-join : (needs : List ℕ → Need) (units later : List Whole) (rest : List ℕ) → All (λ unit. unit ≢ line_too_long) units → IsLast needs later rest → IsLast needs (units ++ later) rest
IsLast-join needs [] later rest each last = last
IsLast-join needs (unit ∷ units) later rest each last =
    put_first needs unit (units ++ later) rest (IsLast-join needs units later rest (All-tail (λ u. u ≢ line_too_long) unit units each) last) (All-head (λ u. u ≢ line_too_long) unit units each)

-- A cut of the tail, behind units none of which is too long a line.
pub Cuts-join : (needs : List ℕ → Need) (bytes : List ℕ) (units later : List Whole) (tail rest : List ℕ) → BeginsWith needs bytes units tail → All (λ unit. unit ≢ line_too_long) units → Cuts needs tail later rest → Cuts needs bytes (units ++ later) rest
Cuts-join needs bytes units later tail rest spans each cut = record {
  spans = BeginsWith-join needs bytes units later tail rest spans cut.spans;
  ends = IsLast-join needs units later rest each cut.ends;
}
