-- Units at the front of a piece.
use Rattle.std.proofs.Common.{◌≡◌, ℕ, ◌+◌, ◌≤◌, List, [], ◌∷◌, ◌++◌, length, take, refl, sym, ◌∙◌, length-append, arith}
use Rattle.std.proofs.lemmas.List.{take-append-drop, take-take}
use Rattle.arc_core.specs.declared.outside.Need.{Need}
use Rattle.arc_core.specs.declared.outside.Need.TheVariants.{Block}
use Rattle.arc_core.specs.Framing.{IsSpan}
use Rattle.arc_core.specs.Framing as whole
use Rattle.frame_reader.specs.Fronts.{IsFrontLine, IsFrontBlock}

-- a line with the block that it asks for
pub with_block : (needs : List ℕ → Need) (piece text block : List ℕ) (count len limit end : ℕ) → IsFrontLine piece text count → needs text ≡ Block len limit → len ≤ limit
    → IsFrontBlock piece count len block end → IsSpan needs (take end piece) (whole.line_with_block text block)
with_block needs piece text block count len limit end line asks fits behind =
    let head : take count (take end piece) ≡ take count piece = take-take count end piece (omega (arith, behind.end_is)) in
    let parts : take end piece ≡ take count piece ++ (block ++ 13 ∷ 10 ∷ []) =
    sym (take-append-drop count (take end piece)) ∙ rw (head, behind.chunk_is) refl in
    let long : length (block ++ 13 ∷ 10 ∷ []) ≡ len + 2 = length-append block (13 ∷ 10 ∷ []) ∙ omega (arith, behind.len_is) in
    (len, limit, block ++ 13 ∷ 10 ∷ [], record { head = take count piece; whole = parts; is_line = line.is_line; asks = asks }, long, (fits, refl))
