-- Short byte strings in place.
use Rattle.std.proofs.Common.{◌≡◌, ℕ, List, ◌++◌, length, take, drop, sym, ap}
use Rattle.std.specs.Prelude.{replicate}
use Rattle.std.proofs.Math.Seq.{take-append_seam}
use Rattle.std.proofs.lemmas.List.{drop-replicate}
use Rattle.arc_core.specs.ShortBytes.{IsShort, IsInPlace}

-- bytes that are copied to the front of zeros are in place
pub copied_in_place : (bytes : List ℕ) → IsShort bytes → IsInPlace (bytes ++ drop (length bytes) (replicate 31 0)) (length bytes)
copied_in_place bytes short =
    let front : take (length bytes) (bytes ++ drop (length bytes) (replicate 31 0)) ≡ bytes = take-append_seam bytes (drop (length bytes) (replicate 31 0)) in
    record {
      short = rw front short;
      len_is = sym (ap length front);
      padded = rw front (ap (λ zeros. bytes ++ zeros) (drop-replicate (length bytes) 31 0));
    }
