-- Digits that spell short byte strings.
use Rattle.std.proofs.Common.{◌≡◌, ℕ, ◌*◌, ◌/◌, ◌≤◌, ◌<◌, List, ◌++◌, length, take, drop, Result, Ok, Err, arith}
use Rattle.std.specs.Prelude.{replicate}
use Rattle.std.specs.Result.{MatchResult, IsOk}
use Rattle.hex.specs.declared.error.FromHexError.{FromHexError}
use Rattle.hex.specs.Hex.{decode_sized}
use Rattle.hex.proofs.HexLemmas.{IsOk-decode_sized, IsOk-written}
use Rattle.arc_core.specs.ShortBytes.{IsInPlace}
use Rattle.arc_core.proofs.ShortByteLemmas.{copied_in_place}

-- bytes that digits were decoded to, in the place where they were put
pub decoded_in_place : (digits out : List ℕ) (n : ℕ) (r : Result Unit FromHexError) → 0 < length digits → length digits ≤ 62
    → MatchResult (decode_sized digits n) (λ bytes. (r ≡ Ok tt) × (out ≡ bytes)) (λ e. r ≡ Err e) → IsOk r
    → n ≡ length {A = ℕ} (take (length digits / 2) (replicate 31 0)) → length out ≡ n
    → IsInPlace (out ++ drop (length digits / 2) (replicate 31 0)) (length digits / 2)
decoded_in_place digits out n r some most written ok size len =
    let pairs : length digits ≡ 2 * n = ((IsOk-decode_sized digits n).0 ((IsOk-written (decode_sized digits n) r out written).0 ok)).0 in
    let half : length out ≡ length digits / 2 = omega (arith, pairs, len) in
    rw (← half) (copied_in_place out (omega (arith, len, pairs), omega (arith, len, pairs)))
