-- The table of the bytes that keys have.
use Rattle.std.proofs.Common.{◌≡◌, ℕ, zero, suc, ◌+◌, ◌<◌, Bool, true, false, not, ◌&&◌, List, [], ◌∷◌, length, get_or, refl, sym, ap, ◌∙◌, arith}
use Rattle.std.proofs.lemmas.Bool.{and_parts}
use Rattle.arc_core.specs.Key.{is_key_byte}
use Rattle.arc_core.specs.declared.keys.TheConstants.{KEY_BYTES}

abbrev same : Bool → Bool → Bool
same true b = b
same false b = not b

are_same : (a b : Bool) → same a b ≡ true → a ≡ b
are_same true b h = sym h
are_same false true h = cc
are_same false false h = refl

-- whether a list says of each byte from n on whether a key has it
abbrev says : List Bool → ℕ → Bool
says [] n = true
says (b ∷ bs) n = same b (is_key_byte n) && says bs (n + 1)

said : (bs : List Bool) (n k : ℕ) → says bs n ≡ true → k < length bs → get_or bs k false ≡ is_key_byte (n + k)
said [] n k h l = absurd (omega (arith, l))
said (b ∷ bs) n zero h l =
    let at : n + zero ≡ n = omega arith in
    are_same b (is_key_byte n) (and_parts (same b (is_key_byte n)) (says bs (n + 1)) h).0 ∙ ap is_key_byte (sym at)
said (b ∷ bs) n (suc k) h l =
    let at : n + 1 + k ≡ n + suc k = omega arith in
    said bs (n + 1) k (and_parts (same b (is_key_byte n)) (says bs (n + 1)) h).1 (omega (arith, l)) ∙ ap is_key_byte at

pub key_byte : (b : ℕ) → b < 256 → get_or KEY_BYTES b false ≡ is_key_byte b
key_byte b h = let at : 0 + b ≡ b = omega arith in said KEY_BYTES 0 b refl h ∙ ap is_key_byte at
