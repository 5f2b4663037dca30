-- What is left of a piece.
use Rattle.std.proofs.Common.{◌≡◌, ◌≤◌, ◌+◌, ◌-◌, ℕ, List, length, take, drop, sym, ap, ◌∙◌, arith, length-take}
use Rattle.std.proofs.lemmas.List.{drop-take, drop-drop}

-- more bytes of a piece were read
pub passed : (bytes : List ℕ) (from upto count : ℕ) → from ≤ upto → count ≤ length (take (upto - from) (drop from bytes))
    → take (upto - (from + count)) (drop (from + count) bytes) ≡ drop count (take (upto - from) (drop from bytes))
passed bytes from upto count order few =
    let rest = upto - (from + count) in
    let short : count ≤ upto - from = omega (arith, few, length-take (upto - from) (drop from bytes)) in
    let parts : count + rest ≡ upto - from = omega (arith, short, order) in
    sym (ap (λ n. drop count (take n (drop from bytes))) (sym parts) ∙ drop-take count rest (drop from bytes) ∙ ap (take rest) (drop-drop count from bytes))
