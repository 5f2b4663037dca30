use Rattle.std.proofs.Common.{◌≤◌, ◌^◌, arith}
use Rattle.std.proofs.Math.Nat.{pow-le-pow_right}
use Rattle.arc_core.proofs.numbers.front_number.Goals as goal

pub overflow_mul-number : goal.overflow_mul-number
overflow_mul-number c =
    let inv = c.loop-byte.invariant in
    let top : 10 ^ c.loop-byte.byte-index ≤ 100000000000000000 = pow-le-pow_right {n = 10} (omega arith) {i = c.loop-byte.byte-index} {j = 17} (omega (arith, inv.len, inv.few, c.if-len-eq-SHORT_DIGITS.false)) in
    omega (arith, inv.below, top)

pub overflow_add-number : goal.overflow_add-number
overflow_add-number c =
    let inv = c.loop-byte.invariant in
    let top : 10 ^ c.loop-byte.byte-index ≤ 100000000000000000 = pow-le-pow_right {n = 10} (omega arith) {i = c.loop-byte.byte-index} {j = 17} (omega (arith, inv.len, inv.few, c.if-len-eq-SHORT_DIGITS.false)) in
    omega (arith, inv.below, top, c.from.ensures, c.type_inv.text c.loop-byte.byte-index)
