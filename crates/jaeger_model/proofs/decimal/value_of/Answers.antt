use Rattle.std.proofs.Common.{ℕ, ◌<◌, ◌≤◌, ◌+◌, ◌*◌, ◌^◌, arith, zero}
use Rattle.std.proofs.Math.Nat.{pow-le-pow_right}
use Rattle.jaeger_model.proofs.decimal.value_of.Goals as goal

room : (n i : ℕ) → n < 10 ^ i → i < 19 → n * 10 + 9 < 10 ^ 19
room n i lt small =
    let pos10 : zero < 10 = omega arith in
    let top : i ≤ 18 = omega arith in
    let le : 10 ^ i ≤ 10 ^ 18 = pow-le-pow_right pos10 top in
    omega (arith, le)

pub overflow_mul-number : goal.overflow_mul-number
overflow_mul-number c = let h = room c.loop-byte.number c.loop-byte.byte-index c.loop-byte.invariant.1 (omega (arith, c.requires)) in omega (arith, h)

pub overflow_add-number : goal.overflow_add-number
overflow_add-number c =
    let h = room c.loop-byte.number c.loop-byte.byte-index c.loop-byte.invariant.1 (omega (arith, c.requires)) in
    omega (arith, h, c.digit_of.ensures.small)
