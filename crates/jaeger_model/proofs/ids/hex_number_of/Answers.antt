use Rattle.std.proofs.Common.{ℕ, ◌<◌, ◌≤◌, ◌+◌, ◌*◌, ◌^◌, arith, zero}
use Rattle.std.proofs.Math.Nat.{pow-le-pow_right}
use Rattle.jaeger_model.proofs.ids.hex_number_of.Goals as goal

room : (n i : ℕ) → n < 16 ^ i → i < 32 → n * 16 + 15 < 2 ^ 128
room n i lt small =
    let pos16 : zero < 16 = omega arith in
    let top : i ≤ 31 = omega arith in
    let le : 16 ^ i ≤ 16 ^ 31 = pow-le-pow_right pos16 top in
    omega (arith, le)

pub overflow_mul-n : goal.overflow_mul-n
overflow_mul-n c = let h = room c.loop-c.n c.loop-c.c-index c.loop-c.invariant.1 (omega (arith, c.requires)) in omega (arith, h)

pub overflow_add-n : goal.overflow_add-n
overflow_add-n c = let h = room c.loop-c.n c.loop-c.c-index c.loop-c.invariant.1 (omega (arith, c.requires)) in omega (arith, h, c.hex_digit_of.ensures.small)
