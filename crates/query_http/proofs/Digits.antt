-- The leading digits of a text, and the size of a duration.
use Rattle.std.proofs.Common.{◌≡◌, ℕ, ◌+◌, ◌*◌, ◌<◌, ◌≤◌, ◌^◌, Bool, true, false, not, cond, ltb, List, length, Some, None, unwrap_or, refl, arith, zero}
use Rattle.std.specs.Prelude.{position}
use Rattle.std.specs.List.{position_or_len}
use Rattle.std.proofs.lemmas.Bool.{ltb-false}
use Rattle.std.proofs.lemmas.List.Sums.{prefix_len-le-length}
use Rattle.std.proofs.Math.Nat.{pow-le-pow_right, mul-le-mul}

pub position_or_end : {X : Type 0} (p : X → Bool) (xs : List X) → unwrap_or (position p xs) (length xs) ≡ position_or_len p xs
position_or_end p xs = by (ltb (position_or_len p xs) (length xs)) refl
  where
    by : (v : Bool) → ltb (position_or_len p xs) (length xs) ≡ v → unwrap_or (cond v (Some (position_or_len p xs)) None) (length xs) ≡ position_or_len p xs
    by true e = refl
    by false e = let far : length xs ≤ position_or_len p xs = ltb-false _ _ e in omega (arith, prefix_len-le-length (λ x. not (p x)) xs)

-- ten to a small power
pub ten_small : (k : ℕ) → k ≤ 9 → (0 < 10 ^ k) × (10 ^ k ≤ 10 ^ 9)
ten_small k le =
    let ten : zero < 10 = omega arith in
    let least : 0 ≤ k = omega arith in
    let low : 10 ^ 0 ≤ 10 ^ k = pow-le-pow_right ten least in
    (omega (arith, low), pow-le-pow_right ten le)

-- a duration in microseconds fits 128 bits
pub fits_scaled : (whole ten part unit : ℕ) → whole < 2 ^ 64 → ten ≤ 10 ^ 9 → part < 2 ^ 64 → unit ≤ 3600000000 → (whole * ten + part) * unit < 2 ^ 128
fits_scaled whole ten part unit w t p u =
    let w' : whole ≤ 2 ^ 64 = omega arith in
    let one : whole * ten ≤ 2 ^ 64 * 10 ^ 9 = mul-le-mul w' t in
    let sum : whole * ten + part ≤ 2 * 10 ^ 28 = omega (arith, one) in
    let all : (whole * ten + part) * unit ≤ (2 * 10 ^ 28) * 3600000000 = mul-le-mul sum u in
    below ((whole * ten + part) * unit) all
  where
    below : (x : ℕ) → x ≤ (2 * 10 ^ 28) * 3600000000 → x < 2 ^ 128
    below x le = omega (arith, le)
