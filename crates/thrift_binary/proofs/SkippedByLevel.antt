-- A skipped value by its type and by the number of levels.
use Rattle.std.proofs.Common.{◌≡◌, ℕ, zero, suc, ◌+◌, List, Err, true, false, refl, arith}
use Rattle.thrift_binary.specs.declared.fault.WireError.TheVariants.{TooDeep}
use Rattle.thrift_binary.specs.Skipping.{leaf, container, is_container, value_at}

pub value_at-leaf : (levels c : ℕ) (w : List ℕ) → is_container c ≡ false → value_at levels c w ≡ leaf c w
unfolding value_at
value_at-leaf zero c w h = rw h refl
value_at-leaf (suc k) c w h = rw h refl

pub value_at-deep : (levels c : ℕ) (w : List ℕ) → is_container c ≡ true → levels ≡ 0 → value_at levels c w ≡ Err TooDeep
unfolding value_at
value_at-deep zero c w h e = rw h refl
value_at-deep (suc k) c w h e = absurd (omega arith)

pub value_at-inside : (levels k c : ℕ) (w : List ℕ) → is_container c ≡ true → levels ≡ k + 1 → value_at levels c w ≡ container (value_at k) c w
unfolding value_at
value_at-inside zero k c w h e = absurd (omega arith)
value_at-inside (suc j) k c w h e = let same : j ≡ k = omega arith in rw (h, same) refl
