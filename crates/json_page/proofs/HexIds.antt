-- The sixteen digits of an id are those of its eight bytes.
use Rattle.std.proofs.Common.{◌≡◌, ◌<◌, ℕ, zero, suc, ◌*◌, ◌/◌, ◌%◌, ◌^◌, Bool, true, false, List, [], ◌∷◌, ◌++◌, refl, sym, ap, ap₂, ◌∙◌, arith}
use Rattle.std.proofs.Common.{eqb-true, length, subst}
use Rattle.std.specs.Prelude.{◌==◌, if◌then◌else◌}
use Rattle.std.proofs.Math.Nat.{div-div-eq-div-mul, div-one, pow-suc}
use Rattle.std.specs.Int.{byte_at, bytes_high_first, to_be_bytes, w64}
use Rattle.std.specs.Str.{IsAscii, IsUtf8}
use Rattle.std.proofs.lemmas.Str.{IsUtf8-from_ascii}
use Rattle.std.proofs.lemmas.Str.Ascii.{IsAscii-cons, IsAscii-nil}
use Rattle.json.proofs.Printed.Utf8.{IsUtf8-quoted}
use Rattle.jaeger_model.specs.declared.ids.TraceId.{TraceId}
use Rattle.jaeger_model.specs.Ids.{hex_digit, low_digits, trace_text}
use Rattle.jaeger_model.specs.Tags.{hex_text}
use Rattle.json_page.proofs.Escapes.{escape_low_digits, hex_digit_small}

-- the first digit
low_digits-front : (k n : ℕ) → low_digits (suc k) n ≡ hex_digit (n / 16 ^ k % 16) ∷ low_digits k n
unfolding low_digits
low_digits-front zero n = ap (λ m. hex_digit (m % 16) ∷ []) (sym (div-one n))
low_digits-front (suc k) n =
    let power : 16 * 16 ^ k ≡ 16 ^ suc k = omega (arith, pow-suc 16 k) in
    let place : n / 16 / 16 ^ k ≡ n / 16 ^ suc k = div-div-eq-div-mul n 16 (16 ^ k) ∙ ap (λ p. n / p) power in
    ap (λ ds. ds ++ hex_digit (n % 16) ∷ []) (low_digits-front k (n / 16))
    ∙ ap (λ m. hex_digit (m % 16) ∷ low_digits (suc k) n) place

abbrev twice : ℕ → ℕ
twice zero = zero
twice (suc k) = suc (suc (twice k))

power_of_bytes : (k : ℕ) → 256 ^ k ≡ 16 ^ twice k
power_of_bytes zero = refl
power_of_bytes (suc k) = omega (arith, power_of_bytes k, pow-suc 256 k, pow-suc 16 (suc (twice k)), pow-suc 16 (twice k))

byte_at-power : (k n : ℕ) → byte_at k n ≡ n / 16 ^ twice k % 256
byte_at-power zero n = ap (λ m. m % 256) (sym (div-one n))
byte_at-power (suc k) n = ap (λ p. n / p % 256) (power_of_bytes (suc k))

-- the two digits of a byte
high_digit : (k n : ℕ) → byte_at k n / 16 ≡ n / 16 ^ suc (twice k) % 16
high_digit k n =
    let power : 16 ^ twice k * 16 ≡ 16 ^ suc (twice k) = omega (arith, pow-suc 16 (twice k)) in
    let place : n / 16 ^ twice k / 16 ≡ n / 16 ^ suc (twice k) = div-div-eq-div-mul n (16 ^ twice k) 16 ∙ ap (λ p. n / p) power in
    let byte = byte_at-power k n in
    omega (arith, byte, place)

low_digit : (k n : ℕ) → byte_at k n % 16 ≡ n / 16 ^ twice k % 16
low_digit k n = let byte = byte_at-power k n in omega (arith, byte)

hex_text-bytes : (k n : ℕ) → hex_text (bytes_high_first k n) ≡ low_digits (twice k) n
unfolding low_digits
hex_text-bytes zero n = refl
hex_text-bytes (suc k) n =
    ap₂ (λ a b. hex_digit a ∷ hex_digit b ∷ hex_text (bytes_high_first k n)) (high_digit k n) (low_digit k n)
    ∙ ap (λ ds. hex_digit (n / 16 ^ suc (twice k) % 16) ∷ hex_digit (n / 16 ^ twice k % 16) ∷ ds) (hex_text-bytes k n)
    ∙ ap (λ ds. hex_digit (n / 16 ^ suc (twice k) % 16) ∷ ds) (sym (low_digits-front (twice k) n))
    ∙ sym (low_digits-front (suc (twice k)) n)

pub hex_text-number : (n : ℕ) → hex_text (to_be_bytes w64 n) ≡ low_digits 16 n
hex_text-number n = hex_text-bytes 8 n

pub length-low_digits : (k n : ℕ) → length (low_digits k n) ≡ k
unfolding low_digits
length-low_digits zero n = refl
length-low_digits (suc k) n = ap length (low_digits-front k n) ∙ ap (λ (m : ℕ). suc m) (length-low_digits k n)

-- ---- digits in quotes
IsAscii-low_digits : (k n : ℕ) → IsAscii (low_digits k n)
unfolding low_digits
IsAscii-low_digits zero n = IsAscii-nil
IsAscii-low_digits (suc k) n =
    let small : n / 16 ^ k % 16 < 16 = omega arith in
    let first : hex_digit (n / 16 ^ k % 16) < 128 = hex_digit_small (n / 16 ^ k % 16) small in
    subst IsAscii (sym (low_digits-front k n)) (IsAscii-cons (hex_digit (n / 16 ^ k % 16)) (low_digits k n) first (IsAscii-low_digits k n))

pub quoted_low_digits : (k n : ℕ) → IsUtf8 (34 ∷ (low_digits k n ++ 34 ∷ []))
quoted_low_digits k n =
    let digits = low_digits k n in
    subst (λ (ds : List ℕ). IsUtf8 (34 ∷ (ds ++ 34 ∷ []))) (escape_low_digits k n) (IsUtf8-quoted digits (IsUtf8-from_ascii digits (IsAscii-low_digits k n)))

-- ---- a trace's id

-- an id without a high half, and one with it
pub short_text : (t : TraceId) → t.high ≡ 0 → low_digits 16 t.low ≡ trace_text t
unfolding trace_text
short_text t none = sym (ap (λ h. if h == 0 then low_digits 16 t.low else low_digits 16 h ++ low_digits 16 t.low) none)

pub long_text : (t : TraceId) → (t.high ≡ 0 → ⊥) → low_digits 16 t.high ++ low_digits 16 t.low ≡ trace_text t
unfolding trace_text
long_text t some = by (t.high == 0) (eqb-true t.high 0)
  where
    by : (b : Bool) → (b ≡ true → t.high ≡ 0)
        → low_digits 16 t.high ++ low_digits 16 t.low ≡ (if b then low_digits 16 t.low else low_digits 16 t.high ++ low_digits 16 t.low)
    by true none = absurd (some (none refl))
    by false none = refl
