-- The first bytes of the texts of numbers.
use Rattle.std.proofs.Common.{◌≡◌, ℕ, ℤ, zero, suc, ◌+◌, ◌<◌, ◌≤◌, ◌/◌, ◌%◌, Bool, true, false, ◌&&◌, ◌||◌, List, [], ◌∷◌, refl, arith, le-leb}
use Rattle.std.specs.Prelude.{nat_lt, if◌then◌else◌, pos, negsuc, ◌==◌}
use Rattle.std.specs.Fmt.{decimal, digits, digits_onto, digit_glyph, signed_decimal}
use Rattle.std.proofs.lemmas.Bool.{ltb-false}
use Rattle.find_traces.specs.RequestedPairs.{begins_number, may_be_number}

glyph_begins : (d : ℕ) → d < 10 → begins_number (digit_glyph false d) ≡ true
glyph_begins d small = by (nat_lt d 10) refl
  where
    by : (b : Bool) → nat_lt d 10 ≡ b → begins_number (if b then 48 + d else 87 + d) ≡ true
    by true e = λ i. (le-leb 48 (48 + d) (omega arith) i && le-leb (48 + d) 57 (omega arith) i) || ((48 + d) == 45)
    by false e = let more : 10 ≤ d = ltb-false d 10 e in absurd (omega arith)

onto_begins : (k n : ℕ) (acc : List ℕ) → may_be_number acc ≡ true → may_be_number (digits_onto k 10 false n acc) ≡ true
onto_begins zero n acc e = e
onto_begins (suc k) n acc e =
    let more : begins_number (digit_glyph false (n % 10)) ≡ true = glyph_begins (n % 10) (omega arith) in
    either (n / 10 == 0) (digit_glyph false (n % 10) ∷ acc) (digits_onto k 10 false (n / 10) (digit_glyph false (n % 10) ∷ acc)) more
    (onto_begins k (n / 10) (digit_glyph false (n % 10) ∷ acc) more)
  where
    either : (b : Bool) (xs ys : List ℕ) → may_be_number xs ≡ true → may_be_number ys ≡ true → may_be_number (if b then xs else ys) ≡ true
    either true xs ys p q = p
    either false xs ys p q = q

decimal_begins : (n : ℕ) → may_be_number (decimal n) ≡ true
unfolding digits
decimal_begins n = onto_begins 64 n [] refl

pub signed_begins : (z : ℤ) → may_be_number (signed_decimal z) ≡ true
signed_begins (pos n) = decimal_begins n
signed_begins (negsuc n) = refl
