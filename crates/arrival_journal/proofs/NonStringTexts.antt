-- The first bytes of the texts of values that are no text.
use Rattle.std.proofs.Common.{◌≡◌, ℕ, ℤ, zero, suc, ◌+◌, ◌*◌, ◌<◌, ◌≤◌, ◌/◌, ◌%◌, Bool, true, false, ◌&&◌, ◌||◌, List, [], ◌∷◌, refl, sym, ap, arith, le-leb}
use Rattle.std.proofs.Common.{get_or}
use Rattle.std.specs.Prelude.{nat_lt, nat_le, if◌then◌else◌, pos, negsuc, ◌==◌}
use Rattle.std.specs.Fmt.{decimal, digits, digits_onto, digit_glyph, signed_decimal}
use Rattle.std.proofs.lemmas.Bool.{ltb-true, ltb-false, lt-leb}
use Rattle.jaeger_model.specs.Ids.{hex_digit}
use Rattle.jaeger_model.specs.Tags.{hex_text}
use Rattle.arrival_journal.specs.TagBits.{text_hash, may_begin_non_string, may_be_non_string, text_part}

-- it adds nothing to a place
pub shared : (w : List ℕ) → may_be_non_string w ≡ true → 0 ≡ text_part w
shared w e = ap (λ (b : Bool). if b then 0 else 41 + 11 * text_hash w) (sym e)

digit_begins : (d : ℕ) → d < 16 → may_begin_non_string (hex_digit d) ≡ true
digit_begins d small = by (nat_lt d 10) refl
  where
    by : (b : Bool) → nat_lt d 10 ≡ b → may_begin_non_string (if b then 48 + d else 87 + d) ≡ true
    by true e =
        let less : d < 10 = ltb-true d 10 e in
        λ i. (le-leb 48 (48 + d) (omega arith) i && le-leb (48 + d) 57 (omega arith) i) || (nat_le 97 (48 + d) && nat_le (48 + d) 102) || ((48 + d) == 116)
        || ((48 + d) == 45)
    by false e =
        let more : 10 ≤ d = ltb-false d 10 e in
        λ i. (le-leb 48 (87 + d) (omega arith) i && lt-leb (87 + d) 57 (omega arith) i)
        || (le-leb 97 (87 + d) (omega arith) i && le-leb (87 + d) 102 (omega arith) i) || ((87 + d) == 116) || ((87 + d) == 45)

hex_begins : (b : ℕ) (bs : List ℕ) → b < 256 → may_be_non_string (hex_text (b ∷ bs)) ≡ true
hex_begins b bs small = digit_begins (b / 16) (omega arith)

onto_begins : (k n : ℕ) (acc : List ℕ) → may_be_non_string acc ≡ true → may_be_non_string (digits_onto k 10 false n acc) ≡ true
onto_begins zero n acc e = e
onto_begins (suc k) n acc e =
    let more : may_begin_non_string (digit_glyph false (n % 10)) ≡ true = digit_begins (n % 10) (omega arith) in
    either (n / 10 == 0) (digit_glyph false (n % 10) ∷ acc) (digits_onto k 10 false (n / 10) (digit_glyph false (n % 10) ∷ acc)) more
    (onto_begins k (n / 10) (digit_glyph false (n % 10) ∷ acc) more)
  where
    either : (b : Bool) (xs ys : List ℕ) → may_be_non_string xs ≡ true → may_be_non_string ys ≡ true → may_be_non_string (if b then xs else ys) ≡ true
    either true xs ys p q = p
    either false xs ys p q = q

decimal_begins : (n : ℕ) → may_be_non_string (decimal n) ≡ true
unfolding digits
decimal_begins n = onto_begins 64 n [] refl

pub signed_begins : (z : ℤ) → may_be_non_string (signed_decimal z) ≡ true
signed_begins (pos n) = decimal_begins n
signed_begins (negsuc n) = refl

pub hex_shared : (bs : List ℕ) → get_or bs 0 0 < 256 → 0 ≡ text_part (hex_text bs)
hex_shared [] small = refl
hex_shared (b ∷ bs) small = shared (hex_text (b ∷ bs)) (hex_begins b bs small)
