-- Digits need no escape in a string.
use Rattle.std.proofs.Common.{◌≡◌, ◌<◌, ◌≤◌, ◌+◌, ◌*◌, ◌/◌, ◌%◌, ℕ, zero, suc, Bool, true, false, List, [], ◌∷◌, ◌++◌, length, take, drop, get_or, refl, sym}
use Rattle.std.proofs.Common.{ap, ap₂, ◌∙◌, append-nil, append_assoc, subst, ℤ, pos, negsuc, arith, slice_index, ◌-◌}
use Rattle.std.specs.Prelude.{◌==◌, if◌then◌else◌}
use Rattle.std.specs.Fmt.{decimal, digit_glyph, digits, digits_onto, signed_decimal}
use Rattle.std.specs.Str.{IsAscii, IsUtf8}
use Rattle.std.specs.List.{prefix_len}
use Rattle.std.proofs.lemmas.List.{drop_more}
use Rattle.std.proofs.lemmas.Bool.Decides.{nat_tests}
use Rattle.std.proofs.lemmas.Grind.{flat_map-append}
use Rattle.std.proofs.lemmas.Str.{IsUtf8-drop, IsUtf8-take, IsCharBoundary-after_ascii, IsCharBoundary-at_seam}
use Rattle.std.proofs.lemmas.Str.Ascii.{IsAscii-cons, IsAscii-nil}
use Rattle.std.proofs.Math.Seq.{take-append_seam}
use Rattle.json.specs.Print.{escape, escape_byte, quoted}
use Rattle.json.specs.Run.{is_plain}
use Rattle.json.proofs.Printed.Strings.{escape_byte_plain, escape_to_stop}
use Rattle.json.proofs.Printed.Utf8.{IsUtf8-are_ascii, IsUtf8-quoted}
use Rattle.jaeger_model.specs.declared.ids.TraceId.{TraceId}
use Rattle.jaeger_model.specs.Ids.{hex_digit, low_digits, trace_text}
use Rattle.jaeger_model.specs.Tags.{hex_text}

pub escape-append : (xs ys : List ℕ) → escape (xs ++ ys) ≡ escape xs ++ escape ys
escape-append xs ys = flat_map-append escape_byte xs ys

-- ---- hexadecimal

hex_digit_high : (d : ℕ) → 48 ≤ hex_digit d
hex_digit_high d = grind (arith, nat_tests)

no_backslash : (d : ℕ) → hex_digit d ≡ 92 → ⊥
no_backslash d e = grind (arith, nat_tests)

escape_hex_digit : (d : ℕ) → escape_byte (hex_digit d) ≡ hex_digit d ∷ []
escape_hex_digit d =
    let high = hex_digit_high d in
    escape_byte_plain (hex_digit d) (λ e. omega (arith, high, e)) (no_backslash d) (omega (arith, high))

pub escape_hex_text : (bytes : List ℕ) → escape (hex_text bytes) ≡ hex_text bytes
escape_hex_text [] = refl
escape_hex_text (b ∷ bytes) =
    ap₂ (λ (x y : List ℕ). x ++ (y ++ escape (hex_text bytes))) (escape_hex_digit (b / 16)) (escape_hex_digit (b % 16))
    ∙ ap (λ (l : List ℕ). hex_digit (b / 16) ∷ hex_digit (b % 16) ∷ l) (escape_hex_text bytes)

pub escape_low_digits : (k n : ℕ) → escape (low_digits k n) ≡ low_digits k n
unfolding low_digits
escape_low_digits zero n = refl
escape_low_digits (suc k) n =
    escape-append (low_digits k (n / 16)) (hex_digit (n % 16) ∷ [])
    ∙ ap₂ (λ (x y : List ℕ). x ++ (y ++ [])) (escape_low_digits k (n / 16)) (escape_hex_digit (n % 16))

pub escape_trace_text : (t : TraceId) → escape (trace_text t) ≡ trace_text t
unfolding trace_text
escape_trace_text t = by (t.high == 0)
  where
    by : (b : Bool) → escape (if b then low_digits 16 t.low else low_digits 16 t.high ++ low_digits 16 t.low)
        ≡ (if b then low_digits 16 t.low else low_digits 16 t.high ++ low_digits 16 t.low)
    by true = escape_low_digits 16 t.low
    by false =
        escape-append (low_digits 16 t.high) (low_digits 16 t.low)
        ∙ ap₂ (λ (x y : List ℕ). x ++ y) (escape_low_digits 16 t.high) (escape_low_digits 16 t.low)

pub hex_digit_small : (d : ℕ) → d < 16 → hex_digit d < 128
hex_digit_small d small = grind (arith, nat_tests)

pub IsAscii-hex_text : (bytes : List ℕ) → ((i : ℕ) → slice_index bytes i < 256) → IsAscii (hex_text bytes)
IsAscii-hex_text [] h = IsAscii-nil
IsAscii-hex_text (b ∷ bytes) h =
    let small : b < 256 = h 0 in
    IsAscii-cons (hex_digit (b / 16)) (hex_digit (b % 16) ∷ hex_text bytes) (hex_digit_small (b / 16) (omega arith))
    (IsAscii-cons (hex_digit (b % 16)) (hex_text bytes) (hex_digit_small (b % 16) (omega arith)) (IsAscii-hex_text bytes (λ i. h (suc i))))

pub small_byte : (b : ℕ) → b < 256 → (i : ℕ) → slice_index (b ∷ []) i < 256
small_byte b small zero = small
small_byte b small (suc i) = omega arith

-- ---- decimal

escape_glyph : (d : ℕ) → escape_byte (digit_glyph false d) ≡ digit_glyph false d ∷ []
escape_glyph d = escape_hex_digit d

escape_either : (b : Bool) (xs ys : List ℕ) → escape xs ≡ xs → escape ys ≡ ys → escape (if b then xs else ys) ≡ (if b then xs else ys)
escape_either true xs ys f g = f
escape_either false xs ys f g = g

escape_onto : (k n : ℕ) (acc : List ℕ) → escape acc ≡ acc → escape (digits_onto k 10 false n acc) ≡ digits_onto k 10 false n acc
escape_onto zero n acc h = h
escape_onto (suc k) n acc h =
    let longer : List ℕ = digit_glyph false (n % 10) ∷ acc in
    let more : escape longer ≡ longer = ap₂ (λ (x y : List ℕ). x ++ y) (escape_glyph (n % 10)) h in
    escape_either (n / 10 == 0) longer (digits_onto k 10 false (n / 10) longer) more (escape_onto k (n / 10) longer more)

pub escape_decimal : (n : ℕ) → escape (decimal n) ≡ decimal n
unfolding digits
escape_decimal n = escape_onto 64 n [] refl

pub escape_signed : (z : ℤ) → escape (signed_decimal z) ≡ signed_decimal z
unfolding escape_byte
escape_signed (pos n) = escape_decimal n
escape_signed (negsuc n) = ap (λ (l : List ℕ). 45 ∷ l) (escape_decimal (suc n))

-- ---- words with something between them

escape-around : (a d b : List ℕ) → escape a ≡ a → escape d ≡ d → escape b ≡ b → escape (a ++ (d ++ b)) ≡ a ++ (d ++ b)
escape-around a d b f g h =
    escape-append a (d ++ b) ∙ ap₂ (λ (x y : List ℕ). x ++ y) f (escape-append d b ∙ ap₂ (λ (x y : List ℕ). x ++ y) g h)

pub quoted_around : (a d b : List ℕ) → escape a ≡ a → escape d ≡ d → escape b ≡ b → ((34 ∷ a) ++ d) ++ (b ++ 34 ∷ []) ≡ quoted (a ++ (d ++ b))
quoted_around a d b f g h =
    append_assoc (34 ∷ a) d (b ++ 34 ∷ [])
    ∙ ap (λ (l : List ℕ). 34 ∷ l) (ap (λ (l : List ℕ). a ++ l) (sym (append_assoc d b (34 ∷ []))) ∙ sym (append_assoc a (d ++ b) (34 ∷ [])))
    ∙ ap (λ (l : List ℕ). 34 ∷ (l ++ 34 ∷ [])) (sym (escape-around a d b f g h))

pub quoted_around_two : (a d m n b : List ℕ) → escape a ≡ a → escape d ≡ d → escape m ≡ m → escape n ≡ n → escape b ≡ b
    → ((((34 ∷ a) ++ d) ++ m) ++ n) ++ (b ++ 34 ∷ []) ≡ quoted (a ++ (d ++ (m ++ (n ++ b))))
quoted_around_two a d m n b f g h i j =
    let front : List ℕ = (34 ∷ a) ++ d in
    append_assoc (front ++ m) n (b ++ 34 ∷ []) ∙ append_assoc front m (n ++ (b ++ 34 ∷ []))
    ∙ ap (λ (l : List ℕ). front ++ l) (ap (λ (l : List ℕ). m ++ l) (sym (append_assoc n b (34 ∷ []))) ∙ sym (append_assoc m (n ++ b) (34 ∷ [])))
    ∙ quoted_around a d (m ++ (n ++ b)) f g (escape-around m n b h i j)

-- ---- the steps of the loop that escapes

-- a run of plain bytes needs no escape
pub escape_run : (d : List ℕ) (i stop : ℕ) → stop ≡ i + prefix_len is_plain (drop i d) → escape (drop i d) ≡ take (stop - i) (drop i d) ++ escape (drop stop d)
escape_run d i stop is =
    sym (append-nil (escape (drop i d))) ∙ escape_to_stop d i stop [] is ∙ ap (λ l. take (stop - i) (drop i d) ++ l) (append-nil (escape (drop stop d)))

pub escape_next : (d : List ℕ) (i : ℕ) → i < length d → escape (drop i d) ≡ escape_byte (get_or d i 0) ++ escape (drop (i + 1) d)
escape_next d i within = ap escape (drop_more d i 0 within)

pub hex_text_next : (d : List ℕ) (i : ℕ) → i < length d → hex_text (drop i d) ≡ hex_text (get_or d i 0 ∷ []) ++ hex_text (drop (i + 1) d)
hex_text_next d i within = ap hex_text (drop_more d i 0 within)

-- ---- a text inside quotes

pub IsUtf8-escape : (s : List ℕ) → IsUtf8 s → IsUtf8 (escape s)
IsUtf8-escape s text =
    let quotes : IsUtf8 (quoted s) = IsUtf8-quoted s text in
    let inside : IsUtf8 (escape s ++ 34 ∷ []) = IsUtf8-drop (quoted s) 1 quotes (IsCharBoundary-after_ascii (quoted s) 0 quotes (omega arith) (omega arith)) in
    let before = IsCharBoundary-at_seam (escape s ++ 34 ∷ []) (escape s) (34 ∷ []) refl (IsUtf8-are_ascii (34 ∷ []) refl) in
    subst IsUtf8 (take-append_seam (escape s) (34 ∷ [])) (IsUtf8-take (escape s ++ 34 ∷ []) (length (escape s)) inside before)

pub length-hex_text : (bytes : List ℕ) → length (hex_text bytes) ≡ 2 * length bytes
length-hex_text [] = refl
length-hex_text (b ∷ bytes) = let rest = length-hex_text bytes in omega (arith, rest)
