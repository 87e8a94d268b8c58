-- Every spelling of a value is read as that value.
use Rattle.std.proofs.Common.{◌≡◌, ℕ, ℤ, zero, suc, ◌≤◌, ◌^◌, Bool, true, false, eqb, ltb, List, [], ◌∷◌, ◌++◌, length, Some, None, Ok, refl, ap, subst, ◌∙◌}
use Rattle.std.proofs.Common.{append_assoc, arith, length-append, w16, w32, w64}
use Rattle.std.specs.Int.{Width, cast_signed}
use Rattle.std.proofs.lemmas.Bool.{eqb-true, le-ltb, lt-ltb}
use Rattle.std.proofs.lemmas.List.{take_at, drop_at}
use Rattle.byteorder.specs.Endian.{big_number}
use Rattle.byteorder.specs.Numbers.{big_from-append}
use Rattle.thrift_binary.specs.declared.fault.WireError.{WireError}
use Rattle.thrift_binary.specs.Reading.{bool_at, bytes_at, number_at, signed_at, size_at, string_at, field_at, is_code}
use Rattle.thrift_binary.specs.Fields.{Take, fields_in, fields_at}
use Rattle.thrift_binary.specs.Spelling.{IsBool, IsI32, IsI64, IsDouble, IsSize, IsString, Field, IsFieldHead, IsHead, IsFields}
use Rattle.thrift_binary.specs.Writing.{stop_text}
use Rattle.thrift_binary.proofs.ReadBytesSpell.{Path}

pub signed_again : (width : Width) (n : ℕ) (t r : List ℕ) (z : ℤ) → length t ≡ n → cast_signed width (big_number n t) ≡ z
    → signed_at width n (t ++ r) ≡ Ok (z, r)
signed_again width n t r z len value =
    let long : ltb (length (t ++ r)) n ≡ false = le-ltb _ _ (omega (arith, length-append t r)) in
    let number : big_number n (t ++ r) ≡ big_number n t = big_from-append n t r (omega arith) in
    rw (long, drop_at t r n len, number, value) refl

pub bool_again : (t r : List ℕ) (x : Bool) → IsBool t x → bool_at (t ++ r) ≡ Ok (x, r)
unfolding bool_at
bool_again t r true is = rw is refl
bool_again t r false is = rw is refl

pub i32_again : (t r : List ℕ) (z : ℤ) → IsI32 t z → signed_at w32 4 (t ++ r) ≡ Ok (z, r)
i32_again t r z is = signed_again w32 4 t r z is.0 is.1

pub i64_again : (t r : List ℕ) (z : ℤ) → IsI64 t z → signed_at w64 8 (t ++ r) ≡ Ok (z, r)
i64_again t r z is = signed_again w64 8 t r z is.0 is.1

pub bytes_again : (n : ℕ) (t r : List ℕ) → length t ≡ n → bytes_at n (t ++ r) ≡ Ok (t, r)
bytes_again n t r len =
    let long : ltb (length (t ++ r)) n ≡ false = le-ltb _ _ (omega (arith, length-append t r)) in
    rw (long, take_at t r n len, drop_at t r n len) refl

pub double_again : (t r bytes : List ℕ) → IsDouble t bytes → bytes_at 8 (t ++ r) ≡ Ok (bytes, r)
double_again t r bytes is = bytes_again 8 t r is.0 ∙ ap (λ (b : List ℕ). let made : List ℕ × List ℕ = (b, r) in Ok made) is.1

pub size_again : (t r : List ℕ) (m : ℕ) → IsSize t m → size_at (t ++ r) ≡ Ok (m, r)
unfolding size_at
size_again t r m (len, value, small) =
    let long : ltb (length (t ++ r)) 4 ≡ false = le-ltb _ _ (omega (arith, length-append t r)) in
    let number : big_number 4 (t ++ r) ≡ m = big_from-append 4 t r (omega arith) ∙ value in
    let below : ltb m (2 ^ 31) ≡ true = lt-ltb m (2 ^ 31) small in
    let first : number_at 4 (t ++ r) ≡ Ok (m, r) = rw (long, drop_at t r 4 len, number) refl in
    rw (first, below) refl

pub string_again : (t bytes r : List ℕ) → IsString t bytes → string_at (t ++ r) ≡ Ok (bytes, r)
unfolding string_at
string_again t bytes r (h, size, is) =
    let long : ltb (length (bytes ++ r)) (length bytes) ≡ false = le-ltb _ _ (omega (arith, length-append bytes r)) in
    let parts : t ++ r ≡ h ++ (bytes ++ r) = ap (λ (x : List ℕ). x ++ r) is ∙ append_assoc h bytes r in
    let head : size_at (t ++ r) ≡ Ok (length bytes, bytes ++ r) = ap size_at parts ∙ size_again h (bytes ++ r) (length bytes) size in
    rw (head, long, take_at bytes r (length bytes) refl, drop_at bytes r (length bytes) refl) refl

zero_is_none : is_code 0 ≡ true → ⊥
zero_is_none h = absurd cc

coded_not_zero : (c : ℕ) → is_code c ≡ true → eqb c 0 ≡ false
coded_not_zero c h = by (eqb c 0) refl
  where
    by : (z : Bool) → eqb c 0 ≡ z → z ≡ false
    by true e = let k : c ≡ 0 = eqb-true c 0 e in absurd (zero_is_none (subst (λ x. is_code x ≡ true) k h))
    by false e = refl

pub field_again : (h v : List ℕ) (f : Field) → IsHead h f → field_at (h ++ v) ≡ Ok (Some (f.code, f.id), v)
unfolding field_at
field_again h v f (i, len, value, is, coded) =
    let parts : h ++ v ≡ f.code ∷ (i ++ v) = ap (λ (x : List ℕ). x ++ v) is in
    let id : signed_at w16 2 (i ++ v) ≡ Ok (f.id, v) = signed_again w16 2 i v f.id len value in
    let there : eqb f.code 0 ≡ false = coded_not_zero f.code coded in
    rw parts (rw (there, id, coded) refl)

pub field_head_again : (t r : List ℕ) (c : ℕ) (i : ℤ) → IsFieldHead c i t → field_at (t ++ r) ≡ Ok (Some (c, i), r)
field_head_again t r c i is = let f : Field = record { code = c; id = i; text = [] } in field_again t r f is

pub stop_again : (r : List ℕ) → field_at (stop_text ++ r) ≡ Ok (None, r)
unfolding field_at
stop_again r = refl

module _ {S E : Type 0} (wire : WireError → E) (take : Take S E) (P : S → Field → S → Type 0)
    (again : (s : S) (f : Field) (t : S) (r : List ℕ) → P s f t → take s f.code f.id (f.text ++ r) ≡ Ok (t, r)) where
  fields_in_again : (n : ℕ) (fs : List Field) (s t : S) (w r : List ℕ) → IsFields fs w → Path P s fs t → length w ≤ n
      → fields_in wire take n s (w ++ r) ≡ Ok (t, r)
  unfolding fields_in field_at
  fields_in_again zero [] s t w r is p le = absurd (omega (arith, ap length is))
  fields_in_again zero (f ∷ fs) s t w r (h, rest, head, is, more) p le =
      absurd (omega (arith, ap length is, ap length head.3, length-append h (f.text ++ rest)))
  fields_in_again (suc n) [] s t w r is p le = rw (is, p) refl
  fields_in_again (suc n) (f ∷ fs) s t w r (h, rest, head, is, more) (u, d, p) le =
      let parts : w ++ r ≡ h ++ (f.text ++ (rest ++ r)) = ap (λ (x : List ℕ). x ++ r) is ∙ simp append_assoc in
      let one : field_at (w ++ r) ≡ Ok (Some (f.code, f.id), f.text ++ (rest ++ r)) = ap field_at parts ∙ field_again h (f.text ++ (rest ++ r)) f head in
      let two : take s f.code f.id (f.text ++ (rest ++ r)) ≡ Ok (u, rest ++ r) = again s f u (rest ++ r) d in
      let shorter : length rest ≤ n = omega (arith, ap length is, ap length head.3, length-append h (f.text ++ rest), length-append f.text rest) in
      let three = fields_in_again n fs u t rest r more p shorter in
      rw (one, two) three

  pub fields_again : (fs : List Field) (s t : S) (w r : List ℕ) → IsFields fs w → Path P s fs t → fields_at wire take s (w ++ r) ≡ Ok (t, r)
  unfolding fields_at
  fields_again fs s t w r is p = fields_in_longer fs s t w r is p
    where
      fields_in_longer : (fs : List Field) (s t : S) (w r : List ℕ) → IsFields fs w → Path P s fs t
          → fields_in wire take (length (w ++ r)) s (w ++ r) ≡ Ok (t, r)
      fields_in_longer fs s t w r is p = fields_in_again (length (w ++ r)) fs s t w r is p (omega (arith, length-append w r))
