-- Single values: the bytes that are read spell the value, and every spelling of it is read.
use Rattle.std.proofs.Common.{◌≡◌, ℕ, ℤ, pos, Bool, true, false, cond, List, ◌++◌, Result, Ok, Err, refl, sym, ap, subst, ◌∙◌, w32, w64}
use Rattle.std.specs.Int.{cast_unsigned}
use Rattle.std.specs.Ordering.{int_eq}
use Rattle.std.specs.Str.{is_utf8}
use Rattle.std.proofs.lemmas.Str.{is_utf8-from_IsUtf8, IsUtf8-from_is_utf8}
use Rattle.std.proofs.lemmas.Bool.Decides.{Decides-int_eq}
use Rattle.jaeger_model.specs.declared.span.RefKind.{RefKind}
use Rattle.jaeger_model.specs.declared.span.RefKind.TheVariants.{ChildOf, FollowsFrom}
use Rattle.thrift_binary.specs.declared.fault.WireError.TheVariants.{BadText}
use Rattle.thrift_binary.specs.Reading.{◌>>=◌, lift, bytes_at, string_at, signed_at}
use Rattle.thrift_binary.specs.Reading as wires
use Rattle.thrift_binary.specs.Spelling.{Beginning, IsString, IsBool, IsDouble, IsI32, IsI64}
use Rattle.thrift_binary.proofs.ReadBytesSpell.{bind_ok, pass_ok, lift_ok, ok_is, both_are, bool_found, i32_found, i64_found, double_found, string_found}
use Rattle.thrift_binary.proofs.SpellingsAreRead.{bool_again, i32_again, i64_again, double_again, string_again}
use Rattle.batch_codec.specs.declared.fault.DecodeError.{DecodeError}
use Rattle.batch_codec.specs.declared.fault.DecodeError.TheVariants.{Wire, BadEnum}
use Rattle.batch_codec.specs.declared.tag.TagType.{TagType}
use Rattle.batch_codec.specs.declared.tag.TagType.TheVariants as types
use Rattle.batch_codec.specs.Decoding.{Reading, wire, bool_at, double_at, i32_at, i64_at, id_at, text_at, binary_at}
use Rattle.batch_codec.specs.TagReading.{type_at, type_of_number}
use Rattle.batch_codec.specs.ReferenceReading.{kind_at, kind_of_number}
use Rattle.batch_codec.specs.Batches.{IsText, IsId, IsTagType, type_number, IsRefKind, kind_number}

-- the bytes that are read spell the value
abbrev pub Found : {A : Type 0} → Reading A → (List ℕ → A → Type 0) → Type 0
Found {A = A} read Spells = (w : List ℕ) (x : A) (r : List ℕ) → read w ≡ Ok (x, r) → Beginning (λ t. Spells t x) w r

-- every spelling of the value is read, whatever follows it
abbrev pub Again : {A : Type 0} → Reading A → (List ℕ → A → Type 0) → Type 0
Again {A = A} read Spells = (t r : List ℕ) (x : A) → Spells t x → read (t ++ r) ≡ Ok (x, r)

-- both
pub record Agrees {A : Type 0} (read : Reading A) (Spells : List ℕ → A → Type 0) : Type 0 where
  pub found : Found read Spells
  pub again : Again read Spells

abbrev decoded : {K : Type 0} → K → Result K DecodeError
decoded k = Ok k

-- a function of a value
pub made_found : {A B : Type 0} (read : Reading A) (Spells : List ℕ → A → Type 0) → Found read Spells → (make : A → Result B DecodeError)
    → Found (λ w. read w >>= λ x. make x.0 >>= λ y. Ok (y, x.1)) (λ t y. (x : A) × Spells t x × (make x ≡ Ok y))
made_found read Spells found make w y r e =
    let x = bind_ok (read w) (λ x. make x.0 >>= λ z. Ok (z, x.1)) (y, r) e in
    let z = bind_ok (make x.0.0) (λ z. Ok (z, x.0.1)) (y, r) x.2 in
    let f = found w x.0.0 x.0.1 x.1 in
    let same = both_are z.0 y x.0.1 r z.2 in
    record {
      text = f.text;
      parts = f.parts ∙ ap (λ (v : List ℕ). f.text ++ v) same.1;
      spells = (x.0.0, f.spells, z.1 ∙ ap decoded same.0);
    }

-- a value mapped to another
pub mapped : {A B : Type 0} {read : Reading A} {Spells : List ℕ → A → Type 0} → Agrees read Spells → (f : A → B)
    → Agrees (λ w. read w >>= λ x. Ok (f x.0, x.1)) (λ t y. (x : A) × Spells t x × (y ≡ f x))
mapped {read = read} {Spells = Spells} value f = record {
  found = λ w y r e. (
      let b = made_found read Spells value.found (λ x. decoded (f x)) w y r e in
      record { text = b.text; parts = b.parts; spells = (b.spells.0, b.spells.1, sym (ok_is (f b.spells.0) y b.spells.2)) });
  again = λ t r y is. (let h = value.again t r is.0 is.1 in rw (h, is.2) refl);
}

is_bool_found : Found bool_at IsBool
unfolding bool_at
is_bool_found w x r e = bool_found w x r (lift_ok wire (wires.bool_at w) (x, r) e)

is_bool_again : Again bool_at IsBool
unfolding bool_at
is_bool_again t r x is = rw (bool_again t r x is) refl

is_double_found : Found double_at IsDouble
unfolding double_at
is_double_found w x r e = double_found w x r (lift_ok wire (bytes_at 8 w) (x, r) e)

is_double_again : Again double_at IsDouble
unfolding double_at
is_double_again t r x is = let h = double_again t r x is in rw h refl

is_i32_found : Found i32_at IsI32
unfolding i32_at
is_i32_found w x r e = i32_found w x r (lift_ok wire (signed_at w32 4 w) (x, r) e)

is_i32_again : Again i32_at IsI32
unfolding i32_at
is_i32_again t r x is = let h = i32_again t r x is in rw h refl

is_i64_found : Found i64_at IsI64
unfolding i64_at
is_i64_found w x r e = i64_found w x r (lift_ok wire (signed_at w64 8 w) (x, r) e)

is_i64_again : Again i64_at IsI64
unfolding i64_at
is_i64_again t r x is = let h = i64_again t r x is in rw h refl

is_text_found : Found text_at IsText
unfolding text_at
is_text_found w t r e =
    let b = bind_ok (lift wire (string_at w)) (λ x. cond (is_utf8 x.0) (Ok (x.0, x.1)) (Err (Wire BadText))) (t, r) e in
    let p = pass_ok (is_utf8 b.0.0) (Wire BadText) (b.0.0, b.0.1) (t, r) b.2 in
    let s = string_found w b.0.0 b.0.1 (lift_ok wire (string_at w) b.0 b.1) in
    let t-is : b.0.0 ≡ t = ap (λ (x : List ℕ × List ℕ). x.0) p.1 in
    let r-is : b.0.1 ≡ r = ap (λ (x : List ℕ × List ℕ). x.1) p.1 in
    let both : IsText s.text b.0.0 = (s.spells, IsUtf8-from_is_utf8 b.0.0 p.0) in
    record {
      text = s.text;
      parts = s.parts ∙ ap (λ (x : List ℕ). s.text ++ x) r-is;
      spells = subst (λ (x : List ℕ). IsText s.text x) t-is both;
    }

is_text_again : Again text_at IsText
unfolding text_at
is_text_again w r t (s, u) = let e : is_utf8 t ≡ true = is_utf8-from_IsUtf8 t u in rw (string_again w t r s, e) refl

is_binary_found : Found binary_at IsString
unfolding binary_at
is_binary_found w x r e = let s = string_found w x r (lift_ok wire (string_at w) (x, r) e) in record { text = s.text; parts = s.parts; spells = s.spells }

is_binary_again : Again binary_at IsString
unfolding binary_at
is_binary_again t r x is = rw (string_again t x r is) refl

-- ---- enums

-- the variant with the number that was read
enum_found : {K : Type 0} (number : K → ℤ) (named : ℤ → Result K DecodeError) → ((n : ℤ) (k : K) → named n ≡ Ok k → n ≡ number k)
    → Found (λ w. i32_at w >>= λ n. named n.0 >>= λ k. Ok (k, n.1)) (λ t k. IsI32 t (number k))
enum_found number named numbered w x r e =
    let f = made_found i32_at IsI32 is_i32_found named w x r e in
    record { text = f.text; parts = f.parts; spells = subst (λ (z : ℤ). IsI32 f.text z) (numbered f.spells.0 x f.spells.2) f.spells.1 }

-- a number of the table, and its variant
one_of_table : {K : Type 0} (number : K → ℤ) (z : ℤ) (k x : K) → z ≡ number k → decoded k ≡ decoded x → z ≡ number x
one_of_table number z k x z-is e = z-is ∙ ap number (ok_is k x e)

kind_numbered : (n : ℤ) (k : RefKind) → kind_of_number n ≡ Ok k → n ≡ kind_number k
unfolding kind_of_number
kind_numbered n x = by (int_eq n (pos 0)) refl (int_eq n (pos 1)) refl
  where
    by : (p : Bool) → int_eq n (pos 0) ≡ p → (q : Bool) → int_eq n (pos 1) ≡ q
        → cond p (decoded ChildOf) (cond q (decoded FollowsFrom) (Err BadEnum)) ≡ decoded x → n ≡ kind_number x
    by true p q q-is h = one_of_table kind_number n ChildOf x ((Decides-int_eq n (pos 0)).0 p) h
    by false p true q h = one_of_table kind_number n FollowsFrom x ((Decides-int_eq n (pos 1)).0 q) h
    by false p false q h = absurd cc

is_kind_found : Found kind_at IsRefKind
unfolding kind_at
is_kind_found = enum_found kind_number kind_of_number kind_numbered

is_kind_again : Again kind_at IsRefKind
unfolding kind_at kind_of_number
is_kind_again t r ChildOf is = let h = is_i32_again t r (pos 0) is in rw h refl
is_kind_again t r FollowsFrom is = let h = is_i32_again t r (pos 1) is in rw h refl

type_numbered : (n : ℤ) (k : TagType) → type_of_number n ≡ Ok k → n ≡ type_number k
unfolding type_of_number
type_numbered n x = by (int_eq n (pos 0)) refl (int_eq n (pos 1)) refl (int_eq n (pos 2)) refl (int_eq n (pos 3)) refl (int_eq n (pos 4)) refl
  where
    is : (m : ℕ) → int_eq n (pos m) ≡ true → n ≡ pos m
    is m e = (Decides-int_eq n (pos m)).0 e

    by : (a : Bool) → int_eq n (pos 0) ≡ a → (b : Bool) → int_eq n (pos 1) ≡ b → (c : Bool) → int_eq n (pos 2) ≡ c → (d : Bool) → int_eq n (pos 3) ≡ d
        → (f : Bool) → int_eq n (pos 4) ≡ f
        → cond a (decoded types.Text) (cond b (decoded types.Double)
        (cond c (decoded types.Bool) (cond d (decoded types.Long) (cond f (decoded types.Binary) (Err BadEnum))))) ≡ decoded x → n ≡ type_number x
    by true a _ _ _ _ _ _ _ _ h = one_of_table type_number n types.Text x (is 0 a) h
    by false _ true b _ _ _ _ _ _ h = one_of_table type_number n types.Double x (is 1 b) h
    by false _ false _ true c _ _ _ _ h = one_of_table type_number n types.Bool x (is 2 c) h
    by false _ false _ false _ true d _ _ h = one_of_table type_number n types.Long x (is 3 d) h
    by false _ false _ false _ false _ true k h = one_of_table type_number n types.Binary x (is 4 k) h
    by false _ false _ false _ false _ false k h = absurd cc

is_type_found : Found type_at IsTagType
unfolding type_at
is_type_found = enum_found type_number type_of_number type_numbered

is_type_again : Again type_at IsTagType
unfolding type_at type_of_number
is_type_again t r types.Text is = let h = is_i32_again t r (pos 0) is in rw h refl
is_type_again t r types.Double is = let h = is_i32_again t r (pos 1) is in rw h refl
is_type_again t r types.Bool is = let h = is_i32_again t r (pos 2) is in rw h refl
is_type_again t r types.Long is = let h = is_i32_again t r (pos 3) is in rw h refl
is_type_again t r types.Binary is = let h = is_i32_again t r (pos 4) is in rw h refl

pub is_bool : Agrees bool_at IsBool
is_bool = record { found = is_bool_found; again = is_bool_again }

pub is_double : Agrees double_at IsDouble
is_double = record { found = is_double_found; again = is_double_again }

pub is_i32 : Agrees i32_at IsI32
is_i32 = record { found = is_i32_found; again = is_i32_again }

pub is_i64 : Agrees i64_at IsI64
is_i64 = record { found = is_i64_found; again = is_i64_again }

pub is_id : Agrees id_at IsId
unfolding id_at
is_id = mapped is_i64 (λ z. cast_unsigned w64 z)

pub is_text : Agrees text_at IsText
is_text = record { found = is_text_found; again = is_text_again }

pub is_binary : Agrees binary_at IsString
is_binary = record { found = is_binary_found; again = is_binary_again }

pub is_kind : Agrees kind_at IsRefKind
is_kind = record { found = is_kind_found; again = is_kind_again }

pub is_type : Agrees type_at IsTagType
is_type = record { found = is_type_found; again = is_type_again }
