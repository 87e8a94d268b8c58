-- No reading of a value yields Trailing, nor does that of a struct if those of its fields don't.
use Rattle.std.proofs.Common.{◌≡◌, ℕ, ℤ, zero, suc, pos, Bool, true, false, cond, eqb, ◌||◌, List, length, Option, Some, None, Result, Ok, Err, refl, ap, w32}
use Rattle.std.proofs.Common.{w64}
use Rattle.std.specs.Ordering.{int_eq}
use Rattle.std.specs.Str.{is_utf8}
use Rattle.thrift_binary.specs.declared.fault.WireError.{WireError}
use Rattle.thrift_binary.specs.declared.fault.WireError.TheVariants.{Truncated, BadText, BadType}
use Rattle.thrift_binary.specs.Reading.{◌>>=◌, lift, bytes_at, string_at, signed_at, field_at, list_at}
use Rattle.thrift_binary.specs.Reading as wires
use Rattle.thrift_binary.specs.Skipping.{skip_at}
use Rattle.thrift_binary.specs.Fields.{Take, fields_in, fields_at, behind_field}
use Rattle.thrift_binary.specs.Lists.{items_at, list_of}
use Rattle.batch_codec.specs.declared.fault.DecodeError.{DecodeError}
use Rattle.batch_codec.specs.declared.fault.DecodeError.TheVariants.{Wire, BadEnum, Trailing}
use Rattle.batch_codec.specs.Decoding.{Reading, wire, skipped, bool_at, double_at, i32_at, i64_at, id_at, text_at, binary_at}
use Rattle.batch_codec.specs.TagReading.{type_at, type_of_number}
use Rattle.batch_codec.specs.ReferenceReading.{kind_at, kind_of_number}
use Rattle.batch_codec.proofs.AtStop.{OnlyMissing}
use Rattle.thrift_binary.proofs.ReadBytesSpell.{failed, err_is}

-- the result isn't Trailing
pub record Not {A : Type 0} (r : Result A DecodeError) : Type 0 where
  pub never : r ≡ Err Trailing → ⊥

abbrev pub Never : {A : Type 0} → Reading A → Type 0
Never read = (w : List ℕ) → Not (read w)

not_ok : {A : Type 0} (x : A) → Not (Ok x)
not_ok x = record { never = λ e. absurd cc }

not_wire : {A : Type 0} (e : WireError) → Not {A = A} (Err (Wire e))
not_wire e = record { never = λ h. absurd cc }

not_enum : {A : Type 0} → Not {A = A} (Err BadEnum)
not_enum = record { never = λ h. absurd cc }

not_lift : {A : Type 0} (r : Result A WireError) → Not (lift wire r)
not_lift (Ok x) = not_ok x
not_lift (Err e) = not_wire e

not_then : {A B : Type 0} (r : Result A DecodeError) (f : A → Result B DecodeError) → Not r → ((x : A) → Not (f x)) → Not (r >>= f)
not_then (Ok x) f one more = more x
not_then {A = A} {B = B} (Err e) f one more = record { never = λ h. one.never (ap (failed {A = A}) (err_is {A = B} e Trailing h)) }

not_if : {A : Type 0} (b : Bool) (x y : Result A DecodeError) → Not x → Not y → Not (cond b x y)
not_if true x y one two = one
not_if false x y one two = two

-- ---- values

pub bool_never : Never bool_at
unfolding bool_at
bool_never w = not_lift (wires.bool_at w)

pub double_never : Never double_at
unfolding double_at
double_never w = not_lift (bytes_at 8 w)

pub i32_never : Never i32_at
unfolding i32_at
i32_never w = not_lift (signed_at w32 4 w)

pub i64_never : Never i64_at
unfolding i64_at
i64_never w = not_lift (signed_at w64 8 w)

pub id_never : Never id_at
unfolding id_at
id_never w = not_then (i64_at w) _ (i64_never w) (λ x. not_ok _)

pub text_never : Never text_at
unfolding text_at
text_never w = not_then (lift wire (string_at w)) _ (not_lift (string_at w)) (λ x. not_if (is_utf8 x.0) _ _ (not_ok _) (not_wire BadText))

pub binary_never : Never binary_at
unfolding binary_at
binary_never w = not_lift (string_at w)

kind_numbered : (n : ℤ) → Not (kind_of_number n)
unfolding kind_of_number
kind_numbered n = not_if (int_eq n (pos 0)) _ _ (not_ok _) (not_if (int_eq n (pos 1)) _ _ (not_ok _) not_enum)

pub kind_never : Never kind_at
unfolding kind_at
kind_never w = not_then (i32_at w) _ (i32_never w) (λ n. not_then (kind_of_number n.0) _ (kind_numbered n.0) (λ k. not_ok _))

type_numbered : (n : ℤ) → Not (type_of_number n)
unfolding type_of_number
type_numbered n =
    not_if (int_eq n (pos 0)) _ _ (not_ok _) (
    not_if (int_eq n (pos 1)) _ _ (not_ok _) (
    not_if (int_eq n (pos 2)) _ _ (not_ok _) (
    not_if (int_eq n (pos 3)) _ _ (not_ok _) (
    not_if (int_eq n (pos 4)) _ _ (not_ok _) not_enum))))

pub type_never : Never type_at
unfolding type_at
type_never w = not_then (i32_at w) _ (i32_never w) (λ n. not_then (type_of_number n.0) _ (type_numbered n.0) (λ k. not_ok _))

-- ---- fields, structs and lists of them

pub known_never : {A S : Type 0} (read : Reading A) → Never read → (set : A → S) (b : Bool) (w : List ℕ) (others : Result (S × List ℕ) DecodeError) → Not others
    → Not (cond b (read w >>= λ x. Ok (set x.0, x.1)) others)
known_never read never set b w others more = not_if b _ others (not_then (read w) _ (never w) (λ x. not_ok _)) more

pub skipped_never : {S : Type 0} (s : S) (c : ℕ) (w : List ℕ) → Not (skipped s c w)
skipped_never s c w = not_then (lift wire (skip_at c w)) _ (not_lift (skip_at c w)) (λ x. not_ok _)

fields_never : {S : Type 0} (gets : Take S DecodeError) → ((s : S) (c : ℕ) (i : ℤ) (w : List ℕ) → Not (gets s c i w)) → (n : ℕ) (s : S) (w : List ℕ)
    → Not (fields_in wire gets n s w)
unfolding fields_in
fields_never gets never zero s w = not_wire Truncated
fields_never {S = S} gets never (suc n) s w =
    not_then (lift wire (field_at w)) _ (not_lift (field_at w)) (λ h. by (λ t v. fields_never gets never n t v) h.0 h.1)
  where
    by : ((t : S) (v : List ℕ) → Not (fields_in wire gets n t v)) → (o : Option (ℕ × ℤ)) (v : List ℕ) → Not (behind_field (fields_in wire gets n) gets s o v)
    by others None v = not_ok _
    by others (Some f) v = not_then (gets s f.0 f.1 v) _ (never s f.0 f.1 v) (λ y. others y.0 y.1)

pub struct_never : {S X : Type 0} (gets : Take S DecodeError) (none : S) (from : S → Result X DecodeError)
    → ((s : S) (c : ℕ) (i : ℤ) (w : List ℕ) → Not (gets s c i w)) → ((s : S) → OnlyMissing (from s))
    → Never (λ w. fields_at wire gets none w >>= λ y. from y.0 >>= λ z. Ok (z, y.1))
unfolding fields_at
struct_never gets none from never made w =
    not_then (fields_at wire gets none w) _ (fields_never gets never (length w) none w)
    (λ y. not_then (from y.0) _ (record { never = (made y.0).no_other Trailing refl }) (λ z. not_ok _))

items_never : {A : Type 0} (one : Reading A) → Never one → (n : ℕ) → Never (items_at one n)
unfolding items_at
items_never one never zero w = not_ok _
items_never one never (suc n) w = not_then (one w) _ (never w) (λ x. not_then (items_at one n x.1) _ (items_never one never n x.1) (λ y. not_ok _))

pub list_never : {A : Type 0} (one : Reading A) → Never one → Never (list_of wire 12 one)
unfolding list_of
list_never one never w =
    not_then (lift wire (list_at w)) _ (not_lift (list_at w))
    (λ h. not_if (eqb h.0.1 0 || eqb h.0.0 12) _ _ (items_never one never h.0.1 h.1) (not_wire BadType))
