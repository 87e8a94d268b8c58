-- The faults of single values have places, and so do those of a struct if those of its fields have.
use Rattle.std.proofs.Common.{ℕ, ℤ, Bool, cond, List, Result, Ok, Err, refl, w32, w64}
use Rattle.std.specs.Int.{cast_unsigned}
use Rattle.std.specs.Str.{is_utf8}
use Rattle.thrift_binary.specs.declared.fault.WireError.TheVariants.{Truncated, BadText}
use Rattle.thrift_binary.specs.Reading.{◌>>=◌, lift, bytes_at, string_at, signed_at}
use Rattle.thrift_binary.specs.Reading as wires
use Rattle.thrift_binary.specs.Skipping.{skip_at}
use Rattle.thrift_binary.specs.Fields.{Take, fields_at}
use Rattle.thrift_binary.specs.Lists.{list_of}
use Rattle.thrift_binary.specs.Cuts.{Cut, IsCutSafe}
use Rattle.thrift_binary.proofs.Cuts.{cut_ok, cut_err, cut_then, cut_map, cut_if, cut_lift}
use Rattle.thrift_binary.proofs.CutReadings.{bytes_cut, signed_cut, bool_cut, string_cut}
use Rattle.thrift_binary.proofs.CutSkip.{skip_cut}
use Rattle.thrift_binary.proofs.CutFields.{fields_cut}
use Rattle.thrift_binary.proofs.CutLists.{list_cut}
use Rattle.batch_codec.specs.declared.fault.DecodeError.{DecodeError}
use Rattle.batch_codec.specs.declared.fault.DecodeError.TheVariants.{Wire}
use Rattle.batch_codec.specs.Decoding.{Reading, wire, skipped, bool_at, double_at, i32_at, i64_at, id_at, text_at, binary_at}
use Rattle.batch_codec.specs.TagReading.{type_at, type_of_number}
use Rattle.batch_codec.specs.ReferenceReading.{kind_at, kind_of_number}

-- the faults of the reading have places
abbrev pub Safe : {A : Type 0} → Reading A → Type 0
Safe read = IsCutSafe (Wire Truncated) read

-- the faults have places at these bytes
abbrev pub SafeAt : {A : Type 0} → Reading A → List ℕ → Type 0
SafeAt read w = Cut (Wire Truncated) read w

-- ---- values

pub bool_safe : Safe bool_at
unfolding bool_at
bool_safe w = cut_lift wire Truncated wires.bool_at w (bool_cut w)

pub double_safe : Safe double_at
unfolding double_at
double_safe w = cut_lift wire Truncated (bytes_at 8) w (bytes_cut 8 w)

pub i32_safe : Safe i32_at
unfolding i32_at
i32_safe w = cut_lift wire Truncated (signed_at w32 4) w (signed_cut w32 4 w)

pub i64_safe : Safe i64_at
unfolding i64_at
i64_safe w = cut_lift wire Truncated (signed_at w64 8) w (signed_cut w64 8 w)

pub id_safe : Safe id_at
unfolding id_at
id_safe = cut_map (Wire Truncated) i64_at (cast_unsigned w64) i64_safe

pub binary_safe : Safe binary_at
unfolding binary_at
binary_safe w = cut_lift wire Truncated string_at w (string_cut w)

-- a value, or the result of the other readings
choice_safe : {A : Type 0} (b : Bool) (x : A) (others : Reading A) (w : List ℕ) → SafeAt others w → SafeAt (λ v. cond b (Ok (x, v)) (others v)) w
choice_safe {A = A} b x others w more =
    let one : Reading A = λ v. Ok (x, v) in
    cut_if (Wire Truncated) b one others w (cut_ok (Wire Truncated) one x (λ v. refl) w) more

abbrev bad : {A : Type 0} → DecodeError → Reading A
bad e v = Err e

bad_safe : {A : Type 0} (e : DecodeError) (w : List ℕ) → SafeAt (bad {A = A} e) w
bad_safe e w = cut_err (Wire Truncated) (bad e) e (λ v. refl) w

abbrev checked : List ℕ → Reading (List ℕ)
checked t v = cond (is_utf8 t) (Ok (t, v)) (Err (Wire BadText))

pub text_safe : Safe text_at
unfolding text_at binary_at
text_safe = cut_then (Wire Truncated) binary_at checked binary_safe (λ t w. choice_safe (is_utf8 t) t (bad (Wire BadText)) w (bad_safe (Wire BadText) w))

-- a value that is there, or a fault, whatever the bytes
given_safe : {A : Type 0} (r : Result A DecodeError) (w : List ℕ) → SafeAt (λ v. r >>= λ x. Ok (x, v)) w
given_safe {A = A} (Ok x) w = let one : Reading A = λ v. Ok (x, v) in cut_ok (Wire Truncated) one x (λ v. refl) w
given_safe (Err e) w = bad_safe e w

pub kind_safe : Safe kind_at
unfolding kind_at
kind_safe = cut_then (Wire Truncated) i32_at (λ n v. kind_of_number n >>= λ k. Ok (k, v)) i32_safe (λ n w. given_safe (kind_of_number n) w)

pub type_safe : Safe type_at
unfolding type_at
type_safe = cut_then (Wire Truncated) i32_at (λ n v. type_of_number n >>= λ k. Ok (k, v)) i32_safe (λ n w. given_safe (type_of_number n) w)

-- ---- fields

pub known_safe : {A S : Type 0} (read : Reading A) → Safe read → (set : A → S) (b : Bool) (others : Reading S) (w : List ℕ) → SafeAt others w
    → SafeAt (λ v. cond b (read v >>= λ x. Ok (set x.0, x.1)) (others v)) w
known_safe read safe set b others w more =
    cut_if (Wire Truncated) b (λ v. read v >>= λ x. Ok (set x.0, x.1)) others w (cut_map (Wire Truncated) read set safe w) more

pub skipped_safe : {S : Type 0} (s : S) (c : ℕ) (w : List ℕ) → SafeAt (skipped s c) w
skipped_safe {S = S} s c w =
    let past : Reading (Unit {0}) = λ v. lift wire (skip_at c v) in
    let set : Unit {0} → S = λ x. s in
    cut_map (Wire Truncated) past set (λ u. cut_lift wire Truncated (skip_at c) u (skip_cut c u)) w

-- ---- structs and lists of them

pub list_safe : {A : Type 0} (read : Reading A) → Safe read → Safe (list_of wire 12 read)
list_safe read safe = list_cut wire 12 read safe

-- the place of a missing required field's fault is the stop byte
pub struct_safe : {S X : Type 0} (take : Take S DecodeError) (none : S) (from : S → Result X DecodeError)
    → ((s : S) (c : ℕ) (i : ℤ) (w : List ℕ) → SafeAt (take s c i) w) → Safe (λ w. fields_at wire take none w >>= λ y. from y.0 >>= λ z. Ok (z, y.1))
struct_safe {S = S} {X = X} take none from safe =
    cut_then (Wire Truncated) (fields_at wire take none) made (fields_cut wire take safe none) (λ s w. by s (from s) w)
  where
    made : S → Reading X
    made s v = from s >>= λ z. Ok (z, v)

    by : (s : S) (r : Result X DecodeError) (w : List ℕ) → SafeAt (λ v. r >>= λ z. Ok (z, v)) w
    by s (Ok x) w = let one : Reading X = λ v. Ok (x, v) in cut_ok (Wire Truncated) one x (λ v. refl) w
    by s (Err e) w = bad_safe e w
