-- Reading from left to right, with the first fault; the results of the calls that read.
use Rattle.std.specs.Prelude.{◌≡◌, ℕ, ℤ, List, [], Option, Some, None, Result, Ok, Err, Bool, if◌then◌else◌}
use Rattle.std.specs.Str.{is_utf8}
use Rattle.std.specs.Int.{w32, w64, cast_unsigned}
use Rattle.thrift_binary.specs.declared.fault.WireError.{WireError}
use Rattle.thrift_binary.specs.declared.fault.WireError.TheVariants.{BadText}
use Rattle.thrift_binary.specs.Reading.{◌>>=◌, lift, bytes_at, string_at, signed_at}
use Rattle.thrift_binary.specs.Reading as wires
use Rattle.thrift_binary.specs.Skipping.{skip_at}
use Rattle.thrift_binary.specs.Fields.{Take}
use Rattle.batch_codec.specs.declared.fault.DecodeError.{DecodeError}
use Rattle.batch_codec.specs.declared.fault.DecodeError.TheVariants.{Wire, Missing, BadEnum, Trailing, Memory}
use Rattle.batch_codec.specs.declared.fault.StructName.{StructName}
use Rattle.batch_codec.specs.Changes.{Change, FieldChange}

-- the value and the bytes after it, or the first fault
abbrev pub Reading : Type 0 → Type 0
Reading A = List ℕ → Result (A × List ℕ) DecodeError

abbrev pub wire : WireError → DecodeError
wire e = Wire e

-- ---- values

unfoldable pub bool_at : Reading Bool
bool_at w = lift wire (wires.bool_at w)

unfoldable pub double_at : Reading (List ℕ)
double_at w = lift wire (bytes_at 8 w)

unfoldable pub i32_at : Reading ℤ
i32_at w = lift wire (signed_at w32 4 w)

unfoldable pub i64_at : Reading ℤ
i64_at w = lift wire (signed_at w64 8 w)

-- 64 bits of an id, a signed number on the wire, as an unsigned number
unfoldable pub id_at : Reading ℕ
id_at w = i64_at w >>= λ x. Ok (cast_unsigned w64 x.0, x.1)

-- a string, which must be UTF-8
unfoldable pub text_at : Reading (List ℕ)
text_at w = lift wire (string_at w) >>= λ x. if is_utf8 x.0 then Ok (x.0, x.1) else Err (Wire BadText)

-- a binary: any bytes
unfoldable pub binary_at : Reading (List ℕ)
binary_at w = lift wire (string_at w)

-- ---- fields

-- a value of any type, which changes nothing
abbrev pub skipped : {S : Type 0} → S → ℕ → Reading S
skipped s c w = lift wire (skip_at c w) >>= λ x. Ok (s, x.1)

-- a required field at its struct's stop byte
abbrev pub required : {A : Type 0} → Option A → StructName → ℕ → Result A DecodeError
required None name i = Err (Missing name i)
required (Some x) name i = Ok x

-- ---- calls

-- the reading's fault, unless memory ran out
abbrev pub Fails : {A : Type 0} → DecodeError → Result A DecodeError → Type 0
Fails Memory r = Unit {0}
Fails (Wire e) r = r ≡ Err (Wire e)
Fails (Missing p i) r = r ≡ Err (Missing p i)
Fails BadEnum r = r ≡ Err BadEnum
Fails Trailing r = r ≡ Err Trailing

-- A call on a cursor returned what the reading of its bytes yields, and left the bytes after it.
abbrev pub Decodes : {X Y : Type 0} → (X → Y) → Reading Y → Change (List ℕ) → Result X DecodeError → Type 0
Decodes view read cursor (Ok x) = read cursor.before ≡ Ok (view x, cursor.after)
Decodes view read cursor (Err e) = Fails e (read cursor.before)

-- After a fault of the bytes the cursor has none left; after want of memory nothing is said of it.
abbrev pub Spends : {A : Type 0} → Result A DecodeError → List ℕ → Type 0
Spends (Ok x) new = Unit {0}
Spends (Err e) new = (e ≡ Memory → ⊥) → new ≡ []

-- like `Decodes`, for one field, which changes the slots of its struct
abbrev pub Takes : {S : Type 0} → Take S DecodeError → FieldChange S → Result (Unit {0}) DecodeError → Type 0
Takes take field (Ok x) = take field.slots.before field.code field.id field.cursor.before ≡ Ok (field.slots.after, field.cursor.after)
Takes take field (Err e) = Fails e (take field.slots.before field.code field.id field.cursor.before)

-- A call returned what the reading yields, unless memory ran out.
abbrev pub Gives : {A : Type 0} → Result A DecodeError → Result A DecodeError → Type 0
Gives (Ok x) read = read ≡ Ok x
Gives (Err e) read = Fails e read
