-- A partially received struct.
use Rattle.std.specs.Prelude.{◌≡◌, ◌<◌, ℕ, List, length, Option, Some, Result, Ok, Err, true}
use Rattle.thrift_binary.specs.declared.fault.WireError.TheVariants.{Truncated}
use Rattle.thrift_binary.specs.Reading.{◌>>=◌, field_at, is_code}
use Rattle.thrift_binary.specs.Fields.{Take, fields_at}
use Rattle.wire_pieces.specs.Pieces.{Comes, NeedsMore, moment}
use Rattle.wire_pieces.specs.Heads.{fields_head, fields_value}
use Rattle.batch_codec.specs.declared.fault.DecodeError.{DecodeError}
use Rattle.batch_codec.specs.declared.fault.DecodeError.TheVariants.{Wire}
use Rattle.batch_codec.specs.Changes.{Change}
use Rattle.batch_codec.specs.Decoding.{Reading, wire}
use Rattle.value_pieces.specs.declared.partial.Arrival.{Arrival}
use Rattle.value_pieces.specs.declared.partial.Arrival.TheVariants.{Complete, Pending}
use Rattle.struct_pieces.specs.declared.fields.Step.{Step}
use Rattle.struct_pieces.specs.declared.fields.Step.TheVariants.{Head, Value}
use Rattle.struct_pieces.specs.declared.fields.FieldsEnd.{FieldsEnd}
use Rattle.struct_pieces.specs.declared.fields.FieldsEnd.TheVariants as place
use Rattle.value_pieces.specs.ContinuedCalls.{Faults, ReadingMoment}

abbrev pub fields_from : {S V : Type 0} → Take S DecodeError → (S → V → Reading S) → S → Step V → Reading S
fields_from take resumes s (Head h) w = fields_head wire take s h w
fields_from take resumes s (Value v) w = fields_value wire take (resumes s v) w

-- a head of which no byte has arrived
abbrev pub IsFresh : {S V : Type 0} → Take S DecodeError → (S → V → Reading S) → Step V → Type 0
IsFresh {S = S} take resumes step = (s : S) (w : List ℕ) → fields_from take resumes s step w ≡ fields_at wire take s w

-- the result of the fields at the stop byte
abbrev pub struct_at : {S A : Type 0} → Take S DecodeError → S → (S → Result A DecodeError) → Reading A
struct_at take none makes w = fields_at wire take none w >>= λ x. makes x.0 >>= λ m. Ok (m, x.1)

-- How a struct is read: its fields, a field whose value has begun, and the struct of complete fields.
pub record StructReading (S V A : Type 0) : Type 0 where
  pub takes : Take S DecodeError
  pub resumes : S → V → Reading S
  pub makes : S → Result A DecodeError

abbrev pub struct_reading : {S V A : Type 0} → Take S DecodeError → (S → V → Reading S) → (S → Result A DecodeError) → StructReading S V A
struct_reading takes resumes makes = record { takes = takes; resumes = resumes; makes = makes }

-- a struct from the next step on, after the fields so far
abbrev pub struct_from : {S V A : Type 0} → StructReading S V A → S → Step V → Reading A
struct_from struct s step w = fields_from struct.takes struct.resumes s step w >>= λ x. struct.makes x.0 >>= λ m. Ok (m, x.1)

-- the result of complete fields
abbrev pub made_of : {S A : Type 0} → (S → Result A DecodeError) → S → Result (Option A) DecodeError
made_of makes s = makes s >>= λ m. Ok (Some m)

-- Where reading complete fields ended. Inside a head the remaining bytes are too few for it; before a value its head was taken.
abbrev pub ReadsFields : {S : Type 0} → Take S DecodeError → Change S → Change (List ℕ) → Result FieldsEnd DecodeError → Type 0
ReadsFields take slots piece (Ok place.Stop) = Comes (moment (fields_at wire take slots.before) piece.before) (moment (λ w. Ok (slots.after, w)) piece.after)
ReadsFields take slots piece (Ok place.Head) =
    Comes (moment (fields_at wire take slots.before) piece.before) (moment (fields_at wire take slots.after) piece.after)
    × (field_at piece.after ≡ Err Truncated)
ReadsFields take slots piece (Ok (place.Value c i)) =
    Comes (moment (fields_at wire take slots.before) piece.before) (moment (fields_value wire take (take slots.after c i)) piece.after)
    × (is_code c ≡ true) × (length piece.after < length piece.before)
ReadsFields take slots piece (Err e) = Faults (fields_at wire take slots.before) piece.before e

-- What a call leaves that begins the value of a field: how a part of the value is read on, the next step, and the bytes
-- left of the piece.
pub record OpenedField (S V : Type 0) : Type 0 where
  pub resumes : V → Reading S
  pub next : Option (Step V)
  pub left : List ℕ

-- A value of a field that began: complete, or what has arrived of it, which is stored, or a fault.
abbrev pub Opens : {S V : Type 0} → S → ReadingMoment S → OpenedField S V → Result Arrival DecodeError → Type 0
Opens t before after (Ok Complete) = Comes before (moment (λ w. Ok (t, w)) after.left)
Opens {V = V} t before after (Ok Pending) =
    (v : V) × (after.next ≡ Some (Value v)) × NeedsMore (Wire Truncated) before (moment (after.resumes v) after.left)
Opens t before after (Err e) = Faults before.reads before.piece e
