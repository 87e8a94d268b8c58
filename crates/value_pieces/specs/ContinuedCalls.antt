-- The result of a call that continued with a piece.
use Rattle.std.specs.Prelude.{◌≡◌, ℕ, List, Option, Some, None, Result, Ok, Err, Bool, true, false}
use Rattle.thrift_binary.specs.declared.fault.WireError.TheVariants.{Truncated}
use Rattle.thrift_binary.specs.Reading.{◌>>=◌}
use Rattle.wire_pieces.specs.declared.fault.PieceError.{PieceError}
use Rattle.wire_pieces.specs.declared.fault.PieceError.TheVariants as piece
use Rattle.wire_pieces.specs.Pieces.{Moment, Comes, NeedsMore, Refuses, Reaches, moment}
use Rattle.batch_codec.specs.declared.fault.DecodeError.{DecodeError}
use Rattle.batch_codec.specs.declared.fault.DecodeError.TheVariants.{Wire, Memory}
use Rattle.batch_codec.specs.Decoding.{Reading, Fails}
use Rattle.value_pieces.specs.declared.partial.Arrival.{Arrival}
use Rattle.value_pieces.specs.declared.partial.Arrival.TheVariants.{Complete, Pending}

-- the fault of a part is the fault of the whole reading
abbrev pub fault_of : PieceError → DecodeError
fault_of (piece.Wire e) = Wire e
fault_of piece.Memory = Memory

-- The fault, whatever follows; it isn't too few bytes. Nothing is said of running out of memory.
abbrev pub Faults : {X : Type 0} → (List ℕ → Result X DecodeError) → List ℕ → DecodeError → Type 0
Faults old piece e = (e ≡ Memory → ⊥) → Refuses (Wire Truncated) (moment old piece) e

-- a reading of values of A before or after a call
abbrev pub ReadingMoment : Type 0 → Type 0
ReadingMoment A = Moment (A × List ℕ) DecodeError

-- a value, or nothing yet, or a fault
abbrev pub Continues : {A : Type 0} → ReadingMoment A → ReadingMoment A → Result (Option A) DecodeError → Type 0
Continues before after (Ok o) = Reaches (Wire Truncated) before after o
Continues before after (Err e) = Faults before.reads before.piece e

-- like `Continues`, for a call that changes the fields so far
abbrev pub ContinuesTo : {X : Type 0} → X → ReadingMoment X → ReadingMoment X → Result Arrival DecodeError → Type 0
ContinuesTo x before after (Ok Complete) = Comes before (moment (λ w. Ok (x, w)) after.piece)
ContinuesTo x before after (Ok Pending) = NeedsMore (Wire Truncated) before after
ContinuesTo x before after (Err e) = Faults before.reads before.piece e

-- a value or a fault, as a reading that takes no bytes
abbrev pub ended : {A : Type 0} → Result A DecodeError → Reading A
ended end w = end >>= λ m. Ok (m, w)

-- like `ContinuesTo`, for a call after which the value, which may be a fault, is still to be taken
abbrev pub Arrives : {A : Type 0} → ReadingMoment A → ReadingMoment A → Result A DecodeError → Result Arrival DecodeError → Type 0
Arrives before after end (Ok Complete) = Comes before (moment (ended end) after.piece)
Arrives before after end (Ok Pending) = NeedsMore (Wire Truncated) before after
Arrives before after end (Err e) = Faults before.reads before.piece e

-- A value that is read and the slot that it is for, before or after a call: what the reading reads from the bytes that
-- are still to come, the bytes of the piece that it has not taken, and the slot.
pub record SlotMoment (A S : Type 0) : Type 0 where
  pub reads : Reading A
  pub piece : List ℕ
  pub slot : S

abbrev pub slot_moment : {A S : Type 0} → Reading A → List ℕ → S → SlotMoment A S
slot_moment reads piece slot = record { reads = reads; piece = piece; slot = slot }

-- like `ContinuesTo`, for a call that stores a value in its slot; `holding` is the slot with a value
abbrev pub Places : {A S : Type 0} → (A → S) → SlotMoment A S → SlotMoment A S → Result Arrival DecodeError → Type 0
Places {A = A} holding before after (Ok Complete) =
    (x : A) × (after.slot ≡ holding x) × Comes (moment before.reads before.piece) (moment (λ w. Ok (x, w)) after.piece)
Places holding before after (Ok Pending) =
    NeedsMore (Wire Truncated) (moment before.reads before.piece) (moment after.reads after.piece) × (after.slot ≡ before.slot)
Places holding before after (Err e) = Faults before.reads before.piece e

-- A kind of value that is stored in a slot: the slot with a value, how a value is read, and how one is read on that has begun.
pub record Stored (A P S : Type 0) : Type 0 where
  pub holding : A → S
  pub reads : Reading A
  pub resumes : P → Reading A

-- a slot and the bytes of a piece, before and after a call
pub record SlotChange (S : Type 0) : Type 0 where
  pub before : S
  pub after : S
  pub piece : List ℕ
  pub left : List ℕ

-- a value that began and was stored in its slot: complete, or what has arrived of it, or a fault
abbrev pub Lays : {A P S : Type 0} → Stored A P S → SlotChange S → Result (Option P) DecodeError → Type 0
Lays {A = A} value slot (Ok None) = (x : A) × (slot.after ≡ value.holding x) × Comes (moment value.reads slot.piece) (moment (λ w. Ok (x, w)) slot.left)
Lays value slot (Ok (Some p)) = NeedsMore (Wire Truncated) (moment value.reads slot.piece) (moment (value.resumes p) slot.left) × (slot.after ≡ slot.before)
Lays value slot (Err e) = Faults value.reads slot.piece e

-- What a call leaves that begins a value in a piece: how a part of the value is read on, the part that has arrived, and
-- the bytes left of the piece.
pub record BegunValue (A P : Type 0) : Type 0 where
  pub resumes : P → Reading A
  pub part : Option P
  pub left : List ℕ

-- a value that began: complete, or what has arrived of it, or a fault
abbrev pub BeginsValue : {A P : Type 0} → ReadingMoment A → BegunValue A P → Result (Option A) DecodeError → Type 0
BeginsValue before after (Ok (Some x)) = Comes before (moment (λ w. Ok (x, w)) after.left)
BeginsValue {P = P} before after (Ok None) =
    (p : P) × (after.part ≡ Some p) × NeedsMore (Wire Truncated) before (moment (after.resumes p) after.left)
BeginsValue before after (Err e) = Faults before.reads before.piece e

-- like `BeginsValue`, for a call that changes the fields so far
abbrev pub Enters : {X V : Type 0} → X → ReadingMoment X → BegunValue X V → Result Arrival DecodeError → Type 0
Enters x before after (Ok Complete) = Comes before (moment (λ w. Ok (x, w)) after.left)
Enters {V = V} x before after (Ok Pending) =
    (v : V) × (after.part ≡ Some v) × NeedsMore (Wire Truncated) before (moment (after.resumes v) after.left)
Enters x before after (Err e) = Faults before.reads before.piece e

-- the fault is too few bytes
abbrev pub IsTruncated : DecodeError → Bool → Type 0
IsTruncated e true = e ≡ Wire Truncated
IsTruncated e false = e ≡ Wire Truncated → ⊥

-- A call that reads a complete value from the bytes, or takes nothing.
abbrev pub Attempts : {A : Type 0} → Reading A → List ℕ → List ℕ → Result (Option A) DecodeError → Type 0
Attempts reads piece left (Ok (Some x)) = reads piece ≡ Ok (x, left)
Attempts reads piece left (Ok None) = Unit {0}
Attempts reads piece left (Err e) = Fails e (reads piece)
