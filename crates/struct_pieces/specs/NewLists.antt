-- A list that begins as the value of a field.
use Rattle.std.specs.Prelude.{◌≡◌, Option, Some, Result, Ok, Err}
use Rattle.thrift_binary.specs.declared.fault.WireError.TheVariants.{Truncated}
use Rattle.wire_pieces.specs.Pieces.{Comes, NeedsMore, moment}
use Rattle.batch_codec.specs.declared.fault.DecodeError.{DecodeError}
use Rattle.batch_codec.specs.declared.fault.DecodeError.TheVariants.{Wire}
use Rattle.value_pieces.specs.declared.partial.Arrival.{Arrival}
use Rattle.value_pieces.specs.declared.partial.Arrival.TheVariants.{Complete, Pending}
use Rattle.struct_pieces.specs.declared.fields.Step.{Step}
use Rattle.struct_pieces.specs.declared.fields.Step.TheVariants.{Value}
use Rattle.value_pieces.specs.ContinuedCalls.{Faults, SlotChange, Stored}

-- a slot and the bytes of a piece, before and after a call, and the next step after it
pub record StepChange (S V : Type 0) : Type 0 where
  pub slot : SlotChange S
  pub next : Option (Step V)

-- A list that began and was stored in its slot: complete, or what has arrived of it, which is stored as the next step, or a fault.
abbrev pub Enlists : {A P S V : Type 0} → Stored A P S → (P → V → Type 0) → StepChange S V → Result Arrival DecodeError → Type 0
Enlists {A = A} list holds step (Ok Complete) =
    (x : A) × (step.slot.after ≡ list.holding x) × Comes (moment list.reads step.slot.piece) (moment (λ w. Ok (x, w)) step.slot.left)
Enlists {P = P} {V = V} list holds step (Ok Pending) =
    (p : P) × (v : V) × holds p v × (step.next ≡ Some (Value v))
    × NeedsMore (Wire Truncated) (moment list.reads step.slot.piece) (moment (list.resumes p) step.slot.left)
    × (step.slot.after ≡ step.slot.before)
Enlists list holds step (Err e) = Faults list.reads step.slot.piece e
