-- What reads do to the bytes received.
use Rattle.std.specs.Prelude.{◌≡◌, ℕ, ◌+◌, ◌*◌, ◌≤◌, ◌⊎◌, Bool, true, false, if◌then◌else◌}
use Rattle.std.specs.Prelude.{List, ◌++◌, length, Option, Result, Ok, Err}
use Rattle.std.specs.Io.KnownBytes.{Consumes, IsAtEnd}
use Rattle.session_devices.specs.ByteTransfers.{ByteTransfer}
use Rattle.http_requests.specs.declared.room.TheConstants.{READ_BYTES}
use Rattle.http_requests.specs.AwaitedReads.{Source, counted, read_rule, InputMoment, input_moment, ReadsWhile, FailsToRead}
use Rattle.http_requests.specs.declared.read_buffer.ReadError.{ReadError}
use Rattle.http_requests.specs.declared.read_buffer.ReadError.TheVariants.{Reading, Memory}

-- the bytes that were read and not yet taken, the number of reads left, and whether the input has ended
pub record ReadBuffer : Type 0 where
  pub held : List ℕ
  pub reads_left : ℕ
  pub ended : Bool

-- an input that has ended has nothing left
abbrev pub KnowsItsEnd : Bool → Option (List ℕ) → Type 0
KnowsItsEnd ended input = ended ≡ true → IsAtEnd input

-- the number of reads left, with the one that found the end
abbrev pub turns : ReadBuffer → ℕ
turns r = r.reads_left + (if r.ended then 1 else 0)

-- Some reads were made. Each returned at most a piece and, unless it found the end, at least one byte.
pub record ReadsOn (in0 in1 : Option (List ℕ)) (old new : ReadBuffer) : Type 0 where
  pub more : List ℕ
  pub read : Consumes in0 in1 more
  pub held : new.held ≡ old.held ++ more
  pub least : turns old ≤ length more + turns new
  pub most : length more + READ_BYTES * new.reads_left ≤ READ_BYTES * old.reads_left
  pub end : KnowsItsEnd old.ended in0 → KnowsItsEnd new.ended in1

-- whether the input has failed is unchanged, unless a failed read stopped the call
abbrev pub SameUnlessReading : {A : Type 0} → Bool → Bool → Result A ReadError → Type 0
SameUnlessReading failed0 failed1 (Ok x) = failed1 ≡ failed0
SameUnlessReading failed0 failed1 (Err Memory) = failed1 ≡ failed0
SameUnlessReading failed0 failed1 (Err Reading) = Unit {0}

-- puts a text back before the bytes held
abbrev pub put_back : List ℕ → ReadBuffer → ReadBuffer
put_back text r = record r { held = text ++ r.held }

-- ---- reads of an input into a buffer

-- the state of the input at one moment, and the bytes received
pub record ReadMoment (R : Type 0) : Type 0 where
  pub input : R
  pub received : ReadBuffer

abbrev pub read_moment : {R : Type 0} → R → ReadBuffer → ReadMoment R
read_moment input received = record { input = input; received = received }

-- the same, with the number of reads left as a part of the input's state
abbrev pub counted_moment : {R : Type 0} → ReadMoment R → InputMoment (R × ℕ)
counted_moment m = input_moment (m.input, m.received.reads_left) m.received.held

-- one read was made, and its bytes were appended to those received
abbrev pub IsRead : {R : Type 0} → ByteTransfer R → ReadMoment R → ReadMoment R → Type 0
IsRead gives before after =
    (piece : List ℕ) × gives before.input piece after.input
    × (after.received.held ≡ before.received.held ++ piece) × (after.received.reads_left + 1 ≡ before.received.reads_left)

-- Some reads were made, each while more was awaited, given the bytes received by then. Each takes one of the reads
-- left.
pub record ReadsOnWhile {R : Type 0} (source : Source R) (Awaits : List ℕ → Type 0) (before after : ReadMoment R) : Type 0 where
  pub on : ReadsOn (source.remaining before.input) (source.remaining after.input) before.received after.received
  pub waits : ReadsWhile (read_rule (counted source.gives) Awaits) (counted_moment before) (counted_moment after)

-- ---- calls that ended in an error

-- the input after a call that ended in an error, whether the input has failed, and the error
pub record FailedCall (R : Type 0) : Type 0 where
  pub input : R
  pub failed : Bool
  pub why : ReadError

abbrev pub failed_call : {R : Type 0} → R → Bool → ReadError → FailedCall R
failed_call input failed why = record { input = input; failed = failed; why = why }

-- the statement for this error: the first if reading failed, the second if memory ran out
abbrev pub ByError : ReadError → Type 0 → Type 0 → Type 0
ByError Reading IfReading IfMemory = IfReading
ByError Memory IfReading IfMemory = IfMemory

-- Why one more read returned nothing: no read was left, it failed, or memory ran out before it.
abbrev pub ReadFails : {R : Type 0} → Source R → ReadMoment R → FailedCall R → Type 0
ReadFails source before after =
    ByError after.why
    (((after.input ≡ before.input) × (before.received.reads_left ≡ 0) × (before.received.ended ≡ false))
    ⊎ FailsToRead source before.input after.input after.failed)
    (after.input ≡ before.input)

-- A call ended in an error. Some reads were made, each while more was awaited, given the bytes received by then. More
-- was still awaited, and one more read returned nothing.
pub record StopsWhile {R : Type 0} (source : Source R) (Awaits : List ℕ → Type 0) (before : ReadMoment R) (after : FailedCall R) : Type 0 where
  pub here : ReadMoment R
  pub reads : ReadsOnWhile source Awaits before here
  pub awaits : Awaits here.received.held
  pub last : ReadFails source here after
