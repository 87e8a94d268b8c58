-- The number of reads that were made on an input.
use Rattle.std.specs.Prelude.{◌≡◌, ℕ, ◌+◌, List, [], ◌∷◌, length}
use Rattle.text_lines.specs.declared.exit_status.ExitStatus.{ExitStatus}
use Rattle.text_lines.specs.declared.exit_status.ExitStatus.TheVariants.{DeviceFailed}
use Rattle.text_lines.specs.declared.run_error.RunError.{RunError}
use Rattle.text_lines.specs.declared.run_error.RunError.TheVariants.{Device, Memory}
use Rattle.session_devices.specs.ByteTransfers.{ByteTransfer}
use Rattle.session_devices.specs.declared.limits.TheConstants.{MAX_READS}

-- an input before and after some reads, and what one read of it does: the states before and after it, and the bytes it returns
pub record InputReads (R : Type 0) : Type 1 where
  pub gives : ByteTransfer R
  pub before : R
  pub after : R

abbrev pub reads_of : {R : Type 0} → ByteTransfer R → R → R → InputReads R
reads_of gives before after = record { gives = gives; before = before; after = after }

-- the reads returned these pieces, in order
abbrev pub GivesEach : {R : Type 0} → InputReads R → List (List ℕ) → Type 0
GivesEach reads [] = reads.before ≡ reads.after
GivesEach {R = R} reads (p ∷ ps) = (next : R) × reads.gives reads.before p next × GivesEach (reads_of reads.gives next reads.after) ps

-- Exactly this number of reads was made on the input. A read that fails is one of them, and returns no bytes.
abbrev pub MakesReads : {R : Type 0} → InputReads R → ℕ → Type 0
MakesReads reads count = (pieces : List (List ℕ)) × GivesEach reads pieces × (length pieces ≡ count)

-- each read that was made took one of those that were left
abbrev pub CountsReads : {R : Type 0} → InputReads R → ℕ → ℕ → Type 0
CountsReads reads old_left new_left = (made : ℕ) × MakesReads reads made × (made + new_left ≡ old_left)

-- if the devices work, a run stops because of a device only after the number of reads that a run may make
abbrev pub LimitIsReads : {R : Type 0} → InputReads R → Type 0 → RunError → Type 0
LimitIsReads reads Work Device = Work → MakesReads reads MAX_READS
LimitIsReads reads Work Memory = Unit {0}

-- like LimitIsReads, of the exit status
abbrev pub StatusIsReads : {R : Type 0} → InputReads R → Type 0 → ExitStatus → Type 0
StatusIsReads reads Work status = status ≡ DeviceFailed → Work → MakesReads reads MAX_READS
