-- Why a run stopped, and what was written by then.
use Rattle.std.specs.Prelude.{◌≡◌, ℕ, ◌⊎◌, ◌++◌, ◌≤◌, Bool, true, false, List, length, Option, Some, None, Result, Ok, Err}
use Rattle.std.specs.Io.KnownBytes.{Appends, Consumes, IsAtEnd}
use mathlib.Core.List.{IsPrefix}
use Rattle.text_lines.specs.declared.exit_status.ExitStatus.{ExitStatus}
use Rattle.text_lines.specs.declared.exit_status.ExitStatus.TheVariants.{DeviceFailed, OutOfMemory}
use Rattle.text_lines.specs.declared.run_error.RunError.{RunError}
use Rattle.text_lines.specs.declared.run_error.RunError.TheVariants.{Device, Memory}
use Rattle.session_devices.specs.declared.limits.TheConstants.{MAX_READS}
use Rattle.session_devices.specs.Traffic.{Traffic}

abbrev pub status_by : RunError → ExitStatus
status_by Device = DeviceFailed
status_by Memory = OutOfMemory

-- neither device has failed
abbrev pub BothWork : Bool → Bool → Type 0
BothWork in_failed out_failed = (in_failed ≡ false) × (out_failed ≡ false)

-- a device failed or the limit was reached; if memory ran out, neither device has failed
abbrev pub IsWhy : RunError → Bool → Bool → Type 0 → Type 0
IsWhy Device in_failed out_failed Met = (in_failed ≡ true) ⊎ (out_failed ≡ true) ⊎ Met
IsWhy Memory in_failed out_failed Met = BothWork in_failed out_failed

-- like IsWhy, for a call that only writes
abbrev pub IsWhyOf : RunError → Bool → Type 0
IsWhyOf Device out_failed = out_failed ≡ true
IsWhyOf Memory out_failed = out_failed ≡ false

-- a prefix of the waiting text was written, and the rest still waits
abbrev pub Moves : Option (List ℕ) → Option (List ℕ) → List ℕ → List ℕ → Type 0
Moves out0 out1 waited waits = (written : List ℕ) × Appends out0 out1 written × (waited ≡ written ++ waits)

-- a prefix of the text was written
abbrev pub WritesSome : Option (List ℕ) → Option (List ℕ) → List ℕ → Type 0
WritesSome out0 out1 text = (written : List ℕ) × Appends out0 out1 written × IsPrefix written text

-- the text was written, or a prefix of it if that failed
abbrev pub WritesText : {T : Type 0} → Traffic → List ℕ → Result T RunError → Type 0
WritesText output text (Ok _) = Appends output.before output.after text × (output.failed ≡ false)
WritesText output text (Err error) = WritesSome output.before output.after text × IsWhyOf error output.failed

-- the input holds these bytes, if its bytes are known
abbrev pub Holds : Option (List ℕ) → List ℕ → Type 0
Holds None bytes = Unit {0}
Holds (Some known) bytes = known ≡ bytes

-- ---- complete runs, whose output is a function of their input

-- what a run writes that reads all of its input, and its exit status, by that input
pub record Expected : Type 0 where
  pub output : List ℕ → List ℕ
  pub status : List ℕ → ExitStatus

abbrev pub expected_of : (List ℕ → List ℕ) → (List ℕ → ExitStatus) → Expected
expected_of output status = record { output = output; status = status }

-- a run read all of its input, and exactly its output was written
pub record RunsToTheEnd (input output : Traffic) (expected : Expected) (status : ExitStatus) : Type 0 where
  pub bytes : List ℕ
  pub read : Consumes input.before input.after bytes
  pub whole : IsAtEnd input.after
  pub written : Appends output.before output.after (expected.output bytes)
  pub status_is : status ≡ expected.status bytes
  pub input_works : input.failed ≡ false
  pub output_works : output.failed ≡ false

-- A run stopped before the end of its input: a device failed, the limit of reads was reached, or memory ran out, as the status
-- says. Some of the input was read, and a prefix of the output of all of it was written.
pub record RunsUpTo (input output : Traffic) (expected : Expected) (status : ExitStatus) : Type 0 where
  pub error : RunError
  pub taken : List ℕ
  pub rest : List ℕ
  pub read : Consumes input.before input.after taken
  pub held : Holds input.before (taken ++ rest)
  pub written : WritesSome output.before output.after (expected.output (taken ++ rest))
  pub why : IsWhy error input.failed output.failed (MAX_READS ≤ length taken)
  pub status_is : status ≡ status_by error

abbrev pub RunsAs : Traffic → Traffic → Expected → ExitStatus → Type 0
RunsAs input output expected status = RunsToTheEnd input output expected status ⊎ RunsUpTo input output expected status

-- like RunsAs, by whether an error stopped the run
abbrev pub RunsOrStops : Traffic → Traffic → Expected → Result ExitStatus RunError → Type 0
RunsOrStops input output expected (Ok status) = RunsToTheEnd input output expected status
RunsOrStops input output expected (Err error) = RunsUpTo input output expected (status_by error)
