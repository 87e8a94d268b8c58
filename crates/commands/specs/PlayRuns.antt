-- What `play` writes for an input.
use Rattle.std.specs.Prelude.{◌≡◌, ℕ, ◌==◌, ◌⊎◌, Bool, true, false, List, ◌++◌, length, codes}
use Rattle.std.specs.Prelude.{Option, Some, None, Result, Ok, Err, if◌then◌else◌}
use Rattle.std.specs.Fmt.{decimal}
use Rattle.trace_model.specs.declared.limits.Limits.{Limits}
use Rattle.schedule_core.specs.declared.step.Step.{Step}
use Rattle.schedule_core.specs.declared.outcome.Outcome.{Outcome}
use Rattle.schedule_core.specs.Machine.{Machine, new_machine, step}
use Rattle.step_lines.specs.declared.fault.StepFault.{StepFault}
use Rattle.step_lines.specs.FaultTexts.{step_fault_text}
use Rattle.step_lines.specs.OutcomeLines.{outcome_line}
use Rattle.step_lines.specs.Steps.{step_in}
use Rattle.text_lines.specs.declared.exit_status.ExitStatus.{ExitStatus}
use Rattle.text_lines.specs.declared.exit_status.ExitStatus.TheVariants.{Success, FaultyLine}
use Rattle.text_lines.specs.Lines.{lines_of}
use Rattle.text_lines.specs.HandledLines.{LineResult, HandlesLine, nothing_said}
use Rattle.text_lines.specs.LineResults.{result_of_lines}

abbrev pub step_fault_line : ℕ → StepFault → List ℕ
step_fault_line n fault = codes "line " ++ decimal n ++ codes ": " ++ step_fault_text fault ++ codes "\n"

-- the reply to a step, and the machine after it
abbrev pub made : Machine → Step → LineResult Machine
made m s = record { reply = record { text = outcome_line (step m s).outcome ++ codes "\n"; faulty = false }; held = (step m s).machine }

abbrev pub played_as : ℕ → Machine → Result Step StepFault → LineResult Machine
played_as n m (Ok s) = made m s
played_as n m (Err fault) = record { reply = record { text = step_fault_line n fault; faulty = true }; held = m }

abbrev pub skipped : Machine → LineResult Machine
skipped m = record { reply = nothing_said; held = m }

-- the result of the line with the number n; an empty line is skipped
unfoldable pub played : ℕ → Machine → List ℕ → LineResult Machine
played n m line = if length line == 0 then skipped m else played_as n m (step_in line)

-- ---- the complete run

-- whether a line was no step
abbrev pub status_at : Bool → ExitStatus
status_at true = FaultyLine
status_at false = Success

-- the result of lines, from the initial state of the machine
abbrev pub all_played : Limits → List (List ℕ) → LineResult Machine
all_played limits lines = result_of_lines played 1 (new_machine limits) lines

abbrev pub output_of : Limits → List ℕ → List ℕ
output_of limits input = (all_played limits (lines_of input)).reply.text

abbrev pub status_for : Limits → List ℕ → ExitStatus
status_for limits input = status_at (all_played limits (lines_of input)).reply.faulty

-- ---- one line

-- the world is in this state, or memory ran out
abbrev pub IsMachineAt : Option Machine → Machine → Type 0
IsMachineAt w m = (w ≡ Some m) ⊎ (w ≡ None)

-- the result of a line, whatever the state of the world
abbrev pub TakesStep : HandlesLine (Option Machine)
TakesStep w0 n line reply w1 = (m : Machine) → IsMachineAt w0 m → IsMachineAt w1 (played n m line).held × (reply ≡ (played n m line).reply)

-- the step was run, and memory didn't run out
abbrev pub IsMade : Option Machine → Step → Outcome → Option Machine → Type 0
IsMade w0 s o w1 = (m : Machine) × (w0 ≡ Some m) × (o ≡ (step m s).outcome) × (w1 ≡ Some (step m s).machine)

-- the reply to a line as far as it is written, and the state of the world
pub record PlayMoment : Type 0 where
  pub said : List ℕ
  pub world : Option Machine

abbrev pub play_moment : List ℕ → Option Machine → PlayMoment
play_moment said world = record { said = said; world = world }

-- a step was run, and its outcome was written
pub record MakesStep (before after : PlayMoment) (s : Step) : Type 0 where
  pub machine : Machine
  pub was : before.world ≡ Some machine
  pub is : after.world ≡ Some (step machine s).machine
  pub says : after.said ≡ before.said ++ (made machine s).reply.text
