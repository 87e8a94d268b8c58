-- How the program's answer relates to the definition of what is read.
use Rattle.std.specs.Prelude.{◌≡◌, Result, Ok, Err}
use Rattle.step_lines.specs.declared.fault.StepFault.{StepFault}
use Rattle.step_lines.specs.declared.stop.Stop.{Stop}
use Rattle.step_lines.specs.declared.stop.Stop.TheVariants.{Fault, Memory}

-- the reading's value, or the fault that it reports, unless memory ran out
abbrev pub ReadsStep : {X Y : Type 0} → (X → Y) → Result X Stop → Result Y StepFault → Type 0
ReadsStep view (Ok x) read = read ≡ Ok (view x)
ReadsStep view (Err (Fault f)) read = read ≡ Err f
ReadsStep view (Err Memory) read = Unit {0}
