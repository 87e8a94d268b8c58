-- How the program ends after a reply to arguments that name no command.
use Rattle.std.proofs.Common.{◌≡◌, Bool, inl, inr, refl}
use Rattle.text_lines.specs.declared.exit_status.ExitStatus.TheVariants.{Usage}
use Rattle.text_lines.specs.declared.run_error.RunError.{RunError}
use Rattle.text_lines.specs.declared.run_error.RunError.TheVariants.{Device, Memory}
use Rattle.text_lines.specs.RunErrors.{IsWhyOf, status_by}
use Rattle.commands.specs.Arguments.{IsFaultOf}

pub stopped : (h : RunError) (failed : Bool) → IsWhyOf h failed → IsFaultOf (status_by h) failed
stopped Device failed why = inr (inl (refl, why))
stopped Memory failed why = inr (inr (refl, why))

pub stopped_no_fault : (h : RunError) → status_by h ≡ Usage → ⊥
stopped_no_fault Device e = cc
stopped_no_fault Memory e = cc
