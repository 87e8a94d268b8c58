-- Why a line is no step, as text.
use Rattle.std.specs.Prelude.{ℕ, List, ◌++◌, codes}
use Rattle.batch_codec.specs.HexFaultTexts.{hex_fault_text}
use Rattle.query_http.specs.Faults.{parameter_name}
use Rattle.step_lines.specs.declared.fault.StepFault.{StepFault}
use Rattle.step_lines.specs.declared.fault.StepFault.TheVariants.{BadStep, NoBatch, NoSuchPath, BadParameter}

abbrev pub step_fault_text : StepFault → List ℕ
step_fault_text BadStep = codes "bad step"
step_fault_text (NoBatch fault) = hex_fault_text fault
step_fault_text NoSuchPath = codes "no such path"
step_fault_text (BadParameter parameter) = codes "bad parameter " ++ parameter_name parameter
