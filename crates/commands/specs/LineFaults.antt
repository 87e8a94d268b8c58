-- Why a line can't be used, as text.
use Rattle.std.specs.Prelude.{ℕ, List, ◌++◌, codes}
use Rattle.batch_codec.specs.HexFaultTexts.{hex_fault_text}
use Rattle.trace_model.specs.RefusalTexts.{refusal_text}
use Rattle.commands.specs.declared.get.line_fault.LineFault.{LineFault}
use Rattle.commands.specs.declared.get.line_fault.LineFault.TheVariants.{NoBatch, Refused}

abbrev pub line_fault_text : LineFault → List ℕ
line_fault_text (NoBatch fault) = hex_fault_text fault
line_fault_text (Refused refusal) = codes "refused " ++ refusal_text refusal
