-- The words of a line, and numbers among them.
use Rattle.std.specs.Prelude.{ℕ, ◌==◌, Bool, List, Result, Ok, Err, if◌then◌else◌}
use Rattle.std.specs.List.{slice_split}
use Rattle.jaeger_model.specs.Decimal.{is_digits, number_of}
use Rattle.step_lines.specs.declared.fault.StepFault.{StepFault}
use Rattle.step_lines.specs.declared.fault.StepFault.TheVariants.{BadStep}

abbrev pub is_space : ℕ → Bool
is_space c = c == 32

-- split at each space: there is an empty word between two spaces, and before or after a space at an end
abbrev pub words_of : List ℕ → List (List ℕ)
words_of line = slice_split is_space line

-- 1 to 9 digits and nothing else
unfoldable pub number_in : List ℕ → Result ℕ StepFault
number_in word = if is_digits 9 word then Ok (number_of word) else Err BadStep
