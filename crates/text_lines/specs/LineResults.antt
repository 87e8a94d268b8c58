-- The result of several lines, if the result of each is a function of the state before it.
use Rattle.std.specs.Prelude.{ℕ, ◌+◌, List, [], ◌∷◌}
use Rattle.text_lines.specs.HandledLines.{LineResult, nothing_said, joined}

-- the result of lines of which the first has the number n
abbrev pub result_of_lines : {S : Type 0} → (ℕ → S → List ℕ → LineResult S) → ℕ → S → List (List ℕ) → LineResult S
result_of_lines of_line n s [] = record { reply = nothing_said; held = s }
result_of_lines of_line n s (line ∷ lines) =
    let first = of_line n s line in
    let others = result_of_lines of_line (n + 1) first.held lines in
    record { reply = joined first.reply others.reply; held = others.held }
