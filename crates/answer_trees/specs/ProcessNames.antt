-- The names of a trace's processes.
use Rattle.std.specs.Prelude.{ℕ, suc, ◌+◌, Bool, not, List, [], ◌∷◌, ◌++◌, if◌then◌else◌}
use Rattle.std.specs.List.{filter, list_any}
use Rattle.std.specs.Fmt.{decimal}
use Rattle.jaeger_model.specs.declared.batch.Process.{Process}
use Rattle.jaeger_model.specs.Sameness.{same_process}

-- those that differ from p
abbrev pub others : Process → List Process → List Process
others p ps = filter (λ q. not (same_process p q)) ps

-- each of them once, by first appearance
abbrev pub distinct : List Process → List Process
distinct [] = []
distinct (p ∷ ps) = p ∷ others p (distinct ps)

-- some of them equals p
abbrev pub among : Process → List Process → Bool
among p ps = list_any (same_process p) ps

-- p after them, unless it is among them
abbrev pub added : Process → List Process → List Process
added p ps = if among p ps then ps else ps ++ p ∷ []

-- the number of them before the first that equals p
abbrev pub place : Process → List Process → ℕ
place p [] = 0
place p (q ∷ qs) = if same_process p q then 0 else suc (place p qs)

-- p1 for the first
abbrev pub process_name : ℕ → List ℕ
process_name k = 112 ∷ decimal (k + 1)
