-- The names and the places of a trace's processes.
use Rattle.std.specs.Prelude.{ℕ, List, map}
use Rattle.std.specs.List.{range_with_len}
use Rattle.jaeger_model.specs.declared.batch.Process.{Process}
use Rattle.trace_model.specs.declared.answer.Shown.{Shown}
use Rattle.answer_trees.specs.ProcessNames.{place, process_name}
use Rattle.answer_trees.specs.Trees.{process_of}

-- the names of n processes
abbrev pub process_names : ℕ → List (List ℕ)
process_names n = map process_name (range_with_len 0 n)

-- the number of a span's process among these, counted from 0
abbrev pub process_place : List Process → Shown → ℕ
process_place ps s = place (process_of s) ps
