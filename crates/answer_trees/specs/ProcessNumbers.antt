-- Processes with their places, from 0.
use Rattle.std.specs.Prelude.{◌≡◌, ℕ, List, map, Option, Some, None, option_map, slice_get, if◌then◌else◌}
use Rattle.std.specs.Ordering.{on}
use Rattle.std.specs.BTreeMap.{get}
use Rattle.jaeger_model.specs.declared.batch.Process.{Process}
use Rattle.trace_model.specs.declared.answer.Shown.{Shown}
use Rattle.jaeger_model.specs.declared.process_order.ByContent.{ByContent}
use Rattle.answer_trees.specs.declared.naming.FirstSpan.{FirstSpan}
use Rattle.answer_trees.specs.declared.naming.ProcessTable.{ProcessTable}
use Rattle.answer_trees.specs.ProcessNames.{among, place}
use Rattle.jaeger_model.specs.ProcessOrder.{process_cmp}
use Rattle.answer_trees.specs.Trees.{process_of}

abbrev pub first_process : FirstSpan → Process
first_process f = f.process.now

-- the processes of the table, in the order of their places
abbrev pub placed_processes : ProcessTable → List Process
placed_processes t = map first_process t.processes.items

-- its process is that of the span at its index
abbrev pub IsFirst : List Shown → FirstSpan → Type 0
IsFirst spans f = option_map process_of (slice_get spans f.span) ≡ Some f.process.now

-- the place of p if it is among ps
abbrev pub place_among : Process → List Process → Option ℕ
place_among p ps = if among p ps then Some (place p ps) else None

-- the table finds the place of each of its processes, and none of another
abbrev pub IsByPlace : ProcessTable → Type 0
IsByPlace t = (k : ByContent) → get (on (λ (b : ByContent). b.0.now) process_cmp) t.places k ≡ place_among k.0.now (placed_processes t)
