-- Traces that were collected from a store.
use Rattle.std.specs.Prelude.{◌≡◌, ℕ, List, Option, Some, IfSome}
use Rattle.std.specs.List.{All}
use Rattle.jaeger_model.specs.declared.batch.Process.{Process}
use Rattle.jaeger_model.specs.declared.placed.Placed.{Placed}
use Rattle.trace_model.specs.TakenSpans.{Taken}

-- the number of the span leads to its process
abbrev pub HasProcess : (ℕ → Option Process) → Taken → Type 0
HasProcess process_of t = IfSome t.span (λ (p : Placed). Some p.process ≡ process_of t.number)

-- so does that of each span of the trace
abbrev pub HaveProcesses : (ℕ → Option Process) → List Taken → Type 0
HaveProcesses process_of ts = All (HasProcess process_of) ts

-- spans with one number have one process
pub record ShareByNumber (traces : List (List Taken)) : Type 0 where
  pub process_of : ℕ → Option Process
  pub each : All (HaveProcesses process_of) traces
