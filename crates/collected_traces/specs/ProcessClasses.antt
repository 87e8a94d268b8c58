-- The classes of keys whose processes are equal.
use Rattle.std.specs.Prelude.{◌≡◌, ℕ, List, Option, Some, IfSome}
use Rattle.std.specs.BTreeMap.{get}
use Rattle.std.specs.List.{All}
use Rattle.std.specs.Ordering.{nat_cmp, on}
use Rattle.jaeger_model.specs.declared.batch.Process.{Process}
use Rattle.jaeger_model.specs.declared.process_order.ByContent.{ByContent}
use Rattle.jaeger_model.specs.ProcessOrder.{process_cmp}
use Rattle.trace_model.specs.TakenSpans.{Taken}
use Rattle.collected_traces.specs.declared.process_classes.KeyClass.{KeyClass}
use Rattle.collected_traces.specs.declared.process_classes.ProcessClasses.{ProcessClasses}
use Rattle.collected_traces.specs.TakenTraces.{HaveProcesses}

-- the class of a process
abbrev pub class_of_process : ProcessClasses → ByContent → Option ℕ
class_of_process c k = get (on (λ (b : ByContent). b.0.now) process_cmp) c.by_process k

-- the class of the key leads to the key's process
abbrev pub LeadsOn : (ℕ → Option Process) → KeyClass → Type 0
LeadsOn process_of l = process_of l.class ≡ process_of l.key

-- if keys lead to processes, a class leads to the process that has it, and to that of each key that has it
pub record Leads (process_of : ℕ → Option Process) (c : ProcessClasses) : Type 0 where
  pub by_process : (k : ByContent) (class : ℕ) → class_of_process c k ≡ Some class → process_of class ≡ Some k.0.now
  pub by_key : (key class : ℕ) → get nat_cmp c.by_key key ≡ Some class → process_of class ≡ process_of key
  pub last : IfSome c.last (LeadsOn process_of)

-- the keys of the spans lead to their processes, and so do their classes
pub record ShareByClass (traces : List (List Taken)) (c : ProcessClasses) : Type 0 where
  pub process_of : ℕ → Option Process
  pub each : All (HaveProcesses process_of) traces
  pub leads : Leads process_of c
