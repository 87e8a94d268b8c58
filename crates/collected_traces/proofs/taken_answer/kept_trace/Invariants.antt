use Rattle.std.proofs.Common.{ℕ, Option}
use Rattle.jaeger_model.specs.declared.batch.Process.{Process}
use Rattle.collected_traces.specs.ProcessClasses.{Leads}
use Rattle.collected_traces.specs.TakenTraces.{HaveProcesses}
use Rattle.collected_traces.proofs.TakenSpans.{IsKeptUpto}
use Rattle.collected_traces.proofs.taken_answer.kept_trace.Given as goal

abbrev pub invariant-loop-span : goal.invariant-loop-span
invariant-loop-span l = record {
  kept : IsKeptUpto l.fn.classes l.spans l.span-index l.kept.items;
  leads : (process_of : ℕ → Option Process) → HaveProcesses process_of l.spans → Leads process_of l.fn.classes → Leads process_of l.classes;
}
