use Rattle.std.proofs.Common.{◌≡◌, List, map, drop}
use Rattle.std.specs.Prelude.{All}
use Rattle.serde_json.specs.Data.{no_members}
use Rattle.trace_model.specs.declared.answer.Shown.{Shown}
use Rattle.query_json.specs.NamedProcesses.{named_members}
use Rattle.answer_trees.specs.ProcessNumbers.{IsFirst, first_process}
use Rattle.answer_trees.specs.Trees.{processes_by_name}
use Rattle.query_json.proofs.NamedProcesses.{AreKeyed, HaveSpans}
use Rattle.query_json.proofs.writing.processes.by_name.Given as goal

abbrev pub invariant-loop-place : goal.invariant-loop-place
invariant-loop-place l = record {
  keyed : AreKeyed l.named.entries;
  have : (ss : List Shown) → All (IsFirst ss) l.processes → HaveSpans ss l.named.entries;
  named :
      (ss : List Shown) → All (IsFirst ss) l.processes
      → processes_by_name l.place (map first_process (drop l.place l.processes)) (named_members ss (map (λ e. e.1) l.named.entries))
      ≡ processes_by_name 0 (map first_process l.processes) no_members;
}
