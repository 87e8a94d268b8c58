use Rattle.std.proofs.Common.{◌≡◌, map, drop}
use Rattle.serde_json.specs.Data.{no_members}
use Rattle.serde_json.specs.View.{members_view}
use Rattle.answer_trees.specs.ProcessNumbers.{first_process}
use Rattle.answer_trees.specs.Trees.{processes_by_name}
use Rattle.answer_trees.proofs.trace.processes_json.Given as goal

abbrev pub invariant-loop-place : goal.invariant-loop-place
invariant-loop-place l =
    processes_by_name l.place (map first_process (drop l.place l.processes)) (members_view l.named.entries)
    ≡ processes_by_name 0 (map first_process l.processes) no_members
