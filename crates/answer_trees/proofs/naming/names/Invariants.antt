use Rattle.std.proofs.Common.{◌≡◌, length, map, string_bytes}
use Rattle.answer_trees.specs.TraceProcesses.{process_names}
use Rattle.answer_trees.proofs.naming.names.Given as goal

abbrev pub invariant-loop-place : goal.invariant-loop-place
invariant-loop-place l = record {
  names : map string_bytes l.names.items ≡ process_names l.place;
  count : length l.names.items ≡ l.place;
}
