-- Gathered spans of one place share a process.
use Rattle.std.proofs.Common.{ℕ, List}
use Rattle.jaeger_model.specs.declared.placed.Placed.{Placed}
use Rattle.trace_model.specs.declared.entry.Entry.{Entry}
use Rattle.trace_model.specs.SharedProcesses.{ShareProcesses}
use Rattle.collected_traces.specs.EntriesAtPlaces.{process_at}
use Rattle.journal_traces.specs.SpansAtSpots.{AreReportedAt}
use Rattle.collected_traces.proofs.Processes.{one_process}

pub share_processes : (h : List Entry) (spans : List Placed) (places : List ℕ) → AreReportedAt h spans places → ShareProcesses spans places
share_processes h spans places at j k d one = one_process (process_at h) spans places at j k d one.0 one.1 one.2
