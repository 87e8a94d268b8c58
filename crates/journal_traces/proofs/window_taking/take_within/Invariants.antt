use Rattle.std.proofs.Common.{◌≡◌, ◌-◌, ◌≤◌, length, map, take}
use Rattle.std.specs.Prelude.{filter}
use Rattle.std.specs.List.{list_any}
use Rattle.trace_model.specs.ServiceLinks.{in_window}
use Rattle.trace_assembly.specs.AssembledRows.{spots_of}
use Rattle.journal_traces.specs.SpansAtSpots.{trace_named}
use Rattle.trace_model.specs.TakenSpans.{placed_taken}
use Rattle.journal_traces.specs.WindowTraces.{traces_reported, AreWindowSpots}
use Rattle.journal_traces.proofs.window_taking.take_within.Given as goal

abbrev pub invariant-loop-index : goal.invariant-loop-index
invariant-loop-index l = record {
  place : l.index ≤ length l.store.assembly.now.newest.ids;
  within : map placed_taken (traces_reported l.taken)
      ≡ filter (list_any (in_window l.end_ms l.lookback_ms))
      (map (trace_named l.store.journal.now.held.entries (spots_of l.store.assembly.now)) (take l.index l.store.assembly.now.newest.ids));
  taken : AreWindowSpots l.store.journal.now.held.entries l.taken l.numbers;
}

abbrev pub decreases-loop-index : goal.decreases-loop-index
decreases-loop-index l = length l.store.assembly.now.newest.ids - l.index
