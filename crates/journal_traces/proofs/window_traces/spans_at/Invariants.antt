use Rattle.std.proofs.Common.{◌≡◌, take}
use Rattle.journal_traces.specs.WindowTraces.{entries_seen, trace_reported}
use Rattle.journal_traces.proofs.window_traces.spans_at.Given as goal

abbrev pub invariant-loop-spot : goal.invariant-loop-spot
invariant-loop-spot l = l.spans.items ≡ trace_reported (entries_seen l.entries) (take l.spot-index l.spots)
