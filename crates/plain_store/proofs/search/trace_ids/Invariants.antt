use Rattle.std.proofs.Common.{◌≡◌, take}
use Rattle.trace_model.specs.Searching.{ids_of}
use Rattle.plain_store.proofs.search.trace_ids.Given as goal

abbrev pub invariant-loop-trace : goal.invariant-loop-trace
invariant-loop-trace l = l.ids.items ≡ ids_of (take l.trace-index l.traces)
