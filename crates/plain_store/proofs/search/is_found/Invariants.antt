use Rattle.std.proofs.Common.{◌≡◌, drop}
use Rattle.std.specs.List.{list_any}
use Rattle.trace_model.specs.Searching.{matches}
use Rattle.plain_store.proofs.search.is_found.Given as goal

abbrev pub invariant-loop-placed : goal.invariant-loop-placed
invariant-loop-placed l = list_any (matches l.query) (drop l.placed-index l.trace) ≡ list_any (matches l.query) l.trace
