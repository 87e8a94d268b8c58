use Rattle.std.proofs.Common.{◌≡◌, map, take}
use Rattle.find_traces.specs.FoundIndices.{hits}
use Rattle.find_traces.specs.Keys.{reverse_key_of}
use Rattle.find_traces.proofs.matched.all_hits.Given as goal

abbrev pub invariant-loop-index : goal.invariant-loop-index
invariant-loop-index g l = record {
  found : l.found.items ≡ map reverse_key_of (hits (g.T.Searched.query l.fn.traces) (take l.index (g.T.Searched.traces l.fn.traces)));
  same_traces : g.T.Searched.traces l.traces ≡ g.T.Searched.traces l.fn.traces;
  same_query : g.T.Searched.query l.traces ≡ g.T.Searched.query l.fn.traces;
}
