use Rattle.std.proofs.Common.{◌≡◌, take, drop}
use Rattle.std.specs.Prelude.{filter}
use Rattle.std.specs.List.{enumerate_from}
use Rattle.find_traces.proofs.OfferedKeys.{best_of, is_wanted}
use Rattle.find_traces.proofs.best.best_after.Given as goal

abbrev pub invariant-loop-index : goal.invariant-loop-index
invariant-loop-index g l = record {
  keys : l.best.keys.keys ≡ take l.limit (best_of (filter (is_wanted (g.T.Searched.query l.fn.traces) (g.T.Searched.traces l.fn.traces) l.last)
      (enumerate_from l.index (drop l.index (g.T.Searched.traces l.fn.traces)))));
  limit : l.best.limit ≡ l.limit;
  same_traces : g.T.Searched.traces l.traces ≡ g.T.Searched.traces l.fn.traces;
  same_query : g.T.Searched.query l.traces ≡ g.T.Searched.query l.fn.traces;
}
