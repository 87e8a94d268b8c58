use Rattle.std.proofs.Common.{◌≡◌, take, drop}
use Rattle.std.specs.Prelude.{IfSome}
use Rattle.std.specs.List.{enumerate_from}
use Rattle.find_traces.specs.BestKeys.{IsWorst}
use Rattle.find_traces.proofs.OfferedKeys.{best_of}
use Rattle.find_traces.proofs.best.latest_keys.Given as goal

abbrev pub invariant-loop-index : goal.invariant-loop-index
invariant-loop-index g l = record {
  keys : l.latest.keys.keys ≡ take l.limit (best_of (enumerate_from l.index (drop l.index (g.T.Searched.traces l.traces))));
  limit : l.latest.limit ≡ l.limit;
  worst : IfSome l.worst (IsWorst l.latest.keys.keys l.latest.limit);
}
