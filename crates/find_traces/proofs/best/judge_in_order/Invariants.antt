use Rattle.std.proofs.Common.{◌≡◌, List, ◌++◌, map, length}
use Rattle.std.specs.Prelude.{filter}
use Rattle.std.specs.declared.cmp.Reverse.{Reverse}
use Rattle.find_traces.specs.declared.key.Key.{Key}
use Rattle.find_traces.specs.Keys.{reverse_key_index}
use Rattle.find_traces.specs.BestKeys.{is_match}
use Rattle.find_traces.proofs.best.judge_in_order.Given as goal

abbrev pub invariant-loop-key : goal.invariant-loop-key
invariant-loop-key g l = record {
  judged : List (Reverse Key);
  all : l.fn.keys.keys.keys ≡ judged ++ l.keys.keys.keys;
  found : l.indices.items ≡ map reverse_key_index (filter (is_match (g.T.Searched.query l.fn.traces) (g.T.Searched.traces l.fn.traces)) judged);
  same_traces : g.T.Searched.traces l.traces ≡ g.T.Searched.traces l.fn.traces;
  same_query : g.T.Searched.query l.traces ≡ g.T.Searched.query l.fn.traces;
}

abbrev pub decreases-loop-key : goal.decreases-loop-key
decreases-loop-key g l = length l.keys.keys.keys
