use Rattle.std.proofs.Common.{◌≡◌, ℕ, List, take}
use Rattle.std.specs.Ordering.{nat_cmp}
use Rattle.std.specs.BTreeMap.{get}
use Rattle.jaeger_model.specs.Texts.{text_cmp}
use Rattle.trace_adjust.specs.Hosts.{hosts_of, number_in, AreHostNumbers, AreKept}
use Rattle.trace_adjust.proofs.hosts.host_numbers.Given as goal

-- the table has the hosts so far, and the stored numbers are numbers of them
abbrev pub invariant-loop-index : goal.invariant-loop-index
invariant-loop-index l = record {
  table : (t : List ℕ) → get text_cmp l.numbers t ≡ number_in (hosts_of (take l.index l.trace)) t;
  hosts : AreHostNumbers (hosts_of l.trace) (take l.index l.trace) l.hosts.items;
  kept : AreKept l.trace l.process_keys l.index (get nat_cmp l.kept);
}
