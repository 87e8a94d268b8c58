use Rattle.std.proofs.Common.{◌≡◌, take}
use Rattle.call_links.specs.LinkTallies.{tallied}
use Rattle.span_store.proofs.window_links.links_of.Given as goal

abbrev pub invariant-loop-index : goal.invariant-loop-index
invariant-loop-index l = l.counts ≡ tallied (take l.index l.traces)
