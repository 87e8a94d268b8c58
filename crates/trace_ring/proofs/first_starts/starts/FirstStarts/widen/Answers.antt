use Rattle.std.proofs.Common.{◌+◌, ◌/◌, ◌<◌, get_or, sym, subst, length, drop}
use Rattle.trace_ring.specs.FirstStarts.{Starts}
use Rattle.trace_ring.specs.StartRanges.{IsWider, no_range, range_at}
use Rattle.trace_ring.proofs.BlockRanges.{block_known}
use Rattle.trace_ring.proofs.first_starts.starts.FirstStarts.widen.Goals as goal

pub returns-clause-none_narrows : goal.returns-clause-none_narrows
returns-clause-none_narrows c = λ k below.
    let s = c.self.inside in
    let here : k < length (drop s.evicted s.opened.items) = subst (λ (v : Starts). k < length v.starts) (sym c.self.view_is) below in
    let known = block_known s.opened.items s.evicted (length s.ranges.items) k c.self.invariant.4 here in
    subst (λ (v : Starts). IsWider (range_at v k) (get_or c.widen.new.ranges.items ((s.evicted + k) / 256) no_range)) c.self.view_is
    (c.widen.ensures.none_narrows ((s.evicted + k) / 256) known)
