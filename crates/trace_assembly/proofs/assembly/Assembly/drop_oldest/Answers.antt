use Rattle.std.proofs.Common.{◌∙◌, length, sym, ap, List}
use Rattle.std.specs.Prelude.{position}
use Rattle.jaeger_model.specs.Parents.{same_trace}
use Rattle.trace_ring.specs.RingValues.{evicted_trace}
use Rattle.trace_assembly.specs.declared.spot.Spot.{Spot}
use Rattle.trace_assembly.specs.AssembledRows.{Assembled, spots_in_row, spots_of}
use Rattle.trace_assembly.specs.LocatedSpans.{after_eviction}
use Rattle.trace_assembly.proofs.WrittenRows.{spots_left}
use Rattle.trace_assembly.proofs.assembly.Assembly.drop_oldest.Goals as goal

pub returns-clause-spots : goal.returns-clause-spots
returns-clause-spots c = λ t.
    let chains = c.self.inside.chains.chains in
    let dropped = c.drop_oldest-evicted in
    let left = dropped.result in
    let seen = dropped.ensures.seen in
    ap (λ (cs : List (List Spot)). spots_in_row cs (position (same_trace t) dropped.new.self.seen)) c.hide_evicted.ensures.chains
    ∙ spots_left dropped.new.self.seen chains left t (c.self.invariant.as_many ∙ sym (ap length seen)) dropped.ensures.row
    ∙ (λ i. after_eviction (evicted_trace left) (λ u. spots_in_row chains (position (same_trace u) (seen i))) t)
    ∙ ap (λ (w : Assembled). after_eviction (evicted_trace left) (spots_of w) t) c.self.view_is
