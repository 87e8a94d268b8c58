use Rattle.std.proofs.Common.{◌∙◌, ap}
use Rattle.std.proofs.lemmas.Map.Made.{length-from_keys}
use Rattle.find_traces.specs.RequestedPairs.{requested_count}
use Rattle.find_traces.proofs.RequestedPairs.{pair_laws, distinct_pairs}
use Rattle.find_traces.proofs.prepared.PreparedSearch.count.Goals as goal

pub returns : goal.returns
returns c =
    c.len.ensures.len ∙ length-from_keys pair_laws c.self.inside.pairs.keys c.self.inside.query.now.tags
    (distinct_pairs c.self.inside.pairs.keys c.len.ensures.ordered) c.self.invariant.pairs_requested
    ∙ ap requested_count c.self.view_is
