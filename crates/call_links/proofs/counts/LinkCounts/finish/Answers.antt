use Rattle.std.proofs.Common.{◌≡◌, ◌∙◌, ap, map}
use Rattle.std.specs.Prelude.{unwrap_or}
use Rattle.trace_model.specs.ServiceLinks.{counted}
use Rattle.call_links.specs.NumberedCalls.{calls_in_traces, numbers_called}
use Rattle.call_links.specs.LinkTallies.{LinkTallies, tallies_seen, tally_of}
use Rattle.call_links.specs.ServiceRanks.{rank_of, numbers_by_name, ranked, link_of}
use Rattle.call_links.proofs.ServiceNumbers.{calls_stand, calls_by_texts}
use Rattle.call_links.proofs.CountedCalls.{tallied_is}
use Rattle.call_links.proofs.TalliesByName.{linked}
use Rattle.call_links.proofs.counts.LinkCounts.finish.Goals as goal

pub returns : goal.returns
returns c = λ traces numbered all.
    let text = numbered.0 in
    let number = numbered.1.0 in
    let named = numbered.1.1 in
    let stand = calls_stand text number traces named in
    let es = tallies_seen c.self.inside.tallies.entries in
    let known : es ≡ tally_of text (map numbers_called (calls_in_traces traces)) = c.self.view_is ∙ all ∙ tallied_is text number traces stand in
    c.in_ok-links.ensures ∙ ap (map (λ e. link_of e.1)) c.in_ok-ordered.ensures
    ∙ ap (λ (ts : LinkTallies). map (λ e. link_of e.1) (ranked (λ n. unwrap_or (rank_of (numbers_by_name ts) n) 0) ts)) known
    ∙ linked text number (calls_in_traces traces) stand ∙ ap counted (calls_by_texts text number traces named)
