use Rattle.std.proofs.Common.{◌≡◌, ◌∙◌, ◌++◌, ◌∷◌, ◌+◌, ◌<◌, [], ap, subst, sym, length, length-append}
use Rattle.std.specs.List.{All}
use Rattle.std.proofs.lemmas.List.{length-map, map_push}
use Rattle.std.proofs.lemmas.List.Elements.{All-push}
use Rattle.collected_traces.specs.TraceParts.{cut_at, AreStarts}
use Rattle.collected_traces.specs.CollectedCandidates.{CandidatesValue, IsSpotWithin, entry_shared, entries_shared, taken_spotted, trace_spotted}
use Rattle.collected_traces.proofs.TraceParts.{cut_push, starts_push}
use Rattle.collected_traces.proofs.collected_candidates.CollectedCandidates.push.Goals as goal

pub invariant_of-self-2 : goal.invariant_of-self-2
invariant_of-self-2 c =
    let was = c.self.inside in
    let count = length was.entries.items in
    let more : length c.push_tightly.new.list.items ≡ length was.spots.items + 1 =
    ap length c.in_ok-push_tightly.ensures.items ∙ length-append was.spots.items (c.args.spot ∷ []) in
    let long : length c.args.self.now.entries ≡ count =
    ap (λ (s : CandidatesValue). length s.entries) (sym c.self.view_is) ∙ length-map was.entries.items entry_shared in
    let own : c.args.spot.number < count = subst (λ n. c.args.spot.number < n) long c.requires in
    record {
      ordered = subst (λ n. AreStarts n was.starts.items) (sym more) (starts_push (length was.spots.items) was.starts.items c.self.invariant.ordered);
      correct = c.self.invariant.correct;
      within =
          subst (All (IsSpotWithin count)) (sym c.in_ok-push_tightly.ensures.items)
          (All-push (IsSpotWithin count) was.spots.items c.args.spot c.self.invariant.within own);
    }

pub returns-clause-traces : goal.returns-clause-traces
returns-clause-traces c = λ ts t is.
    let was = c.self.inside in
    let es = entries_shared was.entries.items in
    let f = taken_spotted es in
    let xs = trace_spotted es was.spots.items in
    let starts = was.starts.items in
    let ordered = subst (λ n. AreStarts n starts) (sym (length-map was.spots.items f)) c.self.invariant.ordered in
    ap (λ l. cut_at (trace_spotted es l) starts) c.in_ok-push_tightly.ensures.items
    ∙ ap (λ l. cut_at l starts) (map_push f was.spots.items c.args.spot)
    ∙ cut_push xs (f c.args.spot) starts ordered ts t (ap (λ (s : CandidatesValue). s.traces) c.self.view_is ∙ is)
    ∙ ap (λ (s : CandidatesValue). ts ++ (t ++ taken_spotted s.entries c.args.spot ∷ []) ∷ []) c.self.view_is
