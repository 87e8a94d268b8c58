use Rattle.std.proofs.Common.{◌≡◌, ◌∙◌, ◌<◌, ◌≤◌, false, List, length, ap, refl, sym, subst, arith}
use Rattle.std.specs.List.{list_any, AllZip}
use Rattle.std.proofs.lemmas.List.{length-map, map_push, take_all}
use Rattle.jaeger_model.specs.declared.placed.Placed.{Placed}
use Rattle.trace_model.specs.declared.entry.Entry.{Entry}
use Rattle.trace_model.specs.Searching.{matches, matching}
use Rattle.trace_model.specs.TakenSpans.{placed_taken}
use Rattle.find_traces.specs.FoundIndices.{trace_at}
use Rattle.collected_traces.specs.CollectedCandidates.{CandidatesValue, IsMatchFlag, entries_shared}
use Rattle.collected_traces.specs.CollectedCandidates.{trace_spotted, traces_spotted, traces_picked, may_spots_meet}
use Rattle.collected_traces.proofs.TraceParts.{cuts}
use Rattle.collected_traces.proofs.TakenSpans.{placed_got}
use Rattle.collected_traces.proofs.TracesAtSpots.{trace_kept, trace_passed, trace_unmet, matching_found, none_matching}
use Rattle.collected_traces.proofs.collected_candidates.CollectedCandidates.indices_that_may_meet.Goals as goal
use Rattle.collected_traces.proofs.collected_candidates.CollectedCandidates.indices_that_may_meet.Goals.{then-may_spots_meet+in_ok-push, else-may_spots_meet}

pub loop-index-preserved : goal.loop-index-preserved
loop-index-preserved c =
    let v : CandidatesValue = c.args.self.now in
    let q = c.args.prepared.now in
    let was = c.self.inside in
    let xs : List (List Placed) = traces_spotted v in
    let k = c.loop-index.index in
    let ss = c.spots.result.now in
    let done : List (List Placed) = traces_picked v c.loop-index.picked.items in
    let many : length v.traces ≡ length was.starts.items =
    ap (λ (s : CandidatesValue). length s.traces) (sym c.self.view_is)
    ∙ cuts (trace_spotted (entries_shared was.entries.items) was.spots.items) was.starts.items in
    let le : k < length xs = omega (arith, many, length-map v.traces placed_taken, c.loop-index-test.true, c.len-count.ensures) in
    elim c.if-may_spots_meet.branch [
      | then-may_spots_meet+in_ok-push w ↦
          ap (λ p. matching q (traces_picked v p.items)) w.picked-is
          ∙ ap (λ l. matching q (traces_picked v l)) w.in_ok-push.ensures.items
          ∙ ap (matching q) (map_push (trace_at xs) c.loop-index.picked.items k)
          ∙ trace_kept q done xs k (trace_at xs k) le c.loop-index.invariant refl
      | else-may_spots_meet w ↦
          let unmet = ap (λ m. may_spots_meet m ss) (sym c.as_slice-flags.ensures.value) ∙ sym c.may_spots_meet.ensures ∙ w.if-may_spots_meet.false in
          let is : placed_taken (trace_spotted v.entries ss) ≡ trace_at xs k = ap placed_taken c.spots.ensures ∙ placed_got v.traces k in
          let none : list_any (matches q) (trace_at xs k) ≡ false =
          ap (list_any (matches q)) (sym is) ∙ trace_unmet q v.entries c.args.judged.now.flags.items ss c.requires.flags unmet in
          ap (λ p. matching q (traces_picked v p.items)) w.picked-is ∙ trace_passed q done xs k (trace_at xs k) le c.loop-index.invariant refl none
    ]

pub returns : goal.returns
returns c =
    let v : CandidatesValue = c.args.self.now in
    let q = c.args.prepared.now in
    let was = c.self.inside in
    let xs : List (List Placed) = traces_spotted v in
    let many : length v.traces ≡ length was.starts.items =
    ap (λ (s : CandidatesValue). length s.traces) (sym c.self.view_is)
    ∙ cuts (trace_spotted (entries_shared was.entries.items) was.spots.items) was.starts.items in
    let end : length xs ≤ c.loop-index.index = omega (arith, many, length-map v.traces placed_taken, c.loop-index-test.false, c.len-count.ensures) in
    matching_found q (traces_picked v c.loop-index.picked.items) xs (c.loop-index.invariant ∙ ap (matching q) (take_all c.loop-index.index xs end))

pub returns-then-not-may_any_meet : goal.returns-then-not-may_any_meet
returns-then-not-may_any_meet c =
    let v : CandidatesValue = c.args.self.now in
    let q = c.args.prepared.now in
    let was = c.self.inside in
    let flags = c.args.judged.now.flags.items in
    let own : entries_shared was.entries.items ≡ v.entries = ap (λ (s : CandidatesValue). s.entries) c.self.view_is in
    let correct = subst (λ (es : List Entry). AllZip (IsMatchFlag q) es flags) (sym own) c.requires.flags in
    let none = ap (list_any (λ b. b)) (sym c.as_slice-flags.ensures.value) ∙ sym c.may_any_meet.ensures ∙ c.if-not-may_any_meet.true in
    matching_found q (traces_picked v c.new.result.items) (traces_spotted v)
    (ap (λ l. matching q (traces_picked v l)) c.new.ensures.items
    ∙ sym (none_matching q (entries_shared was.entries.items) flags was.spots.items correct none was.starts.items)
    ∙ ap (λ (s : CandidatesValue). matching q (traces_spotted s)) c.self.view_is)
