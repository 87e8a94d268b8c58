use Rattle.std.proofs.Common.{◌≡◌, ◌<◌, sym, ◌∙◌, ap, map, ◌++◌, ◌∷◌, [], length, arith}
use Rattle.std.proofs.lemmas.List.{take_all}
use Rattle.find_traces.specs.FoundIndices.{hits}
use Rattle.find_traces.specs.FoundIndices.{trace_at}
use Rattle.find_traces.specs.Keys.{found_at, key_of, reverse_key_of}
use Rattle.find_traces.proofs.Found.{hits_hit, hits_miss}
use Rattle.find_traces.proofs.matched.all_hits.Goals as goal
use Rattle.find_traces.proofs.matched.all_hits.Goals.{then-branch+in_ok-push_tightly, else-branch}

pub loop-index-preserved : goal.loop-index-preserved
loop-index-preserved g c =
    let q = (g.T.Searched.query c.args.traces.now) in
    let ts = g.T.Searched.traces c.args.traces.now in
    let k = c.loop-index.index in
    let kept = c.loop-index.invariant in
    let same_traces = c.in_ok-is_found_at.ensures.same_traces ∙ kept.same_traces in
    let below : k < length ts = omega arith in
    let judged : c.in_ok-is_found_at.field-0 ≡ found_at q ts k =
    c.in_ok-is_found_at.ensures.found ∙ (λ i. found_at (kept.same_query i) (kept.same_traces i) k) in
    record {
      found = elim c.if-branch.branch [
        | then-branch+in_ok-push_tightly w ↦
            ap (λ v. v.items) w.found-is ∙ w.in_ok-push_tightly.ensures.items
            ∙ (λ i. kept.found i ++ record { 0 = (w.key_at.ensures ∙ ap (λ l. key_of (k, trace_at l k)) same_traces) i } ∷ [])
            ∙ sym (hits_hit q ts k below (sym judged ∙ w.if-branch.true))
        | else-branch w ↦
            ap (λ v. v.items) w.found-is ∙ kept.found
            ∙ sym (hits_miss q ts k below (sym judged ∙ w.if-branch.false))
      ];
      same_traces = same_traces;
      same_query = c.in_ok-is_found_at.ensures.same_query ∙ kept.same_query;
    }

pub returns-clause-found : goal.returns-clause-found
returns-clause-found g c =
    let q = (g.T.Searched.query c.args.traces.now) in
    let ts = g.T.Searched.traces c.args.traces.now in
    c.loop-index.invariant.found ∙ ap (λ l. map reverse_key_of (hits q l)) (take_all c.loop-index.index ts (omega arith))
