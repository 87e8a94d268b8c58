use Rattle.std.proofs.Common.{◌≡◌, ◌∙◌, List, map, ap, sym}
use Rattle.jaeger_model.specs.declared.placed.Placed.{Placed}
use Rattle.trace_model.specs.Adjusting.{adjusted}
use Rattle.trace_model.specs.declared.answer.Answer.TheVariants as say
use Rattle.trace_model.specs.declared.query.Find.{Find}
use Rattle.trace_model.specs.Searching.{found_in, ids_of}
use Rattle.collected_traces.specs.CollectedCandidates.{traces_spotted}
use Rattle.span_store.specs.FoundAnswers.{found_answer}
use Rattle.span_store.proofs.collected_search.CollectedSearch.answer.Goals as goal

pub returns-then-ids_alone : goal.returns-then-ids_alone
returns-then-ids_alone c =
    let was = c.self.inside in
    let q : Find = was.traces.query in
    let ts : List (List Placed) = traces_spotted was.traces in
    let asked : c.in_ok-prepared.prepared ≡ q = c.in_ok-prepared.ensures ∙ c.query.ensures in
    ap say.Ids (c.from_vec.ensures ∙ c.in_ok-ids.ensures ∙ ap (λ (f : Find). ids_of (found_in f ts)) asked)
    ∙ ap (λ b. found_answer was.limits q b ts) (sym c.if-ids_alone.true) ∙ c.self.view_is

pub returns : goal.returns
returns c =
    let was = c.self.inside in
    let q : Find = was.traces.query in
    let ts : List (List Placed) = traces_spotted was.traces in
    let asked : c.in_ok-prepared.prepared ≡ q = c.in_ok-prepared.ensures ∙ c.query.ensures in
    let found = c.in_ok-found.ensures.found ∙ ap (λ (f : Find). found_in f ts) asked in
    ap say.Traces (c.from_vec-2.ensures ∙ c.in_ok-kept.ensures ∙ ap (map (adjusted was.limits.max_skew)) found)
    ∙ ap (λ b. found_answer was.limits q b ts) (sym c.if-ids_alone.false) ∙ c.self.view_is
