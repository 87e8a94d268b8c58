use Rattle.std.proofs.Common.{◌≡◌, ◌∙◌, sym, ap, subst, List}
use Rattle.std.specs.List.{list_any}
use Rattle.std.proofs.lemmas.Result.{IfOk-weaker}
use Rattle.jaeger_model.specs.declared.placed.Placed.{Placed}
use Rattle.trace_model.specs.declared.entry.Entry.{Entry}
use Rattle.trace_model.specs.declared.query.Find.{Find}
use Rattle.trace_model.specs.Searching.{matches}
use Rattle.trace_model.specs.TakenSpans.{placed_taken}
use Rattle.find_traces.specs.FoundIndices.{trace_at}
use Rattle.collected_traces.specs.CollectedCandidates.{entries_shared, trace_spotted, traces_picked, IsSearchingBy}
use Rattle.collected_traces.specs.TakenSearch.{traces_taken, query_taken}
use Rattle.collected_traces.proofs.taken_search.TakenSearchSearched.is_found_at.Goals as goal

pub is_found-requires : goal.is_found-requires
is_found-requires c =
    let was = c.self.inside in
    subst (λ (es : List Entry). IsSearchingBy was.prepared.now es was.judged was.classes) (sym c.entries.ensures) c.self.invariant

pub returns-clause-found : goal.returns-clause-found
returns-clause-found c =
    let was = c.self.inside in
    let own = matches was.prepared.now in
    let k = c.args.index in
    let spots = c.spots_picked-spots.result.now in
    IfOk-weaker c.is_found.result (λ b. b ≡ list_any own (placed_taken (trace_spotted (entries_shared c.entries.result.now) spots)))
    (λ b. b ≡ list_any (matches (query_taken c.args.self.now)) (trace_at (traces_taken c.args.self.now) k))
    (λ b e. e ∙ ap (λ es. list_any own (placed_taken (trace_spotted es spots))) c.entries.ensures ∙ ap (list_any own) c.spots_picked-spots.ensures
    ∙ ap (λ picked. list_any own (trace_at (traces_picked was.candidates.now picked) k)) c.deref.ensures.value
    ∙ ap (λ (s : Find × List (List Placed)). list_any (matches (query_taken s)) (trace_at (traces_taken s) k)) c.self.view_is)
    c.is_found.ensures.found
