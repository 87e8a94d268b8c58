use Rattle.std.proofs.Common.{◌∙◌, ap}
use Rattle.trace_model.specs.declared.answer.Answer.TheVariants as say
use Rattle.trace_model.specs.declared.query.Find.{Find}
use Rattle.trace_model.specs.Searching.{found_in, ids_of}
use Rattle.journal_traces.specs.SpansAtSpots.{traces_named}
use Rattle.span_store.specs.StoreSearches.{StoreSearchValue}
use Rattle.span_store.proofs.store.store_search.StoreSearch.found_ids.Goals as goal

pub returns : goal.returns
returns c =
    let search : StoreSearchValue = c.args.self.now in
    let among = c.among-traces.ensures in
    ap say.Ids (
    c.from_vec.ensures ∙ c.in_ok-ids.ensures
    ∙ (λ i. ids_of (found_in (among.query i) (traces_named (among.entries i) (among.spots i))))
    ∙ ap (λ (f : Find). ids_of (found_in f (traces_named search.held.entries c.args.spots.now)))
    (c.in_ok-prepared.ensures ∙ ap (λ (v : StoreSearchValue). v.query) c.self.view_is)
    ∙ ap ids_of c.requires)
