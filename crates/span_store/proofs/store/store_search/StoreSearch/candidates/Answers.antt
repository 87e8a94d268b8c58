use Rattle.std.proofs.Common.{◌∙◌, ap, sym, subst}
use Rattle.std.proofs.lemmas.Bool.{OnFalse_at}
use Rattle.trace_model.specs.Searching.{found_in}
use Rattle.journal_traces.specs.SpansAtSpots.{traces_named}
use Rattle.span_store.specs.FoundAnswers.{FindsTheSame}
use Rattle.span_store.specs.StoreSearches.{StoreSearchValue}
use Rattle.span_store.proofs.CandidatesAreComplete.{nothing_found}
use Rattle.span_store.proofs.store.store_search.StoreSearch.candidates.Goals as goal

pub returns-then-not-self : goal.returns-then-not-self
returns-then-not-self c =
    let was = c.self.inside in
    let h = was.store.journal.now.held in
    let q = was.query.now in
    let none = OnFalse_at c.if-not-self.true c.self.invariant.known in
    let all : FindsTheSame h q c.new.result.items = ap (λ ss. found_in q (traces_named h.entries ss)) c.new.ensures.items ∙ nothing_found q ∙ sym none in
    subst (λ (v : StoreSearchValue). FindsTheSame v.held v.query c.new.result.items) c.self.view_is all
