use Rattle.std.proofs.Common.{◌≡◌, ◌∙◌, List, map, length, ap, sym, arith}
use Rattle.jaeger_model.specs.declared.placed.Placed.{Placed}
use Rattle.trace_model.specs.declared.answer.Answer.TheVariants as say
use Rattle.trace_model.specs.declared.limits.Limits.{Limits}
use Rattle.trace_model.specs.declared.entry.Entry.{Entry}
use Rattle.trace_model.specs.Adjusting.{adjusted}
use Rattle.trace_model.specs.Histories.{events}
use Rattle.trace_model.specs.declared.query.Find.{Find}
use Rattle.trace_model.specs.Searching.{found_in, traces}
use Rattle.collected_traces.specs.EntriesAtPlaces.{process_at}
use Rattle.journal_traces.specs.SpansAtSpots.{traces_named}
use Rattle.trace_model.specs.TakenSpans.{placed_taken}
use Rattle.span_store.specs.StoreSearches.{StoreSearchValue}
use Rattle.span_store.proofs.store.store_search.StoreSearch.found_traces.Goals as goal

pub take_found-requires : goal.take_found-requires
take_found-requires c =
    let same = ap (length {A = Entry}) c.among.ensures.entries ∙ sym (ap (λ (v : StoreSearchValue). length v.held.entries) c.self.view_is) in
    omega (arith, same, c.self.invariant.told.few)

pub new-traces-requires : goal.new-traces-requires
new-traces-requires c = record { process_of = process_at c.among.result.store.journal.now.held.entries; each = c.in_ok-found.ensures.numbers }

pub returns : goal.returns
returns c =
    let search : StoreSearchValue = c.args.self.now in
    let among = c.among.ensures in
    let prepared = c.in_ok-prepared.ensures ∙ ap (λ (v : StoreSearchValue). v.query) c.self.view_is in
    let limits = c.limits.ensures ∙ ap (λ (v : StoreSearchValue). v.held.limits) c.self.view_is in
    let found : map placed_taken c.in_ok-found.found ≡ found_in search.query (traces search.held.limits.traces (events search.held.entries)) =
    c.in_ok-found.ensures.found
    ∙ (λ i. found_in (among.query i) (traces_named (among.entries i) (among.spots i)))
    ∙ ap (λ (f : Find). found_in f (traces_named search.held.entries c.args.spots.now)) prepared
    ∙ c.requires in
    c.new-traces.ensures ∙ ap (λ (l : Limits). say.Traces (map (adjusted l.max_skew) (map placed_taken c.in_ok-found.found))) limits
    ∙ ap (λ (ts : List (List Placed)). say.Traces (map (adjusted search.held.limits.max_skew) ts)) found
