use Rattle.std.proofs.Common.{◌∙◌, List, sym, ap}
use Rattle.jaeger_model.specs.Texts.{same_text}
use Rattle.trace_model.specs.declared.entry.Entry.{Entry}
use Rattle.trace_model.specs.declared.query.Find.{Find}
use Rattle.collected_traces.specs.EntriesAtPlaces.{process_at}
use Rattle.journal_traces.proofs.RequestedService.{is_requested_service}
use Rattle.journal_traces.proofs.number_conditions.NumberConditions.is_requested.Goals as goal

pub returns : goal.returns
returns c = λ process there.
    let n = c.self.inside in
    let q = n.query.now in
    let h = n.store.journal.now.held.entries in
    let service_numbers = n.store.by_service.now.service_numbers in
    let own = there ∙ sym (ap (λ (v : Find × List Entry). process_at v.1 c.args.place) c.self.view_is) in
    c.is_of_service.ensures ∙ is_requested_service q h service_numbers n.requested.service c.args.place process c.self.invariant.0 own
    ∙ ap (λ (v : Find × List Entry). same_text v.0.service process.service) c.self.view_is
