use Rattle.std.proofs.Common.{◌≡◌, ◌∙◌, ◌∷◌, [], ap, sym}
use Rattle.std.specs.List.{list_any}
use Rattle.std.proofs.lemmas.Result.{IfOk-weaker}
use Rattle.trace_model.specs.Searching.{matches}
use Rattle.trace_model.specs.BorrowedSpans.{seen, placed_by_its_entry}
use Rattle.trace_model.specs.TakenSpans.{placed_taken}
use Rattle.span_steps.specs.SpanConditions.{meets_span_conditions}
use Rattle.collected_traces.specs.ProcessConditions.{of_service_with_tags}
use Rattle.collected_traces.specs.CollectedCandidates.{entries_shared, process_numbered, trace_spotted}
use Rattle.collected_traces.proofs.SpanConditions.{fails_span, passes_span}
use Rattle.collected_traces.proofs.TracesAtSpots.{entry_unmet, process_spotted, spot_met}
use Rattle.collected_traces.proofs.taken_search.is_match.Goals as goal

pub returns-then-not-may_meet-clause-found : goal.returns-then-not-may_meet-clause-found
returns-then-not-may_meet-clause-found c =
    sym (entry_unmet c.args.prepared.now (entries_shared c.args.entries.now) c.args.judged.now.flags.items c.args.spot c.requires.judged.flags
    (sym c.may_meet.ensures ∙ c.if-not-may_meet.true))

pub returns-then-not-meets_span_conditions-clause-found : goal.returns-then-not-meets_span_conditions-clause-found
returns-then-not-meets_span_conditions-clause-found c =
    let q = c.args.prepared.now in
    let at = c.in-Some.at in
    let asked = ap (λ f. meets_span_conditions f (seen at)) (sym c.query.ensures) in
    let fails = asked ∙ sym c.meets_span_conditions.ensures ∙ c.if-not-meets_span_conditions.true in
    sym (sym (spot_met q (entries_shared c.args.entries.now) c.args.spot at c.in-Some.ensures) ∙ fails_span q (seen at) fails)

pub returns-in_err-number-clause-searching : goal.returns-in_err-number-clause-searching
returns-in_err-number-clause-searching c =
    let es = entries_shared c.args.entries.now in
    let at = c.in-Some.at in
    let own = process_spotted es c.args.spot (placed_by_its_entry at) c.in-Some.ensures in
    record {
      judged = c.requires.judged;
      leads = c.in_err-number.ensures.leads (process_numbered es) (sym own) c.requires.leads;
    }

pub returns-clause-found : goal.returns-clause-found
returns-clause-found c =
    let q = c.args.prepared.now in
    let es = entries_shared c.args.entries.now in
    let process_of = process_numbered es in
    let at = c.in-Some.at in
    let s = c.args.spot in
    let own = process_spotted es s (placed_by_its_entry at) c.in-Some.ensures in
    let same = own ∙ sym (c.in_ok-number.ensures.same process_of (sym own) c.requires.leads) in
    let asked = ap (λ f. meets_span_conditions f (seen at)) (sym c.query.ensures) in
    let passes = asked ∙ sym c.meets_span_conditions.ensures ∙ c.if-not-meets_span_conditions.false in
    IfOk-weaker c.has_judged_tags.result (λ b. b ≡ of_service_with_tags q (seen at))
    (λ b. b ≡ list_any (matches q) (placed_taken (trace_spotted es (s ∷ []))))
    (λ b e. e ∙ passes_span q (seen at) passes ∙ spot_met q es s at c.in-Some.ensures)
    (c.has_judged_tags.ensures.found process_of c.requires.judged.processes same)

pub returns-clause-searching : goal.returns-clause-searching
returns-clause-searching c =
    let es = entries_shared c.args.entries.now in
    let process_of = process_numbered es in
    let at = c.in-Some.at in
    let own = process_spotted es c.args.spot (placed_by_its_entry at) c.in-Some.ensures in
    let same = own ∙ sym (c.in_ok-number.ensures.same process_of (sym own) c.requires.leads) in
    record {
      judged = record {
        flags = c.requires.judged.flags;
        processes = c.has_judged_tags.ensures.judged process_of c.requires.judged.processes same;
      };
      leads = c.in_ok-number.ensures.leads process_of (sym own) c.requires.leads;
    }
