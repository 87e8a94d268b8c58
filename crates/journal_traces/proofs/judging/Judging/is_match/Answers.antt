use Rattle.std.proofs.Common.{◌≡◌, ◌∙◌, refl, Bool, ◌&&◌, true, false, List, Some, sym, ap, subst}
use Rattle.std.specs.List.{list_all}
use Rattle.std.specs.Prelude.{IsSome}
use Rattle.std.proofs.lemmas.Result.{IfOk-weaker}
use Rattle.jaeger_model.specs.Texts.{same_text}
use Rattle.trace_model.specs.declared.entry.Entry.{Entry}
use Rattle.trace_model.specs.declared.query.Find.{Find}
use Rattle.trace_model.specs.BorrowedSpans.{seen, placed_by_its_entry}
use Rattle.trace_model.specs.Searching.{matches, is_timed, has_tag}
use Rattle.trace_assembly.specs.LocatedSpans.{span_at}
use Rattle.span_steps.specs.SpanConditions.{has_operation, meets_span_conditions}
use Rattle.collected_traces.specs.EntriesAtPlaces.{process_at}
use Rattle.collected_traces.proofs.Processes.{process_there}
use Rattle.collected_traces.proofs.SpanConditions.{fails_span, passes_span}
use Rattle.journal_traces.proofs.judging.Judging.is_match.Goals as goal

pub is_requested-requires : goal.is_requested-requires
is_requested-requires c =
    let same : c.self.inside.conditions ≡ c.args.self.now = c.self.invariant ∙ c.self.view_is in
    let there : Some c.args.at.process.now ≡ process_at c.self.inside.conditions.1 c.args.spot.place =
    process_there c.args.self.now.1 c.args.spot (placed_by_its_entry c.args.at) c.requires
    ∙ ap (λ (v : Find × List Entry). process_at v.1 c.args.spot.place) (sym same) in
    subst IsSome there refl

pub is_met-requires-clause-there : goal.is_met-requires-clause-there
is_met-requires-clause-there c =
    let same : c.self.inside.conditions ≡ c.args.self.now = c.self.invariant ∙ c.self.view_is in
    c.requires ∙ ap (λ (v : Find × List Entry). span_at v.1 c.args.spot) (sym same)

pub is_met-requires-clause-service : goal.is_met-requires-clause-service
is_met-requires-clause-service c =
    let same : c.self.inside.conditions ≡ c.args.self.now = c.self.invariant ∙ c.self.view_is in
    let there : Some c.args.at.process.now ≡ process_at c.self.inside.conditions.1 c.args.spot.place =
    process_there c.args.self.now.1 c.args.spot (placed_by_its_entry c.args.at) c.requires
    ∙ ap (λ (v : Find × List Entry). process_at v.1 c.args.spot.place) (sym same) in
    sym (c.is_requested.ensures c.args.at.process.now there) ∙ c.if-not-is_requested.false

pub returns-then-not-is_requested : goal.returns-then-not-is_requested
returns-then-not-is_requested c =
    let q = c.args.self.now.0 in
    let p = seen c.args.at in
    let same : c.self.inside.conditions ≡ c.args.self.now = c.self.invariant ∙ c.self.view_is in
    let there : Some p.process ≡ process_at c.self.inside.conditions.1 c.args.spot.place =
    process_there c.args.self.now.1 c.args.spot (placed_by_its_entry c.args.at) c.requires
    ∙ ap (λ (v : Find × List Entry). process_at v.1 c.args.spot.place) (sym same) in
    let other : same_text q.service p.process.service ≡ false =
    ap (λ (v : Find × List Entry). same_text v.0.service p.process.service) (sym same) ∙ sym (c.is_requested.ensures p.process there)
    ∙ c.if-not-is_requested.true in
    sym (ap (λ b. ((b && has_operation q p) && is_timed q p) && list_all (has_tag p) q.tags) other)

pub returns-then-not-is_met : goal.returns-then-not-is_met
returns-then-not-is_met c =
    let q = c.args.self.now.0 in
    let p = seen c.args.at in
    let same : c.self.inside.conditions ≡ c.args.self.now = c.self.invariant ∙ c.self.view_is in
    let fails : meets_span_conditions q p ≡ false =
    ap (λ (v : Find × List Entry). meets_span_conditions v.0 p) (sym same) ∙ sym c.is_met.ensures ∙ c.if-not-is_met.true in
    sym (fails_span q p fails)

pub returns : goal.returns
returns c =
    let q = c.args.self.now.0 in
    let p = seen c.args.at in
    let same : c.self.inside.conditions ≡ c.args.self.now = c.self.invariant ∙ c.self.view_is in
    let prepared : c.self.inside.prepared.now ≡ q = ap (λ (v : Find × List Entry). v.0) c.self.view_is in
    let there : Some p.process ≡ process_at c.self.inside.conditions.1 c.args.spot.place =
    process_there c.args.self.now.1 c.args.spot (placed_by_its_entry c.args.at) c.requires
    ∙ ap (λ (v : Find × List Entry). process_at v.1 c.args.spot.place) (sym same) in
    let own : same_text q.service p.process.service ≡ true =
    ap (λ (v : Find × List Entry). same_text v.0.service p.process.service) (sym same) ∙ sym (c.is_requested.ensures p.process there)
    ∙ c.if-not-is_requested.false in
    let met : meets_span_conditions q p ≡ true =
    ap (λ (v : Find × List Entry). meets_span_conditions v.0 p) (sym same) ∙ sym c.is_met.ensures ∙ c.if-not-is_met.false in
    let tags : (f : Find) → Bool = λ f. list_all (has_tag p) f.tags in
    IfOk-weaker c.has_all_tags.result (λ b. b ≡ tags c.self.inside.prepared.now) (λ b. b ≡ matches q p)
    (λ b e. e ∙ ap tags prepared ∙ ap (λ b. b && tags q) (sym own) ∙ passes_span q p met)
    (c.has_all_tags.ensures c.self.inside.prepared.now p.process c.in_ok-process.ensures)
