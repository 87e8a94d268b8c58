use Rattle.std.proofs.Common.{◌≡◌, ◌∙◌, ap, sym, subst}
use Rattle.std.specs.Prelude.{◌==◌}
use Rattle.std.specs.List.{list_all}
use Rattle.trace_model.specs.declared.query.Find.{Find}
use Rattle.trace_model.specs.Searching.{has_tag}
use Rattle.find_traces.specs.RequestedPairs.{pairs_lent}
use Rattle.find_traces.specs.PreparedSearches.{IsJudged, IsJudgementOf}
use Rattle.find_traces.proofs.RequestedPairs.{all_requested, none_requested, lent_length, lent_sorted}
use Rattle.find_traces.proofs.judged_process.JudgedProcess.has_all_tags.Goals as goal

pub returns-then-self-eq0 : goal.returns-then-self-eq0
returns-then-self-eq0 c = λ query process judged.
    let j = c.self.inside in
    let own = subst (IsJudgementOf query process) (sym c.self.view_is) judged in
    none_requested query process c.args.span.now (pairs_lent j.met.keys) j.missing own.pairs c.if-self-eq0.true

pub returns : goal.returns
returns c = λ query process judged.
    let j = c.self.inside in
    let own = subst (IsJudgementOf query process) (sym c.self.view_is) judged in
    let pairs = subst (λ (f : Find). IsJudged f process (pairs_lent j.met.keys) j.missing) (sym own.query) own.pairs in
    ap (λ n. n == j.missing) (c.len.ensures.len ∙ sym (lent_length c.in_ok-own.own.keys))
    ∙ all_requested j.prepared.now process c.args.span.now (pairs_lent c.in_ok-own.own.keys) (pairs_lent j.met.keys) j.missing pairs
    (lent_sorted c.in_ok-own.own.keys c.len.ensures.ordered) c.in_ok-own.ensures
    ∙ ap (λ (f : Find). list_all (has_tag (record { process = process; span = c.args.span.now })) f.tags) own.query
