use Rattle.std.proofs.Common.{◌≡◌, ◌∙◌, List, None, Option, ℕ, length, replicate, sym, ap, subst}
use Rattle.std.specs.Arc.{arc_value}
use Rattle.std.proofs.lemmas.List.{length-map}
use Rattle.trace_model.specs.declared.entry.Entry.{Entry}
use Rattle.journal_traces.specs.Numbered.{AreNumbers}
use Rattle.collected_traces.specs.CollectedCandidates.{CandidatesValue, traces_spotted}
use Rattle.journal_traces.proofs.Numbering.{none_known}
use Rattle.journal_traces.proofs.candidate_taking.take_candidates.Goals as goal

pub loop-trace-init : goal.loop-trace-init
loop-trace-init c =
    let h = c.args.store.journal.now.held.entries in
    let long : length c.entries.result.now ≡ length h = sym (length-map c.entries.result.now arc_value) ∙ ap length c.entries.ensures in
    let none = c.in_ok-numbers.ensures ∙ ap (λ n. replicate n None) long in
    let entries = ap (λ (s : CandidatesValue). s.entries) c.in_ok-taken.ensures in
    record {
      query = ap (λ (s : CandidatesValue). s.query) c.in_ok-taken.ensures;
      numbers = subst (λ (x : List Entry × List (Option ℕ)). AreNumbers h x.0 x.1) (λ i. (sym entries i, sym none i)) (none_known h);
      spans = ap traces_spotted c.in_ok-taken.ensures;
    }
