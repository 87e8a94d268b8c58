use Rattle.std.proofs.Common.{rules, ◌≡◌, ◌∙◌, sym, ap, map, List, Some, None}
use Rattle.std.specs.Arc.{arc_value}
use Rattle.std.specs.Global.{Global}
use Rattle.trace_model.specs.declared.entry.Entry.{Entry}
use Rattle.trace_model.specs.ResentBatches.{sent_before}
use Rattle.trace_model.specs.Refusals.{repeated, admitted_anew}
use Rattle.trace_model.proofs.Admissions.{admission_repeated, admission_anew}
use Rattle.arrival_journal.specs.Journals.{Journaled}
use Rattle.arrival_journal.proofs.journal.Journal.judge.Goals as goal

pub returns-in-Some-clause-answer : goal.returns-in-Some-clause-answer
returns-in-Some-clause-answer c =
    let held = c.args.self.now.held in
    let e = c.args.recorded.now in
    let same : c.deref-in-Some.result.now ≡ e = search rules in
    let some : c.find.result ≡ Some c.in-Some.entry_index = search rules in
    let entries : map (arc_value {X = Entry} {Z = Global}) c.deref.result.now ≡ held.entries =
    ap (map (arc_value {X = Entry} {Z = Global})) c.deref.ensures.value ∙ ap (λ (v : Journaled). v.held.entries) c.self.view_is in
    let sought : c.deref-2.result.now ≡ e = search rules in
    let at : sent_before held.entries e ≡ Some c.in-Some.entry_index =
    ap (λ (h : List Entry). sent_before h e) (sym entries) ∙ ap (sent_before (map (arc_value {X = Entry} {Z = Global}) c.deref.result.now)) (sym sought)
    ∙ sym c.find.ensures ∙ some in
    c.judge_resent.ensures ∙ ap (λ (x : Entry). repeated held.entries x c.in-Some.entry_index) same
    ∙ sym (admission_repeated held.limits held.entries e c.in-Some.entry_index at)

pub returns-in-None-clause-answer : goal.returns-in-None-clause-answer
returns-in-None-clause-answer c =
    let held = c.args.self.now.held in
    let e = c.args.recorded.now in
    let same : c.deref-in-None.result.now ≡ e = search rules in
    let none : c.find.result ≡ None = search rules in
    let entries : map (arc_value {X = Entry} {Z = Global}) c.deref.result.now ≡ held.entries =
    ap (map (arc_value {X = Entry} {Z = Global})) c.deref.ensures.value ∙ ap (λ (v : Journaled). v.held.entries) c.self.view_is in
    let sought : c.deref-2.result.now ≡ e = search rules in
    let at : sent_before held.entries e ≡ None =
    ap (λ (h : List Entry). sent_before h e) (sym entries) ∙ ap (sent_before (map (arc_value {X = Entry} {Z = Global}) c.deref.result.now)) (sym sought)
    ∙ sym c.find.ensures ∙ none in
    c.judge_new.ensures ∙ ap (λ (x : Entry). admitted_anew held.limits held.entries x) same ∙ sym (admission_anew held.limits held.entries e at)
