use Rattle.std.proofs.Common.{◌≡◌, ◌∙◌, ℕ, ◌-◌, List, [], ◌∷◌, ◌++◌, length, map, refl, ap, sym, subst, arith}
use Rattle.std.specs.Prelude.{Vec}
use Rattle.std.specs.Arc.{arc_value}
use Rattle.std.specs.Global.{Global}
use Rattle.std.proofs.lemmas.List.{length-map, length-take-le}
use Rattle.jaeger_model.specs.declared.span.Span.{Span}
use Rattle.trace_model.specs.declared.entry.Entry.{Entry}
use Rattle.jaeger_model.specs.Tags.{kind_of}
use Rattle.trace_model.specs.EntryWork.{spans_brought}
use Rattle.jaeger_model.specs.declared.kind.Kind.{Kind}
use Rattle.jaeger_model.specs.Kinds.{kind_text}
use Rattle.arrival_journal.specs.KindTexts.{first_kinds}
use Rattle.service_index.specs.KeptNames.{AreKinds}
use Rattle.trace_model.specs.Histories.{before_last}
use Rattle.trace_model.proofs.LastEntries.{last_entry}
use Rattle.service_index.specs.ArrivalNumbers.{Numbered, AreOf}
use Rattle.service_index.proofs.NumbersOfEntry.{Filled, numbers_more}
use Rattle.service_index.proofs.KeptKinds.{kinds_more}
use Rattle.service_index.proofs.arrival_names.numbers.ArrivalNumbers.add.Goals as goal

pub overflow_cast-len : goal.overflow_cast-len
overflow_cast-len c = let within = c.self.invariant.2 in omega arith

pub returns-clause-numbers : goal.returns-clause-numbers
returns-clause-numbers c =
    let entries = c.args.entries.now in
    let h : List Entry = map (arc_value {X = Entry} {Z = Global}) entries in
    let before = before_last h in
    let a = c.index-entries-entry_index.result in
    let e = arc_value a in
    let l : length h ≡ length entries = length-map entries (arc_value {X = Entry} {Z = Global}) in
    let last : length before ≡ length h - 1 = length-take-le (length h - 1) h (omega arith) in
    let whole : before ++ e ∷ [] ≡ h = last_entry entries a e (omega arith) c.index-entries-entry_index.is refl in
    let old = c.self.inside in
    let numbers : AreOf before old.entry_of.items old.firsts.items =
    subst (λ (v : Numbered). AreOf before v.entry_of v.firsts) (sym c.self.view_is) c.requires.numbers in
    let items = ap (λ (ss : List Span). length ss) (c.spans-span-items.ensures ∙ ap (λ (x : Entry). spans_brought x.work) c.deref.ensures) in
    let spans : c.loop-span._span-index ≡ length (spans_brought e.work) = omega (arith, c.loop-span-test.false, c.loop-span.auto._span-index-end) in
    let place : length entries - 1 ≡ length before = omega arith in
    let now = c.loop-span.self-inside.entry_of.items in
    let filled : Filled old.entry_of.items (length before) (length (spans_brought e.work)) now =
    subst (λ (n : ℕ). Filled old.entry_of.items n (length (spans_brought e.work)) now) place
    (subst (λ (k : ℕ). Filled old.entry_of.items (length entries - 1) k now) spans c.loop-span.invariant.0) in
    let first : c.len.result ≡ length old.entry_of.items = omega arith in
    let firsts : c.loop-span.self-inside.firsts.items ≡ old.firsts.items ++ length old.entry_of.items ∷ [] =
    ap (λ (v : Vec ℕ Global). v.items) c.loop-span.invariant.2 ∙ c.push_reserved.ensures.items ∙ ap (λ n. old.firsts.items ++ n ∷ []) first in
    subst (λ (x : List Entry). AreOf x now c.loop-span.self-inside.firsts.items) whole
    (subst (λ (fs : List ℕ). AreOf (before ++ e ∷ []) now fs) (sym firsts) (numbers_more before e old.entry_of.items old.firsts.items now numbers filled))

pub returns-clause-kinds : goal.returns-clause-kinds
returns-clause-kinds c =
    let entries = c.args.entries.now in
    let h : List Entry = map (arc_value {X = Entry} {Z = Global}) entries in
    let before = before_last h in
    let a = c.index-entries-entry_index-2.result in
    let e = arc_value a in
    let whole : before ++ e ∷ [] ≡ h = last_entry entries a e (omega arith) c.index-entries-entry_index-2.is refl in
    let old = c.self.inside in
    let kinds : AreKinds before old.kinds.items = subst (λ (v : Numbered). AreKinds before v.kinds) (sym c.self.view_is) c.requires.kinds in
    let spans : c.spans.result.now ≡ spans_brought e.work = c.spans.ensures ∙ ap (λ (x : Entry). spans_brought x.work) c.deref-2.ensures in
    let same = ap (λ (v : Vec Kind Global). map kind_text v.items) c.loop-span.invariant.3 in
    let now = c.add_kinds.new.kinds.items in
    let all : map kind_text now ≡ map kind_text old.kinds.items ++ map kind_of (spans_brought e.work) =
    c.add_kinds.ensures.kinds ∙ (λ i. same i ++ ap (λ (ss : List Span). map kind_of ss) spans i) in
    subst (λ (x : List Entry). AreKinds x now) whole (kinds_more before e old.kinds.items now kinds all)

pub add_kinds-requires-clause-first : goal.add_kinds-requires-clause-first
add_kinds-requires-clause-first c =
    let entries = c.args.entries.now in
    let h : List Entry = map (arc_value {X = Entry} {Z = Global}) entries in
    let a = c.index-entries-entry_index-2.result in
    let e = arc_value a in
    let whole : before_last h ++ e ∷ [] ≡ h = last_entry entries a e (omega arith) c.index-entries-entry_index-2.is refl in
    let spans : c.spans.result.now ≡ spans_brought e.work = c.spans.ensures ∙ ap (λ (x : Entry). spans_brought x.work) c.deref-2.ensures in
    c.requires.first e (sym whole) ∙ ap first_kinds (sym spans)
