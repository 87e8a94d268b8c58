use Rattle.std.proofs.Common.{◌≡◌, ℕ, ◌+◌, refl, true, get_or, [], ◌∷◌, ◌++◌, length, length-append, map, List, Ok, ap, ◌∙◌, subst, sym, arith, rules}
use Rattle.std.proofs.lemmas.List.{map_push, length-map, append_cancel_left}
use Rattle.trace_model.specs.Histories.{before_last}
use Rattle.sent_batches.specs.SentIndex.{has_seq_no, work_hash}
use Rattle.trace_model.proofs.LastEntries.{before_last-push}
use Rattle.std.specs.Global.{Global}
use Rattle.trace_model.proofs.Admissions.{MayFollow, IsSaid, admission_says}
use Rattle.std.specs.Prelude.{◌==◌, if◌then◌else◌}
use Rattle.std.specs.Arc.{arc_value}
use Rattle.trace_model.specs.declared.entry.Entry.{Entry}
use Rattle.trace_model.specs.declared.admission.Admission.TheVariants.{Added}
use Rattle.trace_model.specs.Refusals.{admission}
use Rattle.sent_batches.specs.SentIndex.{IsSentKept}
use Rattle.trace_model.specs.EntryWork.{spans_brought}
use Rattle.arrival_journal.specs.Journals.{Journaled, admission_by}
use Rattle.arrival_journal.specs.Outlines.{outline_in, outlines_kept, with_outline}
use Rattle.arrival_journal.proofs.AppendedEntries.{kept_push}
use Rattle.arrival_journal.proofs.journal.Journal.append.Goals as goal

pub invariant_of-self : goal.invariant_of-self
invariant_of-self c =
    let was = c.self.inside in
    let h : List Entry = map arc_value was.entries.items in
    let pushed : map arc_value c.push_reserved.new.self.items ≡ h ++ arc_value c.into_entry-entry.result ∷ [] =
    ap (map arc_value) c.push_reserved.ensures.items ∙ map_push arc_value was.entries.items c.into_entry-entry.result in
    let outline : c.outline-outline.result ≡ outline_in (arc_value c.into_entry-entry.result) =
    c.outline-outline.ensures ∙ ap outline_in (sym c.into_entry-entry.ensures) in
    let outlined : c.push_outline.new.outlines.items ≡ with_outline was.keeps_outlines was.outlines.items (outline_in (arc_value c.into_entry-entry.result)) =
    c.push_outline.ensures.items ∙ ap (with_outline was.keeps_outlines was.outlines.items) outline in
    let count : length c.spans.result.now ≡ length (spans_brought (arc_value c.into_entry-entry.result).work) = search rules in
    let noted : (s : ℕ) → get_or c.set_last_number.new.numbers.items s 0
    ≡ (if c.into_entry-entry.result.value.seat == s then c.into_entry-entry.result.value.number else get_or was.last_numbers.items s 0) = search rules in
    let may : admission was.limits h (arc_value c.into_entry-entry.result) ≡ Ok Added =
    ap (λ (v : Journaled). admission_by v.held (arc_value c.into_entry-entry.result)) c.self.view_is
    ∙ (ap (λ (x : Entry). admission_by c.args.self.now.held x) c.into_entry-entry.ensures ∙ c.requires) in
    let sent : IsSentKept (h ++ arc_value c.into_entry-entry.result ∷ []) c.add.new.self =
    subst (λ (l : List Entry). IsSentKept l c.add.new.self) (ap (map (arc_value {X = Entry} {Z = Global})) c.deref-4.ensures.value ∙ pushed)
    c.add.ensures.kept in
    kept_push _ _ (arc_value c.into_entry-entry.result) c.self.invariant may (record {
      limits = refl;
      entries = pushed;
      keeps = refl;
      outlined = outlined;
      counted = ap (λ n. was.spans + n) count;
      noted = noted;
      room = c.push_reserved.ensures.capacity;
      room_for_outlines = c.push_outline.ensures.capacity;
      seats = c.set_last_number.ensures.capacity;
      sent = sent;
      room_for_sent = c.add.ensures.room;
    })

pub returns-clause-legal : goal.returns-clause-legal
returns-clause-legal c = (invariant_of-self c).legal

pub push_outline-requires : goal.push_outline-requires
push_outline-requires c = λ keeps.
    let was = c.self.inside in
    let h : List Entry = map (arc_value {X = Entry} {Z = Global}) was.entries.items in
    let e = arc_value c.into_entry-entry.result in
    let may : admission was.limits h e ≡ Ok Added =
    ap (λ (v : Journaled). admission_by v.held e) c.self.view_is
    ∙ (ap (λ (x : Entry). admission_by c.args.self.now.held x) c.into_entry-entry.ensures ∙ c.requires) in
    let follows : MayFollow was.limits h e = subst (IsSaid was.limits h e) may (admission_says was.limits h e) in
    let all : was.outlines.items ≡ map outline_in h = c.self.invariant.outlined ∙ ap (λ b. outlines_kept b h) keeps in
    omega (arith, ap length all, length-map h outline_in, c.self.invariant.room_for_outlines keeps, follows.batches)

pub push_reserved-requires : goal.push_reserved-requires
push_reserved-requires c =
    let was = c.self.inside in
    let h : List Entry = map (arc_value {X = Entry} {Z = Global}) was.entries.items in
    let e = arc_value c.into_entry-entry.result in
    let may : admission was.limits h e ≡ Ok Added =
    ap (λ (v : Journaled). admission_by v.held e) c.self.view_is
    ∙ (ap (λ (x : Entry). admission_by c.args.self.now.held x) c.into_entry-entry.ensures ∙ c.requires) in
    let follows : MayFollow was.limits h e = subst (IsSaid was.limits h e) may (admission_says was.limits h e) in
    omega (arith, length-map was.entries.items (arc_value {X = Entry} {Z = Global}), c.self.invariant.room, follows.batches)

pub add-requires-clause-room : goal.add-requires-clause-room
add-requires-clause-room c =
    let was = c.self.inside in
    let h : List Entry = map (arc_value {X = Entry} {Z = Global}) was.entries.items in
    let e = arc_value c.into_entry-entry.result in
    let may : admission was.limits h e ≡ Ok Added =
    ap (λ (v : Journaled). admission_by v.held e) c.self.view_is
    ∙ (ap (λ (x : Entry). admission_by c.args.self.now.held x) c.into_entry-entry.ensures ∙ c.requires) in
    let follows : MayFollow was.limits h e = subst (IsSaid was.limits h e) may (admission_says was.limits h e) in
    omega (
      arith,
      ap length c.deref-4.ensures.value,
      ap length c.push_reserved.ensures.items,
      length-append was.entries.items (c.into_entry-entry.result ∷ []),
      length-map was.entries.items (arc_value {X = Entry} {Z = Global}),
      follows.batches,
      c.self.invariant.room_for_sent,
    )

pub add-requires-clause-hash : goal.add-requires-clause-hash
add-requires-clause-hash c = λ e is numbered.
    let was = c.self.inside in
    let h : List Entry = map (arc_value {X = Entry} {Z = Global}) was.entries.items in
    let x : Entry = arc_value c.into_entry-entry.result in
    let pushed : map (arc_value {X = Entry} {Z = Global}) c.deref-4.result.now ≡ h ++ x ∷ [] =
    ap (map (arc_value {X = Entry} {Z = Global})) (c.deref-4.ensures.value ∙ c.push_reserved.ensures.items)
    ∙ map_push arc_value was.entries.items c.into_entry-entry.result in
    let behind : h ++ x ∷ [] ≡ h ++ e ∷ [] =
    sym pushed ∙ is ∙ ap (λ (l : List Entry). before_last l ++ e ∷ []) pushed ∙ ap (λ (l : List Entry). l ++ e ∷ []) (before_last-push h x) in
    let same : x ≡ e = let last : x ∷ [] ≡ e ∷ [] = append_cancel_left h (x ∷ []) (e ∷ []) behind in cc in
    let sent : c.args.recorded ≡ e = sym c.into_entry-entry.ensures ∙ same in
    subst (λ (y : Entry). has_seq_no y.work ≡ true → c.hash-hash.result ≡ work_hash c.keys.result y.work) sent c.hash-hash.ensures numbered
    ∙ ap (λ k. work_hash k e.work) c.keys.ensures
