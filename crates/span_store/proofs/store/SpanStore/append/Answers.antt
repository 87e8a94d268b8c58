use Rattle.std.proofs.Common.{subst, map, ◌∙◌, rules, ◌≡◌, ◌+◌, ◌^◌, ◌<◌, ◌≤◌, ap, Ok, List, [], ◌∷◌, ◌++◌, length}
use Rattle.std.specs.Arc.{arc_value}
use Rattle.std.specs.Global.{Global}
use Rattle.trace_model.specs.declared.admission.Admission.TheVariants.{Added}
use Rattle.trace_model.specs.declared.entry.Entry.{Entry}
use Rattle.trace_model.specs.LimitedHistories.{LimitedHistory}
use Rattle.trace_model.specs.Refusals.{followed_by}
use Rattle.trace_model.specs.EntryWork.{spans_brought}
use Rattle.arrival_journal.specs.Journals.{admission_by}
use Rattle.trace_assembly.specs.AssembledRows.{spots_of}
use Rattle.trace_assembly.specs.LocatedSpans.{located_events}
use Rattle.service_index.specs.KeptNames.{AreNamesKept}
use Rattle.service_index.specs.ServicePlaces.{ArePlacesKept}
use Rattle.span_store.specs.ShownStarts.{AreFirst, IsRanged}
use Rattle.span_store.specs.StoreIndexes.{FollowsEvents, AreNamesOf, ArePlacesOf}
use Rattle.span_store.proofs.IndexesAreKept.{Grows, arrivals_fit, kept_more, kept_room, kept_within, spans_fit}
use Rattle.span_store.proofs.store.SpanStore.append.Goals as goal

pub apply_entry-requires-clause-within : goal.apply_entry-requires-clause-within
apply_entry-requires-clause-within c =
    let was = c.self.inside in
    kept_within was.journal.held was.shown was.starts was.names was.by_service c.self.invariant

pub apply_entry-requires-clause-fits : goal.apply_entry-requires-clause-fits
apply_entry-requires-clause-fits c =
    let was = c.self.inside in
    let e : Entry = c.args.recorded in
    let may : admission_by was.journal.held e ≡ Ok Added = ap (λ (v : LimitedHistory). admission_by v e) c.self.view_is ∙ c.requires in
    let fits : length (spans_brought e.work) < 2 ^ 32 = spans_fit was.journal.held e may in
    search rules

pub apply_entry-requires-clause-room : goal.apply_entry-requires-clause-room
apply_entry-requires-clause-room c =
    let was = c.self.inside in
    let e : Entry = c.args.recorded in
    let may : admission_by was.journal.held e ≡ Ok Added = ap (λ (v : LimitedHistory). admission_by v e) c.self.view_is ∙ c.requires in
    let room : was.shown.used + length (spans_brought e.work) ≤ was.shown.room =
    kept_room was.journal.held e was.shown was.starts was.names was.by_service c.self.invariant may in
    search rules

pub invariant_of-self : goal.invariant_of-self
invariant_of-self c =
    let was = c.self.inside in
    let e : Entry = c.args.recorded in
    let held : c.append.new.self.held ≡ followed_by was.journal.held e = c.append.ensures.appended in
    let place : c.len-place.result + 1 ≡ length was.journal.held.entries + 1 = ap (λ k. k + 1) c.len-place.ensures.length in
    let n = was.journal.held.limits.traces in
    let h = was.journal.held.entries in
    let here = c.apply_entry.ensures.follows n h place c.self.invariant.follows in
    let after = c.apply_entry.new.shown in
    let follows : FollowsEvents n (located_events (h ++ e ∷ [])) after.newest (spots_of after) =
    subst (λ (x : Entry). FollowsEvents n (located_events (h ++ x ∷ [])) after.newest (spots_of after)) (c.deref.ensures ∙ c.entry.ensures) here in
    let first : AreFirst n (located_events (h ++ e ∷ [])) c.apply_entry.new.starts.starts =
    subst (λ (x : Entry). AreFirst n (located_events (h ++ x ∷ [])) c.apply_entry.new.starts.starts) (c.deref.ensures ∙ c.entry.ensures)
    (c.apply_entry.ensures.first n h place c.self.invariant.follows c.self.invariant.first) in
    let ranged : IsRanged n (located_events (h ++ e ∷ [])) after c.apply_entry.new.starts =
    subst (λ (x : Entry). IsRanged n (located_events (h ++ x ∷ [])) after c.apply_entry.new.starts) (c.deref.ensures ∙ c.entry.ensures)
    (c.apply_entry.ensures.ranged n h place c.self.invariant.follows c.self.invariant.ranged) in
    let used : after.used ≡ was.shown.used + length (spans_brought e.work) = search rules in
    let grows : Grows was.shown after (length (spans_brought e.work)) = record { room = c.apply_entry.ensures.room; used = used } in
    let list : map (arc_value {X = Entry} {Z = Global}) c.entries-entries.result.now ≡ was.journal.held.entries ++ e ∷ [] =
    c.entries-entries.ensures ∙ ap (λ (v : LimitedHistory). v.entries) held in
    let named = c.self.invariant.named in
    let names : AreNamesOf (followed_by was.journal.held e) c.add-2.new.self = record {
      kept = subst (λ (h : List Entry). AreNamesKept h c.add-2.new.self) list c.add-2.ensures.kept;
      batches = c.add-2.ensures.batches ∙ named.batches;
      numbers = c.add-2.ensures.numbers ∙ named.numbers;
      index = c.add-2.ensures.index ∙ named.index;
    } in
    let placed : ArePlacesOf (followed_by was.journal.held e) c.add.new.self = record {
      kept = subst (λ (h : List Entry). ArePlacesKept h c.add.new.self) list c.add.ensures.kept;
      batches = c.add.ensures.batches ∙ c.self.invariant.placed.batches;
    } in
    kept_more was.journal.held c.append.new.self.held e was.shown after was.starts c.apply_entry.new.starts was.names c.add-2.new.self was.by_service
    c.add.new.self c.self.invariant held grows follows first c.apply_entry.ensures.counted ranged names placed

pub add-requires-2-clause-numbers : goal.add-requires-2-clause-numbers
add-requires-2-clause-numbers c =
    arrivals_fit c.self.inside.journal.held _ (c.args.recorded) (map (arc_value {X = Entry} {Z = Global}) c.entries-entries.result.now)
    _ c.append.ensures.appended c.append.ensures.legal c.entries-entries.ensures c.self.invariant.named.numbers

pub add-requires-2-clause-index : goal.add-requires-2-clause-index
add-requires-2-clause-index c =
    arrivals_fit c.self.inside.journal.held _ (c.args.recorded) (map (arc_value {X = Entry} {Z = Global}) c.entries-entries.result.now)
    _ c.append.ensures.appended c.append.ensures.legal c.entries-entries.ensures c.self.invariant.named.index
