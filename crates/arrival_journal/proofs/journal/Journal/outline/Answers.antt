use Rattle.std.proofs.Common.{rules, ◌≡◌, suc, Some, map, ap, sym, ◌∙◌}
use Rattle.std.specs.Prelude.{slice_get, option_map}
use Rattle.std.specs.Arc.{arc_value}
use Rattle.std.specs.Option.{option_copied}
use Rattle.std.proofs.lemmas.Option.{slice_get-map}
use Rattle.trace_model.specs.declared.entry.Entry.{Entry}
use Rattle.trace_model.specs.Places.{entry_at}
use Rattle.arrival_journal.specs.Journals.{Journaled}
use Rattle.arrival_journal.specs.Outlines.{outline_in, outline_of}
use Rattle.arrival_journal.proofs.AppendedEntries.{kept_at}
use Rattle.arrival_journal.proofs.ItemsAtPlaces.{lent_item}
use Rattle.arrival_journal.proofs.journal.Journal.outline.Goals as goal

pub returns-in-Some : goal.returns-in-Some
returns-in-Some c =
    let place : c.args.place ≡ suc c.in_ok-entry_index.entry_index = search rules in
    let found : Some c.in-Some.outline.now ≡ slice_get c.self.inside.outlines.items c.in_ok-entry_index.entry_index =
    ap option_copied (sym c.in-Some.is) ∙ lent_item _ _ c.get.result c.get.ensures.lookup
    ∙ ap (λ xs. slice_get xs c.in_ok-entry_index.entry_index) c.deref.ensures.value in
    kept_at c.self.inside.keeps_outlines (map arc_value c.self.inside.entries.items)
    c.self.inside.outlines.items c.in_ok-entry_index.entry_index c.in-Some.outline.now c.self.invariant.outlined (sym found)
    ∙ ap (λ (v : Journaled). option_map outline_in (slice_get v.held.entries c.in_ok-entry_index.entry_index)) c.self.view_is
    ∙ ap (λ k. option_map outline_in (entry_at c.args.self.now.held.entries k)) (sym place)

pub returns-in_ok-get-in-None : goal.returns-in_ok-get-in-None
returns-in_ok-get-in-None c =
    let place : c.args.place ≡ suc c.in_ok-entry_index.entry_index = search rules in
    let lent : Some c.in_ok-get-in-None.field-0.now ≡ slice_get c.self.inside.entries.items c.in_ok-entry_index.entry_index =
    ap option_copied (sym c.in_ok-get-in-None.was) ∙ lent_item _ _ c.get-in-None.result c.get-in-None.ensures.lookup
    ∙ ap (λ xs. slice_get xs c.in_ok-entry_index.entry_index) c.deref-in-None.ensures.value in
    let entry : Some (arc_value c.in_ok-get-in-None.field-0.now) ≡ slice_get (map arc_value c.self.inside.entries.items) c.in_ok-entry_index.entry_index =
    ap (option_map arc_value) lent ∙ sym (slice_get-map arc_value c.self.inside.entries.items c.in_ok-entry_index.entry_index) in
    ap (λ o. Some o) (c.of.ensures ∙ ap (λ (e : Entry). outline_of e.work) c.deref-in-None-2.ensures)
    ∙ ap (option_map outline_in) entry
    ∙ ap (λ (v : Journaled). option_map outline_in (slice_get v.held.entries c.in_ok-entry_index.entry_index)) c.self.view_is
    ∙ ap (λ k. option_map outline_in (entry_at c.args.self.now.held.entries k)) (sym place)
