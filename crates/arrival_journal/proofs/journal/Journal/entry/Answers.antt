use Rattle.std.proofs.Common.{rules, ◌≡◌, suc, ap, sym, ◌∙◌}
use Rattle.std.specs.Prelude.{slice_get, option_map}
use Rattle.std.specs.Arc.{arc_value}
use Rattle.std.specs.Option.{option_copied}
use Rattle.std.proofs.lemmas.Option.{slice_get-map}
use Rattle.trace_model.specs.Places.{entry_at}
use Rattle.arrival_journal.specs.Journals.{Journaled}
use Rattle.arrival_journal.proofs.ItemsAtPlaces.{lent_item}
use Rattle.arrival_journal.proofs.journal.Journal.entry.Goals as goal

pub returns : goal.returns
returns c =
    let place : c.args.place ≡ suc c.in_ok-entry_index.entry_index = search rules in
    let found : option_copied c.get.result ≡ slice_get c.self.inside.entries.items c.in_ok-entry_index.entry_index =
    lent_item _ _ c.get.result c.get.ensures.lookup ∙ ap (λ xs. slice_get xs c.in_ok-entry_index.entry_index) c.deref.ensures.value in
    ap (option_map arc_value) found ∙ sym (slice_get-map arc_value c.self.inside.entries.items c.in_ok-entry_index.entry_index)
    ∙ ap (λ (v : Journaled). slice_get v.held.entries c.in_ok-entry_index.entry_index) c.self.view_is ∙ ap (entry_at c.args.self.now.held.entries) (sym place)
