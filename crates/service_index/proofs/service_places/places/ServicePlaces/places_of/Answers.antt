use Rattle.std.proofs.Common.{◌≡◌, ◌∙◌, List, ℕ, inl, inr, map, length, ap, sym, subst, arith}
use Rattle.std.proofs.lemmas.Bool.{cases_lt}
use Rattle.std.specs.Arc.{arc_value}
use Rattle.std.specs.Global.{Global}
use Rattle.std.proofs.lemmas.List.{length-map, get_or_past}
use Rattle.trace_model.specs.declared.entry.Entry.{Entry}
use Rattle.service_index.specs.Probes.{row_of}
use Rattle.service_index.specs.Indexes.{IsNewest}
use Rattle.service_index.specs.PlaceChains.{along}
use Rattle.trace_model.specs.EntryWork.{service_brought}
use Rattle.service_index.specs.ServicePlaces.{ServicePlacesValue, ArePlacesKept, reporters, service_label, service_labels, places_upto}
use Rattle.service_index.proofs.PlaceChains.{walked}
use Rattle.service_index.proofs.OneMoreEntry.{newest_own, newest_none, newest_links}
use Rattle.service_index.proofs.service_places.places.ServicePlaces.places_of.Goals as goal

pub returns : goal.returns
returns c =
    let h : List Entry = map (arc_value {X = Entry} {Z = Global}) c.args.entries.now in
    let was = c.self.inside in
    let s = c.args.service.now in
    let old : ServicePlacesValue = record {
      services = was.services;
      newest = was.links.newest;
      earlier = was.links.earlier;
      service_numbers = was.service_numbers.items;
      batches =
          was.batches;
    } in
    let kept : ArePlacesKept h old = subst (ArePlacesKept h) (sym c.self.view_is) c.requires in
    let rows = newest_links h old kept in
    let r = c.row_of-row.result in
    let row : r ≡ row_of (service_labels h) old.services.numbers (service_label s) =
    c.row_of-row.ensures ∙ ap (λ (v : ServicePlacesValue). row_of (service_labels h) v.services.numbers (service_label s)) (sym c.self.view_is) in
    let at = c.newest_link.result in
    let newest : IsNewest (reporters h) s at (length (reporters h)) = elim (cases_lt r (length old.services.numbers)) [
      | inl below ↦ newest_own h old s r at kept row below c.newest_link.ensures
      | inr past ↦ newest_none h old s r at kept row past (c.newest_link.ensures ∙ get_or_past old.newest r 0 (omega arith))
    ] in
    ap (λ (e : List ℕ). along at e at) c.earlier_links.ensures
    ∙ walked s (reporters h) old.earlier kept.linked.chain at at (length (reporters h)) (omega arith) (omega arith) newest
    ∙ ap (places_upto s (reporters h)) (length-map h (λ (e : Entry). service_brought e.work))
