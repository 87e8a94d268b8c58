use Rattle.std.proofs.Common.{◌≡◌, ◌∙◌, ◌+◌, ◌-◌, ◌<◌, List, ℕ, map, length, get_or, ap, sym, subst, arith}
use Rattle.std.specs.Arc.{arc_value}
use Rattle.std.specs.Global.{Global}
use Rattle.std.proofs.lemmas.List.{length-map}
use Rattle.trace_model.specs.declared.entry.Entry.{Entry}
use Rattle.service_index.specs.Probes.{Table}
use Rattle.service_index.specs.LinkedRows.{newest_with}
use Rattle.service_index.proofs.MoreNames.{named_extends}
use Rattle.trace_model.specs.Histories.{before_last}
use Rattle.service_index.specs.ServicePlaces.{ServicePlacesValue, ArePlacesKept, service_labels}
use Rattle.trace_model.proofs.LastEntries.{last_of}
use Rattle.service_index.proofs.ServiceNumbers.{as_many_reporters}
use Rattle.service_index.proofs.OneMoreEntry.{HasOneMore, last_number, extends_one, kept_more}
use Rattle.service_index.proofs.RowsOfOperations.{row_added}
use Rattle.service_index.proofs.service_places.places.ServicePlaces.add.Goals as goal

abbrev seen : Table → List ℕ → List ℕ → List ℕ → ℕ → ServicePlacesValue
seen services newest earlier service_numbers batches =
    record { services = services; newest = newest; earlier = earlier; service_numbers = service_numbers; batches = batches }

pub add-service-requires-clause-leads : goal.add-service-requires-clause-leads
add-service-requires-clause-leads c =
    let h : List Entry = map (arc_value {X = Entry} {Z = Global}) c.args.entries.now in
    let l : length h ≡ length c.args.entries.now = length-map c.args.entries.now (arc_value {X = Entry} {Z = Global}) in
    let last = last_of h (omega (arith, c.requires.some)) in
    let old = seen c.self.inside.services c.self.inside.links.newest c.self.inside.links.earlier c.self.inside.service_numbers.items c.self.inside.batches in
    let kept : ArePlacesKept (before_last h) old = subst (ArePlacesKept (before_last h)) (sym c.self.view_is) c.requires.kept in
    named_extends (service_labels (before_last h)) (service_labels h) old.services (extends_one (before_last h) h last.0 last.1) kept.named

pub bounds-numbers-service : goal.bounds-numbers-service
bounds-numbers-service c =
    let h : List Entry = map (arc_value {X = Entry} {Z = Global}) c.args.entries.now in
    subst (λ (x : List ℕ). c.add-service.result < length x) (sym c.numbers.ensures)
    (row_added (service_labels h) c.self.inside.services.numbers c.add-service.new.self.numbers (length c.args.entries.now - 1)
    c.add-service.result c.add-service.ensures.numbers c.add-service.ensures.row).0

pub returns-clause-kept : goal.returns-clause-kept
returns-clause-kept c =
    let h : List Entry = map (arc_value {X = Entry} {Z = Global}) c.args.entries.now in
    let l : length h ≡ length c.args.entries.now = length-map c.args.entries.now (arc_value {X = Entry} {Z = Global}) in
    let last = last_of h (omega (arith, c.requires.some)) in
    let old = seen c.self.inside.services c.self.inside.links.newest c.self.inside.links.earlier c.self.inside.service_numbers.items c.self.inside.batches in
    let kept : ArePlacesKept (before_last h) old = subst (ArePlacesKept (before_last h)) (sym c.self.view_is) c.requires.kept in
    let n = length c.args.entries.now - 1 in
    let at = last_number (before_last h) h last.0 (length c.args.entries.now) last.1 l in
    let s = c.add-service.result in
    let all = kept.linked.chain.as_many in
    let reported = as_many_reporters (before_last h) in
    let row : length old.earlier + 1 ≡ n + 1 = omega arith in
    let newest : c.add_row.new.self.newest ≡ newest_with old.newest s (n + 1) = c.add_row.ensures.newest ∙ ap (newest_with old.newest s) row in
    let more : HasOneMore (before_last h) h last.0 old c.add-service.new.self c.push_reserved.new.self.items s n (get_or c.numbers.result.now s 0) = record {
      is = last.1;
      at = at;
      kept = kept;
      named = c.add-service.ensures.leads;
      numbers = c.add-service.ensures.numbers;
      row = c.add-service.ensures.row;
      room = c.add-service.ensures.room;
      number = ap (λ (x : List ℕ). get_or x s 0) c.numbers.ensures;
      noted = c.push_reserved.ensures.items;
    } in
    kept_more (before_last h) h last.0 old c.add-service.new.self c.add_row.new.self.newest c.add_row.new.self.earlier c.push_reserved.new.self.items s n
    (get_or c.numbers.result.now s 0) more newest c.add_row.ensures.earlier
