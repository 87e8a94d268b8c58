use Rattle.std.proofs.Common.{◌≡◌, ◌∙◌, ◌<◌, ◌≤◌, List, ℕ, Some, map, length, get_or, ap, subst}
use Rattle.std.specs.Arc.{arc_value}
use Rattle.std.specs.Global.{Global}
use Rattle.trace_model.specs.declared.entry.Entry.{Entry}
use Rattle.service_index.specs.ServicePlaces.{ServicePlacesValue}
use Rattle.service_index.proofs.OneMoreEntry.{service_number_own, service_number_none}
use Rattle.service_index.proofs.service_places.places.ServicePlaces.service_number_of.Goals as goal

pub returns-then-row-numbers : goal.returns-then-row-numbers
returns-then-row-numbers c =
    let h : List Entry = map (arc_value {X = Entry} {Z = Global}) c.args.entries.now in
    let kept : ServicePlacesValue = c.args.self.now in
    let numbers : c.numbers-numbers.result.now ≡ kept.services.numbers =
    c.numbers-numbers.ensures ∙ ap (λ (v : ServicePlacesValue). v.services.numbers) c.self.view_is in
    let r = c.row_of-row.result in
    let below : r < length kept.services.numbers = subst (λ (x : List ℕ). r < length x) numbers c.if-row-numbers.true in
    ap (λ (x : List ℕ). Some (get_or x r 0)) numbers ∙ service_number_own h kept c.args.service.now r c.requires c.row_of-row.ensures below

pub returns-else-row-numbers : goal.returns-else-row-numbers
returns-else-row-numbers c =
    let h : List Entry = map (arc_value {X = Entry} {Z = Global}) c.args.entries.now in
    let kept : ServicePlacesValue = c.args.self.now in
    let numbers : c.numbers-numbers.result.now ≡ kept.services.numbers =
    c.numbers-numbers.ensures ∙ ap (λ (v : ServicePlacesValue). v.services.numbers) c.self.view_is in
    let r = c.row_of-row.result in
    let past : length kept.services.numbers ≤ r = subst (λ (x : List ℕ). length x ≤ r) numbers c.if-row-numbers.false in
    service_number_none h kept c.args.service.now r c.requires c.row_of-row.ensures past
