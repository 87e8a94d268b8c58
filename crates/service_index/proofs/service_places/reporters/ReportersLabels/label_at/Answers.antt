use Rattle.std.proofs.Common.{◌∙◌, ◌<◌, List, [], ℕ, map, length, ap, sym, arith}
use Rattle.std.specs.Arc.{arc_value}
use Rattle.std.specs.Global.{Global}
use Rattle.std.proofs.lemmas.List.{length-map, get_or-map}
use Rattle.trace_model.specs.declared.entry.Entry.{Entry}
use Rattle.trace_model.specs.EntryWork.{service_brought}
use Rattle.service_index.specs.ServicePlaces.{service_label}
use Rattle.service_index.proofs.service_places.reporters.ReportersLabels.label_at.Goals as goal

pub returns : goal.returns
returns c =
    let value = arc_value {X = Entry} {Z = Global} in
    let entries = c.args.self.now.entries.now in
    let x = c.index-self-n.result in
    let l = length-map entries value in
    let below : c.args.n < length entries = omega (arith, c.requires) in
    let within : c.args.n < length (map value entries) = omega arith in
    let service : Entry → List ℕ = λ e. service_brought e.work in
    c.service_label.ensures ∙ ap service_label (c.service.ensures ∙ ap service c.deref.ensures
    ∙ sym (get_or-map service (map value entries) c.args.n (value x) [] within ∙ ap service (get_or-map value entries c.args.n x (value x) below)))
