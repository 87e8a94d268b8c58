use Rattle.std.proofs.Common.{◌∙◌, List, map, ap}
use Rattle.std.specs.Arc.{arc_value}
use Rattle.std.specs.Global.{Global}
use Rattle.trace_model.specs.declared.entry.Entry.{Entry}
use Rattle.trace_model.specs.Histories.{arrivals}
use Rattle.service_index.specs.Indexes.{listing_by, has_service}
use Rattle.service_index.specs.KeptNames.{KeptNames, names_of_arrivals}
use Rattle.service_index.proofs.ArrivalReports.{services_reported}
use Rattle.service_index.proofs.arrival_names.names.ArrivalNames.knows_service.Goals as goal

pub returns : goal.returns
returns c =
    let h : List Entry = map (arc_value {X = Entry} {Z = Global}) c.args.entries.now in
    let all = ap (λ (x : List Entry). has_service c.args.service.now (listing_by (names_of_arrivals x) c.self.inside.index)) c.arrivals.ensures
    ∙ ap (λ (v : KeptNames). has_service c.args.service.now (listing_by (names_of_arrivals h) v.index)) c.self.view_is
    ∙ ap (has_service c.args.service.now) c.requires.kept.listed ∙ services_reported c.args.service.now (arrivals h) in
    c.knows_service.ensures ∙ all
