use Rattle.std.proofs.Common.{◌≡◌, ◌∙◌, List, map, ap, sym, subst}
use Rattle.std.specs.Arc.{arc_value}
use Rattle.std.specs.Global.{Global}
use Rattle.std.proofs.lemmas.Result.{IfOk-weaker}
use Rattle.jaeger_model.specs.Texts.{text_cmp, sorted_set}
use Rattle.trace_model.specs.declared.entry.Entry.{Entry}
use Rattle.trace_model.specs.Histories.{arrivals}
use Rattle.trace_model.specs.Names.{services}
use Rattle.service_index.specs.Indexes.{IsIndexed, listing_by, owners}
use Rattle.service_index.proofs.Arrivals.{services_listed}
use Rattle.service_index.specs.ListedNames.{services_in}
use Rattle.service_index.specs.KeptNames.{KeptNames, names_of_arrivals}
use Rattle.service_index.proofs.arrival_names.names.ArrivalNames.known_services.Goals as goal

pub services_of-requires : goal.services_of-requires
services_of-requires c =
    let h : List Entry = map (arc_value {X = Entry} {Z = Global}) c.args.entries.now in
    let kept : IsIndexed (names_of_arrivals h) c.self.inside.index =
    subst (λ (v : KeptNames). IsIndexed (names_of_arrivals h) v.index) (sym c.self.view_is) c.requires.kept.indexed in
    c.one_arrival_of_each_service.ensures.held (names_of_arrivals c.arrivals-arrivals.result)
    (subst (λ (x : List Entry). IsIndexed (names_of_arrivals x) c.self.inside.index) (sym c.arrivals-arrivals.ensures) kept)

pub returns : goal.returns
returns c =
    let h : List Entry = map (arc_value {X = Entry} {Z = Global}) c.args.entries.now in
    let names = names_of_arrivals c.arrivals-arrivals.result in
    let kept : IsIndexed (names_of_arrivals h) c.self.inside.index =
    subst (λ (v : KeptNames). IsIndexed (names_of_arrivals h) v.index) (sym c.self.view_is) c.requires.kept.indexed in
    let all = c.one_arrival_of_each_service.ensures.services names
    (subst (λ (x : List Entry). IsIndexed (names_of_arrivals x) c.self.inside.index) (sym c.arrivals-arrivals.ensures) kept)
    ∙ ap (λ (x : List Entry). services_in (listing_by (names_of_arrivals x) c.self.inside.index)) c.arrivals-arrivals.ensures
    ∙ ap (λ (v : KeptNames). services_in (listing_by (names_of_arrivals h) v.index)) c.self.view_is ∙ ap services_in c.requires.kept.listed
    ∙ services_listed (arrivals h) in
    IfOk-weaker c.services_of.result (λ found. found.items ≡ owners names c.one_arrival_of_each_service.result.now)
    (λ found. sorted_set text_cmp found.items ≡ services (arrivals h))
    (λ found is. ap (sorted_set text_cmp) is ∙ all) c.services_of.ensures
