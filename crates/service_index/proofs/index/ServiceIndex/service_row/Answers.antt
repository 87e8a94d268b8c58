use Rattle.std.proofs.Common.{◌≡◌, length, ap, subst, ◌∙◌}
use Rattle.service_index.specs.Labels.{IsServiceNumberOf, service_number_alone, service_number_labels}
use Rattle.service_index.specs.Probes.{row_of}
use Rattle.service_index.specs.Indexes.{Index}
use Rattle.service_index.proofs.LinkedOperations.{service_found, service_missing}
use Rattle.service_index.proofs.index.ServiceIndex.service_row.Goals as goal

pub returns-in-Some : goal.returns-in-Some
returns-in-Some g c =
    let names = g.T.Texts.names c.args.texts.now in
    let labels = service_number_labels names in
    let is = subst (IsServiceNumberOf names c.args.service.now) c.in-Some.is c.service_number_of.ensures in
    c.row_of.ensures ∙ ap (row_of labels c.self.inside.services.numbers) c.service_number_label.ensures
    ∙ ap (λ (i : Index). row_of labels i.services.numbers (service_number_alone c.in-Some.service_number)) c.self.view_is
    ∙ service_found names c.args.self.now c.args.service.now c.in-Some.service_number c.requires is

pub returns-in-None : goal.returns-in-None
returns-in-None g c =
    let names = g.T.Texts.names c.args.texts.now in
    let none = subst (IsServiceNumberOf names c.args.service.now) c.in-None.is c.service_number_of.ensures in
    let rows : c.services.result ≡ length c.args.self.now.services.numbers =
    c.services.ensures ∙ c.self.invariant.1.newest_links ∙ ap (λ (i : Index). length i.services.numbers) c.self.view_is in
    rows ∙ service_missing names c.args.self.now c.args.service.now c.requires none
