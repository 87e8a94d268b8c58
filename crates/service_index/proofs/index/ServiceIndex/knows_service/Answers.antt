use Rattle.std.proofs.Common.{◌≡◌, nat_lt, length, ap, ◌∙◌}
use Rattle.service_index.specs.Indexes.{Index}
use Rattle.service_index.proofs.LinkedOperations.{service_known}
use Rattle.service_index.proofs.index.ServiceIndex.knows_service.Goals as goal

pub returns : goal.returns
returns g c =
    let names = g.T.Texts.names c.args.texts.now in
    let sized = c.self.invariant.1 in
    let index = c.args.self.now in
    let rows : c.services.result ≡ length index.services.numbers =
    c.services.ensures ∙ sized.newest_links ∙ ap (λ (i : Index). length i.services.numbers) c.self.view_is in
    ap (λ n. nat_lt c.service_row.result n) rows ∙ ap (λ r. nat_lt r (length index.services.numbers)) c.service_row.ensures
    ∙ service_known names index c.args.service.now c.requires
