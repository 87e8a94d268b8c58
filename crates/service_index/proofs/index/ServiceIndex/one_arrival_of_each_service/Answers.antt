use Rattle.std.proofs.Common.{◌∙◌, ℕ, List, ap, sym, subst}
use Rattle.jaeger_model.specs.Texts.{text_cmp, sorted_set}
use Rattle.service_index.specs.Indexes.{Index, owners}
use Rattle.service_index.specs.Probes.{AreNumbersBelow}
use Rattle.service_index.proofs.LinkedOperations.{services_are}
use Rattle.service_index.proofs.index.ServiceIndex.one_arrival_of_each_service.Goals as goal

pub returns-clause-held : goal.returns-clause-held
returns-clause-held c =
    λ names h. subst (AreNumbersBelow names.count) (sym (c.numbers.ensures ∙ ap (λ (i : Index). i.services.numbers) c.self.view_is)) h.services.numbers

pub returns-clause-services : goal.returns-clause-services
returns-clause-services c = λ names h.
    let all = c.numbers.ensures ∙ ap (λ (i : Index). i.services.numbers) c.self.view_is in
    ap (λ (ns : List ℕ). sorted_set text_cmp (owners names ns)) all ∙ services_are names c.args.self.now h
