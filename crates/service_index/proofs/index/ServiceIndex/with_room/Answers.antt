use Rattle.std.proofs.Common.{ℕ, List, [], sym, subst}
use Rattle.service_index.specs.Labels.{operation_labels, service_number_labels}
use Rattle.service_index.specs.Indexes.{IsLinked, owners}
use Rattle.service_index.proofs.LinkedOperations.{linked_empty}
use Rattle.service_index.proofs.index.ServiceIndex.with_room.Goals as goal

pub returns-clause-indexed : goal.returns-clause-indexed
returns-clause-indexed c names = record {
  operations = c.in_ok-operations.ensures.leads (operation_labels names);
  services = c.in_ok-services.ensures.leads (service_number_labels names);
  linked =
      subst (λ (x : List ℕ). IsLinked (owners names x) (owners names c.in_ok-services.services.numbers) c.in_ok-links.links.newest c.in_ok-links.links.earlier)
      (sym c.in_ok-operations.ensures.numbers)
      (subst (λ (x : List ℕ). IsLinked [] (owners names x) c.in_ok-links.links.newest c.in_ok-links.links.earlier) (sym c.in_ok-services.ensures.numbers)
      (subst (λ (x : List ℕ). IsLinked [] [] x c.in_ok-links.links.earlier) (sym c.in_ok-links.ensures.newest)
      (subst (λ (x : List ℕ). IsLinked [] [] [] x) (sym c.in_ok-links.ensures.earlier) linked_empty)));
}
