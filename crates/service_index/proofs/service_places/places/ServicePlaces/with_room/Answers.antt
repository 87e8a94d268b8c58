use Rattle.std.proofs.Common.{◌≡◌, List, ℕ, [], map, length, refl, ap, sym, subst, arith}
use Rattle.service_index.specs.Indexes.{IsLinked}
use Rattle.service_index.proofs.LinkedOperations.{linked_empty}
use Rattle.service_index.specs.ServicePlaces.{service_at, service_labels, AreServiceNumbers}
use Rattle.service_index.proofs.service_places.places.ServicePlaces.with_room.Goals as goal

pub returns-clause-kept : goal.returns-clause-kept
returns-clause-kept c =
    let numbers : c.in_ok-services.services.numbers ≡ [] = c.in_ok-services.ensures.numbers in
    let count = ap (λ (ns : List ℕ). length ns) numbers in
    record {
      fits = omega (arith, c.ranges.batches.fits);
      room = c.in_ok-services.ensures.room;
      few = omega arith;
      named = c.in_ok-services.ensures.leads (service_labels []);
      linked =
          subst (λ (ns : List ℕ). IsLinked [] (map (service_at []) ns) c.in_ok-links.links.newest c.in_ok-links.links.earlier) (sym numbers)
          (subst (λ (x : List ℕ). IsLinked [] [] x c.in_ok-links.links.earlier) (sym c.in_ok-links.ensures.newest)
          (subst (λ (x : List ℕ). IsLinked [] [] [] x) (sym c.in_ok-links.ensures.earlier) linked_empty));
      first = λ r below. absurd (omega arith);
      services_numbered =
          subst (AreServiceNumbers []) (sym c.in_ok-service_numbers.ensures.items) (record { as_many = refl; each = λ n below. absurd (omega arith) });
    }
