-- An index doesn't change when more numbers have names.
use Rattle.std.proofs.Common.{◌≡◌, ℕ, ◌<◌, ◌≤◌, List, map, length, get_or, sym, ap, subst, arith}
use Rattle.std.proofs.lemmas.List.Elements.{All-from_get_or}
use Rattle.jaeger_model.specs.Texts.{sorted_set}
use Rattle.trace_model.proofs.Lists.{map_agree}
use Rattle.hash_tables.specs.RowPlaces.{LeadsTo, AreOnce}
use Rattle.service_index.specs.ListedNames.{Listed, listed_cmp}
use Rattle.service_index.specs.Labels.{Names, LabelValue, Labelling, service_number_alone, operation_labels, service_number_labels, Extends}
use Rattle.service_index.specs.Probes.{Table, no_label, hashes_of, AreNumbersBelow, IsLabelTable}
use Rattle.service_index.specs.Indexes.{Index, listing_by, owners, IsLinked, IsIndexed}

-- maps that agree below a count agree on numbers that are below it
pub numbers_agree : {X : Type 0} (count : ℕ) (f g : ℕ → X) → ((n : ℕ) → n < count → f n ≡ g n) → (numbers : List ℕ)
    → ((r : ℕ) → r < length numbers → get_or numbers r 0 < count) → map f numbers ≡ map g numbers
numbers_agree count f g same numbers held =
    map_agree f g numbers (All-from_get_or (λ n. f n ≡ g n) numbers 0 (λ r below. same (get_or numbers r 0) (held r below)))

-- more labels, with the old ones unchanged
pub record Grows (labels more : Labelling) : Type 0 where
  pub count : labels.count ≤ more.count
  pub same : (n : ℕ) → n < labels.count → more.at n ≡ labels.at n

pub named_extends : (labels more : Labelling) (t : Table) → Grows labels more → IsLabelTable labels t → IsLabelTable more t
named_extends labels more t e h =
    let same : map labels.at t.numbers ≡ map more.at t.numbers = sym (numbers_agree labels.count more.at labels.at e.same t.numbers h.numbers.held) in
    record {
      fits = h.fits;
      within = h.within;
      numbers = record { held = λ r below. let b = h.numbers.held r below in let c = e.count in omega arith };
      once = subst (AreOnce no_label) same h.once;
      leads = subst (λ (xs : List LabelValue). LeadsTo (hashes_of t.keys xs) t.slots) same h.leads;
    }

pub operations_grow : (names more : Names) → Extends names more → Grows (operation_labels names) (operation_labels more)
operations_grow names more e = record {
  count = e.count;
  same = λ n below.
      let g = e.service_number n below in
      let s = e.same n below in
      λ i. record { service_number = g i; name = (s i).operation.name; kind = (s i).operation.kind };
}

service_numbers_grow : (names more : Names) → Extends names more → Grows (service_number_labels names) (service_number_labels more)
service_numbers_grow names more e = record { count = e.count; same = λ n below. ap service_number_alone (e.service_number n below) }

pub owners_extend : (names more : Names) (numbers : List ℕ) → Extends names more → AreNumbersBelow names.count numbers
    → owners more numbers ≡ owners names numbers
owners_extend names more numbers e h =
    numbers_agree names.count (λ n. (more.at n).service) (λ n. (names.at n).service) (λ n below. ap (λ (l : Listed). l.service) (e.same n below)) numbers h.held

pub indexed_extends : (names more : Names) (index : Index) → Extends names more → IsIndexed names index → IsIndexed more index
indexed_extends names more index e h = record {
  operations = named_extends (operation_labels names) (operation_labels more) index.operations (operations_grow names more e) h.operations;
  services = named_extends (service_number_labels names) (service_number_labels more) index.services (service_numbers_grow names more e) h.services;
  linked =
      subst (λ (x : List (List ℕ)). IsLinked x (owners more index.services.numbers) index.newest index.earlier)
      (sym (owners_extend names more index.operations.numbers e (record { held = h.operations.numbers.held })))
      (subst (λ (x : List (List ℕ)). IsLinked (owners names index.operations.numbers) x index.newest index.earlier)
      (sym (owners_extend names more index.services.numbers e (record { held = h.services.numbers.held }))) h.linked);
}

pub listing_extends : (names more : Names) (index : Index) → Extends names more → IsIndexed names index → listing_by more index ≡ listing_by names index
listing_extends names more index e h =
    ap (sorted_set listed_cmp) (numbers_agree names.count more.at names.at e.same index.operations.numbers h.operations.numbers.held)
