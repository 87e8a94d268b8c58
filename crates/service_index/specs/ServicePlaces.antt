-- The places of each service's entries, and the numbers of services.
use Rattle.std.specs.Prelude.{◌≡◌, ℕ, zero, suc, ◌^◌, ◌<◌, ◌≤◌, List, [], ◌∷◌, Option, map, length, get_or, if◌then◌else◌}
use Rattle.std.specs.List.{position, position_or_len}
use Rattle.jaeger_model.specs.Texts.{same_text}
use Rattle.trace_model.specs.declared.entry.Entry.{Entry}
use Rattle.trace_model.specs.EntryWork.{service_brought}
use Rattle.service_index.specs.Labels.{LabelValue, Labelling}
use Rattle.service_index.specs.Probes.{Table, IsLabelTable}
use Rattle.service_index.specs.Indexes.{IsLinked}

-- the services of entries
abbrev pub reporters : List Entry → List (List ℕ)
reporters h = map (λ (e : Entry). service_brought e.work) h

-- the service of the entry that has n entries before it
abbrev pub service_at : List Entry → ℕ → List ℕ
service_at h n = get_or (reporters h) n []

-- a service as a label, under the number of all services
abbrev pub service_label : List ℕ → LabelValue
service_label service = record { service_number = 0; name = service; kind = [] }

-- the services of entries as labels, each by the number of entries before its own
abbrev pub service_labels : List Entry → Labelling
service_labels h = record { count = length h; at = λ n. service_label (service_at h n) }

-- the places of the service up to a place, the newest first; the first of all places is 1
abbrev pub places_upto : List ℕ → List (List ℕ) → ℕ → List ℕ
places_upto service rows zero = []
places_upto service rows (suc n) = if same_text (get_or rows n []) service then suc n ∷ places_upto service rows n else places_upto service rows n

-- the places of the service's entries, the newest first
abbrev pub places_of : List Entry → List ℕ → List ℕ
places_of h service = places_upto service (reporters h) (length h)

-- ---- the numbers of services
-- the number of a service: the number of entries before the first one of it, or the number of all entries if there
-- is none
abbrev pub service_number_in : List Entry → List ℕ → ℕ
service_number_in h service = position_or_len (same_text service) (reporters h)

-- the number of a service; none if no entry is of it
abbrev pub service_number_of : List Entry → List ℕ → Option ℕ
service_number_of h service = position (same_text service) (reporters h)

-- the number of the service of each entry
pub record AreServiceNumbers (h : List Entry) (service_numbers : List ℕ) : Type 0 where
  pub as_many : length service_numbers ≡ length h
  pub each : (n : ℕ) → n < length h → get_or service_numbers n 0 ≡ service_number_in h (service_at h n)

-- ---- the index
-- the value of the index: a number for each service, for each service the place of its newest entry, for each entry
-- the place of the one before it of its service and the number of its service, and the number of entries that there
-- is room for
pub record ServicePlacesValue : Type 0 where
  pub services : Table
  pub newest : List ℕ
  pub earlier : List ℕ
  pub service_numbers : List ℕ
  pub batches : ℕ

-- the index is that of these entries
pub record ArePlacesKept (h : List Entry) (kept : ServicePlacesValue) : Type 0 where
  pub fits : kept.batches < 2 ^ 32
  pub room : kept.services.room ≡ kept.batches
  pub few : length kept.services.numbers ≤ length h
  pub named : IsLabelTable (service_labels h) kept.services
  pub linked : IsLinked (reporters h) (map (service_at h) kept.services.numbers) kept.newest kept.earlier
  pub first : (r : ℕ) → r < length kept.services.numbers
      → service_number_in h (service_at h (get_or kept.services.numbers r 0)) ≡ get_or kept.services.numbers r 0
  pub services_numbered : AreServiceNumbers h kept.service_numbers
