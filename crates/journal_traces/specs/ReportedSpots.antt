-- Which spots a service's entries brought, by the numbers of services.
use Rattle.std.specs.Prelude.{ℕ, ◌-◌, ◌==◌, Bool, false, ◌&&◌, List, Option, Some, None, is_some, get_or}
use Rattle.std.specs.List.{list_any}
use Rattle.trace_model.specs.declared.entry.Entry.{Entry}
use Rattle.trace_model.specs.Places.{entry_at}
use Rattle.trace_assembly.specs.declared.spot.Spot.{Spot}

-- whether this is the number of the service, which has none if no entry is of it
abbrev pub is_number : Option ℕ → ℕ → Bool
is_number None service_number = false
is_number (Some service) service_number = service_number == service

-- there is an entry at the spot's place, and the number of its service is this one
abbrev pub is_reported : List Entry → List ℕ → ℕ → Spot → Bool
is_reported h service_numbers service s = is_some (entry_at h s.place) && (get_or service_numbers (s.place - 1) 0 == service)

-- it is so for one of the spots
abbrev pub are_reported : List Entry → List ℕ → ℕ → List Spot → Bool
are_reported h service_numbers service ss = list_any (is_reported h service_numbers service) ss
