-- An index of names that are stored elsewhere: what it lists, and how the operations of a service are linked.
use Rattle.std.specs.Prelude.{◌≡◌, ℕ, ◌-◌, ◌^◌, ◌<◌, ◌≤◌, Bool, List, [], map, length, get_or}
use Rattle.std.specs.List.{list_any, position_or_len}
use Rattle.trace_model.specs.declared.answer.Operation.{Operation}
use Rattle.trace_model.specs.Names.{operation_cmp}
use Rattle.jaeger_model.specs.Texts.{same_text, sorted_set, insert_once}
use Rattle.service_index.specs.ListedNames.{Listed, listed_cmp, same_listed, operations_of}
use Rattle.service_index.specs.Labels.{Names, operation_labels, service_number_labels}
use Rattle.service_index.specs.Probes.{Table, IsLabelTable}

-- the value of an index: a number for each operation of a service with its kind; a number for each service; for
-- each service the link to its newest operation; for each operation the link to the one before it of the same
-- service, a link being a row plus one, or 0 for none; the number of numbers that were added, and the number that
-- may be
pub record Index : Type 0 where
  pub operations : Table
  pub services : Table
  pub newest : List ℕ
  pub earlier : List ℕ
  pub used : ℕ
  pub room : ℕ

-- what the numbers that were added report, as a sorted set
abbrev pub listing_by : Names → Index → List Listed
listing_by names index = sorted_set listed_cmp (map names.at index.operations.numbers)

-- the listing with what one more number reports
abbrev pub listing_with : Names → Index → ℕ → List Listed
listing_with names index n = insert_once listed_cmp (listing_by names index) (names.at n)

-- some of these is of the service
abbrev pub has_service : List ℕ → List Listed → Bool
has_service service ls = list_any (λ (l : Listed). same_text service l.service) ls

-- one of these is this operation of the service, with this kind
abbrev pub has_operation : List ℕ → List ℕ → List ℕ → List Listed → Bool
has_operation service name kind ls = list_any (same_listed (record { service = service; operation = record { name = name; kind = kind } })) ls

-- ---- the operations of a service
-- those of the service, in order
abbrev pub own_operations : List ℕ → List Listed → List Operation
own_operations service ls = sorted_set operation_cmp (operations_of service ls)

-- the services of numbers
abbrev pub owners : Names → List ℕ → List (List ℕ)
owners names numbers = map (λ n. (names.at n).service) numbers

-- the operations of numbers
abbrev pub operations_at : Names → List ℕ → List Operation
operations_at names numbers = map (λ n. (names.at n).operation) numbers

-- the row of a service, or the number of rows
abbrev pub service_row : Names → Index → List ℕ → ℕ
service_row names index service = position_or_len (same_text service) (owners names index.services.numbers)

-- the link to the newest row of the service below a row; 0 if there is none
pub record IsNewest (rows : List (List ℕ)) (service : List ℕ) (at below : ℕ) : Type 0 where
  pub within : at ≤ below
  pub own : 0 < at → get_or rows (at - 1) [] ≡ service
  pub none : (k : ℕ) → at ≤ k → k < below → get_or rows k [] ≡ service → ⊥

-- each row leads to the newest row before it of its service
pub record IsChain (rows : List (List ℕ)) (earlier : List ℕ) : Type 0 where
  pub as_many : length earlier ≡ length rows
  pub before : (k : ℕ) → k < length rows → IsNewest rows (get_or rows k []) (get_or earlier k 0) k

-- each of the rows links to an earlier one, or to none
pub record LeadsBack (rows : ℕ) (earlier : List ℕ) : Type 0 where
  pub as_many : length earlier ≡ rows
  pub before : (k : ℕ) → k < rows → get_or earlier k 0 ≤ k

-- these are the operations of each service to whose newest row this is the link
abbrev pub AreFrom : Names → List ℕ → ℕ → List Operation → Type 0
AreFrom names numbers newest os =
    (service : List ℕ) → IsNewest (owners names numbers) service newest (length numbers)
    → sorted_set operation_cmp os ≡ own_operations service (map names.at numbers)

pub record IsLinked (rows services : List (List ℕ)) (newest earlier : List ℕ) : Type 0 where
  pub as_many : length newest ≡ length services
  pub chain : IsChain rows earlier
  pub same : (p : List ℕ → Bool) → list_any p services ≡ list_any p rows
  pub last : (s : ℕ) → s < length services → IsNewest rows (get_or services s []) (get_or newest s 0) (length rows)

-- ---- the index
-- the number of each of its parts, whatever the names
pub record IsSized (index : Index) : Type 0 where
  pub fits : index.room < 2 ^ 32
  pub within : index.used ≤ index.room
  pub few : length index.operations.numbers ≤ index.used
  pub fewer : length index.services.numbers ≤ length index.operations.numbers
  pub operations_room : index.operations.room ≡ index.room
  pub services_room : index.services.room ≡ index.room
  pub newest_links : length index.newest ≡ length index.services.numbers
  pub earlier_links : length index.earlier ≡ length index.operations.numbers

-- the index leads to its numbers by these names
pub record IsIndexed (names : Names) (index : Index) : Type 0 where
  pub operations : IsLabelTable (operation_labels names) index.operations
  pub services : IsLabelTable (service_number_labels names) index.services
  pub linked : IsLinked (owners names index.operations.numbers) (owners names index.services.numbers) index.newest index.earlier
