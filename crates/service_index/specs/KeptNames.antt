-- The index of the arrivals of a list of entries.
use Rattle.std.specs.Prelude.{◌≡◌, ℕ, ◌<◌, Bool, true, ◌&&◌, List, [], map, filter, length, get_or}
use Rattle.std.specs.List.{list_any}
use Rattle.jaeger_model.specs.declared.placed.Placed.{Placed}
use Rattle.jaeger_model.specs.Texts.{same_text, sorted_set}
use Rattle.trace_model.specs.declared.entry.Entry.{Entry}
use Rattle.trace_model.specs.declared.answer.Operation.{Operation}
use Rattle.trace_model.specs.Histories.{arrivals}
use Rattle.trace_model.specs.Names.{operation_names, operations, operation_cmp, is_asked_kind}
use Rattle.service_index.specs.ListedNames.{Listed, listed, listed_in}
use Rattle.service_index.specs.ListedNames.{names_of as sorted_names}
use Rattle.service_index.specs.Labels.{Names, service_alone}
use Rattle.service_index.specs.Indexes.{Index, IsIndexed, listing_by}
use Rattle.service_index.specs.ServicePlaces.{service_number_in}
use Rattle.jaeger_model.specs.declared.kind.Kind.{Kind}
use Rattle.jaeger_model.specs.Kinds.{kind_text}
use Rattle.service_index.specs.ArrivalNumbers.{Numbered, AreOf}
use Rattle.service_index.specs.OperationRows.{AreOperationRows, is_among}

-- what the arrivals report, one after the other
abbrev pub reports : List Entry → List Listed
reports h = map listed (arrivals h)

-- what the arrival with a number reports
abbrev pub reported_at : List Entry → ℕ → Listed
reported_at h n = get_or (reports h) n (service_alone [])

-- the kinds are those of the arrivals
abbrev pub AreKinds : List Entry → List Kind → Type 0
AreKinds h kinds = map kind_text kinds ≡ map (λ (l : Listed). l.operation.kind) (reports h)

-- the names of the arrivals by their arrival numbers, and the numbers of their services
abbrev pub names_of_arrivals : List Entry → Names
names_of_arrivals h = record { count = length (arrivals h); at = reported_at h; service_number = λ n. service_number_in h (reported_at h n).service }

-- the value of the index, and for each arrival the row of its operation
pub record KeptNames : Type 0 where
  pub numbers : Numbered
  pub index : Index
  pub operation_rows : List ℕ

-- the index is that of the arrivals of these entries
pub record AreNamesKept (h : List Entry) (kept : KeptNames) : Type 0 where
  pub numbers : AreOf h kept.numbers.entry_of kept.numbers.firsts
  pub kinds : AreKinds h kept.numbers.kinds
  pub indexed : IsIndexed (names_of_arrivals h) kept.index
  pub listed : listing_by (names_of_arrivals h) kept.index ≡ listed_in (arrivals h)
  pub used : kept.index.used ≡ length (arrivals h)
  pub rows : AreOperationRows (names_of_arrivals h) kept.index.operations.numbers kept.operation_rows
  pub all_rows : length kept.operation_rows ≡ length (arrivals h)

-- an arrival is of the service
abbrev pub reports_service : List ℕ → List Placed → Bool
reports_service service ps = list_any (λ (p : Placed). same_text service p.process.service) ps

-- an arrival is of the service and of this operation
abbrev pub reports_operation : List ℕ → List ℕ → List Placed → Bool
reports_operation service name ps = list_any (λ (p : Placed). same_text service p.process.service && same_text name p.span.operation) ps

-- an arrival of the service has the operation exactly if its row is among the requested ones
pub record TellOperation (h : List Entry) (rows : List ℕ) (service operation requested : List ℕ) : Type 0 where
  pub tells : (n : ℕ) → n < length (arrivals h) → same_text service (reported_at h n).service ≡ true
      → is_among requested (get_or rows n 0) ≡ same_text operation (reported_at h n).operation.name

-- sorted, these are the operations of the service, of any kind, and their names
pub record AreOperations (service : List ℕ) (ps : List Placed) (found : List Operation) : Type 0 where
  pub names : sorted_names found ≡ operation_names service ps
  pub operations : (kind : List ℕ) → filter (is_asked_kind kind) (sorted_set operation_cmp found) ≡ operations service kind ps
