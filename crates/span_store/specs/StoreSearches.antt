-- A search of a store, and what it looked up there.
use Rattle.std.specs.Prelude.{◌≡◌, ℕ, Bool, [], Option}
use Rattle.std.specs.Bool.{OnFalse}
use Rattle.trace_model.specs.declared.query.Find.{Find}
use Rattle.trace_model.specs.LimitedHistories.{LimitedHistory}
use Rattle.trace_model.specs.Histories.{events}
use Rattle.trace_model.specs.Searching.{traces, found_in}
use Rattle.trace_ring.specs.FirstStarts.{Starts}
use Rattle.trace_assembly.specs.AssembledRows.{Assembled}
use Rattle.service_index.specs.declared.operation_rows.OperationRows.{OperationRows}
use Rattle.service_index.specs.KeptNames.{KeptNames}
use Rattle.service_index.specs.ServicePlaces.{ServicePlacesValue}
use Rattle.journal_traces.specs.Told.{AreTold, AreOperationsTold}
use Rattle.span_store.specs.StoreIndexes.{IsStoreKept}

-- a search, and the limits and the entries of the store that it reads
pub record StoreSearchValue : Type 0 where
  pub held : LimitedHistory
  pub query : Find

-- nothing is found unless an arrival has the requested names
abbrev pub IsKnown : LimitedHistory → Find → Bool → Type 0
IsKnown held q may_find = OnFalse may_find (found_in q (traces held.limits.traces (events held.entries)) ≡ [])

-- a search, the parts of the store that it reads, and what it looked up there: the number of its service, the rows
-- of its operation, and whether it may find anything
pub record Lookup : Type 0 where
  pub held : LimitedHistory
  pub shown : Assembled
  pub starts : Starts
  pub names : KeptNames
  pub by_service : ServicePlacesValue
  pub query : Find
  pub service : Option ℕ
  pub rows : Option OperationRows
  pub may_find : Bool

-- the store's parts are those of its entries, and the numbers are those of the requested names
pub record IsLookedUp (l : Lookup) : Type 0 where
  pub kept : IsStoreKept l.held l.shown l.starts l.names l.by_service
  pub told : AreTold l.query l.held.entries l.by_service.service_numbers l.service
  pub operations : AreOperationsTold l.query l.held.entries l.names.numbers.firsts l.names.operation_rows l.rows
  pub known : IsKnown l.held l.query l.may_find
