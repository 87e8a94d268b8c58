-- A search over candidates that were collected from a store, and the processes that it judged.
use Rattle.std.specs.Prelude.{◌≡◌, ℕ, Bool, false, List, [], get_or, Option, IfSome}
use Rattle.std.specs.BTreeMap.{BTreeMap, get}
use Rattle.std.specs.Ordering.{nat_cmp}
use Rattle.jaeger_model.specs.declared.batch.Process.{Process}
use Rattle.jaeger_model.specs.declared.placed.Placed.{Placed}
use Rattle.trace_model.specs.declared.query.Find.{Find}
use Rattle.find_traces.specs.RequestedPairs.{Judgement}
use Rattle.collected_traces.specs.declared.judged_entries.JudgedEntries.{JudgedEntries}
use Rattle.collected_traces.specs.ProcessConditions.{IsJudgedAs}

-- the process of the number was judged with this result
abbrev pub IsOfNumber : Find → (ℕ → Option Process) → ℕ → Option Judgement → Type 0
IsOfNumber q process_of n judged = IfSome (process_of n) (λ (p : Process). IsJudgedAs q p judged)

abbrev pub AreJudged : Find → (ℕ → Option Process) → BTreeMap ℕ (Option Judgement) → Type 0
AreJudged q process_of m = (n : ℕ) → IfSome (get nat_cmp m n) (IsOfNumber q process_of n)

-- no entry was judged
pub record HasJudgedNothing (j : JudgedEntries) : Type 0 where
  pub flags : j.flags.items ≡ []
  pub processes : (q : Find) (process_of : ℕ → Option Process) → AreJudged q process_of j.processes

-- whether a span of the entry with the number may meet the search, by the flag of each entry
abbrev pub may_number_meet : List Bool → ℕ → Bool
may_number_meet flags n = get_or flags n false

-- the traces among which a search is made, and the search
abbrev pub traces_taken : Find × List (List Placed) → List (List Placed)
traces_taken s = s.1

abbrev pub query_taken : Find × List (List Placed) → Find
query_taken s = s.0
