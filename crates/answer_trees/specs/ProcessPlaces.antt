-- The places of the processes of the spans so far.
use Rattle.std.specs.Prelude.{◌≡◌, ℕ, ◌<◌, true, List, Option, Some, All, length, map, take, get_or, slice_get}
use Rattle.std.specs.Ordering.{nat_cmp}
use Rattle.std.specs.BTreeMap.{get}
use Rattle.jaeger_model.specs.declared.placed.Placed.{Placed}
use Rattle.trace_model.specs.declared.answer.Shown.{Shown}
use Rattle.trace_model.specs.Adjusting.{spans_of}
use Rattle.trace_model.specs.SharedProcesses.{ShareProcesses}
use Rattle.answer_trees.specs.declared.naming.Placing.{Placing}
use Rattle.answer_trees.specs.ProcessNames.{among, place}
use Rattle.answer_trees.specs.ProcessNumbers.{IsByPlace, IsFirst, placed_processes}
use Rattle.answer_trees.specs.Trees.{processes_of}
use Rattle.answer_trees.specs.TraceProcesses.{process_place}

-- the number is the place of the process of one of the first spans, which has that key
pub record IsKnown (spans : List Shown) (keys : List ℕ) (i key number : ℕ) : Type 0 where
  pub index : ℕ
  pub before : index < i
  pub stands : slice_get keys index ≡ Some key
  pub counted : (d : Placed) → among (get_or (spans_of spans) index d).process (processes_of (take i spans)) ≡ true
  pub place : (d : Placed) → number ≡ place (get_or (spans_of spans) index d).process (processes_of spans)

-- whatever the map has for a key
abbrev pub AreKnown : List Shown → List ℕ → ℕ → (ℕ → Option ℕ) → Type 0
AreKnown spans keys i known = (key number : ℕ) → known key ≡ Some number → IsKnown spans keys i key number

-- the first i spans have been added
pub record HasPlaces (spans : List Shown) (keys : List ℕ) (i : ℕ) (p : Placing) : Type 0 where
  pub by_place : IsByPlace p.table
  pub processes : placed_processes p.table ≡ processes_of (take i spans)
  pub firsts : All (IsFirst spans) p.table.processes.items
  pub places : p.places.items ≡ map (process_place (processes_of spans)) (take i spans)
  pub known : AreKnown spans keys i (get nat_cmp p.known)

-- the processes of the first i spans have been added
pub record HasProcesses (spans : List Shown) (keys : List ℕ) (i : ℕ) (p : Placing) : Type 0 where
  pub by_place : IsByPlace p.table
  pub processes : placed_processes p.table ≡ processes_of (take i spans)
  pub firsts : All (IsFirst spans) p.table.processes.items
  pub known : AreKnown spans keys i (get nat_cmp p.known)

-- s is the span at the index, and this is its key
pub record ComesNext (spans : List Shown) (keys : List ℕ) (i : ℕ) (s : Shown) (key : Option ℕ) : Type 0 where
  pub within : i < length spans
  pub is : s ≡ get_or spans i s
  pub stands : key ≡ slice_get keys i
  pub shares : ShareProcesses (spans_of spans) keys
