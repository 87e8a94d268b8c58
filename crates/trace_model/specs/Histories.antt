-- Lists of entries, and which of them are legal.
use Rattle.std.specs.Prelude.{◌≡◌, ℕ, ◌<◌, ◌≤◌, List, [], ◌∷◌, ◌++◌, flat_map, sum_by, length, ◌==◌, ◌-◌, fold, max, take, if◌then◌else◌}
use Rattle.jaeger_model.specs.declared.placed.Placed.{Placed}
use Rattle.trace_model.specs.declared.entry.Entry.{Entry}
use Rattle.trace_model.specs.Events.{Event}
use Rattle.trace_model.specs.EntryWork.{spans_brought, placed_brought, events_brought}
use Rattle.trace_model.specs.declared.limits.Limits.{Limits}
use Rattle.trace_model.specs.ResentBatches.{SentOnceAfter}

-- the spans of all entries, in order
abbrev pub arrivals : List Entry → List Placed
arrivals h = flat_map (λ (e : Entry). placed_brought e.work) h

-- the arrivals with the limits that were set between them
abbrev pub events : List Entry → List (Event Placed)
events h = flat_map (λ (e : Entry). events_brought e.work) h

abbrev pub span_count : List Entry → ℕ
span_count h = sum_by (λ (e : Entry). length (spans_brought e.work)) h

-- all entries but the last
abbrev pub before_last : List Entry → List Entry
before_last h = take (length h - 1) h

-- the greatest number of the seat, 0 if it has none
abbrev pub last_number : ℕ → List Entry → ℕ
last_number seat h = fold (λ n (e : Entry). if e.seat == seat then max n e.number else n) 0 h

-- the number is above each number of its seat in the list
abbrev pub AboveEach : Entry → List Entry → Type 0
AboveEach e [] = Unit {0}
AboveEach e (d ∷ ds) = (d.seat ≡ e.seat → d.number < e.number) × AboveEach e ds

-- each number is above 0 and above every earlier one of its seat, also those of `before`
abbrev pub RisesAfter : List Entry → List Entry → Type 0
RisesAfter before [] = Unit {0}
RisesAfter before (e ∷ rest) = (0 < e.number) × AboveEach e before × RisesAfter (before ++ e ∷ []) rest

pub record IsLegal (limits : Limits) (h : List Entry) : Type 0 where
  pub rising : RisesAfter [] h
  pub sent_once : SentOnceAfter [] h
  pub batches : length h ≤ limits.batches
  pub spans : span_count h ≤ limits.spans
