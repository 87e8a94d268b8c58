-- Borrowed spans as they are shown, each moved by the delta of its clock or unchanged, and their logs.
use Rattle.std.specs.Prelude.{◌≡◌, ℕ, ℤ, pos, ◌+ℤ◌, IsTrue, Bool, true, false, List, [], ◌∷◌, map, get_or, drop, IsSome, Option, Some, None}
use Rattle.std.specs.List.{list_all}
use Rattle.jaeger_model.specs.declared.placed.Placed.{Placed}
use Rattle.jaeger_model.specs.declared.span.Log.{Log}
use Rattle.trace_model.specs.declared.answer.Shown.{Shown}
use Rattle.trace_model.specs.declared.answered_trace.KeptTrace.{KeptTrace}
use Rattle.trace_model.specs.Adjusting.{fits, move_log, shifted, spans_of, with_parent_first}
use Rattle.trace_model.specs.KeptTraces.{lone_value}
use Rattle.trace_model.specs.SharedProcesses.{ShareProcesses}
use Rattle.trace_model.specs.TakenSpans.{Taken, placed_taken, numbers_taken}
use Rattle.trace_adjust.specs.declared.lent_logs.LentLog.{LentLog}
use Rattle.trace_adjust.specs.declared.lent_spans.LentForm.{LentForm}
use Rattle.trace_adjust.specs.declared.lent_spans.LentForm.TheVariants.{Lone, Kept, Moved}

-- the logs, moved if there is a delta
abbrev pub logs_by : Option ℤ → List Log → List Log
logs_by None logs = logs
logs_by (Some d) logs = map (move_log d) logs

abbrev pub LogsCanMove : Option ℤ → List Log → Type 0
LogsCanMove None logs = Unit {0}
LogsCanMove (Some d) logs = IsTrue (list_all (λ (l : Log). fits (l.at +ℤ d)) logs)

abbrev pub lent_log : LentLog → Log
lent_log l = record { at = l.at; fields = l.fields.now }

-- a span before its skew is adjusted: as reported, or with the reference to its parent first
abbrev pub placed_as : Bool → Placed → Placed
placed_as true p = p
placed_as false p = with_parent_first p

-- each of the spans exists
abbrev pub AreThere : List Taken → Type 0
AreThere ts = map Some (placed_taken ts) ≡ map (λ (t : Taken). t.span) ts

-- the spans as they are shown, each moved by its delta, which is 0 for those after the last delta
abbrev pub shifted_all : ℕ → List ℤ → List Placed → List Shown
shifted_all max_skew deltas [] = []
shifted_all max_skew deltas (p ∷ ps) = shifted max_skew (get_or deltas 0 (pos 0)) p ∷ shifted_all max_skew (drop 1 deltas) ps

-- taken spans as they are shown
abbrev pub shown_spans : Bool → ℕ → List Taken → List ℤ → List Shown
shown_spans raw max_skew spans deltas = shifted_all max_skew deltas (map (placed_as raw) (placed_taken spans))

-- those of a trace
abbrev pub shown_by_deltas : KeptTrace → List ℤ → List Shown
shown_by_deltas t deltas = shown_spans t.raw t.max_skew t.spans.items deltas

-- the spans exist, and those with one key have one process
pub record AreLent (t : KeptTrace) (deltas : List ℤ) : Type 0 where
  pub there : AreThere t.spans.items
  pub shares : ShareProcesses (spans_of (shown_by_deltas t deltas)) (numbers_taken t.spans.items)

abbrev pub lent_value : LentForm → List Shown
lent_value (Lone t) = lone_value t
lent_value (Kept t) = shown_by_deltas t.value []
lent_value (Moved m) = shown_by_deltas m.value.trace.value m.value.deltas.items

abbrev pub IsLentForm : LentForm → Type 0
IsLentForm (Lone t) = IsSome t.span
IsLentForm (Kept t) = AreLent t.value []
IsLentForm (Moved m) = AreLent m.value.trace.value m.value.deltas.items
