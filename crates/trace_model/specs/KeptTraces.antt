-- Traces of an answer whose spans are in their entries.
use Rattle.std.specs.Prelude.{List, [], ◌∷◌, map}
use Rattle.trace_model.specs.declared.answer.Shown.{Shown}
use Rattle.trace_model.specs.declared.answered_trace.KeptTrace.{KeptTrace}
use Rattle.trace_model.specs.declared.answered_trace.TraceForm.{TraceForm}
use Rattle.trace_model.specs.declared.answered_trace.TraceForm.TheVariants.{Copied, Lone, Kept}
use Rattle.trace_model.specs.Adjusting.{shown_as, unadjusted, with_parent_first}
use Rattle.trace_model.specs.SharedProcesses.{ShareProcesses}
use Rattle.trace_model.specs.TakenSpans.{Taken, placed_taken, numbers_taken}

-- the only span of a trace as it is shown: no clock moves it, and the reference to its parent is the first one
abbrev pub lone_value : Taken → List Shown
lone_value t = map unadjusted (map with_parent_first (placed_taken (t ∷ [])))

-- the spans as they are shown
abbrev pub kept_value : KeptTrace → List Shown
kept_value t = shown_as t.max_skew t.raw (placed_taken t.spans.items)

-- spans with one key have one process
abbrev pub KeptShares : KeptTrace → Type 0
KeptShares t = ShareProcesses (placed_taken t.spans.items) (numbers_taken t.spans.items)

abbrev pub form_value : TraceForm → List Shown
form_value (Copied shown) = shown.value
form_value (Lone t) = lone_value t
form_value (Kept t) = kept_value t.value

abbrev pub FormShares : TraceForm → Type 0
FormShares (Copied shown) = Unit {0}
FormShares (Lone t) = Unit {0}
FormShares (Kept t) = KeptShares t.value
