-- What a search finds, as an answer, and among which traces.
use Rattle.std.specs.Prelude.{◌≡◌, Bool, List, map, if◌then◌else◌}
use Rattle.jaeger_model.specs.declared.placed.Placed.{Placed}
use Rattle.trace_model.specs.declared.answer.Answer.{Answer}
use Rattle.trace_model.specs.declared.answer.Answer.TheVariants as say
use Rattle.trace_model.specs.declared.limits.Limits.{Limits}
use Rattle.trace_model.specs.declared.query.Find.{Find}
use Rattle.trace_model.specs.Adjusting.{adjusted}
use Rattle.trace_model.specs.LimitedHistories.{LimitedHistory}
use Rattle.trace_model.specs.Histories.{events}
use Rattle.trace_model.specs.Searching.{found_in, ids_of, traces}
use Rattle.trace_assembly.specs.declared.spot.Spot.{Spot}
use Rattle.journal_traces.specs.SpansAtSpots.{traces_named}

-- what a search finds among traces: their ids alone, or the traces as they are shown
abbrev pub found_answer : Limits → Find → Bool → List (List Placed) → Answer
found_answer limits q ids_alone ts = if ids_alone then say.Ids (ids_of (found_in q ts)) else say.Traces (map (adjusted limits.max_skew) (found_in q ts))

-- it finds the same among the traces with these spots as among all
abbrev pub FindsTheSame : LimitedHistory → Find → List (List Spot) → Type 0
FindsTheSame held q spots = found_in q (traces_named held.entries spots) ≡ found_in q (traces held.limits.traces (events held.entries))
