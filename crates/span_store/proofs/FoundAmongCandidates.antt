-- What a search finds among its candidates is the answer.
use Rattle.std.proofs.Common.{◌≡◌, Bool, true, false, List, map, ap}
use Rattle.std.specs.Prelude.{if◌then◌else◌}
use Rattle.jaeger_model.specs.declared.placed.Placed.{Placed}
use Rattle.trace_model.specs.LimitedHistories.{LimitedHistory}
use Rattle.trace_model.specs.Histories.{events}
use Rattle.trace_model.specs.Adjusting.{adjusted}
use Rattle.trace_model.specs.Answers.{answer}
use Rattle.trace_model.specs.Searching.{found_in, ids_of, traces}
use Rattle.trace_model.specs.declared.answer.Answer.TheVariants as say
use Rattle.trace_model.specs.declared.query.Find.{Find}
use Rattle.trace_model.specs.declared.query.Query.TheVariants as ask
use Rattle.span_store.specs.FoundAnswers.{found_answer}

pub found_is : (held : LimitedHistory) (q : Find) (ids_alone : Bool) (ts : List (List Placed))
    → found_in q ts ≡ found_in q (traces held.limits.traces (events held.entries))
    → found_answer held.limits q ids_alone ts ≡ answer held.limits held.entries (if ids_alone then ask.FindIds q else ask.Find q)
found_is held q true ts same = ap (λ found. say.Ids (ids_of found)) same
found_is held q false ts same = ap (λ found. say.Traces (map (adjusted held.limits.max_skew) found)) same
