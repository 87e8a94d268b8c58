-- Whether a history accepts an entry, and why not.
use Rattle.std.specs.Prelude.{ℕ, suc, ◌+◌, Bool, ◌&&◌, List, [], ◌∷◌, ◌++◌, length, fold, Option, Result, Ok, Err, get_or, if◌then◌else◌, nat_le}
use Rattle.std.specs.Option.{option_map_or}
use Rattle.std.specs.Result.{result_err}
use Rattle.trace_model.specs.declared.admission.Admission.{Admission}
use Rattle.trace_model.specs.declared.admission.Admission.TheVariants.{Added, Resent}
use Rattle.trace_model.specs.declared.entry.Entry.{Entry}
use Rattle.trace_model.specs.declared.limits.Limits.{Limits}
use Rattle.trace_model.specs.declared.refusal.Refusal.{Refusal}
use Rattle.trace_model.specs.declared.refusal.Refusal.TheVariants.{JournalFull, Stale, Conflict}
use Rattle.trace_model.specs.EntryWork.{spans_brought, same_work}
use Rattle.trace_model.specs.Histories.{last_number, span_count}
use Rattle.trace_model.specs.ResentBatches.{sent_before}
use Rattle.trace_model.specs.LimitedHistories.{LimitedHistory}

-- one more entry, with its spans, passes no limit
abbrev pub has_room : Limits → List Entry → Entry → Bool
has_room limits h e = nat_le (length h + 1) limits.batches && nat_le (span_count h + length (spans_brought e.work)) limits.spans

-- an entry whose batch was sent before, with n entries before that one: if the spans are equal, that place answers
-- for it
abbrev pub repeated : List Entry → Entry → ℕ → Result Admission Refusal
repeated h e before =
    if same_work e.work (get_or h before e).work then Ok (Resent (suc before))
    else Err (Conflict (suc before))

-- any other entry, judged first by its number and then by the limits
abbrev pub admitted_anew : Limits → List Entry → Entry → Result Admission Refusal
admitted_anew limits h e =
    if nat_le e.number (last_number e.seat h) then Err (Stale (last_number e.seat h))
    else if has_room limits h e then Ok Added
    else Err (JournalFull (length h) (span_count h))

-- what becomes of an entry that is submitted after this history (proofs use the facts of proofs/Admissions, and
-- unfold it nowhere else)
unfoldable pub admission : Limits → List Entry → Entry → Result Admission Refusal
admission limits h e = option_map_or (repeated h e) (sent_before h e) (admitted_anew limits h e)

-- the refusal, or None if the entry is accepted or was sent before
abbrev pub refusal_of : Limits → List Entry → Entry → Option Refusal
refusal_of limits h e = result_err (admission limits h e)

-- the history with the entry at its end
abbrev pub followed_by : LimitedHistory → Entry → LimitedHistory
followed_by held e = record held { entries = held.entries ++ e ∷ [] }

-- the history after the entry: longer by it if it was added, else unchanged
abbrev pub with_admitted : LimitedHistory → Entry → Result Admission Refusal → LimitedHistory
with_admitted held e (Ok Added) = followed_by held e
with_admitted held e (Ok (Resent place)) = held
with_admitted held e (Err why) = held

-- the history after one more submitted entry
abbrev pub history_after : Limits → List Entry → Entry → List Entry
history_after limits h e = (with_admitted (record { limits = limits; entries = h }) e (admission limits h e)).entries

-- the history after entries that are submitted in order, each judged after the accepted ones before it
abbrev pub history_of : Limits → List Entry → List Entry
history_of limits es = fold (history_after limits) [] es

-- the place of the entry, or of the one that answers for it
abbrev pub place_of : List Entry → Admission → ℕ
place_of h Added = length h + 1
place_of h (Resent place) = place
