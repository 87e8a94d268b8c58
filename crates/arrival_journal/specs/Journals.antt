-- What a journal has, and how it answers.
use Rattle.std.specs.Prelude.{Option, ℕ, Result}
use Rattle.trace_model.specs.declared.admission.Admission.{Admission}
use Rattle.trace_model.specs.declared.entry.Entry.{Entry}
use Rattle.trace_model.specs.declared.refusal.Refusal.{Refusal}
use Rattle.trace_model.specs.declared.refusal.Refusal.TheVariants.{NoMemory}
use Rattle.std.specs.Option.{unwrap_or}
use Rattle.trace_model.specs.Refusals.{admission, refusal_of, place_of}
use Rattle.std.specs.Result.{result_map_both}
use Rattle.trace_model.specs.LimitedHistories.{LimitedHistory}

-- the history
pub record Journaled : Type 0 where
  pub held : LimitedHistory

-- what becomes of this entry
abbrev pub admission_by : LimitedHistory → Entry → Result Admission Refusal
admission_by held e = admission held.limits held.entries e

-- the place of this entry, or of the one that answers for it
abbrev pub place_by : LimitedHistory → Entry → Result ℕ Refusal
place_by held e = result_map_both (place_of held.entries) (λ why. why) (admission_by held e)

-- the refusal of this entry by the history; None if the history accepts it or has it already
abbrev pub refusal_by : LimitedHistory → Entry → Option Refusal
refusal_by held e = refusal_of held.limits held.entries e

-- why the entry was refused: by the history, or, only if the history accepts it, because memory ran out
abbrev pub turned_away_by : LimitedHistory → Entry → Refusal
turned_away_by held e = unwrap_or (refusal_by held e) NoMemory
