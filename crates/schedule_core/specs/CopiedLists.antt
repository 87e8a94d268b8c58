-- What is accepted, and how much of it two copies of a store have.
use Rattle.std.specs.Prelude.{◌≡◌, [], ◌∷◌, ◌++◌, List, Result, Ok, Err}
use mathlib.Core.List.{IsPrefix}
use Rattle.trace_model.specs.declared.admission.Admission.{Admission}
use Rattle.trace_model.specs.declared.admission.Admission.TheVariants.{Added, Resent}
use Rattle.trace_model.specs.declared.entry.Entry.{Entry}
use Rattle.trace_model.specs.declared.limits.Limits.{Limits}
use Rattle.trace_model.specs.declared.refusal.Refusal.{Refusal}
use Rattle.trace_model.specs.LimitedHistories.{LimitedHistory}
use Rattle.trace_model.specs.Histories.{IsLegal}

-- One copy holds the history, the other one what it held before; pending is what else is accepted.
pub record Copied : Type 0 where
  pub limits : Limits
  pub before : List Entry
  pub history : List Entry
  pub pending : List Entry

-- both copies have prefixes of what is accepted
pub record IsCopied (accepted shown spare : LimitedHistory) : Type 0 where
  pub limits_shown : shown.limits ≡ accepted.limits
  pub limits_spare : spare.limits ≡ accepted.limits
  pub begins_shown : IsPrefix shown.entries accepted.entries
  pub begins_spare : IsPrefix spare.entries accepted.entries
  pub legal : IsLegal accepted.limits accepted.entries

abbrev pub all_of : Copied → LimitedHistory
all_of c = record { limits = c.limits; entries = c.history ++ c.pending }

abbrev pub with_pending : Copied → Entry → Copied
with_pending c e = record c { pending = c.pending ++ e ∷ [] }

-- the entry is pending if it was added, and nothing has changed if it was not
abbrev pub after_admission : Copied → Entry → Result Admission Refusal → Copied
after_admission c e (Ok Added) = with_pending c e
after_admission c e (Ok (Resent place)) = c
after_admission c e (Err why) = c

-- the copies have swapped roles, and the shown one has all
abbrev pub swapped : Copied → Copied
swapped c = record { limits = c.limits; before = c.history; history = c.history ++ c.pending; pending = [] }
