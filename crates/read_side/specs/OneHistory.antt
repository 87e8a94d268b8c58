-- What a call says of its own list, in terms of the one list of which every call's list is a prefix.
use Rattle.std.specs.Prelude.{◌≡◌, ◌≤◌, ◌==◌, ◌&&◌, ℕ, Bool, List, [], ◌∷◌, Some, take, length, filter}
use Rattle.trace_model.specs.declared.answer.Answer.{Answer}
use Rattle.trace_model.specs.declared.entry.Entry.{Entry}
use Rattle.trace_model.specs.declared.limits.Limits.{Limits}
use Rattle.trace_model.specs.declared.query.Query.{Query}
use Rattle.trace_model.specs.declared.refusal.Refusal.{Refusal}
use Rattle.trace_model.specs.Answers.{answer}
use Rattle.trace_model.specs.Refusals.{refusal_of}
use Rattle.trace_model.specs.ResentBatches.{AnswersFor}
use Rattle.read_side.specs.Receipts.{StandsAt}

-- the answer is the plain store's for the first entries, as many as the front says
pub record IsAnswered (limits : Limits) (whole : List Entry) (q : Query) (a : Answer) : Type 0 where
  pub front : ℕ
  pub within : front ≤ length whole
  pub answer_is : a ≡ answer limits (take front whole) q

-- the first entries, as many as the front says, leave the entry out for this reason
pub record IsRefused (limits : Limits) (whole : List Entry) (e : Entry) (why : Refusal) : Type 0 where
  pub front : ℕ
  pub within : front ≤ length whole
  pub reason : refusal_of limits (take front whole) e ≡ Some why

-- both are of one seat and have one number there
abbrev pub is_same_job : Entry → Entry → Bool
is_same_job d e = (e.seat == d.seat) && (e.number == d.number)

-- an entry that answers for this one is at the place, and nowhere else
pub record IsAcknowledged (whole : List Entry) (place : ℕ) (e : Entry) : Type 0 where
  pub by : Entry
  pub stands : StandsAt whole place by
  pub answers : AnswersFor by e
  pub once : filter (is_same_job by) whole ≡ by ∷ []
