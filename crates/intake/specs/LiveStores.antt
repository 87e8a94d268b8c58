-- What a store over a seat and a pass does, and what it knows.
use Rattle.std.specs.Prelude.{◌≡◌, ℕ, ◌⊎◌, List, Result, Ok, Err}
use mathlib.Core.List.{IsPrefix}
use Rattle.jaeger_model.specs.declared.batch.Batch.{Batch}
use Rattle.trace_model.specs.declared.entry.Entry.{Entry}
use Rattle.trace_model.specs.declared.entry.Work.TheVariants as brings
use Rattle.trace_model.specs.declared.limits.Limits.{Limits}
use Rattle.trace_model.specs.declared.query.Query.{Query}
use Rattle.trace_model.specs.declared.answer.Answer.{Answer}
use Rattle.trace_model.specs.declared.refusal.Refusal.{Refusal}
use Rattle.trace_model.specs.declared.refusal.Refusal.TheVariants.{NoMemory, Gone, Closed, NoReply}
use Rattle.trace_model.specs.Histories.{IsLegal}
use Rattle.trace_model.specs.Answers.{answer}
use Rattle.read_side.specs.Receipts.{AnsweredAt}
use Rattle.intake.specs.Seats.{SeatValue, IsNotQueued, next_job, with_job}
use Rattle.intake.specs.Denials.{IsReasonBy}
use Rattle.trace_model.specs.StoreKnowledge.{KnownList, reached, refused, RefusesBatch}

-- the seat, the longest list that the pass knows, and the longest list by which one of its batches was refused, or what
-- the pass knew at first
pub record LiveValue : Type 0 where
  pub seat : SeatValue
  pub known : List Entry
  pub refused_by : List Entry

-- desk, number and the right to submit don't change, and the list of the seat's jobs grows
pub record SeatGoesOn (s t : SeatValue) : Type 0 where
  pub desk_is : t.desk ≡ s.desk
  pub seat_is : t.seat ≡ s.seat
  pub may_submit_is : t.may_submit ≡ s.may_submit
  pub more : IsPrefix s.jobs t.jobs

-- a prefix of the longest list that the pass knows; or a legal prefix of the longest list that refused, which refuses the
-- batch for this reason
abbrev pub LiveKnows : Limits → LiveValue → KnownList → Type 0
LiveKnows limits s (reached h) = IsPrefix h s.known
LiveKnows limits s (refused b why h) = IsPrefix h s.refused_by × IsLegal limits h × RefusesBatch limits h b why

-- the seat submitted the batch
abbrev pub SubmitsAs : SeatValue → Batch → SeatValue → Type 0
SubmitsAs s b t = t ≡ with_job s (next_job s (brings.Batch b))

-- a legal list is known whose entry at the place answers for this one: it is this entry, or an earlier one with its
-- batch
abbrev pub KnowsPlace : Limits → Entry → ℕ → List Entry → Type 0
KnowsPlace limits e place known =
    (list : List Entry) × IsLegal limits list × AnsweredAt list place e × IsPrefix list known

-- one of the two lists is a prefix of the other
abbrev pub OneListBegins : List Entry → List Entry → Type 0
OneListBegins xs ys = IsPrefix xs ys ⊎ IsPrefix ys xs

-- the refusal of a queued job, after which the store is in this state: a legal prefix of the longest list that refused,
-- comparable with the known one, has this reason for its entry; or the clerk ended
abbrev pub IsRefusedJob : Limits → Entry → Refusal → LiveValue → Type 0
IsRefusedJob limits e why t =
    ((list : List Entry) × IsLegal limits list × OneListBegins list t.known × IsPrefix list t.refused_by × IsReasonBy limits list e why)
    ⊎ ((why ≡ Closed) ⊎ (why ≡ NoReply))

-- The seat submitted the batch, and a list that is known then answers for its entry at the place. Or it was refused:
-- the seat didn't submit it for the seat's own reason, or it did, and a list of the history has this reason for its entry.
abbrev pub LiveSubmits : Limits → LiveValue → Batch → Result ℕ Refusal → LiveValue → Type 0
LiveSubmits limits s b (Ok place) t =
    IsPrefix s.known t.known × SubmitsAs s.seat b t.seat
    × KnowsPlace limits (next_job s.seat (brings.Batch b)) place t.known
    × (t.refused_by ≡ s.refused_by)
LiveSubmits limits s b (Err why) t =
    (t.known ≡ s.known)
    × (((t.seat ≡ s.seat) × IsNotQueued s.seat why)
    ⊎ (SubmitsAs s.seat b t.seat × IsRefusedJob limits (next_job s.seat (brings.Batch b)) why t))
    × IsPrefix s.refused_by t.refused_by

-- The answer is the plain store's for the list that is known then, which is legal and starts with what was known. If
-- memory ran out, that list is legal too. If the store is gone, nothing changed.
abbrev pub LiveReads : Limits → LiveValue → Query → Result Answer Refusal → LiveValue → Type 0
LiveReads limits s q (Ok a) t =
    IsPrefix s.known t.known × (t.seat ≡ s.seat)
    × IsLegal limits t.known × (a ≡ answer limits t.known q)
    × (t.refused_by ≡ s.refused_by)
LiveReads limits s q (Err why) t =
    IsPrefix s.known t.known × (t.seat ≡ s.seat)
    × ((why ≡ NoMemory) ⊎ (why ≡ Gone)) × (why ≡ Gone → t.known ≡ s.known)
    × (why ≡ NoMemory → IsLegal limits t.known) × (t.refused_by ≡ s.refused_by)
