-- The answers of a store with one owner to a session's requests, as a function of them.
use Rattle.std.specs.Prelude.{◌≡◌, ◌≢◌, List, [], ◌∷◌, ◌++◌, map, All, Option, Some, None}
use Rattle.trace_model.specs.declared.refusal.Refusal.{Refusal}
use Rattle.trace_model.specs.declared.refusal.Refusal.TheVariants.{NoMemory}
use Rattle.trace_model.specs.LimitedHistories.{LimitedHistory}
use Rattle.trace_model.specs.Refusals.{with_admitted}
use Rattle.trace_model.specs.Answers.{answer}
use Rattle.arrival_journal.specs.Journals.{admission_by, refusal_by}
use Rattle.span_store.specs.NextEntry.{next_entry}
use Rattle.pipe_session.specs.DirectCalls.{direct_store}
use Rattle.http_session.specs.SessionRuns.{Devices, EndsOnDevices, FailsOnDevices}
use Rattle.http_session.specs.Sessions.{Exchange, Moment, last_of, exchange_due}
use Rattle.http_session.specs.declared.whole_session.Ended.{Ended}
use Rattle.http_session.specs.declared.whole_session.SessionError.{SessionError}
use Rattle.http_session.specs.declared.verdict.Verdict.{Verdict}
use Rattle.http_session.specs.declared.verdict.Verdict.TheVariants.{Submit, Ask, Reject}
use Rattle.http_session.specs.declared.reply.Reply.{Reply}
use Rattle.http_session.specs.declared.reply.Reply.TheVariants.{Accepted, Answered, Refused, Error}

-- a batch is accepted unless the entries refuse it
abbrev pub reply_by : Option Refusal → Reply
reply_by None = Accepted
reply_by (Some why) = Refused why

-- the reply of a store that holds these entries
abbrev pub reply_at : LimitedHistory → Verdict → Reply
reply_at s (Submit b) = reply_by (refusal_by s (next_entry s b))
reply_at s (Ask q) = Answered (answer s.limits s.entries q)
reply_at s (Reject error) = Error error

-- what the store holds then: a batch that was sent before adds nothing
abbrev pub held_after : LimitedHistory → Verdict → LimitedHistory
held_after s (Submit b) = with_admitted s (next_entry s b) (admission_by s (next_entry s b))
held_after s (Ask q) = s
held_after s (Reject error) = s

abbrev pub replies_at : LimitedHistory → List Verdict → List Reply
replies_at s [] = []
replies_at s (v ∷ vs) = reply_at s v ∷ replies_at (held_after s v) vs

abbrev pub held_at_last : LimitedHistory → List Verdict → LimitedHistory
held_at_last s [] = s
held_at_last s (v ∷ vs) = held_at_last (held_after s v) vs

-- memory did not run out for the store's answers
abbrev pub HasMemory : List Exchange → Type 0
HasMemory xs = All (λ (x : Exchange). x.reply ≢ Refused NoMemory) xs

abbrev pub verdicts : List Exchange → List Verdict
verdicts xs = map (λ (x : Exchange). x.verdict) xs

-- the replies and the entries held at the end are those of the functions
abbrev pub IsExact : LimitedHistory → List Exchange → LimitedHistory → Type 0
IsExact s xs t = HasMemory xs → (map (λ (x : Exchange). x.reply) xs ≡ replies_at s (verdicts xs)) × (t ≡ held_at_last s (verdicts xs))

-- a session between an input and an output ended, and the store answered exactly so
abbrev pub EndsExactly : {R W : Type 0} → Devices R W → Moment R W LimitedHistory → Moment R W LimitedHistory → Ended → Type 0
EndsExactly devices before after ended =
    (over : EndsOnDevices direct_store devices before after ended)
    × IsExact before.store (over.0.opens ++ last_of over.0.ending) after.store

-- like EndsExactly, for a session that failed
abbrev pub FailsExactly : {R W : Type 0} → Devices R W → Moment R W LimitedHistory → Moment R W LimitedHistory → SessionError → Type 0
FailsExactly devices before after error =
    (over : FailsOnDevices direct_store devices before after error)
    × IsExact before.store (over.0.opens ++ exchange_due over.0.next) after.store
