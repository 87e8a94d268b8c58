-- What becomes of the seat in a piece of a session.
use Rattle.std.proofs.Common.{◌≡◌, List, ap, sym, subst, Ok, Err, inl, inr}
use mathlib.Core.List.{IsPrefix}
use Rattle.trace_model.specs.declared.entry.Entry.{Entry}
use Rattle.trace_model.specs.declared.limits.Limits.{Limits}
use Rattle.trace_model.proofs.Prefixes.{prefix_self}
use Rattle.trace_model.specs.StoreKnowledge.{ForgetsNothing}
use Rattle.http_session.specs.ResumableSessions.{AsksOnce}
use Rattle.http_session.specs.Sessions.{Step}
use Rattle.http_session.specs.declared.verdict.Verdict.{Verdict}
use Rattle.http_session.specs.declared.verdict.Verdict.TheVariants.{Submit, Ask, Reject}
use Rattle.http_session.specs.declared.reply.Reply.{Reply}
use Rattle.http_session.specs.declared.reply.Reply.TheVariants.{Accepted, Answered, Refused, Error, NoRequest}
use Rattle.intake.specs.LiveStores.{LiveValue, SeatGoesOn}
use Rattle.intake.specs.LiveLaws.{keeps}
use Rattle.intake.proofs.LiveSeats.{stays_same, submit_goes_on, read_goes_on}
use Rattle.trace_server.specs.WorkerConnections.{live_store}

step_goes_on : (limits : Limits) (s : LiveValue) (v : Verdict) (r : Reply) (t : LiveValue) → Step (live_store limits) s v r t
    → SeatGoesOn s.seat t.seat
step_goes_on limits s (Submit b) Accepted t d = submit_goes_on limits s b (Ok d.0) t d.1
step_goes_on limits s (Submit b) (Refused why) t d = submit_goes_on limits s b (Err why) t d
step_goes_on limits s (Submit b) (Answered a) t d = absurd d
step_goes_on limits s (Submit b) (Error m) t d = absurd d
step_goes_on limits s (Submit b) (NoRequest m) t d = absurd d
step_goes_on limits s (Ask q) (Answered a) t d = read_goes_on limits s q (Ok a) t d
step_goes_on limits s (Ask q) (Refused why) t d = read_goes_on limits s q (Err why) t d
step_goes_on limits s (Ask q) Accepted t d = absurd d
step_goes_on limits s (Ask q) (Error m) t d = absurd d
step_goes_on limits s (Ask q) (NoRequest m) t d = absurd d
step_goes_on limits s (Reject m) (Error said) t d = stays_same s.seat t.seat (ap (λ (z : LiveValue). z.seat) d.1)
step_goes_on limits s (Reject m) Accepted t d = absurd d
step_goes_on limits s (Reject m) (Answered a) t d = absurd d
step_goes_on limits s (Reject m) (Refused why) t d = absurd d
step_goes_on limits s (Reject m) (NoRequest b) t d = absurd d

pub asking_goes_on : (limits : Limits) (s t : LiveValue) → AsksOnce (live_store limits) s t → SeatGoesOn s.seat t.seat
asking_goes_on limits s t (inl same) = stays_same s.seat t.seat (ap (λ (z : LiveValue). z.seat) same)
asking_goes_on limits s t (inr does) = step_goes_on limits s does.0 does.1 t does.2

-- what is learnt is known besides
pub learning_keeps : (limits : Limits) (s t : LiveValue) → IsPrefix s.known t.known → t.refused_by ≡ s.refused_by
    → ForgetsNothing (live_store limits).limits (live_store limits).knows s t
learning_keeps limits s t more same =
    keeps limits s t more (subst (λ (z : List Entry). IsPrefix s.refused_by z) (sym same) (prefix_self s.refused_by))
