-- Sessions over a store with one owner in which memory never ran out, or not up to some exchange.
use Rattle.std.specs.Prelude.{◌≡◌, ◌≢◌, ℕ, ◌⊎◌, Bool, List, ◌∷◌, ◌++◌, All, Option, Some}
use mathlib.Core.List.{IsPrefix}
use Rattle.trace_model.specs.LimitedHistories.{LimitedHistory}
use Rattle.pipe_session.specs.DirectCalls.{direct_store}
use Rattle.http_session.specs.Sessions.{Exchange, Moment, moment, BytesMoment, SessionFailure, EndsAs, FailsAs, last_of, exchange_due}
use Rattle.http_session.specs.declared.whole_session.Ended.{Ended}
use Rattle.http_session.specs.declared.whole_session.SessionError.{SessionError}
use Rattle.http_session.specs.declared.verdict.ErrorReply.TheVariants.{NoMemory}
use Rattle.http_session.specs.declared.verdict.Verdict.TheVariants.{Reject}
use Rattle.pipe_session.specs.ExactAnswers.{HasMemory}

-- the start of a session: the bytes to come from the input, those of the output, and what the store holds
abbrev pub KnownStart : Type 0
KnownStart = Moment (List ℕ) (List ℕ) LimitedHistory

-- the end of a session, after which the bytes of the devices need not be known
abbrev pub SessionEnd : Type 0
SessionEnd = BytesMoment LimitedHistory

-- a session ended whose input had these bytes; its output follows what was written before
abbrev pub EndsOf : KnownStart → SessionEnd → Ended → Type 0
EndsOf before after ended =
    EndsAs direct_store (moment (Some before.input) (Some before.output) before.store) after ended

-- like EndsOf, for a session that failed
abbrev pub FailsOf : KnownStart → SessionEnd → SessionFailure → Type 0
FailsOf before after failure =
    FailsAs direct_store (moment (Some before.input) (Some before.output) before.store) after failure

-- memory ran out neither for a request nor for an answer of the store
pub record NeverWants (xs : List Exchange) : Type 0 where
  pub asked : All (λ (x : Exchange). x.verdict ≢ Reject NoMemory) xs
  pub answered : HasMemory xs

-- the result of a session that ended: what it wrote, what the store holds then, how many requests it answered, and
-- whether the input ended between two of them
pub record SessionResult : Type 0 where
  pub written : List ℕ
  pub held : LimitedHistory
  pub ended : Ended

-- a session with these input bytes over the store s ended with this result
pub record Finished (bytes : List ℕ) (s : LimitedHistory) (result : SessionResult) : Type 0 where
  pub before : List ℕ
  pub left : Option (List ℕ)
  pub ends : EndsAs direct_store (moment (Some bytes) (Some before) s) (moment left (Some (before ++ result.written)) result.held) result.ended
  pub memory : NeverWants (ends.opens ++ last_of ends.ending)

-- A session with these input bytes over the store s failed: what it wrote.
pub record Failed (bytes : List ℕ) (s : LimitedHistory) (written : List ℕ) : Type 0 where
  pub before : List ℕ
  pub left : Option (List ℕ)
  pub held : LimitedHistory
  pub in_failed : Bool
  pub out_failed : Bool
  pub error : SessionError
  pub fails : FailsAs direct_store (moment (Some bytes) (Some before) s) (moment left (Some (before ++ written)) held)
      (record { error = error; input_failed = in_failed; output_failed = out_failed })
  pub memory : NeverWants (fails.opens ++ exchange_due fails.next)

-- one of the two is a prefix of the other
abbrev pub OneTextBegins : List ℕ → List ℕ → Type 0
OneTextBegins w v = IsPrefix w v ⊎ IsPrefix v w

-- A session with these input bytes over the store s wrote these bytes first. So does a session that fails there without
-- running out of memory before.
pub record WroteFirst (bytes before : List ℕ) (out : Option (List ℕ)) (s : LimitedHistory) (first : List ℕ) : Type 0 where
  pub more : List ℕ
  pub written : out ≡ Some (before ++ (first ++ more))
  pub failed : Failed bytes s first

-- what was written is the output of a session that ended
abbrev pub WroteFinished : KnownStart → SessionEnd → Ended → Type 0
WroteFinished before after ended =
    (written : List ℕ) × (after.output ≡ Some (before.output ++ written))
    × Finished before.input before.store (record { written = written; held = after.store; ended = ended })

-- what was written is the output of a session that failed
abbrev pub WroteFailed : KnownStart → SessionEnd → Type 0
WroteFailed before after =
    (written : List ℕ) × (after.output ≡ Some (before.output ++ written)) × Failed before.input before.store written

-- the first of these exchanges are xs, more follow, and memory ran out for none of xs
abbrev pub HadMemoryFirst : List Exchange → List Exchange → Type 0
HadMemoryFirst xs all = (x : Exchange) × (rest : List Exchange) × (all ≡ xs ++ x ∷ rest) × NeverWants xs
