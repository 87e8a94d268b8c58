-- What `pipe` writes for what it reads.
use Rattle.std.specs.Prelude.{◌≡◌, ℕ, ◌⊎◌, ◌++◌, false, []}
use Rattle.trace_model.specs.declared.limits.Limits.{Limits}
use Rattle.trace_model.specs.LimitedHistories.{LimitedHistory}
use Rattle.pipe_session.specs.DirectCalls.{direct_store}
use Rattle.http_session.specs.Sessions.{moment, EndsAs, FailsAs, last_of, exchange_due}
use Rattle.http_session.specs.declared.whole_session.EndReason.{EndReason}
use Rattle.http_session.specs.declared.whole_session.SessionErrorKind.{SessionErrorKind}
use Rattle.http_session.specs.declared.whole_session.SessionErrorKind.TheVariants.{Reading, Writing, Memory}
use Rattle.http_session.specs.declared.whole_session.SessionError.{SessionError}
use Rattle.pipe_session.specs.ExactAnswers.{IsExact}
use Rattle.session_devices.specs.Traffic.{Traffic}
use Rattle.text_lines.specs.declared.exit_status.ExitStatus.{ExitStatus}
use Rattle.text_lines.specs.declared.exit_status.ExitStatus.TheVariants.{Success, DeviceFailed, OutOfMemory}

abbrev pub cause_status : SessionErrorKind → ExitStatus
cause_status Reading = DeviceFailed
cause_status Writing = DeviceFailed
cause_status Memory = OutOfMemory

-- a session over an empty store ended, and no device failed
pub record PipesToTheEnd (input output : Traffic) (limits : Limits) : Type 0 where
  pub answered : ℕ
  pub reason : EndReason
  pub last : LimitedHistory
  pub ends : EndsAs direct_store (moment input.before output.before (record { limits = limits; entries = [] })) (moment input.after output.after last)
      (record { answered = answered; reason = reason })
  pub exact : IsExact (record { limits = limits; entries = [] }) (ends.opens ++ last_of ends.ending) last
  pub input_works : input.failed ≡ false
  pub output_works : output.failed ≡ false

-- a session over an empty store failed
pub record PipesUpTo (input output : Traffic) (limits : Limits) (status : ExitStatus) : Type 0 where
  pub error : SessionError
  pub status_is : status ≡ cause_status error.cause
  pub last : LimitedHistory
  pub fails : FailsAs direct_store (moment input.before output.before (record { limits = limits; entries = [] })) (moment input.after output.after last)
      (record { error = error; input_failed = input.failed; output_failed = output.failed })
  pub exact : IsExact (record { limits = limits; entries = [] }) (fails.opens ++ exchange_due fails.next) last

abbrev pub Pipes : Traffic → Traffic → Limits → ExitStatus → Type 0
Pipes input output limits status =
    ((status ≡ Success) × PipesToTheEnd input output limits) ⊎ PipesUpTo input output limits status
