-- A status of a failed device while both devices work says how many reads were made.
use Rattle.std.proofs.Common.{◌≡◌, ℕ, ◌⊎◌, inl, inr, Bool, true, false, List, [], ◌∷◌, ◌++◌, Option, subst, sym, ◌∙◌, arith}
use Rattle.session_devices.specs.ByteTransfers.{ByteTransfer}
use Rattle.http_requests.specs.AwaitedReads.{GivesWhile, FailsToRead, Source, input_moment, read_rule}
use Rattle.http_session.specs.Sessions.{Exchange, IsCause}
use Rattle.http_session.specs.ReadTurns.{input_run, ReadsInTurnUpTo}
use Rattle.http_session.specs.declared.whole_session.SessionErrorKind.{SessionErrorKind}
use Rattle.http_session.specs.declared.whole_session.SessionErrorKind.TheVariants.{Reading, Writing, Memory}
use Rattle.text_lines.specs.declared.exit_status.ExitStatus.{ExitStatus}
use Rattle.text_lines.specs.declared.exit_status.ExitStatus.TheVariants.{DeviceFailed}
use Rattle.session_devices.specs.declared.limits.TheConstants.{MAX_READS}
use Rattle.text_lines.specs.RunErrors.{BothWork}
use Rattle.text_lines.specs.ReadCounts.{GivesEach, MakesReads, StatusIsReads, reads_of}
use Rattle.trace_model.specs.declared.limits.Limits.{Limits}
use Rattle.jaeger_model.specs.declared.ids.TraceId.{TraceId}
use Rattle.commands.specs.GetRuns.{status_at as get_status}
use Rattle.commands.specs.PlayRuns.{status_at as play_status}
use Rattle.commands.specs.PipeRuns.{cause_status}

never_both : {A : Type 0} (b : Bool) → b ≡ true → b ≡ false → A
never_both b is_true is_false = absurd (let both : true ≡ false = sym is_true ∙ is_false in cc)

-- ---- a session

each_read : {R : Type 0} (gives : ByteTransfer R) (Awaits : List ℕ → Type 0) (s t : R) (old new : List ℕ) (pieces : List (List ℕ))
    → GivesWhile (read_rule gives Awaits) (input_moment s old) (input_moment t new) pieces → GivesEach (reads_of gives s t) pieces
each_read gives Awaits s t old new [] e = e.0
each_read gives Awaits s t old new (p ∷ ps) e = (e.1, e.2, each_read gives Awaits e.1 t (old ++ p) new ps e.3)

made_by : (cause : SessionErrorKind) (i o : Bool) (taken : List ℕ) (made : ℕ) → IsCause cause i o taken made → cause_status cause ≡ DeviceFailed
    → i ≡ false → o ≡ false → made ≡ MAX_READS
made_by Reading i o taken made c lost works writes =
    elim c.0 [ inl failed ↦ never_both i failed works | inr met ↦ omega (arith, met.0) ]
made_by Writing i o taken made c lost works writes = never_both o c.0 writes
made_by Memory i o taken made c lost works writes = absurd cc

-- a session that failed
pub session_limit : {R : Type 0} (source : Source R) (in0 in1 : R) (i o : Bool) (opens : List Exchange) (taken : List ℕ) (made : ℕ)
    (cause : SessionErrorKind) (status : ExitStatus)
    → IsCause cause i o taken made → ReadsInTurnUpTo source (input_run in0 in1 i) opens taken made → status ≡ cause_status cause
    → StatusIsReads (reads_of source.gives in0 in1) (BothWork i o) status
session_limit source in0 in1 i o opens taken made cause status why f is = λ lost work.
    last f.last work.0 (made_by cause i o taken made why (sym is ∙ lost) work.0 work.1)
  where
    last : (in1 ≡ f.before) ⊎ FailsToRead source f.before in1 i → i ≡ false → made ≡ MAX_READS → MakesReads (reads_of source.gives in0 in1) MAX_READS
    last (inl same) works made_is = (
      f.reads.pieces,
      subst (λ r. GivesEach (reads_of source.gives in0 r) f.reads.pieces) (sym same)
          (each_read source.gives _ in0 f.before [] taken f.reads.pieces f.reads.each),
      f.count ∙ made_is,
    )
    last (inr failed) works made_is = never_both i failed.0 works

-- ---- lines

pub get_never_failed : (faulty found : Bool) → get_status faulty found ≡ DeviceFailed → ⊥
get_never_failed true found lost = cc
get_never_failed false true lost = cc
get_never_failed false false lost = cc

pub play_never_failed : (faulty : Bool) → play_status faulty ≡ DeviceFailed → ⊥
play_never_failed true lost = cc
play_never_failed false lost = cc
