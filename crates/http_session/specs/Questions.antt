-- The question of a request's head, and the verdict with its body.
use Rattle.std.specs.Prelude.{◌≡◌, ◌≢◌, ℕ, true, List, Result, Ok, Err}
use Rattle.jaeger_model.specs.declared.batch.Batch.{Batch as BatchValue}
use Rattle.batch_codec.specs.declared.fault.DecodeError.{DecodeError}
use Rattle.batch_codec.specs.declared.fault.DecodeError.TheVariants.{Memory}
use Rattle.http_requests.specs.HeadContents.{Asked}
use Rattle.http_session.specs.Verdicts.{JudgesBatch, Judges}
use Rattle.http_session.specs.declared.question.Question.{Question}
use Rattle.http_session.specs.declared.question.Question.TheVariants.{Settled, Batch}
use Rattle.http_session.specs.declared.verdict.ErrorReply.TheVariants.{NoSuchPath, MethodNotAllowed, UnsupportedMediaType, BadBatch, BadParameter, NoMemory}
use Rattle.http_session.specs.declared.verdict.Verdict.{Verdict}
use Rattle.http_session.specs.declared.verdict.Verdict.TheVariants.{Submit, Ask, Reject}

-- the verdict on a body
abbrev pub Decides : Question → List ℕ → Verdict → Type 0
Decides (Settled settled) body v = v ≡ settled
Decides Batch body v = JudgesBatch true body v

-- the verdict, whatever the body is
abbrev pub AsksQuestion : Asked → Question → Type 0
AsksQuestion a q = (body : List ℕ) (v : Verdict) → Decides q body v → Judges a body v

-- the verdict on a batch that was decoded, or on the fault
abbrev pub JudgesRead : Result BatchValue DecodeError → Verdict → Type 0
JudgesRead read (Submit b) = read ≡ Ok b
JudgesRead read (Reject (BadBatch f)) = (read ≡ Err f) × (f ≢ Memory)
JudgesRead read (Reject NoMemory) = read ≡ Err Memory
JudgesRead read (Reject UnsupportedMediaType) = ⊥
JudgesRead read (Reject NoSuchPath) = ⊥
JudgesRead read (Reject (MethodNotAllowed e)) = ⊥
JudgesRead read (Reject (BadParameter p)) = ⊥
JudgesRead read (Ask q) = ⊥
