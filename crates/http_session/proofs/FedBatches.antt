-- A batch that was fed as its body came.
use Rattle.std.proofs.Common.{◌≡◌, ℕ, List, [], ◌++◌, true, Result, Ok, Err, refl, sym, ap, ◌∙◌, inl, inr, append-nil}
use Rattle.jaeger_model.specs.declared.batch.Batch.{Batch as Reported}
use Rattle.batch_codec.specs.BatchReading.{decoded}
use Rattle.batch_codec.specs.declared.fault.DecodeError.{DecodeError}
use Rattle.batch_codec.specs.declared.fault.DecodeError.TheVariants.{Memory, Wire, Missing, BadEnum, Trailing}
use Rattle.batch_feeder.specs.FeederResults.{HasRefused, Feeds}
use Rattle.value_pieces.specs.ContinuedCalls.{Faults}
use Rattle.http_session.specs.Verdicts.{JudgesBatch}
use Rattle.http_session.specs.Questions.{JudgesRead}
use Rattle.http_session.specs.BodySinks.{Follows}
use Rattle.http_session.specs.declared.verdict.ErrorReply.TheVariants.{NoSuchPath, MethodNotAllowed, UnsupportedMediaType, BadBatch, BadParameter, NoMemory}
use Rattle.http_session.specs.declared.verdict.Verdict.{Verdict}
use Rattle.http_session.specs.declared.verdict.Verdict.TheVariants.{Submit, Ask, Reject}

module _ (old new : List ℕ → Result Reported DecodeError) (piece : List ℕ) where
  -- a fault that isn't that memory ran out is the bytes'
  keeps : (e : DecodeError) → (e ≡ Memory → ⊥) → Faults old piece e → HasRefused new e → Follows old piece new
  keeps e some faults stays = inl (λ rest. (faults some).same rest ∙ sym (stays.all rest))

  pub fed : (r : Result (Unit {0}) DecodeError) → Feeds old new piece r → Follows old piece new
  fed (Ok x) taken = inl taken.same
  fed (Err Memory) refuses = inr (refuses.stays, refuses.repeats)
  fed (Err (Wire e)) refuses = keeps (Wire e) (λ m. absurd (cc m)) refuses.faults refuses.stays
  fed (Err (Missing p i)) refuses = keeps (Missing p i) (λ m. absurd (cc m)) refuses.faults refuses.stays
  fed (Err BadEnum) refuses = keeps BadEnum (λ m. absurd (cc m)) refuses.faults refuses.stays
  fed (Err Trailing) refuses = keeps Trailing (λ m. absurd (cc m)) refuses.faults refuses.stays

module _ (old new : List ℕ → Result Reported DecodeError) (body : List ℕ) (reads : (w : List ℕ) → old w ≡ decoded w) where
  all : ((rest : List ℕ) → old (body ++ rest) ≡ new rest) → new [] ≡ decoded body
  all same = sym (same []) ∙ ap old (append-nil body) ∙ reads body

  pub batch_verdict : (v : Verdict) → Follows old body new → JudgesRead (new []) v → JudgesBatch true body v
  batch_verdict (Submit b) (inl same) is = (refl, sym (all same) ∙ is)
  batch_verdict (Submit b) (inr want) is = absurd (cc (want.0.all [], is))
  batch_verdict (Reject (BadBatch f)) (inl same) is = (refl, sym (all same) ∙ is.0)
  batch_verdict (Reject (BadBatch f)) (inr want) is = absurd (is.1 (cc (want.0.all [], is.0)))
  batch_verdict (Reject NoMemory) follows is = refl
  batch_verdict (Reject UnsupportedMediaType) follows is = absurd is
  batch_verdict (Reject NoSuchPath) follows is = absurd is
  batch_verdict (Reject (MethodNotAllowed e)) follows is = absurd is
  batch_verdict (Reject (BadParameter p)) follows is = absurd is
  batch_verdict (Ask q) follows is = absurd is
