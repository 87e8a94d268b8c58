-- The output of a session over a store with one owner is a function of the bytes, the entries and the limits.
use Rattle.std.proofs.Common.{◌≡◌, ℕ, ◌+◌, Bool, List, ◌++◌, length, take, Option, Some, None, sym, ap, ◌∙◌, subst, append_assoc}
use Rattle.std.proofs.lemmas.List.{append_cancel_left}
use mathlib.Core.List.{IsPrefix}
use Rattle.trace_model.specs.LimitedHistories.{LimitedHistory}
use Rattle.trace_model.proofs.Prefixes.{prefix_self, prefix_trans}
use Rattle.pipe_session.specs.DirectCalls.{direct_store}
use Rattle.http_session.specs.Sessions.{Exchange, texts, moment, Run, EndsAs, FailsAs, last_of, responses, malformed_responses, end_reason, exchange_due}
use Rattle.http_session.specs.Sessions.{bytes_due}
use Rattle.http_session.specs.declared.whole_session.EndReason.{EndReason}
use Rattle.http_session.specs.declared.whole_session.SessionError.{SessionError}
use Rattle.pipe_session.specs.OneFunction.{NeverWants, SessionResult, Finished, Failed}
use Rattle.pipe_session.proofs.ExactRuns.{exact}
use Rattle.pipe_session.proofs.Courses.{Stand, ends_at, RunsTo, runs_to, one_course}
use Rattle.pipe_session.proofs.Prefixes.{spoken, Stops, stops, due_at, meant, meant_begins, part_begins}

-- the exchanges of a run in which memory didn't run out stand at the start of the bytes
stand : (bytes taken rest left : List ℕ) (s t : LimitedHistory) (xs : List Exchange) → bytes ≡ taken ++ left → taken ≡ texts xs ++ rest
    → Run direct_store s xs t → NeverWants xs
    → Stand bytes s xs (rest ++ left) t
stand bytes taken rest left s t xs read split run memory =
    let is = exact s t xs run memory.answered in
    record {
      front = read ∙ ap (λ (l : List ℕ). l ++ left) split ∙ append_assoc (texts xs) rest left;
      memory = memory.asked;
      replies = is.0;
      held = is.1;
    }

-- ---- the course of a session that ended

course : (bytes before out : List ℕ) (left : Option (List ℕ)) (s t : LimitedHistory) (n : ℕ) (c : EndReason)
    (ends : EndsAs direct_store (moment (Some bytes) (Some before) s) (moment left (Some out) t) (record { answered = n; reason = c }))
    → NeverWants (ends.opens ++ last_of ends.ending) → RunsTo bytes s ends.opens ends.ending t
course bytes before out None s t n c ends memory = absurd ends.read
course bytes before out (Some left) s t n c ends memory =
    runs_to bytes s ends.opens ends.ending (ends.rest ++ left) t ends.each
    (stand bytes ends.taken ends.rest left s t (ends.opens ++ last_of ends.ending) ends.read ends.split ends.run memory)
    (ends_at ends.rest left ends.ending ends.ends)

said : (bytes : List ℕ) (s : LimitedHistory) (result : SessionResult) (f : Finished bytes s result) → result.written ≡ spoken f.ends.opens f.ends.ending
said bytes s result f = append_cancel_left f.before result.written (spoken f.ends.opens f.ends.ending) f.ends.written

finished_course : (bytes : List ℕ) (s : LimitedHistory) (result : SessionResult) (f : Finished bytes s result)
    → RunsTo bytes s f.ends.opens f.ends.ending result.held
finished_course bytes s result f =
    course bytes f.before (f.before ++ result.written) f.left s result.held result.ended.answered result.ended.reason f.ends f.memory

pub one_function : (bytes : List ℕ) (s : LimitedHistory) (one other : SessionResult) → Finished bytes s one → Finished bytes s other → one ≡ other
one_function bytes s one other f g =
    let same = one_course bytes s f.ends.opens g.ends.opens f.ends.ending g.ends.ending one.held other.held
    (finished_course bytes s one f) (finished_course bytes s other g) in
    let written : one.written ≡ other.written =
    said bytes s one f ∙ (λ i. spoken (same.0 i) (same.1 i)) ∙ sym (said bytes s other g) in
    let answered : one.ended.answered ≡ other.ended.answered =
    f.ends.count ∙ (λ i. length (same.0 i ++ last_of (same.1 i)) + malformed_responses (same.1 i)) ∙ sym g.ends.count in
    let reason : one.ended.reason ≡ other.ended.reason = f.ends.reason_is ∙ ap end_reason same.1 ∙ sym g.ends.reason_is in
    λ i. record { written = written i; held = same.2 i; ended = record { answered = answered i; reason = reason i } }

-- ---- the course of a session that failed

stopped : (bytes before out : List ℕ) (left : Option (List ℕ)) (s t : LimitedHistory) (i o : Bool) (e : SessionError)
    (fails : FailsAs direct_store (moment (Some bytes) (Some before) s) (moment left (Some out) t)
    (record { error = e; input_failed = i; output_failed = o }))
    → NeverWants (fails.opens ++ exchange_due fails.next) → Stops bytes s fails.opens fails.next
stopped bytes before out None s t i o e fails memory = absurd fails.read
stopped bytes before out (Some left) s t i o e fails memory =
    stops bytes s fails.opens fails.next (fails.rest ++ left) t fails.each
    (stand bytes fails.taken fails.rest left s t (fails.opens ++ exchange_due fails.next) fails.read fails.split fails.run memory)
    (due_at e.cause fails.rest left fails.next fails.next_is)

pub failed_course : (bytes : List ℕ) (s : LimitedHistory) (w : List ℕ) (f : Failed bytes s w) → Stops bytes s f.fails.opens f.fails.next
failed_course bytes s w f = stopped bytes f.before (f.before ++ w) f.left s f.held f.in_failed f.out_failed f.error f.fails f.memory

-- what was written begins what was meant
pub wrote : (bytes : List ℕ) (s : LimitedHistory) (w : List ℕ) (f : Failed bytes s w) → IsPrefix w (meant f.fails.opens f.fails.next)
wrote bytes s w f =
    let all : List ℕ = meant f.fails.opens f.fails.next in
    let own : w ≡ responses f.fails.opens ++ take f.error.written (bytes_due f.fails.next) =
    append_cancel_left f.before w (responses f.fails.opens ++ take f.error.written (bytes_due f.fails.next)) f.fails.written in
    subst (λ (l : List ℕ). IsPrefix l all) (sym own) (part_begins (responses f.fails.opens) (bytes_due f.fails.next) all f.error.written (prefix_self all))

pub a_beginning : (bytes : List ℕ) (s : LimitedHistory) (w : List ℕ) (result : SessionResult) → Failed bytes s w → Finished bytes s result
    → IsPrefix w result.written
a_beginning bytes s w result failed finished =
    let whole = spoken finished.ends.opens finished.ends.ending in
    let begins = meant_begins bytes s failed.fails.opens failed.fails.next finished.ends.opens finished.ends.ending result.held
    (failed_course bytes s w failed) (finished_course bytes s result finished) in
    subst (IsPrefix w) (sym (said bytes s result finished)) (prefix_trans w (meant failed.fails.opens failed.fails.next) whole (wrote bytes s w failed) begins)
