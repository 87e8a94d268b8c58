-- One request that was heard, answered.
use Rattle.std.proofs.Common.{◌≡◌, ◌≢◌, ℕ, ◌+◌, ◌*◌, ◌<◌, ◌||◌, Bool, true, false, ◌++◌, length, take, Err, refl, sym, ap, ◌∙◌, subst, arith, length-append}
use Rattle.std.specs.Io.KnownBytes.{Appends}
use Rattle.http_requests.specs.declared.room.TheConstants.{READ_BYTES}
use Rattle.http_requests.specs.ReceivedBytes.{ReadBuffer, put_back}
use Rattle.http_requests.proofs.OneRequest.{request_is_some}
use Rattle.http_session.specs.IncomingRequests.{ReceivesOne}
use Rattle.http_session.specs.Replies.{closes, takes_no_memory, response_of}
use Rattle.http_session.specs.Sessions.{Exchange, IsExchange, Store, Step, output_state, WritesResponse}
use Rattle.http_session.specs.ResponseOrder.{ConnectionModel, connection_moment, IsTwoWay, EndsOnConnection, FailsOnConnection}
use Rattle.http_session.specs.ResumableSessions.{between_requests, SoFar}
use Rattle.http_session.specs.declared.verdict.Verdict.{Verdict}
use Rattle.http_session.specs.declared.reply.Reply.{Reply}
use Rattle.http_session.specs.declared.whole_session.EndReason.TheVariants.{ClosedByResponse}
use Rattle.http_session.specs.declared.whole_session.SessionErrorKind.TheVariants.{Memory}
use Rattle.http_session.specs.declared.whole_session.PartialWrite.{PartialWrite}
use Rattle.http_session.proofs.SessionTurns.{goes_on, ends_closing, fails_due}

-- a request has a byte
some_text : (old here : ReadBuffer) (v : Verdict) (asked : Bool) (found : ReceivesOne old here v asked) → 0 < length found.text
some_text old here v asked found = request_is_some found.text found.head found.body found.spells

-- fewer bytes are left after a request, and as many reads
pub fewer_left : (old here : ReadBuffer) (v : Verdict) (asked : Bool) (found : ReceivesOne old here v asked)
    → READ_BYTES * here.reads_left + length here.held < READ_BYTES * old.reads_left + length old.held
fewer_left old here v asked found =
    let held : length old.held ≡ length (found.text ++ here.held) = ap (λ (b : ReadBuffer). length b.held) found.cut in
    let left : old.reads_left ≡ here.reads_left = ap (λ (b : ReadBuffer). b.reads_left) found.cut in
    rw left (omega (arith, some_text old here v asked found, held, length-append found.text here.held))

module _ {S C : Type 0} (store : Store S) (model : ConnectionModel C) (two : IsTwoWay model) (c0 c2 : C) (s t : S) (old here : ReadBuffer)
    (answered : ℕ)
    (v : Verdict) (asked : Bool) (so : SoFar store model (connection_moment c0 s) (between_requests c2 t old answered))
    (found : ReceivesOne old here v asked) where
  -- with the request's text put back
  abbrev pub whole : ReadBuffer
  whole = put_back found.text here

  so_whole : SoFar store model (connection_moment c0 s) (between_requests c2 t whole answered)
  so_whole = subst (λ (b : ReadBuffer). SoFar store model (connection_moment c0 s) (between_requests c2 t b answered)) found.cut so

  module _ (c3 : C) (u : S) (reply : Reply) (close : Bool) (step : Step store t v reply u) (close_is : close ≡ (asked || closes reply)) where
    abbrev pub turn : Exchange
    turn = record { text = found.text; head = found.head; body = found.body; verdict = v; reply = reply; close = asked || closes reply }

    is_turn : IsExchange turn
    is_turn = record { spells = found.spells; verdict_follows = found.verdict_follows; close_is = ap (λ (b : Bool). b || closes reply) found.closes_is }

    pub answered_open : Appends (model.contents c2) (model.contents c3) (response_of reply close) → model.takes c2 (response_of reply close) c3 → close ≡ false
        → SoFar store model (connection_moment c0 s) (between_requests c3 u here (answered + 1))
    answered_open wrote took stays =
        goes_on store model two c0 c2 c3 s t u whole here.held answered turn so_whole is_turn (sym close_is ∙ stays) refl
        (some_text old here v asked found) step
        (subst (λ (b : Bool). Appends (model.contents c2) (model.contents c3) (response_of reply b)) close_is wrote)
        (subst (λ (b : Bool). model.takes c2 (response_of reply b) c3) close_is took)

    pub answered_last : Appends (model.contents c2) (model.contents c3) (response_of reply close) → model.takes c2 (response_of reply close) c3 → close ≡ true
        → EndsOnConnection store model (connection_moment c0 s) (connection_moment c3 u) (record { answered = answered + 1; reason = ClosedByResponse })
    answered_last wrote took leaves =
        ends_closing store model two c0 c2 c3 s t u whole here.held answered turn so_whole is_turn (sym close_is ∙ leaves) refl step
        (subst (λ (b : Bool). Appends (model.contents c2) (model.contents c3) (response_of reply b)) close_is wrote)
        (subst (λ (b : Bool). model.takes c2 (response_of reply b) c3) close_is took)

    pub answered_not : (partial_write : PartialWrite)
        → WritesResponse (output_state (model.contents c2) false) (output_state (model.contents c3) (model.out_failed c3)) (response_of reply close)
        (Err partial_write)
        → model.takes c2 (take partial_write.written (response_of reply close)) c3 → model.in_failed c2 ≡ false
        → (takes_no_memory reply ≡ true → partial_write.cause ≢ Memory)
        → FailsOnConnection store model (connection_moment c0 s) (connection_moment c3 u)
        (record { answered = answered; written = partial_write.written; cause = partial_write.cause })
    answered_not partial_write said took in_works spared =
        fails_due store model two c0 c2 c3 s t u whole here.held answered turn partial_write so_whole is_turn refl step
        (subst (λ (b : Bool). WritesResponse (output_state (model.contents c2) false) (output_state (model.contents c3) (model.out_failed c3))
        (response_of reply b) (Err partial_write)) close_is said)
        (subst (λ (b : Bool). model.takes c2 (take partial_write.written (response_of reply b)) c3) close_is took) in_works spared
