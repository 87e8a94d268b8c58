-- One piece of a session: what it has come to, wherever it began, and also where others used the store since the piece
-- before.
use Rattle.std.proofs.Common.{◌≡◌, ◌≢◌, ℕ, ◌+◌, ◌||◌, Bool, true, false, List, [], ◌++◌, length, take, Option, Some, None, Result, Ok, Err, refl, sym, ap, ◌∙◌}
use Rattle.std.proofs.Common.{subst, arith, inl, inr, length-append}
use Rattle.std.specs.Io.KnownBytes.{Appends, IsAtEnd}
use Rattle.jaeger_model.specs.declared.batch.Batch.{Batch}
use Rattle.trace_model.specs.declared.limits.Limits.{Limits}
use Rattle.trace_model.specs.declared.query.Query.{Query}
use Rattle.trace_model.specs.declared.answer.Answer.{Answer}
use Rattle.trace_model.specs.declared.refusal.Refusal.{Refusal}
use Rattle.trace_model.specs.StoreKnowledge.{KnownList, reached, ForgetsNothing, SubmitKnows, ReadKnows}
use Rattle.http_requests.specs.declared.read_buffer.ReadError.{ReadError}
use Rattle.http_requests.specs.declared.request.RequestFault.{RequestFault}
use Rattle.http_requests.specs.Requests.{AwaitsRequest}
use Rattle.http_requests.specs.LineLaws.{no_bytes_await}
use Rattle.http_requests.specs.ReceivedBytes.{ReadBuffer, ReadsOn, ReadsOnWhile, IsRead, ReadFails, StopsWhile, SameUnlessReading, put_back}
use Rattle.http_requests.specs.ReceivedBytes.{read_moment, failed_call}
use Rattle.http_requests.proofs.Readings.{nothing_yet, read_after, stops_reading}
use Rattle.http_session.specs.Verdicts.{BeginsWithQuery}
use Rattle.http_session.specs.IncomingRequests.{before_a_request, HasReceived, WaitsAfter, ReceivesOne, ReceivesEnd, ReceivesFault, ReceivesPart}
use Rattle.http_session.specs.Replies.{closes, takes_no_memory, response_of}
use Rattle.http_session.specs.Sessions.{Submits, Reads, Store, store_of, Step, output_state, WritesResponse, cause_by}
use Rattle.http_session.specs.ResponseOrder.{ConnectionModel, connection_moment, IsTwoWay, EndsOnConnection, FailsOnConnection}
use Rattle.http_session.specs.SessionRuns.{EndsOnConnectionInHistory, FailsOnConnectionInHistory}
use Rattle.http_session.specs.ResumableSessions.{AsksOnce, AnswersSoFar, StaysUnderway, OutlastsWrites, SubmitsSome, ReadsSome, no_requests_yet}
use Rattle.http_session.specs.ResumableSessions.{between_requests, SoFar, CanContinue, AwaitsMore, shared, session_moment, Underway, ComesTo}
use Rattle.http_session.specs.ResumableSessions.{UnderwayAmong, RunsPiece}
use Rattle.http_session.specs.declared.resumable.Session.{Session}
use Rattle.http_session.specs.declared.receiving.SessionStage.{SessionStage}
use Rattle.http_session.specs.declared.verdict.Verdict.{Verdict}
use Rattle.http_session.specs.declared.verdict.Verdict.TheVariants.{Submit, Ask, Reject}
use Rattle.http_session.specs.declared.reply.Reply.{Reply}
use Rattle.http_session.specs.declared.reply.Reply.TheVariants.{Accepted, Answered, Refused, Error, NoRequest}
use Rattle.http_session.specs.declared.whole_session.EndReason.TheVariants.{ClosedByClient, ClosedByResponse}
use Rattle.http_session.specs.declared.whole_session.Ended.{Ended}
use Rattle.http_session.specs.declared.whole_session.SessionError.{SessionError}
use Rattle.http_session.specs.declared.whole_session.SessionErrorKind.TheVariants.{Memory}
use Rattle.http_session.specs.declared.whole_session.PartialWrite.{PartialWrite}
use Rattle.http_session.proofs.HistoryPoints.{related_all}
use Rattle.http_session.proofs.IncomingParts.{malformed_if, waits_for_request, looked_by, looked_still}
use Rattle.http_session.proofs.SessionTurns.{begins, reads_on, stays, ends_with_input, ends_malformed, fails_none, fails_stopped, fails_malformed}
use Rattle.http_session.proofs.SessionTurns.{works_received}
use Rattle.http_session.proofs.AnsweredRequests.{fewer_left, answered_open, answered_last, answered_not}

-- ---- what a store promises, and that it promises it also where others use it

pub record Promises {S : Type 0} (store : Store S) : Type 0 where
  pub submit_knows : (s : S) (b : Batch) (r : Result ℕ Refusal) (t : S) → store.submits s b r t → SubmitKnows store.limits store.knows s b r t
  pub read_knows : (s : S) (q : Query) (r : Result Answer Refusal) (t : S) → store.reads s q r t → ReadKnows store.limits store.knows s q r t

pub promises_of : {S : Type 0} {submits : Submits S} {reads : Reads S} {knows : S → KnownList → Type 0} {limits : S → Limits}
    → ((s : S) (b : Batch) (r : Result ℕ Refusal) (t : S) → submits s b r t → SubmitKnows limits knows s b r t)
    → ((s : S) (q : Query) (r : Result Answer Refusal) (t : S) → reads s q r t → ReadKnows limits knows s q r t)
    → Promises (store_of submits reads knows limits)
promises_of submit_knows read_knows = record { submit_knows = submit_knows; read_knows = read_knows }

module _ {S : Type 0} (store : Store S) where
  pub keeps_all : (s : S) → ForgetsNothing store.limits store.knows s s
  keeps_all s = record { same_limits = refl; knowledge = λ h k. k }

  pub keeps_on : (s m t : S) → ForgetsNothing store.limits store.knows s m → ForgetsNothing store.limits store.knows m t
      → ForgetsNothing store.limits store.knows s t
  keeps_on s m t one two = record { same_limits = two.same_limits ∙ one.same_limits; knowledge = λ h k. two.knowledge h (one.knowledge h k) }

  -- a step that comes later
  stepped : (m t u : S) (v : Verdict) (reply : Reply) → ForgetsNothing store.limits store.knows m t → Step store t v reply u
      → (n : S) × Step (shared store) m v reply n × ForgetsNothing store.limits store.knows n u
  stepped m t u (Submit b) Accepted keeps step = (u, (step.0, (t, keeps, step.1)), keeps_all u)
  stepped m t u (Submit b) (Refused r) keeps step = (u, (t, keeps, step), keeps_all u)
  stepped m t u (Ask q) (Answered a) keeps step = (u, (t, keeps, step), keeps_all u)
  stepped m t u (Ask q) (Refused r) keeps step = (u, (t, keeps, step), keeps_all u)
  stepped m t u (Reject error) (Error said) keeps step = (m, (step.0, refl), subst (λ (x : S). ForgetsNothing store.limits store.knows m x) (sym step.1) keeps)
  stepped m t u _ _ keeps step = absurd step

  module _ (promises : Promises store) where
    later_submit_knows : (s : S) (b : Batch) (r : Result ℕ Refusal) (t : S) → (shared store).submits s b r t → SubmitKnows store.limits store.knows s b r t
    later_submit_knows s b (Ok place) t later =
        let known = promises.submit_knows later.0 b (Ok place) t later.2 in
        (keeps_on s later.0 t later.1 known.0, known.1)
    later_submit_knows s b (Err why) t later =
        let known = promises.submit_knows later.0 b (Err why) t later.2 in
        (keeps_on s later.0 t later.1 known.0, known.1)

    later_read_knows : (s : S) (q : Query) (r : Result Answer Refusal) (t : S) → (shared store).reads s q r t → ReadKnows store.limits store.knows s q r t
    later_read_knows s q (Ok a) t later =
        let known = promises.read_knows later.0 q (Ok a) t later.2 in
        let at = known.1 in (
          keeps_on s later.0 t later.1 known.0,
          record {
            history = at.history;
            legal = at.legal;
            behind = λ h k. at.behind h (later.1.knowledge (reached h) k);
            answer_is = at.answer_is;
            known = at.known;
          },
        )
    later_read_knows s q (Err why) t later = keeps_on s later.0 t later.1 (promises.read_knows later.0 q (Err why) t later.2)

    pub shared_promises : Promises (shared store)
    shared_promises = record { submit_knows = later_submit_knows; read_knows = later_read_knows }

    -- its answers are those of one growing history
    pub ends_in_history : {C : Type 0} (model : ConnectionModel C) (c0 c1 : C) (s t : S) (ended : Ended)
        → EndsOnConnection store model (connection_moment c0 s) (connection_moment c1 t) ended
        → EndsOnConnectionInHistory store model (connection_moment c0 s) (connection_moment c1 t) ended
    ends_in_history model c0 c1 s t ended over =
        (over, related_all store promises.submit_knows promises.read_knows s t _ over.0.run)

    pub fails_in_history : {C : Type 0} (model : ConnectionModel C) (c0 c1 : C) (s t : S) (error : SessionError)
        → FailsOnConnection store model (connection_moment c0 s) (connection_moment c1 t) error
        → FailsOnConnectionInHistory store model (connection_moment c0 s) (connection_moment c1 t) error
    fails_in_history model c0 c1 s t error over =
        (over, related_all store promises.submit_knows promises.read_knows s t _ over.0.run)

-- ---- what one piece does

module _ {S C : Type 0} (store : Store S) (promises : Promises store) (model : ConnectionModel C) (two : IsTwoWay model) (c1 : C) (t : S)
    (old new : Session) where
  -- the store isn't asked
  unasked : (c2 : C) (result : Result (Option Ended) SessionError)
      → ((other : Store S) → Promises other → (c0 : C) (s m : S)
      → Underway other model (connection_moment c0 s) (session_moment c1 m old)
      → ComesTo other model (connection_moment c0 s) (session_moment c2 m new) result)
      → RunsPiece store model (session_moment c1 t old) (session_moment c2 t new) result
  unasked c2 result each = record {
    alone = λ start so. each store promises start.connection start.store t so;
    among = λ start under.
        (under.0, each (shared store) (shared_promises store promises) start.connection start.store under.0 under.1, under.2);
  }

  -- the store makes a step
  asked : (c2 : C) (u : S) (v : Verdict) (reply : Reply) (result : Result (Option Ended) SessionError) → Step store t v reply u
      → ((other : Store S) → Promises other → (c0 : C) (s m n : S) → Step other m v reply n
      → Underway other model (connection_moment c0 s) (session_moment c1 m old)
      → ComesTo other model (connection_moment c0 s) (session_moment c2 n new) result)
      → RunsPiece store model (session_moment c1 t old) (session_moment c2 u new) result
  asked c2 u v reply result step each = record {
    alone = λ start so. each store promises start.connection start.store t u step so;
    among = λ start under.
        let on = stepped store under.0 t u v reply under.2 step in
        (on.0, each (shared store) (shared_promises store promises) start.connection start.store under.0 on.0 on.1 under.1, on.2);
  }

  -- memory ran out for a query
  pub receives_no_query : model.in_failed c1 ≡ false → model.out_failed c1 ≡ false
      → ((text : List ℕ) → HasReceived old.stage text → BeginsWithQuery (text ++ old.received.held))
      → RunsPiece store model (session_moment c1 t old) (session_moment c1 t new) (Err (record { answered = old.answered; written = 0; cause = Memory }))
  receives_no_query in_works out_works none =
      unasked c1 (Err (record { answered = old.answered; written = 0; cause = Memory }))
      (λ other kept c0 s m so.
      fails_in_history other kept model c0 c1 s m _
      (fails_none other model two c0 c1 c1 s m (put_back so.text old.received) old.answered Memory so.so_far
      (inr (none so.text so.incoming)) (inl refl) (λ made sum. (in_works, out_works))))

  -- no more could be read
  pub receives_nothing : (A : Type 0) (c2 : C) (before : Bool) (stop : ReadError)
      → ((text : List ℕ) → HasReceived old.stage text
      → StopsWhile model.source AwaitsRequest (read_moment c1 (put_back text old.received)) (failed_call c2 (model.in_failed c2) stop))
      → SameUnlessReading {A = A} before (model.in_failed c2) (Err stop) → before ≡ false → model.out_failed c1 ≡ false
      → RunsPiece store model (session_moment c1 t old) (session_moment c2 t new) (Err (record { answered = old.answered; written = 0; cause = cause_by stop }))
  receives_nothing A c2 before stop stops same was out =
      unasked c2 (Err (record { answered = old.answered; written = 0; cause = cause_by stop }))
      (λ other kept c0 s m so.
      fails_in_history other kept model c0 c2 s m _
      (fails_stopped other model two A c0 c1 c2 s m (put_back so.text old.received) old.answered before stop so.so_far
      (stops so.text so.incoming) same was out))

  pub receives_end : (here : ReadBuffer) → ((text : List ℕ) → HasReceived old.stage text → ReceivesEnd (put_back text old.received) here)
      → RunsPiece store model (session_moment c1 t old) (session_moment c1 t new) (Ok (Some (record { answered = old.answered; reason = ClosedByClient })))
  receives_end here found =
      unasked c1 (Ok (Some (record { answered = old.answered; reason = ClosedByClient })))
      (λ other kept c0 s m so.
      let end = found so.text so.incoming in
      let here_so = subst (λ (b : ReadBuffer). SoFar other model (connection_moment c0 s) (between_requests c1 m b old.answered))
      end.same so.so_far in
      ends_in_history other kept model c0 c1 s m _
      (ends_with_input other model two c0 c1 s m here old.answered here_so (here_so.end end.ended, end.nothing)))

  pub parts : (c2 : C) (here : ReadBuffer) (b : RequestFault)
      → ((text : List ℕ) → HasReceived old.stage text → ReceivesFault (put_back text old.received) here b)
      → Appends (model.contents c1) (model.contents c2) (response_of (NoRequest b) true) → model.takes c1 (response_of (NoRequest b) true) c2
      → RunsPiece store model (session_moment c1 t old) (session_moment c2 t new)
      (Ok (Some (record { answered = old.answered + 1; reason = ClosedByResponse })))
  parts c2 here b found wrote took =
      unasked c2 (Ok (Some (record { answered = old.answered + 1; reason = ClosedByResponse })))
      (λ other kept c0 s m so.
      let fault = found so.text so.incoming in
      let here_so = subst (λ (r : ReadBuffer). SoFar other model (connection_moment c0 s) (between_requests c1 m r old.answered))
      fault.cut so.so_far in
      ends_in_history other kept model c0 c2 s m _
      (ends_malformed other model two c0 c1 c2 s m _ old.answered b here_so (malformed_if _ _ b _ here_so.end fault.malformed)
      wrote took))

  pub parts_not : (c2 : C) (here : ReadBuffer) (b : RequestFault) (partial_write : PartialWrite)
      → ((text : List ℕ) → HasReceived old.stage text → ReceivesFault (put_back text old.received) here b)
      → WritesResponse (output_state (model.contents c1) false) (output_state (model.contents c2) (model.out_failed c2)) (response_of (NoRequest b) true)
      (Err partial_write)
      → model.takes c1 (take partial_write.written (response_of (NoRequest b) true)) c2 → model.in_failed c1 ≡ false
      → RunsPiece store model (session_moment c1 t old) (session_moment c2 t new)
      (Err (record { answered = old.answered; written = partial_write.written; cause = partial_write.cause }))
  parts_not c2 here b partial_write found said took works =
      unasked c2 (Err (record { answered = old.answered; written = partial_write.written; cause = partial_write.cause }))
      (λ other kept c0 s m so.
      let fault = found so.text so.incoming in
      let here_so = subst (λ (r : ReadBuffer). SoFar other model (connection_moment c0 s) (between_requests c1 m r old.answered))
      fault.cut so.so_far in
      fails_in_history other kept model c0 c2 s m _
      (fails_malformed other model two c0 c1 c2 s m _ old.answered b partial_write here_so
      (malformed_if _ _ b _ here_so.end fault.malformed) said took works))

  module _ (c2 : C) (u : S) (here : ReadBuffer) (v : Verdict) (ask : Bool) (reply : Reply) (close : Bool)
      (found : (text : List ℕ) → HasReceived old.stage text → ReceivesOne (put_back text old.received) here v ask)
      (step : Step store t v reply u) (close_is : close ≡ (ask || closes reply)) where
    pub answers_last : Appends (model.contents c1) (model.contents c2) (response_of reply close) → model.takes c1 (response_of reply close) c2 → close ≡ true
        → RunsPiece store model (session_moment c1 t old) (session_moment c2 u new)
        (Ok (Some (record { answered = old.answered + 1; reason = ClosedByResponse })))
    answers_last wrote took leaves =
        asked c2 u v reply (Ok (Some (record { answered = old.answered + 1; reason = ClosedByResponse }))) step
        (λ other kept c0 s m n one so.
        ends_in_history other kept model c0 c2 s n _
        (answered_last other model two c0 c1 s m (put_back so.text old.received) here old.answered v ask so.so_far
        (found so.text so.incoming) c2 n reply close one close_is wrote took leaves))

    pub answers_not : (partial_write : PartialWrite)
        → WritesResponse (output_state (model.contents c1) false) (output_state (model.contents c2) (model.out_failed c2)) (response_of reply close)
        (Err partial_write)
        → model.takes c1 (take partial_write.written (response_of reply close)) c2 → model.in_failed c1 ≡ false
        → (takes_no_memory reply ≡ true → partial_write.cause ≢ Memory)
        → RunsPiece store model (session_moment c1 t old) (session_moment c2 u new)
        (Err (record { answered = old.answered; written = partial_write.written; cause = partial_write.cause }))
    answers_not partial_write said took works spared =
        asked c2 u v reply (Err (record { answered = old.answered; written = partial_write.written; cause = partial_write.cause })) step
        (λ other kept c0 s m n one so.
        fails_in_history other kept model c0 c2 s n _
        (answered_not other model two c0 c1 s m (put_back so.text old.received) here old.answered v ask so.so_far (found so.text so.incoming)
        c2 n reply close one close_is partial_write said took works spared))

-- a response was written, and the session stays open
module _ {S C : Type 0} (store : Store S) (promises : Promises store) (model : ConnectionModel C) (two : IsTwoWay model) (c1 c2 : C) (t u : S) (old : Session)
    (here : ReadBuffer) (v : Verdict) (ask : Bool) (reply : Reply)
    (close : Bool) (found : (text : List ℕ) → HasReceived old.stage text → ReceivesOne (put_back text old.received) here v ask) where
  pub answers_open : Step store t v reply u → close ≡ (ask || closes reply)
      → Appends (model.contents c1) (model.contents c2) (response_of reply close) → model.takes c1 (response_of reply close) c2 → close ≡ false
      → RunsPiece store model (session_moment c1 t old)
      (session_moment c2 u (record { received = here; stage = before_a_request; answered = old.answered + 1 })) (Ok None)
  answers_open step close_is wrote took stays =
      asked store promises model two c1 t old (record { received = here; stage = before_a_request; answered = old.answered + 1 }) c2 u v reply (Ok None) step
      (λ other kept c0 s m n one so. record {
        text = [];
        incoming = refl;
        so_far =
            answered_open other model two c0 c1 s m (put_back so.text old.received) here old.answered v ask so.so_far
            (found so.text so.incoming) c2 n reply close one close_is wrote took stays;
      })

  -- and it can be gone on with
  pub still_continues : (bytes : List ℕ) → model.takes c1 bytes c2 → CanContinue (model.source.remaining c1) old
      → CanContinue (model.source.remaining c2) (record { received = here; stage = before_a_request; answered = old.answered + 1 })
  still_continues bytes took can =
      let one = found can.text can.incoming in
      record {
        text = [];
        incoming = refl;
        looked = (omega arith, no_bytes_await);
        end = λ e. subst IsAtEnd (sym (two.writes_leave c1 c2 bytes took).0) (can.end (ap (λ (b : ReadBuffer). b.ended) one.cut ∙ e));
        most = omega (arith, can.most, fewer_left (put_back can.text old.received) here v ask one);
      }

-- ---- a pause inside a request

module _ {S C : Type 0} (store : Store S) (promises : Promises store) (model : ConnectionModel C) (two : IsTwoWay model) (c1 : C) (t : S) (old : Session)
    (here : ReadBuffer) (stage : SessionStage)
    (found : (text : List ℕ) → HasReceived old.stage text → ReceivesPart (put_back text old.received) here stage) where
  abbrev paused : Session
  paused = record { received = here; stage = stage; answered = old.answered }

  pub pauses : RunsPiece store model (session_moment c1 t old) (session_moment c1 t paused) (Ok None)
  pauses = unasked store promises model two c1 t old paused c1 (Ok None)
      (λ other kept c0 s m so.
      let part = found so.text so.incoming in
      record {
        text = part.text;
        incoming = part.incoming;
        so_far =
            subst (λ (b : ReadBuffer). SoFar other model (connection_moment c0 s) (between_requests c1 m b old.answered))
            part.cut so.so_far;
      })

  pub paused_continues : WaitsAfter stage here.held → CanContinue (model.source.remaining c1) old → CanContinue (model.source.remaining c1) paused
  paused_continues waits can =
      let part = found can.text can.incoming in
      let held : length (can.text ++ old.received.held) ≡ length (part.text ++ here.held) = ap (λ (b : ReadBuffer). length b.held) part.cut in
      let left : old.received.reads_left ≡ here.reads_left = ap (λ (b : ReadBuffer). b.reads_left) part.cut in
      record {
        text = part.text;
        incoming = part.incoming;
        looked = looked_still stage here.held waits;
        end = λ e. can.end (ap (λ (b : ReadBuffer). b.ended) part.cut ∙ e);
        most = rw (sym held, sym left) can.most;
      }

pub awaits_more : (session : Session) → WaitsAfter session.stage session.received.held → session.received.ended ≡ false → AwaitsMore session
awaits_more session waits open_still =
    record { open_still = open_still; waits = waits; awaits = λ text incoming. waits_for_request session.stage text session.received.held incoming waits }

-- ---- one read

module _ {S C : Type 0} (store : Store S) (promises : Promises store) (model : ConnectionModel C) (two : IsTwoWay model) (c1 c2 : C) (t : S) (old : Session)
    (new : ReadBuffer) (awaits : AwaitsMore old)
    (on : ReadsOn (model.source.remaining c1) (model.source.remaining c2) old.received new)
    (read : IsRead model.source.gives (read_moment c1 old.received) (read_moment c2 new)) where
  abbrev with_more : Session
  with_more = record old { received = new }

  read_with : (text : List ℕ) → HasReceived old.stage text
      → ReadsOnWhile model.source AwaitsRequest (read_moment c1 (put_back text old.received)) (read_moment c2 (put_back text new))
  read_with text incoming =
      read_after model.source AwaitsRequest c1 c1 c2 (put_back text old.received) old.received new text
      (nothing_yet model.source AwaitsRequest c1 (put_back text old.received)) (awaits.awaits text incoming) on read

  pub goes_on_reading : RunsPiece store model (session_moment c1 t old) (session_moment c2 t with_more) (Ok None)
  goes_on_reading = unasked store promises model two c1 t old with_more c2 (Ok None)
      (λ other kept c0 s m so. record {
        text = so.text;
        incoming = so.incoming;
        so_far =
            reads_on other model two c0 c1 c2 s m (put_back so.text old.received) (put_back so.text new) old.answered so.so_far
            (read_with so.text so.incoming);
      })

  pub read_continues : CanContinue (model.source.remaining c1) old → CanContinue (model.source.remaining c2) with_more
  read_continues can =
      let held : length new.held ≡ length old.received.held + length on.more = ap length on.held ∙ length-append old.received.held on.more in
      record {
        text = can.text;
        incoming = can.incoming;
        looked = looked_by old.stage old.received.held new.held read.0 read.2 awaits.waits;
        end = on.end can.end;
        most = omega (arith, can.most, on.most, held, length-append can.text old.received.held, length-append can.text new.held);
      }

  -- the devices that worked work still
  pub works_read : model.in_failed c2 ≡ model.in_failed c1 → (model.in_failed c1 ≡ false) × (model.out_failed c1 ≡ false) → (text : List ℕ)
      → HasReceived old.stage text
      → (model.in_failed c2 ≡ false) × (model.out_failed c2 ≡ false)
  works_read same works text incoming = works_received model two c1 c2 (put_back text old.received) (put_back text new) (read_with text incoming) same works

-- a read that gave nothing
pub stops_with : {C : Type 0} (model : ConnectionModel C) (c1 c2 : C) (old : Session) (stop : ReadError) → AwaitsMore old
    → ReadFails model.source (read_moment c1 old.received) (failed_call c2 (model.in_failed c2) stop)
    → (text : List ℕ) → HasReceived old.stage text
    → StopsWhile model.source AwaitsRequest (read_moment c1 (put_back text old.received)) (failed_call c2 (model.in_failed c2) stop)
stops_with model c1 c2 old stop awaits last text incoming =
    stops_reading model.source AwaitsRequest c1 c1 c2 (model.in_failed c2) (put_back text old.received) old.received text stop
    (nothing_yet model.source AwaitsRequest c1 (put_back text old.received)) (awaits.awaits text incoming) last

-- one piece and then another
pub goes_on_then : {S C : Type 0} (store : Store S) (model : ConnectionModel C) (c1 c2 c3 : C) (t u w : S) (old mid new : Session)
    (result : Result (Option Ended) SessionError)
    → RunsPiece store model (session_moment c1 t old) (session_moment c2 u mid) (Ok None)
    → RunsPiece store model (session_moment c2 u mid) (session_moment c3 w new) result
    → RunsPiece store model (session_moment c1 t old) (session_moment c3 w new) result
goes_on_then store model c1 c2 c3 t u w old mid new result first second =
    record { alone = λ start so. second.alone start (first.alone start so); among = λ start under. second.among start (first.among start under) }

-- ---- before the first piece

pub can_begin : (input : Option (List ℕ)) → CanContinue input no_requests_yet
can_begin input = record { text = []; incoming = refl; looked = (omega arith, no_bytes_await); end = λ e. absurd (cc e); most = omega arith }

module _ {S C : Type 0} (store : Store S) (model : ConnectionModel C) (two : IsTwoWay model) (c : C) (s : S) where
  pub begins_alone : Underway store model (connection_moment c s) (session_moment c s no_requests_yet)
  begins_alone = record { text = []; incoming = refl; so_far = begins store model two c s }

  pub begins_among : UnderwayAmong store model (connection_moment c s) (session_moment c s no_requests_yet)
  begins_among = (s, record { text = []; incoming = refl; so_far = begins (shared store) model two c s }, keeps_all store s)

-- ---- what a step keeps

module _ {S : Type 0} (store : Store S) (promises : Promises store) where
  pub submit_keeps : (t u : S) (b : Batch) (r : Result ℕ Refusal) → store.submits t b r u → ForgetsNothing store.limits store.knows t u
  submit_keeps t u b (Ok place) step = (promises.submit_knows t b (Ok place) u step).0
  submit_keeps t u b (Err why) step = (promises.submit_knows t b (Err why) u step).0

  pub read_keeps : (t u : S) (q : Query) (r : Result Answer Refusal) → store.reads t q r u → ForgetsNothing store.limits store.knows t u
  read_keeps t u q (Ok a) step = (promises.read_knows t q (Ok a) u step).0
  read_keeps t u q (Err why) step = promises.read_knows t q (Err why) u step

  pub step_keeps : (t u : S) (v : Verdict) (reply : Reply) → Step store t v reply u → ForgetsNothing store.limits store.knows t u
  step_keeps t u (Submit b) Accepted step = submit_keeps t u b (Ok step.0) step.1
  step_keeps t u (Submit b) (Refused r) step = submit_keeps t u b (Err r) step
  step_keeps t u (Ask q) (Answered a) step = read_keeps t u q (Ok a) step
  step_keeps t u (Ask q) (Refused r) step = read_keeps t u q (Err r) step
  step_keeps t u (Reject error) (Error said) step = subst (λ (x : S). ForgetsNothing store.limits store.knows t x) (sym step.1) (keeps_all store t)
  step_keeps t u _ _ step = absurd step

-- ---- in a pause

module _ {S C : Type 0} (store : Store S) (promises : Promises store) (model : ConnectionModel C) where
  pub others_forget_nothing : StaysUnderway store model (ForgetsNothing store.limits store.knows)
  others_forget_nothing start now later under keeps = (under.0, under.1, keeps_on store under.0 now.store later under.2 keeps)

  pub others_submit : StaysUnderway store model (SubmitsSome store)
  others_submit start now later under does =
      others_forget_nothing start now later under (submit_keeps store promises now.store later does.0 does.1 does.2)

  pub others_read : StaysUnderway store model (ReadsSome store)
  others_read start now later under does =
      others_forget_nothing start now later under (read_keeps store promises now.store later does.0 does.1 does.2)

  pub others_go_on : StaysUnderway store model (AsksOnce store)
  others_go_on start now later under (inl same) =
      subst (λ (x : S). UnderwayAmong store model start (record now { store = x })) (sym same) under
  others_go_on start now later under (inr does) =
      others_forget_nothing start now later under (step_keeps store promises now.store later does.0 does.1 does.2)

  -- and when the connection has taken nothing
  pub outlasts_writes : IsTwoWay model → OutlastsWrites store model
  outlasts_writes two start now later under took kept = (
    under.0,
    record {
      text = under.1.text;
      incoming = under.1.incoming;
      so_far =
          stays (shared store) model two start.connection now.connection later start.store under.0
          (put_back under.1.text now.session.received) now.session.answered under.1.so_far took kept;
    },
    under.2,
  )

  pub answers_of_one_history : AnswersSoFar store model
  answers_of_one_history start now under =
      let kept = shared_promises store promises in
      related_all (shared store) kept.submit_knows kept.read_knows start.store under.0 under.1.so_far.opens under.1.so_far.run

-- nothing was done yet
pub goes_nowhere : {S C : Type 0} (store : Store S) (model : ConnectionModel C) (c : C) (t : S) (session : Session)
    → RunsPiece store model (session_moment c t session) (session_moment c t session) (Ok None)
goes_nowhere store model c t session = record { alone = λ start so. so; among = λ start under. under }

pub asks_from : {S : Type 0} (store : Store S) (s m t : S) → m ≡ s → AsksOnce store m t → AsksOnce store s t
asks_from {S = S} store s m t same asks = subst (λ (x : S). AsksOnce store x t) same asks
