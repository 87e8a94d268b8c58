-- Connections that stay open while others are served, and sets that lose or gain one.
use Rattle.std.proofs.Common.{◌≡◌, ◌≢◌, ℕ, Bool, false, List, Option, Some, None, Result, Ok, Err, refl, sym, ◌∙◌, ap, subst, ⊎_elim}
use Rattle.std.specs.Prelude.{IsSome}
use Rattle.std.proofs.lemmas.Bool.Decides.{eqb_tells}
use Rattle.std.specs.Option.{option_map}
use Rattle.slab.specs.Slab.{Slab, get, Updates}
use Rattle.std.specs.Io.KnownBytes.{append_known}
use Rattle.http_session.specs.ResponseOrder.{ConnectionModel, connection_moment, IsTwoWay}
use Rattle.http_session.specs.Sessions.{Store}
use Rattle.http_session.specs.SessionRuns.{EndsOnConnectionInHistory, FailsOnConnectionInHistory}
use Rattle.trace_model.specs.StoreKnowledge.{ForgetsNothing}
use Rattle.http_session.specs.ResumableSessions.{AsksOnce, CanContinue, session_moment, RunsPiece, UnderwayAmong, OutlastsWrites, IfOpen, no_requests_yet}
use Rattle.http_session.specs.ResumableSessions.{piece_of, shared}
use Rattle.http_session.specs.declared.resumable.Progress.{Progress as Piece}
use Rattle.http_session.specs.declared.resumable.Progress.TheVariants.{Ended as EndedBy}
use Rattle.http_session.specs.declared.resumable.Session.{Session}
use Rattle.http_session.specs.declared.whole_session.Ended.{Ended as EndedSession}
use Rattle.http_session.specs.declared.whole_session.SessionError.{SessionError}
use Rattle.http_session.proofs.SessionPieces.{Promises, others_go_on, others_forget_nothing}
use Rattle.open_connections.specs.OpenConnections.{IsOpen, SessionEnded, HasFailed, HasCome, HasBroken, Delivers, DeliversTo, AllOpen, IsRest, StayedOpen}
use Rattle.open_connections.specs.BufferedConnections.{buffered_model, bytes_waiting}
use Rattle.open_connections.specs.ReadEffects.{KeepsContents}
use Rattle.session_devices.specs.ByteTransfers.{ByteTransfer}
use Rattle.open_connections.specs.declared.open.OpenConnection.{OpenConnection}
use Rattle.open_connections.specs.declared.buffered.BufferedConnection.{BufferedConnection}
use Rattle.open_connections.specs.declared.open.ConnectionProgress.{ConnectionProgress}
use Rattle.open_connections.specs.declared.open.ConnectionProgress.TheVariants.{StaysOpen, Ended}
use Rattle.open_connections.specs.declared.open.ConnectionEnd.TheVariants.{ClosedByClient, ClosedByResponse, Failed, Undelivered}

module _ {S C : Type 0} (store : Store S) (promises : Promises store) (model : ConnectionModel (BufferedConnection C)) where
  -- while another one is served
  pub open_still : (t u : S) (it : OpenConnection C) → AsksOnce store t u → IsOpen store model t it → IsOpen store model u it
  open_still t u it asks is = record {
    then = is.then;
    underway = others_go_on store promises model (connection_moment it.began.value is.then) (session_moment it.connection t it.session) u is.underway asks;
    ready = is.ready;
    input_works = is.input_works;
    output_works = is.output_works;
  }

  pub all_open_still : (t u : S) (set : Slab (OpenConnection C)) → AsksOnce store t u → AllOpen store model t set → AllOpen store model u set
  all_open_still t u set asks all key it e = open_still t u it asks (all key it e)

  -- whatever was done with the store, as long as it has forgotten nothing
  pub all_open_later : (t u : S) (set : Slab (OpenConnection C)) → ForgetsNothing store.limits store.knows t u → AllOpen store model t set
      → AllOpen store model u set
  all_open_later t u set keeps all key it e =
      let is = all key it e in
      record {
        then = is.then;
        underway = others_forget_nothing store promises model (connection_moment it.began.value is.then) (session_moment it.connection t it.session) u
            is.underway keeps;
        ready = is.ready;
        input_works = is.input_works;
        output_works = is.output_works;
      }

-- the connection that was put in under its key
pub stayed : {C : Type 0} (before after : Option (OpenConnection C)) (it : OpenConnection C) → after ≡ Some it
    → option_map (λ (o : OpenConnection C). o.began.value) before ≡ Some it.began.value
    → StayedOpen before after
stayed before after it still began = record { it = it; still = still; began = began }

pub still_there : {C : Type 0} (before after : Option (OpenConnection C)) → StayedOpen before after → IsSome after
still_there before after is = subst IsSome (sym is.still) refl

none_is_none : {T : Type 0} (x : Option T) (y : T) → x ≡ None → x ≡ Some y → ⊥
none_is_none x y none some = absurd (cc (none, some))

-- one was taken out
pub rest_of_removed : {C : Type 0} (old new : Slab (OpenConnection C)) (key : ℕ) → Updates old new key None → IsRest old new
rest_of_removed old new key removed k it e =
    ⊎_elim
    (λ same. absurd (none_is_none (get new k) it (ap (get new) same.1 ∙ removed.changed) e))
    (λ other. sym (removed.others k other.1) ∙ e)
    (eqb_tells k key)

module _ {S C : Type 0} (store : Store S) (model : ConnectionModel (BufferedConnection C)) (now : S) where
  pub rest_is_open : (old new : Slab (OpenConnection C)) → AllOpen store model now old → IsRest old new → AllOpen store model now new
  rest_is_open old new all rest key it e = all key it (rest key it e)

  -- one was put in
  pub all_with_one : (old new : Slab (OpenConnection C)) (key : ℕ) (one : OpenConnection C) → AllOpen store model now old → Updates old new key (Some one)
      → IsOpen store model now one
      → AllOpen store model now new
  all_with_one old new key one all put is k it e =
      ⊎_elim
      (λ same. subst (λ (x : OpenConnection C). IsOpen store model now x) (cc (ap (get new) same.1 ∙ put.changed, e)) is)
      (λ other. all k it (sym (put.others k other.1) ∙ e))
      (eqb_tells k key)

  -- nothing changed but what its thread notes of it
  pub moved_open : (old new : OpenConnection C) → new.connection ≡ old.connection → new.session ≡ old.session → new.began.value ≡ old.began.value
      → IsOpen store model now old → IsOpen store model now new
  moved_open old new connection session began is = record {
    then = is.then;
    underway = subst (λ (b : BufferedConnection C). UnderwayAmong store model (connection_moment b is.then) (session_moment new.connection now new.session))
        (sym began)
        (subst (λ (d : BufferedConnection C). UnderwayAmong store model (connection_moment old.began.value is.then) (session_moment d now new.session))
        (sym connection)
        (subst (λ (x : Session). UnderwayAmong store model (connection_moment old.began.value is.then) (session_moment old.connection now x))
        (sym session) is.underway));
    ready = subst (λ (x : Session). CanContinue (model.source.remaining new.connection) x) (sym session)
        (subst (λ (d : BufferedConnection C). CanContinue (model.source.remaining d) old.session) (sym connection) is.ready);
    input_works = subst (λ (d : BufferedConnection C). model.in_failed d ≡ false) (sym connection) is.input_works;
    output_works = subst (λ (d : BufferedConnection C). model.out_failed d ≡ false) (sym connection) is.output_works;
  }

  -- nothing was read of it yet
  pub new_open : (it : OpenConnection C) (box : BufferedConnection C) → it.connection ≡ box → it.session ≡ no_requests_yet → it.began.value ≡ box
      → UnderwayAmong store model (connection_moment box now) (session_moment box now no_requests_yet)
      → CanContinue (model.source.remaining box) no_requests_yet → model.in_failed box ≡ false → model.out_failed box ≡ false → IsOpen store model now it
  new_open it box connection session began under can reads writes = record {
    then = now;
    underway = subst (λ (b : BufferedConnection C). UnderwayAmong store model (connection_moment b now) (session_moment it.connection now it.session))
        (sym began)
        (subst (λ (d : BufferedConnection C). UnderwayAmong store model (connection_moment box now) (session_moment d now it.session)) (sym connection)
        (subst (λ (x : Session). UnderwayAmong store model (connection_moment box now) (session_moment box now x)) (sym session) under));
    ready = subst (λ (x : Session). CanContinue (model.source.remaining it.connection) x) (sym session)
        (subst (λ (d : BufferedConnection C). CanContinue (model.source.remaining d) no_requests_yet) (sym connection) can);
    input_works = subst (λ (d : BufferedConnection C). model.in_failed d ≡ false) (sym connection) reads;
    output_works = subst (λ (d : BufferedConnection C). model.out_failed d ≡ false) (sym connection) writes;
  }

-- ---- what waits is written

-- reads leave what was handed over, and writes what is still to be read
pub two_way_box : {C : Type 0} (remaining : C → Option (List ℕ)) (gives : ByteTransfer C) (failed : C → Bool) (contents : C → Option (List ℕ))
    → KeepsContents C gives contents → IsTwoWay (buffered_model remaining gives failed contents)
two_way_box remaining gives failed contents leaves = record {
  reads_leave = λ s t bytes given. (
    ap (λ x. append_known x (bytes_waiting t.waiting)) (leaves s.connection t.connection bytes given.0)
        ∙ ap (λ w. append_known (contents s.connection) (bytes_waiting w)) given.1,
    given.2,
  );
  writes_leave = λ s t bytes taken. (taken.1, taken.2);
}

module _ {S C : Type 0} (store : Store S) (now : S) (remaining : C → Option (List ℕ)) (gives : ByteTransfer C) (failed : C → Bool)
    (contents : C → Option (List ℕ)) (lasts : OutlastsWrites store (buffered_model remaining gives failed contents)) (old new : OpenConnection C)
    (p : ConnectionProgress)
    (is : IsOpen store (buffered_model remaining gives failed contents) now old)
    (delivers : Delivers remaining failed contents old new p) where
  abbrev model : ConnectionModel (BufferedConnection C)
  model = buffered_model remaining gives failed contents

  still_underway : UnderwayAmong store model (connection_moment new.began.value is.then) (session_moment new.connection now new.session)
  still_underway =
      subst (λ (b : BufferedConnection C). UnderwayAmong store model (connection_moment b is.then) (session_moment new.connection now new.session))
      (sym delivers.began)
      (subst (λ (x : Session). UnderwayAmong store model (connection_moment old.began.value is.then) (session_moment new.connection now x))
      (sym delivers.session)
      (lasts (connection_moment old.began.value is.then) (session_moment old.connection now old.session) new.connection is.underway
      delivers.nothing_new delivers.kept))

  delivered_to : (q : ConnectionProgress) → DeliversTo old.connection.failed new.connection.failed q → HasCome store model now new q
  delivered_to (StaysOpen progress) stays = record {
    then = is.then;
    underway = still_underway;
    ready = subst (λ (x : Session). CanContinue (remaining new.connection.connection) x) (sym delivers.session)
        (subst (λ (r : Option (List ℕ)). CanContinue r old.session) (sym delivers.nothing_new.1) is.ready);
    input_works = delivers.nothing_new.2 ∙ is.input_works;
    output_works = stays ∙ is.output_works;
  }
  delivered_to (Ended Undelivered) breaks = record { then = is.then; underway = still_underway; output_failed = breaks }
  delivered_to (Ended ClosedByClient) never = absurd never
  delivered_to (Ended ClosedByResponse) never = absurd never
  delivered_to (Ended Failed) never = absurd never

  pub delivered : HasCome store model now new p
  delivered = delivered_to p delivers.comes_to

-- ---- one turn

module _ {S C : Type 0} (store : Store S) (model : ConnectionModel (BufferedConnection C)) (t u : S) (old new : OpenConnection C) (before after : Session)
    (before_is : before ≡ old.session) (after_is : new.session ≡ after)
    (began : new.began.value ≡ old.began.value) (is : IsOpen store model t old) where
  under_before : UnderwayAmong store model (connection_moment old.began.value is.then) (session_moment old.connection t before)
  under_before = subst (λ (x : Session). UnderwayAmong store model (connection_moment old.began.value is.then) (session_moment old.connection t x))
      (sym before_is) is.underway

  pub came_open : RunsPiece store model (session_moment old.connection t before) (session_moment new.connection u after) (Ok None)
      → CanContinue (model.source.remaining new.connection) after
      → (model.in_failed new.connection ≡ false) × (model.out_failed new.connection ≡ false) → IsOpen store model u new
  came_open goes can works =
      let came = goes.among (connection_moment old.began.value is.then) under_before in
      record {
        then = is.then;
        underway = subst (λ (b : BufferedConnection C). UnderwayAmong store model (connection_moment b is.then) (session_moment new.connection u new.session))
            (sym began)
            (subst (λ (x : Session). UnderwayAmong store model (connection_moment old.began.value is.then) (session_moment new.connection u x))
            (sym after_is) came);
        ready = subst (CanContinue (model.source.remaining new.connection)) (sym after_is) can;
        input_works = works.0;
        output_works = works.1;
      }

  pub came_ended : (ended : EndedSession)
      → RunsPiece store model (session_moment old.connection t before) (session_moment new.connection u after) (Ok (Some ended))
      → SessionEnded store model u new
  came_ended ended goes =
      let came = goes.among (connection_moment old.began.value is.then) under_before in
      record {
        then = is.then;
        last = came.0;
        ended = ended;
        served = subst
            (λ (b : BufferedConnection C). EndsOnConnectionInHistory (shared store) model (connection_moment b is.then)
            (connection_moment new.connection came.0) ended)
            (sym began) came.1;
        keeps = came.2;
      }

  pub came_failed : (error : SessionError)
      → RunsPiece store model (session_moment old.connection t before) (session_moment new.connection u after) (Err error) → HasFailed store model u new
  came_failed error goes =
      let came = goes.among (connection_moment old.began.value is.then) under_before in
      record {
        then = is.then;
        last = came.0;
        error = error;
        served = subst
            (λ (b : BufferedConnection C). FailsOnConnectionInHistory (shared store) model (connection_moment b is.then)
            (connection_moment new.connection came.0) error)
            (sym began) came.1;
        keeps = came.2;
      }

  -- the same by the piece that its session has made
  pub came_on : (p q : Piece) → p ≡ q → piece_of (Ok q) ≡ Ok None
      → RunsPiece store model (session_moment old.connection t before) (session_moment new.connection u after) (piece_of (Ok p))
      → IfOpen (piece_of (Ok p)) (CanContinue (model.source.remaining new.connection) after)
      → (model.in_failed new.connection ≡ false) × (model.out_failed new.connection ≡ false) → IsOpen store model u new
  came_on p q same open_still goes can works =
      let is = ap (λ (x : Piece). piece_of (Ok x)) same ∙ open_still in
      came_open
      (subst (λ (r : Result (Option EndedSession) SessionError).
      RunsPiece store model (session_moment old.connection t before) (session_moment new.connection u after) r) is goes)
      (subst (λ (r : Result (Option EndedSession) SessionError). IfOpen r (CanContinue (model.source.remaining new.connection) after)) is can)
      works

  pub came_to_end : (p : Piece) (ended : EndedSession) → p ≡ EndedBy ended
      → RunsPiece store model (session_moment old.connection t before) (session_moment new.connection u after) (piece_of (Ok p))
      → SessionEnded store model u new
  came_to_end p ended same goes =
      came_ended ended (subst (λ (r : Result (Option EndedSession) SessionError).
      RunsPiece store model (session_moment old.connection t before) (session_moment new.connection u after) r)
      (ap (λ (x : Piece). piece_of (Ok x)) same) goes)
