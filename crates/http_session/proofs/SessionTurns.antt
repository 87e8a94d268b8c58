-- How one turn of a session carries what is known of it on.
use Rattle.std.proofs.Common.{◌≡◌, ◌≢◌, ℕ, ◌+◌, ◌<◌, ◌⊎◌, Bool, true, false, if◌then◌else◌, List, [], ◌∷◌, ◌++◌, length, take, Option, Err, refl, sym, ap, ◌∙◌}
use Rattle.std.proofs.Common.{subst, arith, inl, inr, append_assoc, append-nil, length-append, rules}
use Rattle.std.specs.Io.KnownBytes.{Appends, Consumes, IsAtEnd, Keeps as KeepsBytes}
use Rattle.std.proofs.KnownBytes.{Consumes-trans, Consumes-kept, Appends-trans, Appends-kept, Consumes-nil, Appends-nil}
use Rattle.std.proofs.lemmas.List.{flat_map_more}
use Rattle.std.proofs.lemmas.List.Elements.{All-append, All-cons, All-nil}
use Rattle.session_devices.specs.ByteTransfers.{ByteTransfer, KeepsOther}
use Rattle.session_devices.specs.declared.limits.TheConstants.{MAX_READS}
use Rattle.http_requests.specs.Requests.{IsMalformed, AwaitsRequest}
use Rattle.http_requests.specs.AwaitedReads.{Source, FailsToRead}
use Rattle.http_requests.specs.ReceivedBytes.{ReadBuffer, ReadsOnWhile, StopsWhile, SameUnlessReading, read_moment, failed_call}
use Rattle.http_requests.specs.declared.request.RequestFault.{RequestFault}
use Rattle.http_requests.specs.declared.read_buffer.ReadError.{ReadError}
use Rattle.http_requests.specs.declared.read_buffer.ReadError.TheVariants as why
use Rattle.http_requests.proofs.AwaitedReads.{uncounted}
use Rattle.http_requests.specs.LineLaws.{no_bytes_await}
use Rattle.http_session.specs.Replies.{response_of, takes_no_memory}
use Rattle.http_session.specs.Sessions.{Exchange, IsExchange, StaysOpen, texts, response_to, responses, Store, Step, Run, Ending, end_of_input, closing}
use Rattle.http_session.specs.Sessions.{malformed, last_of, IsEnding, malformed_response, malformed_responses, end_reason, Due, none_yet, due, due_malformed}
use Rattle.http_session.specs.Sessions.{exchange_due, NothingWasDue, IsDue, bytes_due, is_spared, IsCause, output_state, WritesResponse, cause_by}
use Rattle.http_session.specs.ResponseOrder.{ConnectionModel, connection_moment, model_of, IsTwoWay, reads_of, EndsOnConnection, FailsOnConnection}
use Rattle.http_session.specs.ResumableSessions.{between_requests, SoFar}
use Rattle.http_session.specs.declared.reply.Reply.TheVariants.{NoRequest}
use Rattle.http_session.specs.declared.whole_session.EndReason.TheVariants.{ClosedByClient, ClosedByResponse}
use Rattle.http_session.specs.declared.whole_session.SessionErrorKind.{SessionErrorKind}
use Rattle.http_session.specs.declared.whole_session.SessionErrorKind.TheVariants.{Reading, Writing, Memory}
use Rattle.http_session.specs.declared.whole_session.PartialWrite.{PartialWrite}
use Rattle.http_session.proofs.ConnectionSteps.{read_more, said_before, said_on, said_as, reads_keep}

responses_more : (xs : List Exchange) (x : Exchange) → responses (xs ++ x ∷ []) ≡ responses xs ++ response_to x
responses_more xs x = sym (flat_map_more response_to [] xs x)

run_more : {S : Type 0} (store : Store S) (s m t : S) (xs : List Exchange) (x : Exchange)
    → Run store s xs m → Step store m x.verdict x.reply t → Run store s (xs ++ x ∷ []) t
run_more store s m t [] x r q = (t, subst (λ (y : _). Step store y x.verdict x.reply t) r q, refl)
run_more store s m t (y ∷ xs) x r q = (r.0, r.1, run_more store r.0 m t xs x r.2 q)

run_all : {S : Type 0} (store : Store S) (s t : S) (xs : List Exchange) → Run store s xs t → Run store s (xs ++ []) t
run_all store s t xs r = subst (λ (l : List Exchange). Run store s l t) (sym (append-nil xs)) r

-- what was taken is what these requests spell and what is held: the same where none follows
split_all : (taken held : List ℕ) (xs : List Exchange) → taken ≡ texts xs ++ held → taken ≡ texts (xs ++ []) ++ held
split_all taken held xs split = split ∙ ap (λ (l : List Exchange). texts l ++ held) (sym (append-nil xs))

-- and where one does, which what is held begins with
split_more : (taken held rest : List ℕ) (xs : List Exchange) (x : Exchange) → taken ≡ texts xs ++ held → held ≡ x.text ++ rest
    → taken ≡ texts (xs ++ x ∷ []) ++ rest
split_more taken held rest xs x split cut =
    split ∙ ap (λ l. texts xs ++ l) cut ∙ sym (append_assoc (texts xs) x.text rest) ∙ ap (λ l. l ++ rest) (flat_map_more (λ (y : Exchange). y.text) [] xs x)

-- before the first byte the first request is awaited
pub nothing_was_due : NothingWasDue Memory []
nothing_was_due = inl (inl no_bytes_await)

still_consumed : {C : Type 0} (source : Source C) (s m t : C) (failed : Bool) (bytes : List ℕ) → Consumes (source.remaining s) (source.remaining m) bytes
    → (t ≡ m) ⊎ FailsToRead source m t failed
    → Consumes (source.remaining s) (source.remaining t) bytes
still_consumed source s m t failed bytes read (inl same) = subst (λ (x : _). Consumes (source.remaining s) (source.remaining x) bytes) (sym same) read
still_consumed source s m t failed bytes read (inr fails) = Consumes-kept (source.remaining s) (source.remaining m) (source.remaining t) bytes read fails.1

-- a connection of which reads leave what was written, and writes what is still to be read
pub two_way : {C : Type 0} {remaining contents : C → Option (List ℕ)} {gives : ByteTransfer C} {takes : ByteTransfer C} {in_failed out_failed : C → Bool}
    → KeepsOther C gives contents out_failed → KeepsOther C takes remaining in_failed
    → IsTwoWay (model_of remaining gives in_failed contents takes out_failed)
two_way reads_leave writes_leave = record { reads_leave = reads_leave; writes_leave = writes_leave }

module _ {C : Type 0} (model : ConnectionModel C) (two : IsTwoWay model) where
  -- reads change nothing of the output
  output_kept : (c1 c2 : C) (old new : ReadBuffer) → ReadsOnWhile model.source AwaitsRequest (read_moment c1 old) (read_moment c2 new)
      → (model.contents c2 ≡ model.contents c1)
      × (model.out_failed c2 ≡ model.out_failed c1)
  output_kept c1 c2 old new more =
      let alone = uncounted model.source.gives AwaitsRequest c1 c2 old.reads_left new.reads_left old.held new.held more.waits in
      reads_keep model.source.gives model.contents model.out_failed two.reads_leave AwaitsRequest alone.0.pieces c1 c2 old.held new.held alone.0.each

  -- nor does one that failed
  output_still : (c1 c2 : C) (failed : Bool) → (c2 ≡ c1) ⊎ FailsToRead model.source c1 c2 failed → (model.contents c2 ≡ model.contents c1)
      × (model.out_failed c2 ≡ model.out_failed c1)
  output_still c1 c2 failed (inl same) = (ap model.contents same, ap model.out_failed same)
  output_still c1 c2 failed (inr fails) = two.reads_leave c1 c2 [] fails.2

  -- a connection that worked works still: where a request was awaited and this went on
  pub works_received : (c1 c2 : C) (old new : ReadBuffer) → ReadsOnWhile model.source AwaitsRequest (read_moment c1 old) (read_moment c2 new)
      → model.in_failed c2 ≡ model.in_failed c1
      → (model.in_failed c1 ≡ false) × (model.out_failed c1 ≡ false) → (model.in_failed c2 ≡ false) × (model.out_failed c2 ≡ false)
  works_received c1 c2 old new more same works = (same ∙ works.0, (output_kept c1 c2 old new more).1 ∙ works.1)

  -- and where bytes were written and the output works as before
  pub works_said : (c1 c2 : C) (bytes : List ℕ) → model.takes c1 bytes c2 → model.out_failed c2 ≡ model.out_failed c1
      → (model.in_failed c1 ≡ false) × (model.out_failed c1 ≡ false) → (model.in_failed c2 ≡ false) × (model.out_failed c2 ≡ false)
  works_said c1 c2 bytes took same works = ((two.writes_leave c1 c2 bytes took).1 ∙ works.0, same ∙ works.1)

module _ {S C : Type 0} (store : Store S) (model : ConnectionModel C) (two : IsTwoWay model) where
  pub begins : (c : C) (s : S)
      → SoFar store model (connection_moment c s) (between_requests c s (record { held = []; reads_left = MAX_READS; ended = false }) 0)
  begins c s = record {
    taken = [];
    opens = [];
    read = Consumes-nil (model.source.remaining c);
    answers = record { acts = []; each = refl };
    made = omega arith;
    split = refl;
    each = search rules;
    run = refl;
    written = Appends-nil (model.contents c);
    count = refl;
    least = omega arith;
    most = omega arith;
    end = λ e. absurd (search rules);
  }

  -- more was read
  pub reads_on : (c0 c1 c2 : C) (s t : S) (old new : ReadBuffer) (answered : ℕ)
      → SoFar store model (connection_moment c0 s) (between_requests c1 t old answered)
      → ReadsOnWhile model.source AwaitsRequest (read_moment c1 old) (read_moment c2 new)
      → SoFar store model (connection_moment c0 s) (between_requests c2 t new answered)
  reads_on c0 c1 c2 s t old new answered so more =
      let on = more.on in
      let alone = uncounted model.source.gives AwaitsRequest c1 c2 old.reads_left new.reads_left old.held new.held more.waits in
      let long : length (so.taken ++ on.more) ≡ length so.taken + length on.more = length-append so.taken on.more in
      let held : length new.held ≡ length old.held + length on.more = ap length on.held ∙ length-append old.held on.more in
      let split : so.taken ++ on.more ≡ texts so.opens ++ new.held =
      ap (λ l. l ++ on.more) so.split ∙ append_assoc (texts so.opens) old.held on.more ∙ ap (λ l. texts so.opens ++ l) (sym on.held) in
      let answers = read_more model c0 c1 c2 so.opens so.taken old.held new.held (so.taken ++ on.more)
      so.answers so.split alone.0 split in
      record {
        taken = so.taken ++ on.more;
        opens = so.opens;
        read = Consumes-trans (model.source.remaining c0) (model.source.remaining c1) (model.source.remaining c2) so.taken on.more so.read on.read;
        answers = answers.0;
        made = omega (arith, so.made, alone.1, answers.1);
        split = split;
        each = so.each;
        run = so.run;
        written =
            subst (λ (o : Option (List ℕ)). Appends (model.contents c0) o (responses so.opens)) (sym (output_kept model two c1 c2 old new more).0) so.written;
        count = so.count;
        least = omega (arith, so.least, on.least, long);
        most = omega (arith, so.most, on.most, held);
        end = on.end so.end;
      }

  -- a request was answered, and the session goes on
  pub goes_on : (c0 c1 c2 : C) (s t u : S) (old : ReadBuffer) (rest : List ℕ) (answered : ℕ) (x : Exchange)
      → SoFar store model (connection_moment c0 s) (between_requests c1 t old answered) → IsExchange x → x.close ≡ false → old.held ≡ x.text ++ rest
      → 0 < length x.text
      → Step store t x.verdict x.reply u → Appends (model.contents c1) (model.contents c2) (response_to x) → model.takes c1 (response_to x) c2
      → SoFar store model (connection_moment c0 s) (between_requests c2 u (record old { held = rest }) (answered + 1))
  goes_on c0 c1 c2 s t u old rest answered x so is open_is cut some step wrote took =
      let sizes : length old.held ≡ length x.text + length rest = ap length cut ∙ length-append x.text rest in
      let same = (two.writes_leave c1 c2 (response_to x) took).0 in
      let before = said_before model c0 c1 so.opens (x ∷ []) so.taken (responses so.opens) so.answers in
      let said = said_on model c0 c1 c2 (so.opens ++ x ∷ []) so.taken (responses so.opens) (response_to x)
      (responses (so.opens ++ x ∷ [])) before.0 took (responses_more so.opens x) in
      record {
        taken = so.taken;
        opens = so.opens ++ x ∷ [];
        read = subst (λ (r : Option (List ℕ)). Consumes (model.source.remaining c0) r so.taken) (sym same) so.read;
        answers = said.0;
        made = omega (arith, so.made, said.1, ap (λ a. length (reads_of a)) before.1);
        split = split_more so.taken old.held rest so.opens x so.split cut;
        each = All-append StaysOpen so.opens (x ∷ []) so.each (All-cons StaysOpen x [] (record { exchange = is; open_is = open_is }) (All-nil StaysOpen));
        run = run_more store s t u so.opens x so.run step;
        written = subst (Appends (model.contents c0) (model.contents c2)) (sym (responses_more so.opens x))
            (Appends-trans (model.contents c0) (model.contents c1) (model.contents c2) (responses so.opens) (response_to x) so.written wrote);
        count = ap (λ n. n + 1) so.count ∙ sym (length-append so.opens (x ∷ []));
        least = so.least;
        most = omega (arith, so.most, sizes, some);
        end = λ e. subst IsAtEnd (sym same) (so.end e);
      }

  -- the connection went on without taking anything, and what was written stays
  pub stays : (c0 c1 c2 : C) (s t : S) (received : ReadBuffer) (answered : ℕ)
      → SoFar store model (connection_moment c0 s) (between_requests c1 t received answered) → model.takes c1 [] c2
      → KeepsBytes (model.contents c1) (model.contents c2)
      → SoFar store model (connection_moment c0 s) (between_requests c2 t received answered)
  stays c0 c1 c2 s t received answered so took kept =
      let same = (two.writes_leave c1 c2 [] took).0 in
      let said = said_on model c0 c1 c2 so.opens so.taken (responses so.opens) [] (responses so.opens) so.answers took
      (sym (append-nil (responses so.opens))) in
      record {
        taken = so.taken;
        opens = so.opens;
        read = subst (λ (r : Option (List ℕ)). Consumes (model.source.remaining c0) r so.taken) (sym same) so.read;
        answers = said.0;
        made = omega (arith, so.made, said.1);
        split = so.split;
        each = so.each;
        run = so.run;
        written = Appends-kept (model.contents c0) (model.contents c1) (model.contents c2) (responses so.opens) so.written kept;
        count = so.count;
        least = so.least;
        most = so.most;
        end = λ e. subst IsAtEnd (sym same) (so.end e);
      }

  -- ---- a session that ends

  pub ends_with_input : (c0 c1 : C) (s t : S) (old : ReadBuffer) (answered : ℕ)
      → SoFar store model (connection_moment c0 s) (between_requests c1 t old answered) → IsAtEnd (model.source.remaining c1) × (old.held ≡ [])
      → EndsOnConnection store model (connection_moment c0 s) (connection_moment c1 t) (record { answered = answered; reason = ClosedByClient })
  ends_with_input c0 c1 s t old answered so found =
      let same : responses (so.opens ++ []) ++ [] ≡ responses so.opens = append-nil (responses (so.opens ++ [])) ∙ ap responses (append-nil so.opens) in (
        record {
          taken = so.taken;
          opens = so.opens;
          ending = end_of_input;
          rest = old.held;
          read = so.read;
          split = split_all so.taken old.held so.opens so.split;
          each = so.each;
          ends = found;
          run = run_all store s t so.opens so.run;
          written = subst (Appends (model.contents c0) (model.contents c1)) (sym same) so.written;
          count = so.count ∙ omega (arith, length-append {A = Exchange} so.opens []);
          reason_is = refl;
        },
        said_as model c0 c1 so.opens so.taken (responses so.opens) (responses (so.opens ++ []) ++ []) so.answers same,
      )

  -- a response was written, and the session ends after it
  ends_saying : (c0 c1 c2 : C) (s t u : S) (old : ReadBuffer) (answered : ℕ) (ending : Ending) (rest said : List ℕ)
      → (so : SoFar store model (connection_moment c0 s) (between_requests c1 t old answered)) → so.taken ≡ texts (so.opens ++ last_of ending) ++ rest
      → IsEnding (IsAtEnd (model.source.remaining c1)) rest ending → Run store s (so.opens ++ last_of ending) u
      → responses (so.opens ++ last_of ending) ++ malformed_response ending ≡ responses so.opens ++ said
      → length (last_of ending) + malformed_responses ending ≡ 1 → ClosedByResponse ≡ end_reason ending
      → Appends (model.contents c1) (model.contents c2) said → model.takes c1 said c2
      → EndsOnConnection store model (connection_moment c0 s) (connection_moment c2 u) (record { answered = answered + 1; reason = ClosedByResponse })
  ends_saying c0 c1 c2 s t u old answered ending rest said so split is run all one reason wrote took =
      let same = (two.writes_leave c1 c2 said took).0 in (
        record {
          taken = so.taken;
          opens = so.opens;
          ending = ending;
          rest = rest;
          read = subst (λ (r : Option (List ℕ)). Consumes (model.source.remaining c0) r so.taken) (sym same) so.read;
          split = split;
          each = so.each;
          ends = subst (λ (r : Option (List ℕ)). IsEnding (IsAtEnd r) rest ending) (sym same) is;
          run = run;
          written = subst (Appends (model.contents c0) (model.contents c2)) (sym all)
              (Appends-trans (model.contents c0) (model.contents c1) (model.contents c2) (responses so.opens) said so.written wrote);
          count = omega (arith, so.count, one, length-append so.opens (last_of ending));
          reason_is = reason;
        },
        (said_on model c0 c1 c2 so.opens so.taken (responses so.opens) said
            (responses (so.opens ++ last_of ending) ++ malformed_response ending) so.answers took all).0,
      )

  pub ends_malformed : (c0 c1 c2 : C) (s t : S) (old : ReadBuffer) (answered : ℕ) (b : RequestFault)
      → SoFar store model (connection_moment c0 s) (between_requests c1 t old answered) → IsMalformed (IsAtEnd (model.source.remaining c1)) old.held b
      → Appends (model.contents c1) (model.contents c2) (response_of (NoRequest b) true) → model.takes c1 (response_of (NoRequest b) true) c2
      → EndsOnConnection store model (connection_moment c0 s) (connection_moment c2 t) (record { answered = answered + 1; reason = ClosedByResponse })
  ends_malformed c0 c1 c2 s t old answered b so is wrote took =
      ends_saying c0 c1 c2 s t t old answered (malformed b) old.held (response_of (NoRequest b) true) so (split_all so.taken old.held so.opens so.split) is
      (run_all store s t so.opens so.run)
      (ap (λ (l : List Exchange). responses l ++ response_of (NoRequest b) true) (append-nil so.opens)) refl refl wrote took

  pub ends_closing : (c0 c1 c2 : C) (s t u : S) (old : ReadBuffer) (rest : List ℕ) (answered : ℕ) (x : Exchange)
      → SoFar store model (connection_moment c0 s) (between_requests c1 t old answered) → IsExchange x → x.close ≡ true → old.held ≡ x.text ++ rest
      → Step store t x.verdict x.reply u → Appends (model.contents c1) (model.contents c2) (response_to x) → model.takes c1 (response_to x) c2
      → EndsOnConnection store model (connection_moment c0 s) (connection_moment c2 u) (record { answered = answered + 1; reason = ClosedByResponse })
  ends_closing c0 c1 c2 s t u old rest answered x so is closes_is cut step wrote took =
      ends_saying c0 c1 c2 s t u old answered (closing x) rest (response_to x) so (split_more so.taken old.held rest so.opens x so.split cut) (is, closes_is)
      (run_more store s t u so.opens x so.run step)
      (append-nil (responses (so.opens ++ x ∷ [])) ∙ responses_more so.opens x) refl refl wrote took

  -- ---- a session that fails

  never_writing : (cause : SessionErrorKind) (rest : List ℕ) → NothingWasDue cause rest → cause ≡ Writing → 0 < length (bytes_due none_yet)
  never_writing Reading rest nothing e = absurd (cc e)
  never_writing Writing rest nothing e = absurd nothing
  never_writing Memory rest nothing e = absurd (cc e)

  -- where nothing was due
  pub fails_none : (c0 c1 c2 : C) (s t : S) (here : ReadBuffer) (answered : ℕ) (cause : SessionErrorKind)
      → (so : SoFar store model (connection_moment c0 s) (between_requests c1 t here answered)) → NothingWasDue cause here.held
      → (c2 ≡ c1) ⊎ FailsToRead model.source c1 c2 (model.in_failed c2)
      → ((made : ℕ) → here.reads_left + made ≡ MAX_READS → IsCause cause (model.in_failed c2) (model.out_failed c2) so.taken made)
      → FailsOnConnection store model (connection_moment c0 s) (connection_moment c2 t) (record { answered = answered; written = 0; cause = cause })
  fails_none c0 c1 c2 s t here answered cause so nothing last is_cause =
      let same = (output_still model two c1 c2 (model.in_failed c2) last).0 in (
        record {
          taken = so.taken;
          opens = so.opens;
          next = none_yet;
          rest = here.held;
          read = still_consumed model.source c0 c1 c2 (model.in_failed c2) so.taken so.read last;
          split = split_all so.taken here.held so.opens so.split;
          each = so.each;
          next_is = nothing;
          run = run_all store s t so.opens so.run;
          within = never_writing cause here.held nothing;
          written = subst (Appends (model.contents c0) (model.contents c2)) (sym (append-nil (responses so.opens)))
              (subst (λ (o : Option (List ℕ)). Appends (model.contents c0) o (responses so.opens)) (sym same) so.written);
          count = so.count;
          made = length (reads_of so.answers.acts);
          cause = is_cause (length (reads_of so.answers.acts)) so.made;
          unwritten = λ e. refl;
          spared = λ e. absurd (cc e);
        },
        record {
          before = c1;
          answers =
              said_as model c0 c1 so.opens so.taken (responses so.opens) (responses so.opens ++ []) so.answers
              (append-nil (responses so.opens));
          count = refl;
          last = last;
        },
      )

  -- no more could be read for the request that was awaited
  pub fails_stopped : (A : Type 0) (c0 c1 c2 : C) (s t : S) (old : ReadBuffer) (answered : ℕ) (before : Bool) (stop : ReadError)
      → SoFar store model (connection_moment c0 s) (between_requests c1 t old answered)
      → StopsWhile model.source AwaitsRequest (read_moment c1 old) (failed_call c2 (model.in_failed c2) stop)
      → SameUnlessReading {A = A} before (model.in_failed c2) (Err stop) → before ≡ false → model.out_failed c1 ≡ false
      → FailsOnConnection store model (connection_moment c0 s) (connection_moment c2 t) (record { answered = answered; written = 0; cause = cause_by stop })
  fails_stopped A c0 c1 c2 s t old answered before why.Reading so stops same was out =
      let m = stops.here.input in
      let here = stops.here.received in
      let all = reads_on c0 c1 m s t old here answered so stops.reads in
      let last : (c2 ≡ m) ⊎ FailsToRead model.source m c2 (model.in_failed c2) =
      elim stops.last [ inl over ↦ inl over.0 | inr failed ↦ inr failed ] in
      let works : model.out_failed c2 ≡ false =
      (output_still model two m c2 (model.in_failed c2) last).1 ∙ (output_kept model two c1 m old here stops.reads).1 ∙ out in
      fails_none c0 m c2 s t here answered Reading all stops.awaits last
      (λ made sum. (
        elim stops.last [
          | inl over ↦ inr (omega (arith, sum, over.1), omega (arith, all.least, over.1, ap (λ (b : Bool). here.reads_left + (if b then 1 else 0)) over.2))
          | inr failed ↦ inl failed.0
        ],
        works,
      ))
  fails_stopped A c0 c1 c2 s t old answered before why.Memory so stops same was out =
      let m = stops.here.input in
      let here = stops.here.received in
      let all = reads_on c0 c1 m s t old here answered so stops.reads in
      let works : model.out_failed c2 ≡ false = ap model.out_failed stops.last ∙ (output_kept model two c1 m old here stops.reads).1 ∙ out in
      fails_none c0 m c2 s t here answered Memory all (inl stops.awaits) (inl stops.last) (λ made sum. (same ∙ was, works))

  -- there was no memory before the first request
  pub fails_to_begin : (c : C) (s : S) → model.in_failed c ≡ false → model.out_failed c ≡ false
      → FailsOnConnection store model (connection_moment c s) (connection_moment c s) (record { answered = 0; written = 0; cause = Memory })
  fails_to_begin c s in_works out_works =
      fails_none c c c s s (record { held = []; reads_left = MAX_READS; ended = false }) 0 Memory (begins c s) nothing_was_due (inl refl)
      (λ made sum. (in_works, out_works))

  cause_of_partial_write : (cause : SessionErrorKind) (written : ℕ) (in_failed out_failed : Bool) (taken : List ℕ) (made : ℕ) → in_failed ≡ false
      → cause ≢ Reading → (cause ≡ Writing → out_failed ≡ true)
      → (cause ≡ Memory → (out_failed ≡ false) × (written ≡ 0)) → IsCause cause in_failed out_failed taken made
  cause_of_partial_write Reading written in_failed out_failed taken made i r w m = absurd (r refl)
  cause_of_partial_write Writing written in_failed out_failed taken made i r w m = (w refl, i)
  cause_of_partial_write Memory written in_failed out_failed taken made i r w m = (i, (m refl).0)

  unwritten_of_partial_write : (cause : SessionErrorKind) (written : ℕ) (out_failed : Bool) → cause ≢ Reading
      → (cause ≡ Memory → (out_failed ≡ false) × (written ≡ 0))
      → cause ≢ Writing → written ≡ 0
  unwritten_of_partial_write Reading written out_failed r m n = absurd (r refl)
  unwritten_of_partial_write Writing written out_failed r m n = absurd (n refl)
  unwritten_of_partial_write Memory written out_failed r m n = (m refl).1

  -- where a response was due, of which a part was written
  fails_saying : (c0 c1 c2 : C) (s t u : S) (old : ReadBuffer) (answered : ℕ) (next : Due) (rest : List ℕ) (partial_write : PartialWrite)
      → (so : SoFar store model (connection_moment c0 s) (between_requests c1 t old answered))
      → so.taken ≡ texts (so.opens ++ exchange_due next) ++ rest
      → IsDue (IsAtEnd (model.source.remaining c1)) partial_write.cause rest next → Run store s (so.opens ++ exchange_due next) u
      → WritesResponse (output_state (model.contents c1) false) (output_state (model.contents c2) (model.out_failed c2)) (bytes_due next) (Err partial_write)
      → model.takes c1 (take partial_write.written (bytes_due next)) c2 → model.in_failed c1 ≡ false
      → (is_spared next ≡ true → partial_write.cause ≢ Memory)
      → FailsOnConnection store model (connection_moment c0 s) (connection_moment c2 u)
      (record { answered = answered; written = partial_write.written; cause = partial_write.cause })
  fails_saying c0 c1 c2 s t u old answered next rest partial_write so split is run said took in_works spared =
      let part = take partial_write.written (bytes_due next) in
      let same = two.writes_leave c1 c2 part took in
      let made = length (reads_of so.answers.acts) in
      let answers = said_on model c0 c1 c2 so.opens so.taken (responses so.opens) part (responses so.opens ++ part)
      so.answers took refl in (
        record {
          taken = so.taken;
          opens = so.opens;
          next = next;
          rest = rest;
          read = subst (λ (r : Option (List ℕ)). Consumes (model.source.remaining c0) r so.taken) (sym same.0) so.read;
          split = split;
          each = so.each;
          next_is = subst (λ (r : Option (List ℕ)). IsDue (IsAtEnd r) partial_write.cause rest next) (sym same.0) is;
          run = run;
          within = said.0;
          written = Appends-trans (model.contents c0) (model.contents c1) (model.contents c2) (responses so.opens) part so.written said.1;
          count = so.count;
          made = made;
          cause =
              cause_of_partial_write partial_write.cause partial_write.written (model.in_failed c2) (model.out_failed c2) so.taken made (same.1 ∙ in_works)
              said.2 said.3 said.4;
          unwritten = unwritten_of_partial_write partial_write.cause partial_write.written (model.out_failed c2) said.2 said.4;
          spared = spared;
        },
        record { before = c2; answers = answers.0; count = answers.1; last = inl refl },
      )

  pub fails_due : (c0 c1 c2 : C) (s t u : S) (old : ReadBuffer) (rest : List ℕ) (answered : ℕ) (x : Exchange) (partial_write : PartialWrite)
      → SoFar store model (connection_moment c0 s) (between_requests c1 t old answered) → IsExchange x → old.held ≡ x.text ++ rest
      → Step store t x.verdict x.reply u
      → WritesResponse (output_state (model.contents c1) false) (output_state (model.contents c2) (model.out_failed c2)) (response_to x) (Err partial_write)
      → model.takes c1 (take partial_write.written (response_to x)) c2 → model.in_failed c1 ≡ false
      → (takes_no_memory x.reply ≡ true → partial_write.cause ≢ Memory)
      → FailsOnConnection store model (connection_moment c0 s) (connection_moment c2 u)
      (record { answered = answered; written = partial_write.written; cause = partial_write.cause })
  fails_due c0 c1 c2 s t u old rest answered x partial_write so is cut step said took in_works spared =
      fails_saying c0 c1 c2 s t u old answered (due x) rest partial_write so (split_more so.taken old.held rest so.opens x so.split cut) (is, said.2)
      (run_more store s t u so.opens x so.run step) said took in_works spared

  pub fails_malformed : (c0 c1 c2 : C) (s t : S) (old : ReadBuffer) (answered : ℕ) (b : RequestFault) (partial_write : PartialWrite)
      → SoFar store model (connection_moment c0 s) (between_requests c1 t old answered) → IsMalformed (IsAtEnd (model.source.remaining c1)) old.held b
      → WritesResponse (output_state (model.contents c1) false) (output_state (model.contents c2) (model.out_failed c2)) (response_of (NoRequest b) true)
      (Err partial_write)
      → model.takes c1 (take partial_write.written (response_of (NoRequest b) true)) c2 → model.in_failed c1 ≡ false
      → FailsOnConnection store model (connection_moment c0 s) (connection_moment c2 t)
      (record { answered = answered; written = partial_write.written; cause = partial_write.cause })
  fails_malformed c0 c1 c2 s t old answered b partial_write so is said took in_works =
      fails_saying c0 c1 c2 s t t old answered (due_malformed b) old.held partial_write so (split_all so.taken old.held so.opens so.split) (is, said.2)
      (run_all store s t so.opens so.run) said took in_works
      (λ e. absurd (cc e))
