-- A request that was heard: its head, and then its body.
use Rattle.std.proofs.Common.{◌≡◌, ℕ, ◌<◌, true, List, [], ◌++◌, length, take, drop, Some, refl, sym, ap, ◌∙◌, subst, arith, inl, inr}
use Rattle.std.proofs.Common.{append_assoc, append-nil, length-append}
use Rattle.std.proofs.lemmas.List.{take-append-drop}
use Rattle.std.proofs.Math.Seq.{take-append_seam}
use Rattle.httparse.specs.Grammar.{print_request}
use Rattle.batch_codec.specs.BatchReading.{decoded}
use Rattle.batch_feeder.specs.FeederAnswers.{answers}
use Rattle.session_devices.specs.ByteTransfers.{ByteTransfer}
use Rattle.http_requests.specs.HeadContents.{Asked, asked_by, body_length}
use Rattle.http_requests.specs.Heads.{TakesHead, AwaitsHead, NeverHasHead}
use Rattle.http_requests.specs.Requests.{HasBody, BodyBreaks, Spells, IsMalformed, BreaksAfter, IsHeadOf, AwaitsRequest}
use Rattle.http_requests.specs.ReceivedBytes.{ReadBuffer, put_back}
use Rattle.http_requests.specs.FramedHeads.{Frames}
use Rattle.http_requests.specs.PartialRequests.{IsPart, AwaitsMoreBody, BodyPart, body_part, reader_moment, HasStepOutcome, ContinuesBody}
use Rattle.http_requests.specs.declared.request.BodyLength.{BodyLength}
use Rattle.http_requests.specs.declared.request.BodyLength.TheVariants.{Bytes, Chunked, Unreadable, TooLarge}
use Rattle.http_requests.specs.declared.request.RequestFault.{RequestFault}
use Rattle.http_requests.specs.declared.request.RequestFault.TheVariants as fault
use Rattle.http_requests.specs.declared.request.FoundHead.{FoundHead}
use Rattle.http_requests.specs.declared.body_reader.BodyReader.{BodyReader}
use Rattle.http_requests.specs.declared.body_reader.BodyStatus.{BodyStatus}
use Rattle.http_requests.specs.declared.body_reader.BodyStatus.TheVariants as status
use Rattle.http_requests.proofs.OneRequest.{head_stays}
use Rattle.http_requests.proofs.WholeRequests.{head_cut}
use Rattle.http_requests.proofs.Parts.{awaits_body, has_looked, ended_breaks, breaks_anyway}
use Rattle.http_session.specs.Verdicts.{JudgesBatch, asked_of}
use Rattle.http_session.specs.Questions.{Decides, AsksQuestion, JudgesRead}
use Rattle.http_session.specs.BodySinks.{Follows}
use Rattle.http_session.specs.BodySinkLaws.{follows_joined}
use Rattle.http_session.specs.IncomingRequests.{JudgesBy, Carries, IsPartOf, HasReceived, HasLookedBy, WaitsAfter, ReceivesFault, ReceivesPart}
use Rattle.http_session.specs.IncomingRequests.{ReceivesWhole, ReceivesOf, FinishesAs, before_a_request}
use Rattle.http_session.specs.declared.question.Question.{Question}
use Rattle.http_session.specs.declared.question.Question.TheVariants as question
use Rattle.http_session.specs.declared.verdict.Verdict.{Verdict}
use Rattle.http_session.specs.declared.receiving.Incoming.{Incoming}
use Rattle.http_session.specs.declared.receiving.Incoming.TheVariants.{Request as OneRequest, EndOfInput, NoRequest}
use Rattle.http_session.specs.declared.receiving.BatchBody.{BatchBody}
use Rattle.http_session.specs.declared.receiving.BodySink.TheVariants.{Settled, Batch}
use Rattle.http_session.specs.declared.receiving.PartialRequest.{PartialRequest}
use Rattle.http_session.specs.declared.receiving.SessionStage.{SessionStage}
use Rattle.http_session.specs.declared.receiving.SessionStage.TheVariants.{Head, Body}
use Rattle.http_session.proofs.FedBatches.{batch_verdict}
use Rattle.http_session.proofs.Texts.{asked_is}

-- ---- what is made of a body

pub settled_carries : (v : Verdict) (content : List ℕ) → Carries (Settled v) content (Settled v)
settled_carries v content (question.Settled w) before judged = judged
settled_carries v content question.Batch before judged = judged

pub batch_carries : (b d : BatchBody) (content : List ℕ) → Follows (answers b.feeder.value) content (answers d.feeder.value)
    → Carries (Batch b) content (Batch d)
batch_carries b d content follows (question.Settled w) before judged = absurd judged
batch_carries b d content follows question.Batch before judged =
    follows_joined decoded (answers b.feeder.value) (answers d.feeder.value) before content judged follows

-- the same was taken, and put into another sink
pub put_as : {S T : Type 0} (takes : ByteTransfer S) (other : ByteTransfer T) (old new : ReadBuffer) (s t : S) (x y : T) (was is : BodyReader)
    (result : BodyStatus)
    → ((content : List ℕ) → takes s content t → other x content y)
    → ContinuesBody takes (reader_moment was old s) (reader_moment is new t) (Some result)
    → ContinuesBody other (reader_moment was old x) (reader_moment is new y) (Some result)
put_as takes other old new s t x y was is result puts on = record {
  text = on.text;
  content = on.content;
  cut = on.cut;
  put = puts on.content on.put;
  outcome =
      λ of front fed part. other_sink of (body_part (front ++ on.text) (fed ++ on.content)) result (on.outcome of front fed part);
}
  where
    other_sink : (of : BodyLength) (part : BodyPart) (body : BodyStatus) → HasStepOutcome of part (reader_moment is new t) (Some body)
        → HasStepOutcome of part (reader_moment is new y) (Some body)
    other_sink of part status.Complete outcome = outcome
    other_sink of part status.Partial outcome = outcome
    other_sink of part (status.Invalid why) outcome = outcome

pub settled_decides : (v : Verdict) (q : Question) (body : List ℕ) → JudgesBy q (Settled v) body → Decides q body v
settled_decides v (question.Settled w) body judged = judged
settled_decides v question.Batch body judged = subst (JudgesBatch true body) (sym judged) refl

pub batch_decides : (b : BatchBody) (v : Verdict) → JudgesRead (answers b.feeder.value []) v → (q : Question) (body : List ℕ) → JudgesBy q (Batch b) body
    → Decides q body v
batch_decides b v judges (question.Settled w) body judged = absurd judged
batch_decides b v judges question.Batch body judged = batch_verdict decoded (answers b.feeder.value) body (λ w. refl) v judged judges

-- ---- a head

pub head_of : (bytes : List ℕ) (found : FoundHead) → Frames bytes found → IsHeadOf (take found.len bytes) found.request
head_of bytes found frames =
    record {
      head = frames.head;
      is = frames.takes.reads.0;
      bytes_are = head_cut bytes found.len frames.head frames.takes frames.fits;
      describes = frames.describes;
    }

-- the head of a request, before its body
pub begins_request : (bytes : List ℕ) (found : FoundHead) (q : Question) (request : PartialRequest) (frames : Frames bytes found)
    → AsksQuestion (asked_of (take found.len bytes) found.request) q
    → IsPart found.body_length [] [] request.reader → JudgesBy q request.sink [] → request.closes ≡ found.request.closes
    → IsPartOf request (take found.len bytes)
unfolding head_of
begins_request bytes found q request frames asks part judged closes =
    let is = head_of bytes found frames in
    let same : asked_by frames.head ≡ asked_of (take found.len bytes) found.request = asked_is (take found.len bytes) found.request is in
    record {
      head = frames.head;
      taken = [];
      content = [];
      question = q;
      takes = record { reads = (frames.takes.reads.0, sym (append-nil (print_request frames.head))); size = frames.takes.size; fields = frames.takes.fields };
      text_is = is.bytes_are ∙ sym (append-nil (print_request frames.head));
      part = subst (λ (z : BodyLength). IsPart z [] [] request.reader) frames.body_length_is part;
      asks = subst (λ (a : Asked). AsksQuestion a q) (sym same) asks;
      judged = judged;
      closes_is = closes ∙ ap (λ (a : Asked). a.closes) (sym same);
    }

-- ---- a part of a request, and what follows

module _ (request : PartialRequest) (text : List ℕ) (so : IsPartOf request text) where
  head_taken : (after : List ℕ) → TakesHead (print_request so.head ++ after) so.head after
  head_taken after = head_stays (print_request so.head) so.head [] after so.takes

  all_of : (more : List ℕ) → text ++ more ≡ print_request so.head ++ (so.taken ++ more)
  all_of more = ap (λ l. l ++ more) so.text_is ∙ append_assoc (print_request so.head) so.taken more

  -- more of it is awaited
  pub awaits_after : (held : List ℕ) → AwaitsMoreBody request.reader held → AwaitsRequest (text ++ held)
  awaits_after held awaits = inr (record {
    head = so.head;
    after = so.taken ++ held;
    takes = subst (λ (l : List ℕ). TakesHead l so.head (so.taken ++ held)) (sym (all_of held)) (head_taken (so.taken ++ held));
    awaits = awaits_body (body_length so.head) so.taken so.content held request.reader so.part awaits;
  })

  breaks_as : (AtEnd : Type 0) (why : RequestFault) (held : List ℕ) → BodyBreaks AtEnd why (body_length so.head) (so.taken ++ held)
      → BreaksAfter AtEnd (text ++ held) why
  breaks_as AtEnd why held breaks = record {
    head = so.head;
    after = so.taken ++ held;
    takes = subst (λ (l : List ℕ). TakesHead l so.head (so.taken ++ held)) (sym (all_of held)) (head_taken (so.taken ++ held));
    breaks = breaks;
  }

  malformed_as : (AtEnd : Type 0) (why : RequestFault) (held : List ℕ) → BodyBreaks AtEnd why (body_length so.head) (so.taken ++ held)
      → IsMalformed AtEnd (text ++ held) why
  malformed_as AtEnd fault.Head held breaks = absurd breaks
  malformed_as AtEnd fault.Body held breaks = breaks_as AtEnd fault.Body held breaks
  malformed_as AtEnd fault.TooLarge held breaks = breaks_as AtEnd fault.TooLarge held breaks

  spells_whole : (body : List ℕ) → HasBody (body_length so.head) so.taken body → Spells text so.head body
  spells_whole body is = record {
    after = so.taken;
    takes = subst (λ (l : List ℕ). TakesHead l so.head so.taken) (sym so.text_is) (head_taken so.taken);
    body_is = is;
  }

  -- where the input has ended
  pub ends_inside : (new : ReadBuffer) → AwaitsMoreBody request.reader new.held → new.ended ≡ true → ReceivesFault (put_back text new) new fault.Body
  ends_inside new awaits ended = record {
    text = text;
    cut = refl;
    malformed = malformed_as (new.ended ≡ true) fault.Body new.held
        (ended_breaks (new.ended ≡ true) (body_length so.head) (so.taken ++ new.held)
        (awaits_body (body_length so.head) so.taken so.content new.held request.reader so.part awaits) ended);
  }

-- a text was taken after it
module _ (was is : PartialRequest) (text : List ℕ) (old new : ReadBuffer) (so : IsPartOf was text) where
  cut_after : (more : List ℕ) → old ≡ put_back more new → put_back text old ≡ put_back (text ++ more) new
  cut_after more cut = ap (put_back text) cut ∙ ap (λ (l : List ℕ). record new { held = l }) (sym (append_assoc text more new.held))

  text_after : (more : List ℕ) → text ++ more ≡ print_request so.head ++ (so.taken ++ more)
  text_after more = ap (λ l. l ++ more) so.text_is ∙ append_assoc (print_request so.head) so.taken more

  pub part_more : is.closes ≡ was.closes
      → (on : ContinuesBody Carries (reader_moment was.reader old was.sink) (reader_moment is.reader new is.sink) (Some status.Partial))
      → IsPartOf is (text ++ on.text)
  part_more closes on = record {
    head = so.head;
    taken = so.taken ++ on.text;
    content = so.content ++ on.content;
    question = so.question;
    takes = so.takes;
    text_is = text_after on.text;
    part = on.outcome (body_length so.head) so.taken so.content so.part;
    asks = so.asks;
    judged = on.put so.question so.content so.judged;
    closes_is = closes ∙ so.closes_is;
  }

  pub receives_more : is.closes ≡ was.closes
      → ContinuesBody Carries (reader_moment was.reader old was.sink) (reader_moment is.reader new is.sink) (Some status.Partial)
      → ReceivesPart (put_back text old) new (Body is)
  receives_more closes on = record { text = text ++ on.text; cut = cut_after on.text on.cut; incoming = part_more closes on }

  -- the input ended after it
  pub receives_end_inside : is.closes ≡ was.closes
      → ContinuesBody Carries (reader_moment was.reader old was.sink) (reader_moment is.reader new is.sink) (Some status.Partial)
      → AwaitsMoreBody is.reader new.held → new.ended ≡ true → ReceivesFault (put_back text old) new fault.Body
  unfolding ends_inside part_more
  receives_end_inside closes on awaits ended =
      let inside = ends_inside is (text ++ on.text) (part_more closes on) new awaits ended in
      record { text = text ++ on.text; cut = cut_after on.text on.cut; malformed = inside.malformed }

  pub receives_malformed : (why : RequestFault)
      → ContinuesBody Carries (reader_moment was.reader old was.sink) (reader_moment is.reader new is.sink) (Some (status.Invalid why))
      → ReceivesFault (put_back text old) new why
  receives_malformed why on =
      let breaks = on.outcome (body_length so.head) so.taken so.content so.part in
      let after : (so.taken ++ on.text) ++ new.held ≡ so.taken ++ (on.text ++ new.held) = append_assoc so.taken on.text new.held in
      record {
        text = text ++ on.text;
        cut = cut_after on.text on.cut;
        malformed = subst (λ (l : List ℕ). IsMalformed (new.ended ≡ true) l why) (sym (append_assoc text on.text new.held))
            (malformed_as was text so (new.ended ≡ true) why (on.text ++ new.held)
            (subst (BodyBreaks (new.ended ≡ true) why (body_length so.head)) after
            (breaks_anyway (new.ended ≡ true) why (body_length so.head) ((so.taken ++ on.text) ++ new.held) breaks)));
      }

  pub receives_whole : is.closes ≡ was.closes
      → ContinuesBody Carries (reader_moment was.reader old was.sink) (reader_moment is.reader new is.sink) (Some status.Complete)
      → ReceivesWhole (put_back text old) new is
  receives_whole closes on = record {
    text = text ++ on.text;
    head = so.head;
    body = so.content ++ on.content;
    question = so.question;
    cut = cut_after on.text on.cut;
    spells = record {
      after = so.taken ++ on.text;
      takes = subst (λ (l : List ℕ). TakesHead l so.head (so.taken ++ on.text)) (sym (text_after on.text)) (head_taken was text so (so.taken ++ on.text));
      body_is = on.outcome (body_length so.head) so.taken so.content so.part;
    };
    asks = so.asks;
    judged = on.put so.question so.content so.judged;
    closes_is = closes ∙ so.closes_is;
  }

-- the verdict on it
finished_as : (old new : ReadBuffer) (request : PartialRequest) (incoming : Incoming) → ReceivesWhole old new request → FinishesAs (Body request) incoming
    → ReceivesOf old new before_a_request (Some incoming)
finished_as old new request (OneRequest v closes) whole finishes = (
  record {
    text = whole.text;
    head = whole.head;
    body = whole.body;
    cut = whole.cut;
    spells = whole.spells;
    verdict_follows = whole.asks whole.body v (finishes.0 whole.question whole.body whole.judged);
    closes_is = finishes.1 ∙ whole.closes_is;
  },
  refl,
)
finished_as old new request EndOfInput whole finishes = absurd finishes
finished_as old new request (NoRequest why) whole finishes = absurd finishes

pub receives_finished : (old new : ReadBuffer) (request : PartialRequest) (stage next : SessionStage) (incoming : Incoming) → stage ≡ Body request
    → next ≡ before_a_request → ReceivesWhole old new request
    → FinishesAs stage incoming → ReceivesOf old new next (Some incoming)
receives_finished old new request stage next incoming is next_is whole finishes =
    subst (λ (s : SessionStage). ReceivesOf old new s (Some incoming)) (sym next_is)
    (finished_as old new request incoming whole (subst (λ (s : SessionStage). FinishesAs s incoming) is finishes))

-- ---- a session that waits

pub waits_for_request : (stage : SessionStage) (text held : List ℕ) → HasReceived stage text → WaitsAfter stage held → AwaitsRequest (text ++ held)
waits_for_request (Head wait) text held incoming waits = subst (λ (l : List ℕ). AwaitsRequest (l ++ held)) (sym incoming) (inl waits.1)
waits_for_request (Body request) text held incoming waits = awaits_after request text incoming held waits

-- what was looked at was so among more
pub looked_by : (stage : SessionStage) (held new more : List ℕ) → new ≡ held ++ more → WaitsAfter stage held → HasLookedBy stage new
looked_by (Head wait) held new more is waits = (
  omega (arith, waits.0, ap length is, length-append held more),
  subst AwaitsHead (sym (ap (λ n. take n new) waits.0 ∙ ap (take (length held)) is ∙ take-append_seam held more)) waits.1,
)
looked_by (Body request) held new more is waits = has_looked request.reader held new more is waits

pub looked_still : (stage : SessionStage) (held : List ℕ) → WaitsAfter stage held → HasLookedBy stage held
looked_still stage held waits = looked_by stage held held [] (sym (append-nil held)) waits

-- ---- where the input has ended only perhaps

module _ (A B : Type 0) (if_ended : A → B) where
  breaks_if : (why : RequestFault) (size : BodyLength) (after : List ℕ) → BodyBreaks A why size after → BodyBreaks B why size after
  breaks_if fault.Head size after breaks = breaks
  breaks_if fault.Body (Bytes n) after breaks = (breaks.0, if_ended breaks.1)
  breaks_if fault.Body Chunked after (inl never) = inl never
  breaks_if fault.Body Chunked after (inr ended) = inr (if_ended ended.0, ended.1)
  breaks_if fault.Body Unreadable after breaks = breaks
  breaks_if fault.Body TooLarge after breaks = breaks
  breaks_if fault.TooLarge size after breaks = breaks

  breaks_after_if : (why : RequestFault) (rest : List ℕ) → BreaksAfter A rest why → BreaksAfter B rest why
  breaks_after_if why rest b = record { head = b.head; after = b.after; takes = b.takes; breaks = breaks_if why (body_length b.head) b.after b.breaks }

malformed_by : (A B : Type 0) → (A → B) → (why : RequestFault) (rest : List ℕ) → IsMalformed A rest why → IsMalformed B rest why
malformed_by A B if_ended fault.Head rest (inl never) = inl never
malformed_by A B if_ended fault.Head rest (inr ended) = inr (if_ended ended.0, ended.1, ended.2)
malformed_by A B if_ended fault.Body rest b = breaks_after_if A B if_ended fault.Body rest b
malformed_by A B if_ended fault.TooLarge rest b = breaks_after_if A B if_ended fault.TooLarge rest b

pub malformed_if : (A B : Type 0) (why : RequestFault) (rest : List ℕ) → (A → B) → IsMalformed A rest why → IsMalformed B rest why
malformed_if A B why rest if_ended malformed = malformed_by A B if_ended why rest malformed

-- what was taken, put back
pub cut_back : (old mid : ReadBuffer) (count : ℕ) → mid ≡ record old { held = drop count old.held } → put_back (take count old.held) mid ≡ old
cut_back old mid count is = ap (put_back (take count old.held)) is ∙ ap (λ (l : List ℕ). record old { held = l }) (take-append-drop count old.held)

-- none of a head can come
pub no_head_comes : (here : ReadBuffer) → NeverHasHead here.held → ReceivesFault here here fault.Head
no_head_comes here never = record { text = []; cut = refl; malformed = inl never }

-- the input ended inside a head
pub ends_in_head : (here : ReadBuffer) → AwaitsHead here.held → here.ended ≡ true → 0 < length here.held → ReceivesFault here here fault.Head
ends_in_head here awaits ended some = record { text = []; cut = refl; malformed = inr (ended, some, awaits.none) }
