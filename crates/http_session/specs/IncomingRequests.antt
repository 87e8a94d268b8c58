-- What the bytes received are: a request, a part of one, or malformed.
use Rattle.std.specs.Prelude.{◌≡◌, ℕ, Bool, true, false, List, [], ◌++◌, length, Option, Some, None}
use Rattle.httparse.specs.Grammar.{RequestHead, print_request}
use Rattle.batch_codec.specs.BatchReading.{decoded}
use Rattle.batch_feeder.specs.FeederAnswers.{answers}
use Rattle.http_requests.specs.HeadContents.{asked_by, body_length}
use Rattle.http_requests.specs.Heads.{TakesHead, AwaitsHead}
use Rattle.http_requests.specs.Requests.{Spells, IsMalformed}
use Rattle.http_requests.specs.ReceivedBytes.{ReadBuffer, put_back}
use Rattle.http_requests.specs.PartialRequests.{HasSeen, IsPart, HasLooked, AwaitsMoreBody}
use Rattle.http_requests.specs.declared.request.RequestFault.{RequestFault}
use Rattle.http_session.specs.Verdicts.{Judges}
use Rattle.http_session.specs.Questions.{AsksQuestion, Decides}
use Rattle.http_session.specs.BodySinks.{Follows}
use Rattle.http_session.specs.declared.question.Question.{Question}
use Rattle.http_session.specs.declared.question.Question.TheVariants as question
use Rattle.http_session.specs.declared.verdict.Verdict.{Verdict}
use Rattle.http_session.specs.declared.verdict.Verdict.TheVariants.{Reject}
use Rattle.http_session.specs.declared.verdict.ErrorReply.TheVariants.{NoMemory}
use Rattle.http_session.specs.declared.receiving.Incoming.{Incoming}
use Rattle.http_session.specs.declared.receiving.Incoming.TheVariants.{Request as OneRequest, EndOfInput, NoRequest}
use Rattle.http_session.specs.declared.receiving.BodySink.{BodySink}
use Rattle.http_session.specs.declared.receiving.BodySink.TheVariants.{Settled, Batch}
use Rattle.http_session.specs.declared.receiving.PartialRequest.{PartialRequest}
use Rattle.http_session.specs.declared.receiving.SessionStage.{SessionStage}
use Rattle.http_session.specs.declared.receiving.SessionStage.TheVariants.{Head, Body}
use Rattle.http_requests.specs.declared.body_reader.BodyStatus.{BodyStatus}
use Rattle.http_requests.specs.declared.body_reader.BodyStatus.TheVariants as status

-- ---- a part of a request

-- the sink after these data of a body, by the question of the head; a batch is discarded if memory ran out before it
abbrev pub JudgesBy : Question → BodySink → List ℕ → Type 0
JudgesBy (question.Settled v) (Settled w) content = w ≡ v
JudgesBy (question.Settled v) (Batch b) content = ⊥
JudgesBy question.Batch (Settled w) content = w ≡ Reject NoMemory
JudgesBy question.Batch (Batch b) content = Follows decoded content (answers b.feeder.value)

-- whatever data the sink took before, with these data it becomes this
abbrev pub Carries : BodySink → List ℕ → BodySink → Type 0
Carries s content t = (q : Question) (before : List ℕ) → JudgesBy q s before → JudgesBy q t (before ++ content)

-- the text is a head, and a part of the body after it
pub record IsPartOf (request : PartialRequest) (text : List ℕ) : Type 0 where
  pub head : RequestHead
  pub taken : List ℕ
  pub content : List ℕ
  pub question : Question
  pub takes : TakesHead (print_request head) head []
  pub text_is : text ≡ print_request head ++ taken
  pub part : IsPart (body_length head) taken content request.reader
  pub asks : AsksQuestion (asked_by head) question
  pub judged : JudgesBy question request.sink content
  pub closes_is : request.closes ≡ (asked_by head).closes

-- what a session awaits before a request
abbrev pub before_a_request : SessionStage
before_a_request = Head (record { seen = 0 })

-- the text of the request that was taken so far
abbrev pub HasReceived : SessionStage → List ℕ → Type 0
HasReceived (Head wait) text = text ≡ []
HasReceived (Body request) text = IsPartOf request text

-- which of the bytes received were examined
abbrev pub HasLookedBy : SessionStage → List ℕ → Type 0
HasLookedBy (Head wait) held = HasSeen wait held
HasLookedBy (Body request) held = HasLooked request.reader held

-- more is awaited after them
abbrev pub WaitsAfter : SessionStage → List ℕ → Type 0
WaitsAfter (Head wait) held = (wait.seen ≡ length held) × AwaitsHead held
WaitsAfter (Body request) held = AwaitsMoreBody request.reader held

-- ---- what was received

-- a request was taken from the start; this is its verdict, and whether it asks to close the session
pub record ReceivesOne (old new : ReadBuffer) (v : Verdict) (closes : Bool) : Type 0 where
  pub text : List ℕ
  pub head : RequestHead
  pub body : List ℕ
  pub cut : old ≡ put_back text new
  pub spells : Spells text head body
  pub verdict_follows : Judges (asked_by head) body v
  pub closes_is : closes ≡ (asked_by head).closes

-- the input has ended, and nothing is left
pub record ReceivesEnd (old new : ReadBuffer) : Type 0 where
  pub same : old ≡ new
  pub ended : new.ended ≡ true
  pub nothing : new.held ≡ []

-- what was taken and what is left don't start with a request
pub record ReceivesFault (old new : ReadBuffer) (why : RequestFault) : Type 0 where
  pub text : List ℕ
  pub cut : old ≡ put_back text new
  pub malformed : IsMalformed (new.ended ≡ true) (text ++ new.held) why

-- a part of a request was taken
pub record ReceivesPart (old new : ReadBuffer) (stage : SessionStage) : Type 0 where
  pub text : List ℕ
  pub cut : old ≡ put_back text new
  pub incoming : HasReceived stage text

-- all of a request was taken, and its body is in this sink
pub record ReceivesWhole (old new : ReadBuffer) (request : PartialRequest) : Type 0 where
  pub text : List ℕ
  pub head : RequestHead
  pub body : List ℕ
  pub question : Question
  pub cut : old ≡ put_back text new
  pub spells : Spells text head body
  pub asks : AsksQuestion (asked_by head) question
  pub judged : JudgesBy question request.sink body
  pub closes_is : request.closes ≡ (asked_by head).closes

-- what became of a request of which a part was taken
abbrev pub PartComes : ReadBuffer → ReadBuffer → PartialRequest → BodyStatus → Type 0
PartComes old new request status.Complete = ReceivesWhole old new request
PartComes old new request status.Partial = ReceivesPart old new (Body request)
PartComes old new request (status.Invalid why) = ReceivesFault old new why

-- the verdict on a request whose body is complete
abbrev pub FinishesAs : SessionStage → Incoming → Type 0
FinishesAs (Head wait) incoming = ⊥
FinishesAs (Body request) (OneRequest v closes) =
    ((q : Question) (body : List ℕ) → JudgesBy q request.sink body → Decides q body v) × (closes ≡ request.closes)
FinishesAs (Body request) EndOfInput = ⊥
FinishesAs (Body request) (NoRequest why) = ⊥

abbrev pub IsBodyStage : SessionStage → Type 0
IsBodyStage (Head wait) = ⊥
IsBodyStage (Body request) = Unit {0}

-- what was received, or what is awaited
abbrev pub ReceivesOf : ReadBuffer → ReadBuffer → SessionStage → Option Incoming → Type 0
ReceivesOf old new stage (Some (OneRequest v closes)) = ReceivesOne old new v closes × (stage ≡ before_a_request)
ReceivesOf old new stage (Some EndOfInput) = ReceivesEnd old new
ReceivesOf old new stage (Some (NoRequest why)) = ReceivesFault old new why
ReceivesOf old new stage None = ReceivesPart old new stage

-- if nothing is decided, more is awaited, and the input hasn't ended
abbrev pub AwaitsIfNone : ReadBuffer → SessionStage → Option Incoming → Type 0
AwaitsIfNone new stage (Some incoming) = Unit {0}
AwaitsIfNone new stage None = WaitsAfter stage new.held × (new.ended ≡ false)

-- like AwaitsIfNone, for a body of which a part was taken
abbrev pub AwaitsInputIfMore : ReadBuffer → PartialRequest → BodyStatus → Type 0
AwaitsInputIfMore new request status.Complete = Unit {0}
AwaitsInputIfMore new request status.Partial = AwaitsMoreBody request.reader new.held × (new.ended ≡ false)
AwaitsInputIfMore new request (status.Invalid why) = Unit {0}
