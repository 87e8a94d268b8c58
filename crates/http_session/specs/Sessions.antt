-- A session: what is written for what is read.
use Rattle.std.specs.Prelude.{◌≡◌, ◌≢◌, ℕ, ◌+◌, ◌<◌, ◌≤◌, ◌⊎◌, ◌||◌, Bool, true, false, List, [], ◌∷◌, ◌++◌, length, take, All, Option, Result, Ok}
use Rattle.std.specs.Prelude.{Err}
use Rattle.std.specs.List.{flat_map}
use Rattle.std.specs.Io.KnownBytes.{Consumes, Appends, IsAtEnd}
use Rattle.httparse.specs.Grammar.{RequestHead}
use Rattle.jaeger_model.specs.declared.batch.Batch.{Batch}
use Rattle.trace_model.specs.declared.limits.Limits.{Limits}
use Rattle.trace_model.specs.declared.query.Query.{Query}
use Rattle.trace_model.specs.declared.answer.Answer.{Answer}
use Rattle.trace_model.specs.declared.refusal.Refusal.{Refusal}
use Rattle.trace_model.specs.StoreKnowledge.{KnownList}
use Rattle.session_devices.specs.declared.limits.TheConstants.{MAX_READS}
use Rattle.http_requests.specs.HeadContents.{asked_by}
use Rattle.http_requests.specs.Requests.{Spells, IsMalformed, AwaitsRequest}
use Rattle.http_requests.specs.declared.read_buffer.ReadError.{ReadError}
use Rattle.http_requests.specs.declared.read_buffer.ReadError.TheVariants as why
use Rattle.http_requests.specs.declared.request.RequestFault.{RequestFault}
use Rattle.http_session.specs.Verdicts.{Judges, BeginsWithQuery}
use Rattle.http_session.specs.Replies.{closes, takes_no_memory, response_of}
use Rattle.http_session.specs.declared.verdict.Verdict.{Verdict}
use Rattle.http_session.specs.declared.verdict.Verdict.TheVariants.{Submit, Ask, Reject}
use Rattle.http_session.specs.declared.reply.Reply.{Reply}
use Rattle.http_session.specs.declared.reply.Reply.TheVariants.{Accepted, Answered, Refused, Error, NoRequest}
use Rattle.http_session.specs.declared.whole_session.SessionErrorKind.{SessionErrorKind}
use Rattle.http_session.specs.declared.whole_session.SessionErrorKind.TheVariants.{Reading, Writing, Memory}
use Rattle.http_session.specs.declared.whole_session.EndReason.{EndReason}
use Rattle.http_session.specs.declared.whole_session.EndReason.TheVariants.{ClosedByClient, ClosedByResponse}
use Rattle.http_session.specs.declared.whole_session.Ended.{Ended}
use Rattle.http_session.specs.declared.whole_session.SessionError.{SessionError}
use Rattle.http_session.specs.declared.whole_session.PartialWrite.{PartialWrite}

-- a request, its verdict, the reply, and whether the session closes after it
pub record Exchange : Type 0 where
  pub text : List ℕ
  pub head : RequestHead
  pub body : List ℕ
  pub verdict : Verdict
  pub reply : Reply
  pub close : Bool

-- the text and the verdict are the request's, and it closes the session if the request or the reply asks for that
pub record IsExchange (x : Exchange) : Type 0 where
  pub spells : Spells x.text x.head x.body
  pub verdict_follows : Judges (asked_by x.head) x.body x.verdict
  pub close_is : x.close ≡ ((asked_by x.head).closes || closes x.reply)

pub record StaysOpen (x : Exchange) : Type 0 where
  pub exchange : IsExchange x
  pub open_is : x.close ≡ false

abbrev pub texts : List Exchange → List ℕ
texts xs = flat_map (λ (x : Exchange). x.text) xs

abbrev pub response_to : Exchange → List ℕ
response_to x = response_of x.reply x.close

abbrev pub responses : List Exchange → List ℕ
responses xs = flat_map response_to xs

-- ---- the store

abbrev pub Submits : Type 0 → Type 1
Submits S = S → Batch → Result ℕ Refusal → S → Type 0

abbrev pub Reads : Type 0 → Type 1
Reads S = S → Query → Result Answer Refusal → S → Type 0

-- what a store does, and what it knows in each of its states
pub record Store (S : Type 0) : Type 1 where
  pub submits : Submits S
  pub reads : Reads S
  pub knows : S → KnownList → Type 0
  pub limits : S → Limits

abbrev pub store_of : {S : Type 0} → Submits S → Reads S → (S → KnownList → Type 0) → (S → Limits) → Store S
store_of submits reads knows limits = record { submits = submits; reads = reads; knows = knows; limits = limits }

-- the store goes from s to t when this verdict gets this reply
abbrev pub Step : {S : Type 0} → Store S → S → Verdict → Reply → S → Type 0
Step store s (Submit b) Accepted t = (place : ℕ) × store.submits s b (Ok place) t
Step store s (Submit b) (Refused r) t = store.submits s b (Err r) t
Step store s (Ask q) (Answered a) t = store.reads s q (Ok a) t
Step store s (Ask q) (Refused r) t = store.reads s q (Err r) t
Step store s (Reject error) (Error said) t = (said ≡ error) × (t ≡ s)
Step store s _ _ t = ⊥

-- the store goes from s to t by one step for each exchange, in order
abbrev pub Run : {S : Type 0} → Store S → S → List Exchange → S → Type 0
Run store s [] t = t ≡ s
Run {S = S} store s (x ∷ xs) t = (m : S) × Step store s x.verdict x.reply m × Run store m xs t

-- ---- moments

-- the states of the input, of the output and of the store at one moment of a session
pub record Moment (R W S : Type 0) : Type 0 where
  pub input : R
  pub output : W
  pub store : S

abbrev pub moment : {R W S : Type 0} → R → W → S → Moment R W S
moment input output store = record { input = input; output = output; store = store }

-- the bytes that the input has left and those that the output has, if they are known, and the state of the store
abbrev pub BytesMoment : Type 0 → Type 0
BytesMoment S = Moment (Option (List ℕ)) (Option (List ℕ)) S

-- ---- ends

-- how a session ends: the input ends between two requests, a response closes it, or the request is malformed
pub data Ending : Type 0 where
  end_of_input : Ending
  closing : Exchange → Ending
  malformed : RequestFault → Ending

-- the exchange that closes the session, if one does
abbrev pub last_of : Ending → List Exchange
last_of end_of_input = []
last_of (closing x) = x ∷ []
last_of (malformed b) = []

abbrev pub IsEnding : Type 0 → List ℕ → Ending → Type 0
IsEnding AtEnd rest end_of_input = AtEnd × (rest ≡ [])
IsEnding AtEnd rest (closing x) = IsExchange x × (x.close ≡ true)
IsEnding AtEnd rest (malformed b) = IsMalformed AtEnd rest b

-- the last response, if the request was malformed
abbrev pub malformed_response : Ending → List ℕ
malformed_response end_of_input = []
malformed_response (closing x) = []
malformed_response (malformed b) = response_of (NoRequest b) true

abbrev pub malformed_responses : Ending → ℕ
malformed_responses end_of_input = 0
malformed_responses (closing x) = 0
malformed_responses (malformed b) = 1

abbrev pub end_reason : Ending → EndReason
end_reason end_of_input = ClosedByClient
end_reason (closing x) = ClosedByResponse
end_reason (malformed b) = ClosedByResponse

-- A session ended. The bytes read are the requests and a rest, and the bytes written are their responses, and a last
-- one if the rest was malformed.
pub record EndsAs {S : Type 0} (store : Store S) (before after : BytesMoment S) (ended : Ended) : Type 0 where
  pub taken : List ℕ
  pub opens : List Exchange
  pub ending : Ending
  pub rest : List ℕ
  pub read : Consumes before.input after.input taken
  pub split : taken ≡ texts (opens ++ last_of ending) ++ rest
  pub each : All StaysOpen opens
  pub ends : IsEnding (IsAtEnd after.input) rest ending
  pub run : Run store before.store (opens ++ last_of ending) after.store
  pub written : Appends before.output after.output (responses (opens ++ last_of ending) ++ malformed_response ending)
  pub count : ended.answered ≡ length (opens ++ last_of ending) + malformed_responses ending
  pub reason_is : ended.reason ≡ end_reason ending

-- ---- errors

-- what was to be written when a session failed: nothing, a response, or the one to a malformed request
pub data Due : Type 0 where
  none_yet : Due
  due : Exchange → Due
  due_malformed : RequestFault → Due

abbrev pub exchange_due : Due → List Exchange
exchange_due none_yet = []
exchange_due (due x) = x ∷ []
exchange_due (due_malformed b) = []

-- Nothing was due: the next request was awaited, or memory ran out for a query whose head was received. A complete
-- request that submits a batch is answered even if memory runs out.
abbrev pub NothingWasDue : SessionErrorKind → List ℕ → Type 0
NothingWasDue Reading rest = AwaitsRequest rest
NothingWasDue Writing rest = ⊥
NothingWasDue Memory rest = AwaitsRequest rest ⊎ BeginsWithQuery rest

-- if a response was due, nothing was read before it was written
abbrev pub IsDue : Type 0 → SessionErrorKind → List ℕ → Due → Type 0
IsDue AtEnd cause rest none_yet = NothingWasDue cause rest
IsDue AtEnd cause rest (due x) = IsExchange x × (cause ≢ Reading)
IsDue AtEnd cause rest (due_malformed b) = IsMalformed AtEnd rest b × (cause ≢ Reading)

abbrev pub bytes_due : Due → List ℕ
bytes_due none_yet = []
bytes_due (due x) = response_to x
bytes_due (due_malformed b) = response_of (NoRequest b) true

-- the response that is due needs no memory
abbrev pub is_spared : Due → Bool
is_spared none_yet = false
is_spared (due x) = takes_no_memory x.reply
is_spared (due_malformed b) = false

-- each cause comes only with a failure of its device and of no other one, or if no read is left, each having returned a
-- byte
abbrev pub IsCause : SessionErrorKind → Bool → Bool → List ℕ → ℕ → Type 0
IsCause Reading in_failed out_failed taken made =
    ((in_failed ≡ true) ⊎ ((made ≡ MAX_READS) × (MAX_READS ≤ length taken))) × (out_failed ≡ false)
IsCause Writing in_failed out_failed taken made = (out_failed ≡ true) × (in_failed ≡ false)
IsCause Memory in_failed out_failed taken made = (in_failed ≡ false) × (out_failed ≡ false)

-- the error of a session, and which devices have failed by then
pub record SessionFailure : Type 0 where
  pub error : SessionError
  pub input_failed : Bool
  pub output_failed : Bool

-- A session failed: the earlier responses were written completely, the next one as far as is reported. A response is
-- never written completely when a write fails. The store has made the step of the exchange that is due, so an accepted
-- batch stays accepted. A response that needs no memory isn't held back when memory runs out.
pub record FailsAs {S : Type 0} (store : Store S) (before after : BytesMoment S) (failure : SessionFailure) : Type 0 where
  pub taken : List ℕ
  pub opens : List Exchange
  pub next : Due
  pub rest : List ℕ
  pub read : Consumes before.input after.input taken
  pub split : taken ≡ texts (opens ++ exchange_due next) ++ rest
  pub each : All StaysOpen opens
  pub next_is : IsDue (IsAtEnd after.input) failure.error.cause rest next
  pub run : Run store before.store (opens ++ exchange_due next) after.store
  pub within : failure.error.cause ≡ Writing → failure.error.written < length (bytes_due next)
  pub written : Appends before.output after.output (responses opens ++ take failure.error.written (bytes_due next))
  pub count : failure.error.answered ≡ length opens
  pub made : ℕ  -- how many reads gave something, or the end
  pub cause : IsCause failure.error.cause failure.input_failed failure.output_failed taken made
  pub unwritten : failure.error.cause ≢ Writing → failure.error.written ≡ 0
  pub spared : is_spared next ≡ true → failure.error.cause ≢ Memory

-- ---- on the way

-- the bytes that an output has, if they are known, and whether it has failed
pub record OutputState : Type 0 where
  pub bytes : Option (List ℕ)
  pub failed : Bool

abbrev pub output_state : Option (List ℕ) → Bool → OutputState
output_state bytes failed = record { bytes = bytes; failed = failed }

-- a response was written completely, or as far as is reported; if a write failed, not all of it was written
abbrev pub WritesResponse : OutputState → OutputState → List ℕ → Result (Unit {0}) PartialWrite → Type 0
WritesResponse before after response (Ok _) = Appends before.bytes after.bytes response × (after.failed ≡ before.failed)
WritesResponse before after response (Err e) =
    (e.cause ≡ Writing → e.written < length response) × Appends before.bytes after.bytes (take e.written response)
    × (e.cause ≢ Reading) × (e.cause ≡ Writing → after.failed ≡ true)
    × (e.cause ≡ Memory → (after.failed ≡ before.failed) × (e.written ≡ 0))

-- what was written of some bytes
abbrev pub part_sent : List ℕ → Result (Unit {0}) ℕ → List ℕ
part_sent bytes (Ok _) = bytes
part_sent bytes (Err n) = take n bytes

-- what was written of a response
abbrev pub part_written : List ℕ → Result (Unit {0}) PartialWrite → List ℕ
part_written bytes (Ok _) = bytes
part_written bytes (Err e) = take e.written bytes

abbrev pub cause_by : ReadError → SessionErrorKind
cause_by why.Reading = Reading
cause_by why.Memory = Memory
