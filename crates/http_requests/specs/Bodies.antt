-- What reading a body does to the bytes received and to the sink.
use Rattle.std.specs.Prelude.{◌≡◌, ℕ, ◌≤◌, ◌==◌, ◌&&◌, Bool, true, false, List, [], ◌∷◌, ◌++◌, length, take, Result, Ok, Err}
use Rattle.std.specs.Io.KnownBytes.{IsAtEnd}
use Rattle.httparse.specs.Ascii.{crlf_bytes}
use Rattle.http_requests.specs.Chunks.{IsSomeSizeLine, HasNone}
use Rattle.http_requests.specs.ChunkSearches.{EndsNoLine}
use Rattle.http_requests.specs.Requests.{HasBody, BodyBreaks, AwaitsBody}
use Rattle.http_requests.specs.AwaitedReads.{Source}
use Rattle.http_requests.specs.ReceivedBytes.{ReadBuffer, ReadMoment, read_moment, ReadsOnWhile, put_back}
use Rattle.session_devices.specs.ByteTransfers.{ByteTransfer}
use Rattle.http_requests.specs.declared.request.BodyLength.{BodyLength}
use Rattle.http_requests.specs.declared.request.RequestFault.{RequestFault}

-- ---- a text of one kind at the start

-- this number of bytes at the start is such a text
abbrev pub Begins : (List ℕ → Type 0) → List ℕ → ℕ → Type 0
Begins Is bytes count = Is (take count bytes) × (count ≤ length bytes)

-- the bytes don't start with a size line, and no line has ended
abbrev pub AwaitsLine : List ℕ → Type 0
AwaitsLine bytes = HasNone IsSomeSizeLine bytes × EndsNoLine bytes

abbrev pub IsLineEnd : List ℕ → Type 0
IsLineEnd text = text ≡ crlf_bytes

-- the bytes start with CR LF
abbrev pub begins_line_end : List ℕ → Bool
begins_line_end [] = false
begins_line_end (a ∷ []) = false
begins_line_end (a ∷ b ∷ rest) = a == 13 && b == 10

-- the bytes are CR alone, or none
abbrev pub may_begin_line_end : List ℕ → Bool
may_begin_line_end [] = true
may_begin_line_end (a ∷ []) = a == 13
may_begin_line_end (a ∷ b ∷ rest) = false

-- the bytes don't start with such a text, and some continuation of them is one
pub record AwaitsRest (Is : List ℕ → Type 0) (bytes : List ℕ) : Type 0 where
  pub none : HasNone Is bytes
  pub more : List ℕ
  pub may : Is (bytes ++ more)

-- ---- bodies

-- the states of the input and of the sink at one moment, and the bytes received
pub record BodyMoment (R S : Type 0) : Type 0 where
  pub input : R
  pub received : ReadBuffer
  pub sink : S

abbrev pub body_moment : {R S : Type 0} → R → ReadBuffer → S → BodyMoment R S
body_moment input received sink = record { input = input; received = received; sink = sink }

-- a call that reads a body: what the sink does with bytes, what is known about the input, and the announced length
pub record BodyCall (R S : Type 0) : Type 1 where
  pub takes : ByteTransfer S
  pub source : Source R
  pub size : BodyLength

abbrev pub body_call : {R S : Type 0} → ByteTransfer S → Source R → BodyLength → BodyCall R S
body_call takes source size = record { takes = takes; source = source; size = size }

-- the input and the bytes received at one moment of such a call
abbrev pub without_sink : {R S : Type 0} → BodyMoment R S → ReadMoment R
without_sink m = read_moment m.input m.received

-- the same, before this text was taken from the bytes received
abbrev pub before_taking : {R S : Type 0} → List ℕ → BodyMoment R S → ReadMoment R
before_taking text m = read_moment m.input (put_back text m.received)

-- some reads were made and then this text was taken; each read was made while more of the body was awaited
abbrev pub ReadsForBody : {R S : Type 0} → BodyCall R S → BodyMoment R S → BodyMoment R S → List ℕ → Type 0
ReadsForBody call before after text =
    ReadsOnWhile call.source (AwaitsBody call.size) (without_sink before) (before_taking text after)

-- the body that the head announces was taken and pushed into the sink; each read for it was made while more was awaited
pub record TakesBody {R S : Type 0} (call : BodyCall R S) (before after : BodyMoment R S) : Type 0 where
  pub text : List ℕ
  pub body : List ℕ
  pub body_is : HasBody call.size text body
  pub reads : ReadsForBody call before after text
  pub put : call.takes before.sink body after.sink

-- a text was taken, and with what is left it isn't the body that the head announces, for this reason; each read was
-- made while more of a body was awaited
pub record BreaksBody {R S : Type 0} (call : BodyCall R S) (before after : BodyMoment R S) (why : RequestFault) : Type 0 where
  pub text : List ℕ
  pub reads : ReadsForBody call before after text
  pub breaks : BodyBreaks (IsAtEnd (call.source.remaining after.input)) why call.size (text ++ after.received.held)

-- how a call ends that reads a body
abbrev pub ReadsBody : {R S : Type 0} → BodyCall R S → BodyMoment R S → BodyMoment R S → Result (Unit {0}) RequestFault → Type 0
ReadsBody call before after (Ok _) = TakesBody call before after
ReadsBody call before after (Err why) = BreaksBody call before after why
