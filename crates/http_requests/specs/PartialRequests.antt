-- A request that was received in part: what is known about it between two searches of the bytes received.
use Rattle.std.specs.Prelude.{◌≡◌, ℕ, ◌+◌, ◌<◌, ◌≤◌, List, [], ◌++◌, length, take, All, Option, Some, None}
use Rattle.http_requests.specs.Chunks.{IsSizeLine, IsContent, IsTrailer, Chunk, IsChunk, texts, contents, HasNone}
use Rattle.http_requests.specs.declared.chunked.parse_status.ParseStatus.{ParseStatus}
use Rattle.http_requests.specs.declared.chunked.parse_status.ParseStatus.TheVariants as status
use Rattle.session_devices.specs.ByteTransfers.{ByteTransfer}
use Rattle.http_requests.specs.declared.request.TheConstants.{MAX_BODY_BYTES}
use Rattle.http_requests.specs.declared.request.BodyLength.{BodyLength}
use Rattle.http_requests.specs.declared.request.BodyLength.TheVariants.{Bytes, Chunked, Unreadable, TooLarge}
use Rattle.http_requests.specs.declared.request.RequestFault.TheVariants as fault
use Rattle.http_requests.specs.declared.body_reader.BodyStatus.{BodyStatus}
use Rattle.http_requests.specs.declared.body_reader.BodyStatus.TheVariants.{Complete, Partial, Invalid}
use Rattle.http_requests.specs.declared.body_reader.BodyReader.{BodyReader}
use Rattle.http_requests.specs.declared.body_reader.Stage.{Stage}
use Rattle.http_requests.specs.declared.body_reader.Stage.TheVariants.{Length, SizeLine, Data, Trailer}
use Rattle.http_requests.specs.declared.body_reader.Stage.TheVariants as stage
use Rattle.http_requests.specs.declared.reading.HeadWait.{HeadWait}
use Rattle.http_requests.specs.Heads.{AwaitsHead}
use Rattle.http_requests.specs.Requests.{HasBody, BodyBreaks, IsShorter}
use Rattle.http_requests.specs.ReceivedBytes.{ReadBuffer, put_back}
use Rattle.http_requests.specs.Bodies.{AwaitsLine, AwaitsRest, BodyMoment, BodyCall, ReadsForBody}

-- ---- a head

-- a head is awaited, given the bytes that were examined
abbrev pub HasSeen : HeadWait → List ℕ → Type 0
HasSeen wait held = (wait.seen ≤ length held) × AwaitsHead (take wait.seen held)

-- if a head is still awaited, all bytes were examined
abbrev pub SeesAll : {T : Type 0} → HeadWait → List ℕ → ParseStatus T → Type 0
SeesAll wait held (status.Complete found) = Unit {0}
SeesAll wait held status.Partial = wait.seen ≡ length held
SeesAll wait held status.Invalid = Unit {0}

-- ---- the part of a body that was taken, with the data in it

-- some chunks; `left` bytes of data may follow them
pub record WithChunks (text content : List ℕ) (left : ℕ) : Type 0 where
  pub chunks : List Chunk
  pub each : All IsChunk chunks
  pub text_is : text ≡ texts chunks
  pub content_is : content ≡ contents chunks
  pub sum : MAX_BODY_BYTES ≡ length (contents chunks) + left

-- some chunks, then a size line and data; `count` bytes of data are missing
pub record WithData (text content : List ℕ) (left count : ℕ) : Type 0 where
  pub chunks : List Chunk
  pub line : List ℕ
  pub size : ℕ
  pub got : List ℕ
  pub each : All IsChunk chunks
  pub line_is : IsSizeLine line size
  pub some : 0 < size
  pub text_is : text ≡ (texts chunks ++ line) ++ got
  pub content_is : content ≡ contents chunks ++ got
  pub sum : MAX_BODY_BYTES ≡ length (contents chunks) + (size + left)
  pub lacking : length got + count ≡ size

-- some chunks, then the line with the size 0
pub record WithLastLine (text content : List ℕ) : Type 0 where
  pub chunks : List Chunk
  pub line : List ℕ
  pub each : All IsChunk chunks
  pub line_is : IsSizeLine line 0
  pub text_is : text ≡ texts chunks ++ line
  pub content_is : content ≡ contents chunks
  pub small : length (contents chunks) ≤ MAX_BODY_BYTES

-- a part of a body: its text, and the data in it
pub record BodyPart : Type 0 where
  pub text : List ℕ
  pub content : List ℕ

abbrev pub body_part : List ℕ → List ℕ → BodyPart
body_part text content = record { text = text; content = content }

abbrev pub IsPartAt : BodyLength → BodyPart → ℕ → Stage → Type 0
IsPartAt (Bytes n) part left (Length count) = (part.text ≡ part.content) × (length part.content + count ≡ n)
IsPartAt Chunked part left SizeLine = WithChunks part.text part.content left
IsPartAt Chunked part left (Data count) = WithData part.text part.content left count
IsPartAt Chunked part left (Trailer seen) = WithLastLine part.text part.content
IsPartAt Unreadable part left (stage.Unreadable fault.Body) = Unit {0}
IsPartAt TooLarge part left (stage.Unreadable fault.TooLarge) = Unit {0}
IsPartAt _ part left _ = ⊥

-- the reader has taken this part of a body of this length
abbrev pub IsPart : BodyLength → List ℕ → List ℕ → BodyReader → Type 0
IsPart size text content reader = IsPartAt size (body_part text content) reader.data_left reader.stage

-- ---- what follows it

abbrev pub HasLookedAt : Stage → List ℕ → Type 0
HasLookedAt (Trailer seen) held = (seen ≤ length held) × HasNone IsTrailer (take seen held)
HasLookedAt _ held = Unit {0}

-- the bytes that were examined hold no trailer
abbrev pub HasLooked : BodyReader → List ℕ → Type 0
HasLooked reader held = HasLookedAt reader.stage held

abbrev pub AwaitsAt : Stage → List ℕ → Type 0
AwaitsAt (Length count) held = IsShorter count held
AwaitsAt SizeLine held = AwaitsLine held
AwaitsAt (Data count) held = AwaitsRest (IsContent count) held
AwaitsAt (Trailer seen) held = (seen ≡ length held) × HasNone IsTrailer held
AwaitsAt (stage.Unreadable why) held = ⊥

-- more is awaited after the part that was taken
abbrev pub AwaitsMoreBody : BodyReader → List ℕ → Type 0
AwaitsMoreBody reader held = AwaitsAt reader.stage held

-- ---- the status of a body

-- the states of a reader, of the bytes received and of the sink at one moment
pub record ReaderMoment (S : Type 0) : Type 0 where
  pub reader : BodyReader
  pub received : ReadBuffer
  pub sink : S

abbrev pub reader_moment : {S : Type 0} → BodyReader → ReadBuffer → S → ReaderMoment S
reader_moment reader received sink = record { reader = reader; received = received; sink = sink }

-- what became of a body of this length, of which this part was taken: it is complete, the reader has taken this part, or
-- the part with the bytes that follow is malformed
abbrev pub HasOutcome : {S : Type 0} → BodyLength → BodyPart → ReaderMoment S → BodyStatus → Type 0
HasOutcome size part after Complete = HasBody size part.text part.content
HasOutcome size part after Partial = IsPart size part.text part.content after.reader
HasOutcome size part after (Invalid why) = BodyBreaks ⊥ why size (part.text ++ after.received.held)

-- the same after one step, which decides nothing if another step may follow
abbrev pub HasStepOutcome : {S : Type 0} → BodyLength → BodyPart → ReaderMoment S → Option BodyStatus → Type 0
HasStepOutcome size part after None = IsPart size part.text part.content after.reader
HasStepOutcome size part after (Some status) = HasOutcome size part after status

-- if nothing is decided, more of the body is awaited
abbrev pub AwaitsIfMore : BodyReader → List ℕ → BodyStatus → Type 0
AwaitsIfMore reader held Complete = Unit {0}
AwaitsIfMore reader held Partial = AwaitsMoreBody reader held
AwaitsIfMore reader held (Invalid why) = Unit {0}

-- the same after one step: the bytes that were examined hold no trailer if another step may follow
abbrev pub AwaitsAfterStep : BodyReader → List ℕ → Option BodyStatus → Type 0
AwaitsAfterStep reader held None = HasLooked reader held
AwaitsAfterStep reader held (Some status) = AwaitsIfMore reader held status

-- A text was taken from the bytes received, and the data in it were pushed into the sink. Whatever part the reader had
-- taken before, that part with this text has this outcome.
pub record ContinuesBody {S : Type 0} (takes : ByteTransfer S) (before after : ReaderMoment S) (status : Option BodyStatus) : Type 0 where
  pub text : List ℕ
  pub content : List ℕ
  pub cut : before.received ≡ put_back text after.received
  pub put : takes before.sink content after.sink
  pub outcome : (size : BodyLength) (front fed : List ℕ) → IsPart size front fed before.reader
      → HasStepOutcome size (body_part (front ++ text) (fed ++ content)) after status

-- the states of a reader and of the bytes received at one moment, without a sink
abbrev pub sinkless_moment : BodyReader → ReadBuffer → ReaderMoment (Unit {0})
sinkless_moment reader received = reader_moment reader received tt

-- like ContinuesBody, for a text without data
abbrev pub ContinuesWithoutData : ReaderMoment (Unit {0}) → ReaderMoment (Unit {0}) → Option BodyStatus → Type 0
ContinuesWithoutData before after status = ContinuesBody {S = Unit {0}} (λ s content t. content ≡ []) before after status

-- a part of a body was taken, and its data were pushed into the sink; each read for it was made while more was awaited
pub record TakesPart {R S : Type 0} (call : BodyCall R S) (before after : BodyMoment R S) (reader : BodyReader) : Type 0 where
  pub text : List ℕ
  pub content : List ℕ
  pub part : IsPart call.size text content reader
  pub reads : ReadsForBody call before after text
  pub put : call.takes before.sink content after.sink
