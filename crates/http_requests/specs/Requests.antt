-- The text of a request, and why bytes are malformed.
use Rattle.std.specs.Prelude.{◌≡◌, ℕ, ◌<◌, ◌≤◌, ◌⊎◌, List, ◌++◌, length, slice_range}
use Rattle.httparse.specs.Grammar.{RequestHead, IsRequestHead, print_request}
use Rattle.http_requests.specs.Chunks.{IsBody, IsTooLarge, IsDecided, IsSized, BeginsWith, HasNone, NeverHas, Lacks}
use Rattle.http_requests.specs.declared.request.TheConstants.{MAX_BODY_BYTES}
use Rattle.http_requests.specs.Heads.{TakesHead, HasNoHead, NeverHasHead, EndsLine, AwaitsHead}
use Rattle.http_requests.specs.HeadContents.{asked_by, body_length}
use Rattle.http_requests.specs.declared.request.BodyLength.{BodyLength}
use Rattle.http_requests.specs.declared.request.BodyLength.TheVariants.{Bytes, Chunked, Unreadable, TooLarge}
use Rattle.http_requests.specs.declared.request.RequestFault.{RequestFault}
use Rattle.http_requests.specs.declared.request.RequestFault.TheVariants as fault
use Rattle.http_requests.specs.declared.request.Request.{Request}

-- the text after a head that announces a body of this length: the body itself, or its chunks
abbrev pub HasBody : BodyLength → List ℕ → List ℕ → Type 0
HasBody (Bytes n) text body = (text ≡ body) × (length body ≡ n)
HasBody Chunked text body = IsBody MAX_BODY_BYTES text body
HasBody Unreadable text body = ⊥
HasBody TooLarge text body = ⊥

-- the text is a head that a session accepts, and the body that it announces
pub record Spells (text : List ℕ) (head : RequestHead) (body : List ℕ) : Type 0 where
  pub after : List ℕ
  pub takes : TakesHead text head after
  pub body_is : HasBody (body_length head) after body

-- the head announces no readable body, the input ended inside the body, or what follows is no chunked body
abbrev pub IsUnreadable : Type 0 → BodyLength → List ℕ → Type 0
IsUnreadable AtEnd (Bytes n) after = (length after < n) × AtEnd
IsUnreadable AtEnd Chunked after = Lacks AtEnd (IsDecided MAX_BODY_BYTES) after
IsUnreadable AtEnd Unreadable after = Unit {0}
IsUnreadable AtEnd TooLarge after = ⊥

-- by the head or by the size line of a chunk the body is too large
abbrev pub PassesMost : BodyLength → List ℕ → Type 0
PassesMost (Bytes n) after = ⊥
PassesMost Chunked after = BeginsWith (IsTooLarge MAX_BODY_BYTES) after
PassesMost Unreadable after = ⊥
PassesMost TooLarge after = Unit {0}

abbrev pub BodyBreaks : Type 0 → RequestFault → BodyLength → List ℕ → Type 0
BodyBreaks AtEnd fault.Head size after = ⊥
BodyBreaks AtEnd fault.Body size after = IsUnreadable AtEnd size after
BodyBreaks AtEnd fault.TooLarge size after = PassesMost size after

-- there is a head, and no body after it for this reason
pub record BreaksAfter (AtEnd : Type 0) (rest : List ℕ) (why : RequestFault) : Type 0 where
  pub head : RequestHead
  pub after : List ℕ
  pub takes : TakesHead rest head after
  pub breaks : BodyBreaks AtEnd why (body_length head) after

-- The bytes don't start with a request for this reason: no continuation starts with a head, or with one whose body can
-- be read, or the input ended inside the request.
abbrev pub IsMalformed : Type 0 → List ℕ → RequestFault → Type 0
IsMalformed AtEnd rest fault.Head = NeverHasHead rest ⊎ (AtEnd × (0 < length rest) × HasNoHead rest)
IsMalformed AtEnd rest fault.Body = BreaksAfter AtEnd rest fault.Body
IsMalformed AtEnd rest fault.TooLarge = BreaksAfter AtEnd rest fault.TooLarge

-- ---- what is awaited

abbrev pub IsShorter : ℕ → List ℕ → Type 0
IsShorter n bytes = length bytes < n

-- The bytes don't start with a chunked body, no size line makes it too large, and the complete lines received don't
-- rule one out: some continuation of them starts with all chunks of a body, or with those up to the size line that
-- makes it too large.
pub record AwaitsChunks (after : List ℕ) : Type 0 where
  pub none : HasNone (IsDecided MAX_BODY_BYTES) after
  pub may : (lines rest : List ℕ) → after ≡ lines ++ rest → EndsLine lines → NeverHas (IsSized MAX_BODY_BYTES) lines → ⊥

-- what is awaited after a head that announces a body of this length; nothing if the head alone decides
abbrev pub AwaitsBody : BodyLength → List ℕ → Type 0
AwaitsBody (Bytes n) after = IsShorter n after
AwaitsBody Chunked after = AwaitsChunks after
AwaitsBody Unreadable after = ⊥
AwaitsBody TooLarge after = ⊥

-- the bytes start with a head, and the body after it is awaited
pub record AwaitsAfter (bytes : List ℕ) : Type 0 where
  pub head : RequestHead
  pub after : List ℕ
  pub takes : TakesHead bytes head after
  pub awaits : AwaitsBody (body_length head) after

-- the bytes received don't decide yet which request they start with, or why they are malformed
abbrev pub AwaitsRequest : List ℕ → Type 0
AwaitsRequest bytes = AwaitsHead bytes ⊎ AwaitsAfter bytes

-- ---- what is reported about a head

-- what was reported about a head; the target is a part of its text
pub record Describes (head : RequestHead) (r : Request) : Type 0 where
  pub asked : asked_by head ≡ record {
    method = r.method;
    target = slice_range (print_request head) r.target.start r.target.end;
    has_batch_type = r.has_batch_type;
    closes = r.closes;
  }
  pub ordered : r.target.start ≤ r.target.end
  pub inside : r.target.end ≤ length (print_request head)

-- the bytes are the head of the request
pub record IsHeadOf (bytes : List ℕ) (r : Request) : Type 0 where
  pub head : RequestHead
  pub is : IsRequestHead head
  pub bytes_are : bytes ≡ print_request head
  pub describes : Describes head r
