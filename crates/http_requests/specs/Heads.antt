-- A request head that a session accepts.
use Rattle.std.specs.Prelude.{◌≡◌, ℕ, ◌<◌, ◌≤◌, List, [], ◌∷◌, ◌++◌, length, take, drop}
use Rattle.httparse.specs.Ascii.{line_feed}
use Rattle.httparse.specs.Grammar.{RequestHead, ReadsRequest, NeverHasRequest, print_request}
use Rattle.httparse.specs.declared.spans.RequestSpans.{RequestSpans}
use Rattle.httparse.specs.declared.spans.HeaderSpan.{HeaderSpan}
use Rattle.httparse.specs.Spans.{IsRequestAt, IsRequestWithin}
use Rattle.http_requests.specs.declared.head.TheConstants.{MAX_HEAD_BYTES, MAX_FIELDS}

-- The bytes are a head that a session accepts, followed by `rest`. The limits are the session's; RFC 9112 sets none.
pub record TakesHead (bytes : List ℕ) (h : RequestHead) (rest : List ℕ) : Type 0 where
  pub reads : ReadsRequest bytes h rest
  pub size : length (print_request h) ≤ MAX_HEAD_BYTES
  pub fields : length h.fields ≤ MAX_FIELDS

-- no prefix of the bytes is such a head
abbrev pub HasNoHead : List ℕ → Type 0
HasNoHead bytes = (h : RequestHead) (rest : List ℕ) → TakesHead bytes h rest → ⊥

-- no prefix of any continuation is such a head
abbrev pub NeverHasHead : List ℕ → Type 0
NeverHasHead bytes = (more : List ℕ) → HasNoHead (bytes ++ more)

-- the bytes end in a line feed
abbrev pub EndsLine : List ℕ → Type 0
EndsLine bytes = (prefix : List ℕ) × (bytes ≡ prefix ++ line_feed ∷ [])

-- The bytes don't start with a head, they are fewer than a head may have, and the complete lines received don't rule
-- one out: some continuation of them starts with a head by the grammar.
pub record AwaitsHead (bytes : List ℕ) : Type 0 where
  pub none : HasNoHead bytes
  pub short : length bytes < MAX_HEAD_BYTES
  pub may : (lines rest : List ℕ) → bytes ≡ lines ++ rest → EndsLine lines → NeverHasRequest lines → ⊥

-- the spans are offsets into the bytes that a head may have
pub record IsWholeHead (bytes : List ℕ) (headers : List HeaderSpan) (spans : RequestSpans) : Type 0 where
  pub head : RequestHead
  pub takes : TakesHead bytes head (drop spans.len bytes)
  pub prefix : List ℕ
  pub prefix_is : prefix ≡ take MAX_HEAD_BYTES bytes
  pub at : IsRequestAt prefix headers spans head
  pub within : IsRequestWithin prefix headers spans
