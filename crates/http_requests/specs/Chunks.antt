-- A chunked body (RFC 9112, section 7.1), within the limits of a session.
use Rattle.std.specs.Prelude.{◌≡◌, ℕ, ◌+◌, ◌<◌, ◌≤◌, ◌⊎◌, List, ◌++◌, length, All}
use Rattle.std.specs.List.{flat_map}
use Rattle.httparse.specs.Ascii.{crlf_bytes}
use Rattle.httparse.specs.Grammar.{ChunkLine, IsChunkLine, print_chunk_line, chunk_size, Field, IsField, LineEnd, print_section}
use Rattle.http_requests.specs.declared.chunked.line.TheConstants.{MAX_LINE_BYTES}
use Rattle.http_requests.specs.declared.chunked.trailer.TheConstants.{MAX_TRAILER_BYTES}
use Rattle.http_requests.specs.declared.head.TheConstants.{MAX_FIELDS}

-- A size line: hexadecimal digits, optional extensions, and CR LF. The length limit is the session's; RFC 9112,
-- section 7.1, has none.
pub record IsSizeLine (text : List ℕ) (size : ℕ) : Type 0 where
  pub line : ChunkLine
  pub is : IsChunkLine line
  pub text_is : text ≡ print_chunk_line line
  pub short : length text ≤ MAX_LINE_BYTES
  pub size_is : size ≡ chunk_size line

-- a chunk's text, and the data in it
pub record Chunk : Type 0 where
  pub text : List ℕ
  pub content : List ℕ

-- a line with the data's size, the data, which aren't empty, and CR LF
pub record IsChunk (c : Chunk) : Type 0 where
  pub line : List ℕ
  pub line_is : IsSizeLine line (length c.content)
  pub some : 0 < length c.content
  pub text_is : c.text ≡ line ++ (c.content ++ crlf_bytes)

abbrev pub texts : List Chunk → List ℕ
texts cs = flat_map (λ (c : Chunk). c.text) cs

abbrev pub contents : List Chunk → List ℕ
contents cs = flat_map (λ (c : Chunk). c.content) cs

-- field lines and an empty line (RFC 9112, section 7.1.2), within the limits of a session
pub record IsTrailer (text : List ℕ) : Type 0 where
  pub fields : List Field
  pub last : LineEnd
  pub are : All IsField fields
  pub text_is : text ≡ print_section fields last
  pub short : length text ≤ MAX_TRAILER_BYTES
  pub few : length fields ≤ MAX_FIELDS

-- Chunks, a line with the size 0, and a trailer. The body is the data of the chunks, of at most `most` bytes.
pub record IsBody (most : ℕ) (text body : List ℕ) : Type 0 where
  pub chunks : List Chunk
  pub last : List ℕ
  pub trailer : List ℕ
  pub each : All IsChunk chunks
  pub last_is : IsSizeLine last 0
  pub trailer_is : IsTrailer trailer
  pub text_is : text ≡ texts chunks ++ (last ++ trailer)
  pub body_is : body ≡ contents chunks
  pub small : length body ≤ most

-- chunks, and a size line with which the sum exceeds `most`
pub record IsTooLarge (most : ℕ) (text : List ℕ) : Type 0 where
  pub chunks : List Chunk
  pub line : List ℕ
  pub size : ℕ
  pub each : All IsChunk chunks
  pub line_is : IsSizeLine line size
  pub text_is : text ≡ texts chunks ++ line
  pub small : length (contents chunks) ≤ most
  pub large : most < length (contents chunks) + size

-- chunks and a line with the size 0, which the trailer follows
pub record IsUpToTrailer (most : ℕ) (text : List ℕ) : Type 0 where
  pub chunks : List Chunk
  pub last : List ℕ
  pub each : All IsChunk chunks
  pub last_is : IsSizeLine last 0
  pub text_is : text ≡ texts chunks ++ last
  pub small : length (contents chunks) ≤ most

-- all chunks of a body with the line after them, or those up to the size line that makes it too large
abbrev pub IsSized : ℕ → List ℕ → Type 0
IsSized most text = IsUpToTrailer most text ⊎ IsTooLarge most text

-- ---- what some bytes start with

-- no prefix of the bytes is such a text
abbrev pub HasNone : (List ℕ → Type 0) → List ℕ → Type 0
HasNone Is bytes = (text rest : List ℕ) → Is text → bytes ≡ text ++ rest → ⊥

-- no prefix of any continuation is such a text
abbrev pub NeverHas : (List ℕ → Type 0) → List ℕ → Type 0
NeverHas Is bytes = (more : List ℕ) → HasNone Is (bytes ++ more)

-- none will be, or none is and the bytes have ended
abbrev pub Lacks : Type 0 → (List ℕ → Type 0) → List ℕ → Type 0
Lacks AtEnd Is bytes = NeverHas Is bytes ⊎ (AtEnd × HasNone Is bytes)

-- a size line with some size
abbrev pub IsSomeSizeLine : List ℕ → Type 0
IsSomeSizeLine text = (size : ℕ) × IsSizeLine text size

-- the text of a body, or of one that is too large, up to the size line that says so
abbrev pub IsDecided : ℕ → List ℕ → Type 0
IsDecided most text = ((body : List ℕ) × IsBody most text body) ⊎ IsTooLarge most text

-- the outcome of the bytes received so far
pub data Reading : Type 0 where
  -- a complete body with these data, and the length of its text
  whole : List ℕ → ℕ → Reading
  -- the sum exceeds the limit at the line that ends after this number of bytes
  too_large : ℕ → Reading
  bad : Reading
  not_yet : Reading

-- the bytes start with such a text
pub record BeginsWith (Is : List ℕ → Type 0) (bytes : List ℕ) : Type 0 where
  pub text : List ℕ
  pub rest : List ℕ
  pub is : Is text
  pub cut : bytes ≡ text ++ rest

-- the bytes start with such a text of this length
pub record Stands (Is : List ℕ → Type 0) (bytes : List ℕ) (used : ℕ) : Type 0 where
  pub text : List ℕ
  pub rest : List ℕ
  pub is : Is text
  pub cut : bytes ≡ text ++ rest
  pub used_is : used ≡ length text

-- some continuation of the bytes starts with such a text
pub record MayHave (Is : List ℕ → Type 0) (bytes : List ℕ) : Type 0 where
  pub more : List ℕ
  pub text : List ℕ
  pub rest : List ℕ
  pub is : Is text
  pub cut : bytes ++ more ≡ text ++ rest

abbrev pub ReadsChunks : ℕ → List ℕ → Reading → Type 0
ReadsChunks most bytes (whole body used) = Stands (λ text. IsBody most text body) bytes used
ReadsChunks most bytes (too_large used) = Stands (IsTooLarge most) bytes used
ReadsChunks most bytes bad = NeverHas (IsDecided most) bytes
ReadsChunks most bytes not_yet = HasNone (IsDecided most) bytes × MayHave (IsDecided most) bytes

-- data of this size, and CR LF
pub record IsContent (size : ℕ) (text : List ℕ) : Type 0 where
  pub content : List ℕ
  pub size_is : length content ≡ size
  pub text_is : text ≡ content ++ crlf_bytes
