-- What a search at the start of bytes finds.
use Rattle.std.specs.Prelude.{◌≡◌, ℕ, ◌==◌, ◌<◌, ◌≤◌, ◌⊎◌, false, List, length, take, Result, Ok, Err}
use Rattle.std.specs.List.{list_any}
use Rattle.httparse.specs.Ascii.{line_feed}
use Rattle.httparse.specs.declared.Status.{Status}
use Rattle.httparse.specs.declared.Status.TheVariants as status
use Rattle.http_requests.specs.Chunks.{IsSizeLine, IsSomeSizeLine, IsTrailer, HasNone, NeverHas}
use Rattle.http_requests.specs.declared.chunked.line.TheConstants.{MAX_LINE_BYTES}
use Rattle.http_requests.specs.declared.chunked.parse_status.ParseStatus.{ParseStatus}
use Rattle.http_requests.specs.declared.chunked.parse_status.ParseStatus.TheVariants.{Complete, Partial, Invalid}
use Rattle.http_requests.specs.declared.chunked.trailer.TheConstants.{MAX_TRAILER_BYTES}

-- What a parser found in the first `most` of `count` bytes: a complete text; an incomplete one, if there are fewer
-- than `most`; or none that can come, also if it is still incomplete after `most` bytes.
abbrev pub FoundByParser : {T E : Type 0} → Result (Status T) E → ℕ → ℕ → ParseStatus T → Type 0
FoundByParser parsed count most (Complete found) = parsed ≡ Ok (status.Complete found)
FoundByParser parsed count most Partial = (parsed ≡ Ok status.Partial) × (count < most)
FoundByParser {T} {E} parsed count most Invalid = ((e : E) × (parsed ≡ Err e)) ⊎ ((parsed ≡ Ok status.Partial) × (most ≤ count))

-- no line ends in the bytes
abbrev pub EndsNoLine : List ℕ → Type 0
EndsNoLine bytes = list_any (λ b. b == line_feed) bytes ≡ false

abbrev pub LooksAtLine : List ℕ → ParseStatus (ℕ × ℕ) → Type 0
LooksAtLine bytes (Complete found) = IsSizeLine (take found.0 bytes) found.1 × (found.0 ≤ length bytes)
LooksAtLine bytes Partial = HasNone IsSomeSizeLine bytes × (length bytes < MAX_LINE_BYTES) × EndsNoLine bytes
LooksAtLine bytes Invalid = NeverHas IsSomeSizeLine bytes

abbrev pub LooksAtTrailer : List ℕ → ParseStatus ℕ → Type 0
LooksAtTrailer bytes (Complete len) = IsTrailer (take len bytes) × (len ≤ length bytes)
LooksAtTrailer bytes Partial = HasNone IsTrailer bytes × (length bytes < MAX_TRAILER_BYTES)
LooksAtTrailer bytes Invalid = NeverHas IsTrailer bytes
