-- What a search finds, by what was parsed of the first bytes.
use Rattle.std.proofs.Common.{◌≡◌, ℕ, ◌≤◌, List, length, take, Result, OnErr, inl, inr}
use Rattle.httparse.specs.Grammar.{ChunkLine, HasNoChunkLine, NeverHasChunkLine, MayBecomeChunkLine, HasNoSection}
use Rattle.httparse.specs.Outcome.{IfComplete, OnPartial}
use Rattle.httparse.specs.Spans.{IsChunkLineAt, SectionOverflows}
use Rattle.httparse.specs.declared.Error.{Error}
use Rattle.httparse.specs.declared.InvalidChunkSize.{InvalidChunkSize}
use Rattle.httparse.specs.declared.Status.{Status}
use Rattle.http_requests.specs.Chunks.{IsTrailer, NeverHas}
use Rattle.http_requests.specs.ChunkSearches.{FoundByParser, LooksAtLine}
use Rattle.http_requests.specs.declared.chunked.line.TheConstants.{MAX_LINE_BYTES}
use Rattle.http_requests.specs.declared.chunked.parse_status.ParseStatus.{ParseStatus}
use Rattle.http_requests.specs.declared.chunked.parse_status.ParseStatus.TheVariants.{Complete, Partial, Invalid}
use Rattle.http_requests.specs.declared.chunked.trailer.TheConstants.{MAX_TRAILER_BYTES}
use Rattle.http_requests.specs.declared.head.TheConstants.{MAX_FIELDS}
use Rattle.http_requests.proofs.ChunkPrefixes.{line_whole, line_when_short, line_when_full, line_never, trailer_when_full, trailer_never}
use Rattle.http_requests.proofs.ChunkSizes.{line_unended}

pub line_looks : (bytes prefix : List ℕ) (parsed : Result (Status (ℕ × ℕ)) InvalidChunkSize) (found : ParseStatus (ℕ × ℕ)) → prefix ≡ take MAX_LINE_BYTES bytes
    → IfComplete parsed (λ r. (l : ChunkLine) × IsChunkLineAt prefix r.0 r.1 l) → OnPartial parsed (HasNoChunkLine prefix)
    → OnPartial parsed (MayBecomeChunkLine prefix) → OnErr parsed (NeverHasChunkLine prefix)
    → FoundByParser parsed (length bytes) MAX_LINE_BYTES found → LooksAtLine bytes found
line_looks bytes prefix parsed (Complete found) f complete partial unfinished invalid is = line_whole bytes prefix found.0 found.1 f (rw is at complete)
line_looks bytes prefix parsed Partial f complete partial unfinished invalid (is, short) =
    let none = line_when_short bytes prefix f short (rw is at partial) in
    (none, short, line_unended bytes prefix f short (rw is at unfinished) none)
line_looks bytes prefix parsed Invalid f complete partial unfinished invalid (inl (e, is)) = line_never bytes prefix f (rw is at invalid)
line_looks bytes prefix parsed Invalid f complete partial unfinished invalid (inr (is, full)) = line_when_full bytes prefix f full (rw is at partial)

pub trailer_never_found : (bytes prefix : List ℕ) (room : ℕ) (parsed : Result (Status (ℕ × ℕ)) Error) → prefix ≡ take MAX_TRAILER_BYTES bytes
    → MAX_FIELDS ≤ room
    → OnPartial parsed (HasNoSection prefix) → OnErr parsed (SectionOverflows room prefix)
    → FoundByParser parsed (length bytes) MAX_TRAILER_BYTES Invalid → NeverHas IsTrailer bytes
trailer_never_found bytes prefix room parsed f wide partial no_room (inl (e, is)) = trailer_never bytes prefix room f wide (rw is at no_room)
trailer_never_found bytes prefix room parsed f wide partial no_room (inr (is, full)) = trailer_when_full bytes prefix f full (rw is at partial)
