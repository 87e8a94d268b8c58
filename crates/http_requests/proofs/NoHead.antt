-- When a search finds that no head can come.
use Rattle.std.proofs.Common.{◌≡◌, ℕ, ◌≤◌, List, length, take, Result, OnErr, inl, inr}
use Rattle.httparse.specs.Grammar.{HasNoRequest}
use Rattle.httparse.specs.Outcome.{OnPartial}
use Rattle.httparse.specs.Spans.{RequestOverflows}
use Rattle.httparse.specs.declared.Error.{Error}
use Rattle.httparse.specs.declared.Status.{Status}
use Rattle.httparse.specs.declared.spans.RequestSpans.{RequestSpans}
use Rattle.http_requests.specs.ChunkSearches.{FoundByParser}
use Rattle.http_requests.specs.declared.chunked.parse_status.ParseStatus.TheVariants.{Invalid}
use Rattle.http_requests.specs.declared.head.TheConstants.{MAX_HEAD_BYTES, MAX_FIELDS}
use Rattle.http_requests.specs.Heads.{NeverHasHead}
use Rattle.http_requests.proofs.Prefixes.{never_when_full, never_in_room}

pub never_found : (bytes prefix : List ℕ) (room : ℕ) (parsed : Result (Status RequestSpans) Error) → prefix ≡ take MAX_HEAD_BYTES bytes → MAX_FIELDS ≤ room
    → OnPartial parsed (HasNoRequest prefix) → OnErr parsed (RequestOverflows room prefix)
    → FoundByParser parsed (length bytes) MAX_HEAD_BYTES Invalid → NeverHasHead bytes
never_found bytes prefix room parsed f wide partial no_room (inl (e, is)) = never_in_room bytes prefix room f wide (rw is at no_room)
never_found bytes prefix room parsed f wide partial no_room (inr (is, full)) = never_when_full bytes prefix f full (rw is at partial)
