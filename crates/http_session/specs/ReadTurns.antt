-- A session reads only while the request that it answers next is awaited.
use Rattle.std.specs.Prelude.{◌≡◌, ℕ, ◌⊎◌, Bool, List, [], ◌++◌, length}
use Rattle.session_devices.specs.ByteTransfers.{ByteTransfer}
use Rattle.http_requests.specs.Requests.{AwaitsRequest}
use Rattle.http_requests.specs.AwaitedReads.{Source, ReadsWhile, FailsToRead, input_moment, read_rule}
use Rattle.http_session.specs.Sessions.{Exchange, texts}

-- The bytes received are the first of these requests, and a rest in which the next one is awaited: the rest doesn't
-- start with a complete request, and doesn't rule one out.
pub record AwaitsNext (opens : List Exchange) (bytes : List ℕ) : Type 0 where
  pub before : List Exchange
  pub later : List Exchange
  pub rest : List ℕ
  pub opens_are : opens ≡ before ++ later
  pub bytes_are : bytes ≡ texts before ++ rest
  pub awaits : AwaitsRequest rest

-- The bytes taken between two states of an input came by reads in order, and before each of them the next request was
-- awaited, given the bytes received by then. The requests before it are among these, after which the session stays
-- open. Nothing was read after any other request, such as one that closes the session or is still due.
abbrev pub ReadsInTurn : {R : Type 0} → ByteTransfer R → R → R → List Exchange → List ℕ → Type 0
ReadsInTurn gives s t opens taken = ReadsWhile (read_rule gives (AwaitsNext opens)) (input_moment s []) (input_moment t taken)

-- an input before and after a session, and whether it has failed by then
pub record InputRun (R : Type 0) : Type 0 where
  pub start : R
  pub end : R
  pub failed : Bool

abbrev pub input_run : {R : Type 0} → R → R → Bool → InputRun R
input_run start end failed = record { start = start; end = end; failed = failed }

-- The same relation for a session that failed. The count is of the reads that returned bytes or found the end. One
-- more, the last one, may have failed.
pub record ReadsInTurnUpTo {R : Type 0} (source : Source R) (input : InputRun R) (opens : List Exchange) (taken : List ℕ) (made : ℕ) : Type 0 where
  pub before : R
  pub reads : ReadsInTurn source.gives input.start before opens taken
  pub count : length reads.pieces ≡ made
  pub last : (input.end ≡ before) ⊎ FailsToRead source before input.end input.failed
