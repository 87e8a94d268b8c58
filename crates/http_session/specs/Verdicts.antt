-- The verdict on a request: by its path, its method, its content type, and its body or its parameters.
use Rattle.std.specs.Prelude.{◌≡◌, ℕ, ◌⊎◌, Bool, true, false, List, slice_range, Result, Ok, Err}
use Rattle.batch_codec.specs.BatchReading.{decoded}
use Rattle.trace_model.specs.declared.query.Query.{Query}
use Rattle.httparse.specs.Grammar.{RequestHead}
use Rattle.http_requests.specs.HeadContents.{Asked, asked_by}
use Rattle.http_requests.specs.Heads.{TakesHead}
use Rattle.http_requests.specs.declared.request.Method.{Method}
use Rattle.http_requests.specs.declared.request.Method.TheVariants.{Get, Post, Other}
use Rattle.http_requests.specs.declared.request.Request.{Request}
use Rattle.query_http.specs.declared.fault.Parameter.{Parameter}
use Rattle.query_http.specs.declared.paths.Endpoint.{Endpoint}
use Rattle.query_http.specs.declared.paths.Endpoint.TheVariants.{Traces, Trace, Services, OperationNames, Operations, Dependencies}
use Rattle.query_http.specs.Paths.{IsPath, IsNoPath}
use Rattle.query_http.specs.QueryStrings.{pairs_of}
use Rattle.query_http.specs.Queries.{query_at, path_of, query_string_of}
use Rattle.http_session.specs.declared.verdict.ErrorReply.TheVariants.{NoSuchPath, MethodNotAllowed, UnsupportedMediaType, BadBatch, BadParameter, NoMemory}
use Rattle.http_session.specs.declared.verdict.Verdict.{Verdict}
use Rattle.http_session.specs.declared.verdict.Verdict.TheVariants.{Submit, Ask, Reject}

-- what a head asks, by its bytes
abbrev pub asked_of : List ℕ → Request → Asked
asked_of bytes r = record { method = r.method; target = slice_range bytes r.target.start r.target.end; has_batch_type = r.has_batch_type; closes = r.closes }

-- which endpoints take POST: batches are submitted there
abbrev pub takes_post : Endpoint → Bool
takes_post Traces = true
takes_post Trace = false
takes_post Services = false
takes_post OperationNames = false
takes_post Operations = false
takes_post Dependencies = false

-- each endpoint takes GET
abbrev pub allows : Endpoint → Method → Bool
allows e Get = true
allows e Post = takes_post e
allows e Other = false

-- a query, or the first parameter that can't be read
abbrev pub JudgesQuery : Result Query Parameter → Verdict → Type 0
JudgesQuery read (Ask q) = read ≡ Ok q
JudgesQuery read (Reject (BadParameter p)) = read ≡ Err p
JudgesQuery read (Reject NoSuchPath) = ⊥
JudgesQuery read (Reject (MethodNotAllowed e)) = ⊥
JudgesQuery read (Reject UnsupportedMediaType) = ⊥
JudgesQuery read (Reject (BadBatch f)) = ⊥
JudgesQuery read (Reject NoMemory) = ⊥
JudgesQuery read (Submit b) = ⊥

-- a batch that is submitted: its content type first, then its bytes; memory may run out for it
abbrev pub JudgesBatch : Bool → List ℕ → Verdict → Type 0
JudgesBatch has_type body (Submit b) = (has_type ≡ true) × (decoded body ≡ Ok b)
JudgesBatch has_type body (Reject (BadBatch f)) = (has_type ≡ true) × (decoded body ≡ Err f)
JudgesBatch has_type body (Reject NoMemory) = has_type ≡ true
JudgesBatch has_type body (Reject UnsupportedMediaType) = has_type ≡ false
JudgesBatch has_type body (Reject NoSuchPath) = ⊥
JudgesBatch has_type body (Reject (MethodNotAllowed e)) = ⊥
JudgesBatch has_type body (Reject (BadParameter p)) = ⊥
JudgesBatch has_type body (Ask q) = ⊥

-- the endpoint of the request's path, with its part
pub record AtEndpoint (a : Asked) (Then : Endpoint → List ℕ → Type 0) : Type 0 where
  pub endpoint : Endpoint
  pub part : List ℕ
  pub path : IsPath endpoint part (path_of a.target)
  pub next : Then endpoint part

-- a GET of an endpoint: a query, or a parameter that can't be read
abbrev pub AsksQuery : Asked → Type 0
AsksQuery a = AtEndpoint a (λ e part. a.method ≡ Get)

-- the bytes start with the head of a query
pub record BeginsWithQuery (bytes : List ℕ) : Type 0 where
  pub head : RequestHead
  pub after : List ℕ
  pub takes : TakesHead bytes head after
  pub asks : AsksQuery (asked_by head)

-- by the method: a query, a batch, or a method that the endpoint doesn't take
abbrev pub JudgesMethod : Asked → List ℕ → Verdict → Endpoint → List ℕ → Type 0
JudgesMethod a body v e part =
    ((a.method ≡ Get) × JudgesQuery (query_at e part (pairs_of (query_string_of a.target))) v)
    ⊎ ((takes_post e ≡ true) × (a.method ≡ Post) × JudgesBatch a.has_batch_type body v)
    ⊎ ((allows e a.method ≡ false) × (v ≡ Reject (MethodNotAllowed e)))

-- no endpoint has the path, or the verdict is that of its endpoint
abbrev pub Judges : Asked → List ℕ → Verdict → Type 0
Judges a body v = (IsNoPath (path_of a.target) × (v ≡ Reject NoSuchPath)) ⊎ AtEndpoint a (JudgesMethod a body v)
