-- A request has one verdict, unless memory ran out.
use Rattle.std.proofs.Common.{◌≡◌, ◌≢◌, ℕ, Bool, true, false, List, Result, Ok, Err, if◌then◌else◌, refl, sym, ap, ◌∙◌, inl, inr}
use Rattle.jaeger_model.specs.declared.batch.Batch.{Batch}
use Rattle.batch_codec.specs.declared.fault.DecodeError.{DecodeError}
use Rattle.trace_model.specs.declared.query.Query.{Query}
use Rattle.batch_codec.specs.BatchReading.{decoded}
use Rattle.http_requests.specs.HeadContents.{Asked}
use Rattle.http_requests.specs.declared.request.Method.{Method}
use Rattle.http_requests.specs.declared.request.Method.TheVariants.{Get, Post, Other}
use Rattle.query_http.specs.declared.fault.Parameter.{Parameter}
use Rattle.query_http.specs.declared.paths.Endpoint.{Endpoint}
use Rattle.query_http.specs.QueryStrings.{pairs_of}
use Rattle.query_http.specs.Queries.{query_at, path_of, query_string_of}
use Rattle.query_http.proofs.PathLaws.{one_endpoint}
use Rattle.http_session.specs.Verdicts.{takes_post, allows, JudgesQuery, JudgesBatch, JudgesMethod, Judges}
use Rattle.http_session.specs.declared.verdict.ErrorReply.TheVariants.{NoSuchPath, MethodNotAllowed, UnsupportedMediaType, BadBatch, BadParameter, NoMemory}
use Rattle.http_session.specs.declared.verdict.Verdict.{Verdict}
use Rattle.http_session.specs.declared.verdict.Verdict.TheVariants.{Submit, Ask, Reject}

-- ---- the verdict as a function

query_verdict : Result Query Parameter → Verdict
query_verdict (Ok q) = Ask q
query_verdict (Err p) = Reject (BadParameter p)

batch_verdict : Bool → Result Batch DecodeError → Verdict
batch_verdict false read = Reject UnsupportedMediaType
batch_verdict true (Ok b) = Submit b
batch_verdict true (Err f) = Reject (BadBatch f)

-- of an endpoint with the verdict of a query and the one of a batch
method_verdict : Method → Endpoint → Verdict → Verdict → Verdict
method_verdict Get e query batch = query
method_verdict Post e query batch = if takes_post e then batch else Reject (MethodNotAllowed e)
method_verdict Other e query batch = Reject (MethodNotAllowed e)

verdict_at : Asked → List ℕ → Endpoint → List ℕ → Verdict
verdict_at a body e part =
    method_verdict a.method e (query_verdict (query_at e part (pairs_of (query_string_of a.target)))) (batch_verdict a.has_batch_type (decoded body))

-- ---- each verdict is that

by_query : (read : Result Query Parameter) (v : Verdict) → JudgesQuery read v → v ≡ query_verdict read
unfolding query_verdict
by_query read (Ask q) is = sym (ap query_verdict is)
by_query read (Reject (BadParameter p)) is = sym (ap query_verdict is)
by_query read (Reject NoSuchPath) is = absurd is
by_query read (Reject (MethodNotAllowed e)) is = absurd is
by_query read (Reject UnsupportedMediaType) is = absurd is
by_query read (Reject (BadBatch f)) is = absurd is
by_query read (Reject NoMemory) is = absurd is
by_query read (Submit b) is = absurd is

by_batch : (has_type : Bool) (body : List ℕ) (v : Verdict) → v ≢ Reject NoMemory → JudgesBatch has_type body v → v ≡ batch_verdict has_type (decoded body)
unfolding batch_verdict
by_batch has_type body (Submit b) memory is = sym (ap (λ (t : Bool). batch_verdict t (decoded body)) is.0 ∙ ap (batch_verdict true) is.1)
by_batch has_type body (Reject (BadBatch f)) memory is = sym (ap (λ (t : Bool). batch_verdict t (decoded body)) is.0 ∙ ap (batch_verdict true) is.1)
by_batch has_type body (Reject NoMemory) memory is = absurd (memory refl)
by_batch has_type body (Reject UnsupportedMediaType) memory is = sym (ap (λ (t : Bool). batch_verdict t (decoded body)) is)
by_batch has_type body (Reject NoSuchPath) memory is = absurd is
by_batch has_type body (Reject (MethodNotAllowed e)) memory is = absurd is
by_batch has_type body (Reject (BadParameter p)) memory is = absurd is
by_batch has_type body (Ask q) memory is = absurd is

by_get : (m : Method) (e : Endpoint) (query batch : Verdict) → m ≡ Get → query ≡ method_verdict m e query batch
unfolding method_verdict
by_get m e query batch is = sym (ap (λ (n : Method). method_verdict n e query batch) is)

by_post : (m : Method) (e : Endpoint) (query batch : Verdict) → m ≡ Post → takes_post e ≡ true → batch ≡ method_verdict m e query batch
unfolding method_verdict
by_post m e query batch is at =
    sym (ap (λ (n : Method). method_verdict n e query batch) is ∙ ap (λ (t : Bool). if t then batch else Reject (MethodNotAllowed e)) at)

by_neither : (m : Method) (e : Endpoint) (query batch : Verdict) → allows e m ≡ false → Reject (MethodNotAllowed e) ≡ method_verdict m e query batch
unfolding method_verdict
by_neither Get e query batch not = absurd (cc not)
by_neither Post e query batch not = sym (ap (λ (t : Bool). if t then batch else Reject (MethodNotAllowed e)) not)
by_neither Other e query batch not = refl

by_method : (a : Asked) (body : List ℕ) (v : Verdict) (e : Endpoint) (part : List ℕ) → v ≢ Reject NoMemory → JudgesMethod a body v e part
    → v ≡ verdict_at a body e part
unfolding verdict_at
by_method a body v e part memory (inl get) = by_query (query_at e part (pairs_of (query_string_of a.target))) v get.1 ∙ by_get a.method e _ _ get.0
by_method a body v e part memory (inr (inl post)) = by_batch a.has_batch_type body v memory post.2 ∙ by_post a.method e _ _ post.1 post.0
by_method a body v e part memory (inr (inr neither)) = neither.1 ∙ by_neither a.method e _ _ neither.0

pub one_verdict : (a : Asked) (body : List ℕ) (v w : Verdict) → v ≢ Reject NoMemory → w ≢ Reject NoMemory → Judges a body v → Judges a body w → v ≡ w
one_verdict a body v w m n (inl one) (inl other) = one.1 ∙ sym other.1
one_verdict a body v w m n (inl one) (inr other) = absurd (one.0 other.endpoint other.part other.path)
one_verdict a body v w m n (inr one) (inl other) = absurd (other.0 one.endpoint one.part one.path)
one_verdict a body v w m n (inr one) (inr other) =
    let same = one_endpoint one.endpoint other.endpoint one.part other.part (path_of a.target) one.path other.path in
    by_method a body v one.endpoint one.part m one.next ∙ (λ i. verdict_at a body (same.0 i) (same.1 i))
    ∙ sym (by_method a body w other.endpoint other.part n other.next)
