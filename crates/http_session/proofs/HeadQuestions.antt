-- What the head of a request asks, by its path.
use Rattle.std.proofs.Common.{◌≡◌, ℕ, List, inl, inr, ap, sym, ◌∙◌, subst}
use Rattle.http_requests.specs.HeadContents.{Asked}
use Rattle.http_requests.specs.declared.request.Method.TheVariants.{Get}
use Rattle.query_http.specs.declared.paths.Endpoint.{Endpoint}
use Rattle.query_http.specs.Paths.{IsPath}
use Rattle.query_http.specs.QueryStrings.{pairs_of}
use Rattle.query_http.specs.Queries.{query_at, path_of, query_string_of}
use Rattle.http_session.specs.Verdicts.{JudgesQuery, JudgesMethod, Judges}
use Rattle.http_session.specs.Questions.{AsksQuestion}
use Rattle.http_session.specs.declared.question.Question.TheVariants.{Settled}
use Rattle.http_session.specs.declared.verdict.Verdict.{Verdict}

module _ (a : Asked) (target path : List ℕ) (path_is : path ≡ path_of target) (target_is : target ≡ a.target) where
  the_path : path ≡ path_of a.target
  the_path = path_is ∙ ap path_of target_is

  module _ (e : Endpoint) (part : List ℕ) (has : IsPath e part path) where
    at : (body : List ℕ) (v : Verdict) → JudgesMethod a body v e part → Judges a body v
    at body v next = inr (record { endpoint = e; part = part; path = subst (IsPath e part) the_path has; next = next })

    pub asks_query : (query : List ℕ) (v : Verdict) → query ≡ query_string_of target → a.method ≡ Get → JudgesQuery (query_at e part (pairs_of query)) v
        → AsksQuestion a (Settled v)
    asks_query query v query_is get follows body w is =
        let there : JudgesQuery (query_at e part (pairs_of (query_string_of a.target))) v =
        subst (λ (f : List ℕ). JudgesQuery (query_at e part (pairs_of f)) v) (query_is ∙ ap query_string_of target_is) follows in
        at body w (inl (get, subst (JudgesQuery (query_at e part (pairs_of (query_string_of a.target)))) (sym is) there))
