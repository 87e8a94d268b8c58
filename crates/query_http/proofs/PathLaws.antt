-- The endpoint of a path and its part, found in the path's bytes.
use Rattle.std.proofs.Common.{◌≡◌, ℕ, ◌-◌, ◌==◌, List, [], ◌++◌, length, get_or, take, drop, codes, if◌then◌else◌, sym, ap, ◌∙◌, arith, length-append}
use Rattle.std.proofs.lemmas.List.{take_at}
use Rattle.query_http.specs.declared.paths.Endpoint.{Endpoint}
use Rattle.query_http.specs.declared.paths.Endpoint.TheVariants.{Traces, Trace, Services, OperationNames, Operations, Dependencies}
use Rattle.query_http.specs.Paths.{IsPath}

-- by the first byte after `/api/`, and the bytes after `/api/traces` and `/api/services`
endpoint_by : ℕ → ℕ → ℕ → Endpoint
endpoint_by first behind_traces behind_services =
    if first == 100 then Dependencies
    else if first == 111 then Operations
    else if first == 116 then (if behind_traces == 47 then Trace else Traces)
    else if behind_services == 47 then OperationNames else Services

endpoint_of : List ℕ → Endpoint
endpoint_of path = endpoint_by (get_or path 5 0) (get_or path 11 0) (get_or path 13 0)

part_of : Endpoint → List ℕ → List ℕ
part_of Traces path = []
part_of Trace path = drop 12 path
part_of Services path = []
part_of OperationNames path = take (length path - 25) (drop 14 path)
part_of Operations path = []
part_of Dependencies path = []

endpoint_is : (e : Endpoint) (part path : List ℕ) → IsPath e part path → endpoint_of path ≡ e
unfolding endpoint_of endpoint_by
endpoint_is Traces part path is = ap endpoint_of is.1
endpoint_is Trace part path is = ap endpoint_of is.1
endpoint_is Services part path is = ap endpoint_of is.1
endpoint_is OperationNames part path is = ap endpoint_of is.1
endpoint_is Operations part path is = ap endpoint_of is.1
endpoint_is Dependencies part path is = ap endpoint_of is.1

-- the text between `/api/services/` and `/operations`
between : (part : List ℕ) → part_of OperationNames (codes "/api/services/" ++ (part ++ codes "/operations")) ≡ part
unfolding part_of
between part = take_at part (codes "/operations") _ (omega (arith, length-append part (codes "/operations")))

part_is : (e : Endpoint) (part path : List ℕ) → IsPath e part path → part_of e path ≡ part
unfolding part_of
part_is Traces part path is = sym is.0
part_is Trace part path is = ap (drop 12) is.1
part_is Services part path is = sym is.0
part_is OperationNames part path is = ap (part_of OperationNames) is.1 ∙ between part
part_is Operations part path is = sym is.0
part_is Dependencies part path is = sym is.0

pub one_endpoint : (e f : Endpoint) (p q path : List ℕ) → IsPath e p path → IsPath f q path → (e ≡ f) × (p ≡ q)
one_endpoint e f p q path one other =
    let same : e ≡ f = sym (endpoint_is e p path one) ∙ endpoint_is f q path other in
    (same, sym (part_is e p path one) ∙ ap (λ (x : Endpoint). part_of x path) same ∙ part_is f q path other)
