-- The routes of the endpoints match the endpoints' paths, and no other path.
use Rattle.std.proofs.Common.{◌≡◌, ℕ, List, [], ◌∷◌, ◌++◌, Some, None, refl, sym, ap, ◌∙◌, subst, inl, inr, ◌⊎◌, arith, append-nil}
use Rattle.std.specs.Prelude.{codes}
use Rattle.matchit.specs.Rows.{RowsOf}
use Rattle.matchit.specs.Router.{RouteOf}
use Rattle.matchit.specs.Seek.{seek, param_step}
use Rattle.query_http.specs.declared.paths.Endpoint.{Endpoint}
use Rattle.query_http.specs.declared.paths.Endpoint.TheVariants.{Traces, Trace, Services, OperationNames, Operations, Dependencies}
use Rattle.query_http.specs.Paths.{IsPath, endpoint_rows, trace_pattern, names_pattern}
use Rattle.query_http.proofs.RouteWalks.{behind, AreLiteral, Apart, found_behind, found_end, found_in_either, seek_behind, seek_first, seek_second}
use Rattle.query_http.proofs.PathParts.{found_last, part_last, found_between, part_between}

abbrev Found : Type 0
Found = RouteOf Endpoint

abbrev literal : List ℕ → Endpoint → Found
literal text e = record { pattern = text; text = text; names = []; value = e }

abbrev the_trace : Found
the_trace = record { pattern = trace_pattern; text = codes "/api/traces/{id}"; names = (13, 15) ∷ []; value = Trace }

abbrev the_names : Found
the_names = record { pattern = names_pattern; text = codes "/api/services/{service}/operations"; names = (15, 22) ∷ []; value = OperationNames }

-- an endpoint whose path ends with a word
abbrev ends_at : List ℕ → Endpoint → RowsOf Found
ends_at word e = ([], literal (codes "/api/" ++ word) e) ∷ []

abbrev dependencies_rows : RowsOf Found
dependencies_rows = ends_at (codes "dependencies") Dependencies

abbrev operations_rows : RowsOf Found
operations_rows = ends_at (codes "operations") Operations

abbrev services_end : RowsOf Found
services_end = ends_at (codes "services") Services

abbrev traces_end : RowsOf Found
traces_end = ends_at (codes "traces") Traces

abbrev names_rows : RowsOf Found
names_rows = (256 ∷ codes "/operations", the_names) ∷ []

abbrev trace_rows : RowsOf Found
trace_rows = (256 ∷ [], the_trace) ∷ []

abbrev services_rows : RowsOf Found
services_rows = behind (47 ∷ []) names_rows ++ services_end

abbrev traces_rows : RowsOf Found
traces_rows = behind (47 ∷ []) trace_rows ++ traces_end

abbrev from_traces : RowsOf Found
from_traces = behind (codes "traces") traces_rows

abbrev from_services : RowsOf Found
from_services = behind (codes "services") services_rows ++ from_traces

abbrev from_operations : RowsOf Found
from_operations = behind (codes "operations") operations_rows ++ from_services

abbrev all_rows : RowsOf Found
all_rows = behind (codes "dependencies") dependencies_rows ++ from_operations

split : endpoint_rows ≡ behind (codes "/api/") all_rows
split = refl

api : AreLiteral (codes "/api/")
api = (refl, refl, (refl, refl, (refl, refl, (refl, refl, (refl, refl, tt)))))

d_literal : AreLiteral (codes "dependencies")
d_literal = (
  refl,
  refl,
  (
    refl,
    refl,
    (
      refl,
      refl,
      (refl, refl, (refl, refl, (refl, refl, (refl, refl, (refl, refl, (refl, refl, (refl, refl, (refl, refl, (refl, refl, tt))))))))),
    ),
  ),
)

o_literal : AreLiteral (codes "operations")
o_literal = (refl, refl, (refl, refl, (refl, refl, (refl, refl, (refl, refl, (refl, refl, (refl, refl, (refl, refl, (refl, refl, (refl, refl, tt))))))))))

s_literal : AreLiteral (codes "services")
s_literal = (refl, refl, (refl, refl, (refl, refl, (refl, refl, (refl, refl, (refl, refl, (refl, refl, (refl, refl, tt))))))))

t_literal : AreLiteral (codes "traces")
t_literal = (refl, refl, (refl, refl, (refl, refl, (refl, refl, (refl, refl, (refl, refl, tt))))))

slash_literal : AreLiteral (47 ∷ [])
slash_literal = (refl, refl, tt)

more_literal : AreLiteral (codes "/operations")
more_literal = (refl, refl, o_literal)

d_apart : Apart 100 from_operations
d_apart = record { part = refl; rest = refl; byte = refl }

o_apart : Apart 111 from_services
o_apart = record { part = refl; rest = refl; byte = refl }

s_apart : Apart 115 from_traces
s_apart = record { part = refl; rest = refl; byte = refl }

names_apart : Apart 47 services_end
names_apart = record { part = refl; rest = refl; byte = refl }

trace_apart : Apart 47 traces_end
trace_apart = record { part = refl; rest = refl; byte = refl }

-- a path after the common prefix, with its endpoint
abbrev Is : Found → List ℕ → Type 0
Is r rest = (part : List ℕ) × IsPath r.value part (codes "/api/" ++ rest)

made : (r s : Found) (rest : List ℕ) (part : List ℕ) → r ≡ s → IsPath s.value part (codes "/api/" ++ rest) → Is r rest
made r s rest part e p = (part, subst (λ (x : Found). IsPath x.value part (codes "/api/" ++ rest)) (sym e) p)

ended : (word path rest : List ℕ) (x : Endpoint) (r : Found) → IsPath x [] (codes "/api/" ++ word) → path ≡ word ++ rest → seek 0 (ends_at word x) rest ≡ Some r
    → Is r path
ended word path rest x r is cut e =
    let last = literal (codes "/api/" ++ word) x in
    let g = found_end last rest r e in
    let here : path ≡ word = cut ∙ ap (λ (l : List ℕ). word ++ l) g.0 ∙ append-nil word in
    made r last path [] g.1 (subst (λ (l : List ℕ). IsPath x [] (codes "/api/" ++ l)) (sym here) is)

-- a path that ends with a word, or continues after it
ended_or_below : (word : List ℕ) (rows : RowsOf Found) (x : Endpoint) → IsPath x [] (codes "/api/" ++ word) → AreLiteral word → Apart 47 (ends_at word x)
    → ((rest : List ℕ) (r : Found) → seek 0 rows rest ≡ Some r → Is r (word ++ 47 ∷ rest))
    → (path : List ℕ) (r : Found) → seek 0 (behind word (behind (47 ∷ []) rows ++ ends_at word x)) path ≡ Some r → Is r path
ended_or_below word rows x is are_literal apart below path r e = by (found_in_either 47 [] rows (ends_at word x) slash_literal apart f.0 r f.2)
  where
    f : (rest : List ℕ) × (path ≡ word ++ rest) × (seek 0 (behind (47 ∷ []) rows ++ ends_at word x) rest ≡ Some r)
    f = found_behind word (behind (47 ∷ []) rows ++ ends_at word x) path r are_literal e

    by : (seek 0 (behind (47 ∷ []) rows) f.0 ≡ Some r) ⊎ (seek 0 (ends_at word x) f.0 ≡ Some r) → Is r path
    by (inl h) =
        let b = found_behind (47 ∷ []) rows f.0 r slash_literal h in
        subst (λ (p : List ℕ). Is r p) (sym (f.1 ∙ ap (λ (l : List ℕ). word ++ l) b.1)) (below b.0 r b.2)
    by (inr h) = ended word path f.0 x r is f.1 h

in_dependencies : (path : List ℕ) (r : Found) → seek 0 (behind (codes "dependencies") dependencies_rows) path ≡ Some r → Is r path
in_dependencies path r e =
    let f = found_behind (codes "dependencies") dependencies_rows path r d_literal e in
    ended (codes "dependencies") path f.0 Dependencies r (refl, refl) f.1 f.2

in_operations : (path : List ℕ) (r : Found) → seek 0 (behind (codes "operations") operations_rows) path ≡ Some r → Is r path
in_operations path r e =
    let f = found_behind (codes "operations") operations_rows path r o_literal e in
    ended (codes "operations") path f.0 Operations r (refl, refl) f.1 f.2

in_services : (path : List ℕ) (r : Found) → seek 0 (behind (codes "services") services_rows) path ≡ Some r → Is r path
in_services = ended_or_below (codes "services") names_rows Services (refl, refl) s_literal names_apart (λ rest r e.
    let g = found_between the_names (codes "operations") more_literal (omega arith) rest r e in
    made r the_names (codes "services/" ++ rest) g.part g.found_is (g.is_part, ap (λ (l : List ℕ). codes "/api/services/" ++ l) g.path_is))

in_traces : (path : List ℕ) (r : Found) → seek 0 from_traces path ≡ Some r → Is r path
in_traces = ended_or_below (codes "traces") trace_rows Traces (refl, refl) t_literal trace_apart (λ rest r e.
    let g = found_last the_trace rest r e in
    made r the_trace (codes "traces/" ++ rest) rest g.1 (g.0, refl))

in_all : (path : List ℕ) (r : Found) → seek 0 all_rows path ≡ Some r → Is r path
in_all path r e = one (found_in_either 100 (codes "ependencies") dependencies_rows from_operations d_literal d_apart path r e)
  where
    three : (seek 0 (behind (codes "services") services_rows) path ≡ Some r) ⊎ (seek 0 from_traces path ≡ Some r) → Is r path
    three (inl h) = in_services path r h
    three (inr h) = in_traces path r h

    two : (seek 0 (behind (codes "operations") operations_rows) path ≡ Some r) ⊎ (seek 0 from_services path ≡ Some r) → Is r path
    two (inl h) = in_operations path r h
    two (inr h) = three (found_in_either 115 (codes "ervices") services_rows from_traces s_literal s_apart path r h)

    one : (seek 0 (behind (codes "dependencies") dependencies_rows) path ≡ Some r) ⊎ (seek 0 from_operations path ≡ Some r) → Is r path
    one (inl h) = in_dependencies path r h
    one (inr h) = two (found_in_either 111 (codes "perations") operations_rows from_services o_literal o_apart path r h)

-- what is found is a path of its endpoint
pub endpoint_found : (path : List ℕ) (r : RouteOf Endpoint) → seek 0 endpoint_rows path ≡ Some r → (part : List ℕ) × IsPath r.value part path
endpoint_found path r e =
    let f = found_behind (codes "/api/") all_rows path r api (sym (ap (λ x. seek 0 x path) split) ∙ e) in
    let g = in_all f.0 r f.2 in
    (g.0, subst (λ (p : List ℕ). IsPath r.value g.0 p) (sym f.1) g.1)

along : (rest : List ℕ) → seek 0 endpoint_rows (codes "/api/" ++ rest) ≡ seek 0 all_rows rest
along rest = ap (λ x. seek 0 x (codes "/api/" ++ rest)) split ∙ seek_behind (codes "/api/") all_rows rest api

some_none : (r : Found) → Some r ≡ None → ⊥
some_none r e = absurd cc

trace_there : (part path : List ℕ) → IsPath Trace part path → seek 0 endpoint_rows path ≡ None → ⊥
trace_there part path p n =
    let e : seek 0 endpoint_rows (codes "/api/" ++ (codes "traces/" ++ part)) ≡ None = subst (λ (x : List ℕ). seek 0 endpoint_rows x ≡ None) p.1 n in
    let walk : seek 0 all_rows (codes "traces/" ++ part) ≡ seek 0 trace_rows part =
    seek_second 100 (codes "ependencies") dependencies_rows from_operations d_literal d_apart 116 (codes "races/" ++ part) refl
    ∙ seek_second 111 (codes "perations") operations_rows from_services o_literal o_apart 116 (codes "races/" ++ part) refl
    ∙ seek_second 115 (codes "ervices") services_rows from_traces s_literal s_apart 116 (codes "races/" ++ part) refl
    ∙ seek_behind (codes "traces") traces_rows (47 ∷ part) t_literal
    ∙ seek_first 47 [] trace_rows traces_end slash_literal trace_apart part in
    part_last the_trace part p.0 (sym (along (codes "traces/" ++ part) ∙ walk) ∙ e)

names_there : (part path : List ℕ) → IsPath OperationNames part path → seek 0 endpoint_rows path ≡ None → ⊥
names_there part path p n =
    let e : seek 0 endpoint_rows (codes "/api/" ++ (codes "services/" ++ (part ++ codes "/operations"))) ≡ None =
    subst (λ (x : List ℕ). seek 0 endpoint_rows x ≡ None) p.1 n in
    let walk : seek 0 all_rows (codes "services/" ++ (part ++ codes "/operations")) ≡ seek 0 names_rows (part ++ codes "/operations") =
    seek_second 100 (codes "ependencies") dependencies_rows from_operations d_literal d_apart 115 (codes "ervices/" ++ (part ++ codes "/operations")) refl
    ∙ seek_second 111 (codes "perations") operations_rows from_services o_literal o_apart 115 (codes "ervices/" ++ (part ++ codes "/operations")) refl
    ∙ seek_first 115 (codes "ervices") services_rows from_traces s_literal s_apart (47 ∷ (part ++ codes "/operations"))
    ∙ seek_first 47 [] names_rows services_end slash_literal names_apart (part ++ codes "/operations") in
    part_between the_names (codes "operations") more_literal (omega arith) part p.0
    (sym (along (codes "services/" ++ (part ++ codes "/operations")) ∙ walk) ∙ e)

-- a path of an endpoint is found
pub endpoint_there : (e : Endpoint) (part path : List ℕ) → IsPath e part path → seek 0 endpoint_rows path ≡ None → ⊥
unfolding seek param_step
endpoint_there Traces part path p n =
    let e : seek 0 endpoint_rows (codes "/api/traces") ≡ None = subst (λ (x : List ℕ). seek 0 endpoint_rows x ≡ None) p.1 n in
    some_none _ e
endpoint_there Services part path p n =
    let e : seek 0 endpoint_rows (codes "/api/services") ≡ None = subst (λ (x : List ℕ). seek 0 endpoint_rows x ≡ None) p.1 n in
    some_none _ e
endpoint_there Operations part path p n =
    let e : seek 0 endpoint_rows (codes "/api/operations") ≡ None = subst (λ (x : List ℕ). seek 0 endpoint_rows x ≡ None) p.1 n in
    some_none _ e
endpoint_there Dependencies part path p n =
    let e : seek 0 endpoint_rows (codes "/api/dependencies") ≡ None = subst (λ (x : List ℕ). seek 0 endpoint_rows x ≡ None) p.1 n in
    some_none _ e
endpoint_there Trace part path p n = trace_there part path p n
endpoint_there OperationNames part path p n = names_there part path p n
