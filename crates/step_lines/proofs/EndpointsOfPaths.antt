-- The endpoint of a path and its part, as the facts of paths have them.
use Rattle.std.proofs.Common.{◌≡◌, ◌≢◌, ℕ, ◌==◌, ◌⊎◌, inl, inr, Bool, true, false, ◌&&◌, not, List, [], ◌∷◌, ◌++◌, length, Option, Some, None, codes}
use Rattle.std.proofs.Common.{if◌then◌else◌, refl, sym, ap, ◌∙◌, subst, arith, length-append, Result, Err, nat_lt}
use Rattle.std.specs.List.{AllByRecursion, list_all}
use Rattle.std.specs.Option.{option_map_or}
use Rattle.std.proofs.lemmas.Bool.{lt-ltb}
use Rattle.std.proofs.lemmas.Bool.Decides.{nat_tests}
use Rattle.std.proofs.lemmas.List.{append-nil, take_at, drop_at}
use Rattle.std.proofs.lemmas.Slice.Eq.{bytes_eq-Decides}
use Rattle.jaeger_model.specs.Texts.{same_text}
use Rattle.trace_model.specs.declared.query.Query.{Query}
use Rattle.query_http.specs.declared.fault.Parameter.{Parameter}
use Rattle.query_http.specs.declared.paths.Endpoint.{Endpoint}
use Rattle.query_http.specs.declared.paths.Endpoint.TheVariants.{Traces, Trace, Services, OperationNames, Operations, Dependencies}
use Rattle.query_http.specs.ReadResults.{AsksEndpoint}
use Rattle.query_http.specs.Paths.{IsSegment, IsPath, IsNoPath}
use Rattle.query_http.specs.Queries.{path_of}
use Rattle.query_http.proofs.PathLaws.{one_endpoint}
use Rattle.step_lines.specs.declared.fault.StepFault.TheVariants.{NoSuchPath}
use Rattle.step_lines.specs.Targets.{is_part, whole, inner_part, part_if, between, part_at, endpoint_among, endpoint_of, of_parameter, query_in}

-- ---- parts

plain_is : (part : List ℕ) → list_all (λ b. not (b == 47)) part ≡ true → AllByRecursion (λ b. b ≢ 47) part
plain_is [] h = tt
plain_is (b ∷ part) h = by (b == 47) refl h (plain_is part)
  where
    by : (v : Bool) → (b == 47) ≡ v → (not v && list_all (λ b. not (b == 47)) part) ≡ true
        → (list_all (λ b. not (b == 47)) part ≡ true → AllByRecursion (λ b. b ≢ 47) part) → AllByRecursion (λ b. b ≢ 47) (b ∷ part)
    by true e h ih = absurd cc
    by false e h ih = let other : b ≢ 47 = λ q. grind (arith, nat_tests) in (other, ih h)

plain_found : (part : List ℕ) → AllByRecursion (λ b. b ≢ 47) part → list_all (λ b. not (b == 47)) part ≡ true
plain_found [] h = refl
plain_found (b ∷ part) h = by (b == 47) refl (plain_found part h.1)
  where
    by : (v : Bool) → (b == 47) ≡ v → list_all (λ b. not (b == 47)) part ≡ true → (not v && list_all (λ b. not (b == 47)) part) ≡ true
    by true e ih = absurd (h.0 (grind (arith, nat_tests)))
    by false e ih = ih

is_part-from : (part : List ℕ) → IsSegment part → is_part part ≡ true
is_part-from part h =
    let some : nat_lt 0 (length part) ≡ true = lt-ltb _ _ h.some in
    rw (some, plain_found part h.plain) refl

IsSegment-from : (part : List ℕ) → is_part part ≡ true → IsSegment part
IsSegment-from part h = by (nat_lt 0 (length part)) refl h
  where
    by : (v : Bool) → nat_lt 0 (length part) ≡ v → (v && list_all (λ b. not (b == 47)) part) ≡ true → IsSegment part
    by true e h = record { some = grind (arith, nat_tests); plain = plain_is part h }
    by false e h = absurd cc

-- ---- paths

whole_is : (text path part : List ℕ) → whole text path ≡ Some part → (part ≡ []) × (path ≡ text)
whole_is text path part h = by (same_text path text) refl h
  where
    by : (v : Bool) → same_text path text ≡ v → (if v then Some [] else None) ≡ Some part → (part ≡ []) × (path ≡ text)
    by true e s = (cc, (bytes_eq-Decides path text).0 e)
    by false e s = absurd cc

whole_found : (text path part : List ℕ) → (part ≡ []) × (path ≡ text) → whole text path ≡ Some part
whole_found text path part h = rw ((bytes_eq-Decides path text).1 h.1, h.0) refl

part_if_is : (front end path p part : List ℕ) → part_if front end path p ≡ Some part → IsSegment part × (path ≡ front ++ (part ++ end))
part_if_is front end path p part h = by (is_part p) (same_text path (front ++ (p ++ end))) refl refl h
  where
    by : (v w : Bool) → is_part p ≡ v → same_text path (front ++ (p ++ end)) ≡ w → (if v && w then Some p else None) ≡ Some part → IsSegment part
        × (path ≡ front ++ (part ++ end))
    by true true i s h =
        let same : p ≡ part = cc in
        (subst IsSegment same (IsSegment-from p i), (bytes_eq-Decides path (front ++ (p ++ end))).0 s ∙ ap (λ (x : List ℕ). front ++ (x ++ end)) same)
    by true false i s h = absurd cc
    by false w i s h = absurd cc

inner_part_is : (front part end : List ℕ) → inner_part (length front) (length end) (front ++ (part ++ end)) ≡ part
inner_part_is front part end =
    rw (drop_at front (part ++ end) (length front) refl)
    (take_at part end _ (omega (arith, length-append front (part ++ end), length-append part end)))

between_found : (front end path part : List ℕ) → IsSegment part → path ≡ front ++ (part ++ end) → between front end path ≡ Some part
between_found front end path part is e =
    let found : inner_part (length front) (length end) path ≡ part = ap (inner_part (length front) (length end)) e ∙ inner_part_is front part end in
    ap (part_if front end path) found ∙ rw (is_part-from part is, (bytes_eq-Decides path (front ++ (part ++ end))).1 e) refl

-- the part makes it a path of the endpoint
part_is : (e : Endpoint) (path part : List ℕ) → part_at e path ≡ Some part → IsPath e part path
part_is Traces path part h = whole_is _ path part h
part_is Trace path part h =
    let is = part_if_is (codes "/api/traces/") [] path (inner_part (length (codes "/api/traces/")) (length {A = ℕ} []) path) part h in
    (is.0, is.1 ∙ ap (λ (x : List ℕ). codes "/api/traces/" ++ x) (append-nil part))
part_is Services path part h = whole_is _ path part h
part_is OperationNames path part h =
    part_if_is (codes "/api/services/") (codes "/operations") path (inner_part (length (codes "/api/services/")) (length (codes "/operations")) path) part h
part_is Operations path part h = whole_is _ path part h
part_is Dependencies path part h = whole_is _ path part h

part_found : (e : Endpoint) (path part : List ℕ) → IsPath e part path → part_at e path ≡ Some part
part_found Traces path part h = whole_found _ path part h
part_found Trace path part h =
    between_found (codes "/api/traces/") [] path part h.0 (h.1 ∙ ap (λ (x : List ℕ). codes "/api/traces/" ++ x) (sym (append-nil part)))
part_found Services path part h = whole_found _ path part h
part_found OperationNames path part h = between_found (codes "/api/services/") (codes "/operations") path part h.0 h.1
part_found Operations path part h = whole_found _ path part h
part_found Dependencies path part h = whole_found _ path part h

-- ---- places

-- e is one of them
abbrev Among : Endpoint → List Endpoint → Type 0
Among e [] = ⊥
Among e (f ∷ fs) = (e ≡ f) ⊎ Among e fs

found_among : (es : List Endpoint) (e : Endpoint) (part path : List ℕ) → IsPath e part path → Among e es → endpoint_among es path ≡ Some (e, part)
found_among [] e part path is among = absurd among
found_among (f ∷ fs) e part path is among = by (part_at f path) refl among (found_among fs e part path is)
  where
    by : (v : Option (List ℕ)) → part_at f path ≡ v → Among e (f ∷ fs) → (Among e fs → endpoint_among fs path ≡ Some (e, part))
        → option_map_or (λ (p : List ℕ). Some (f, p)) v (endpoint_among fs path) ≡ Some (e, part)
    by (Some p) h m ih =
        let one = one_endpoint f e p part path (part_is f path p h) is in
        rw (one.0, one.1) refl
    by None h (inl same) ih =
        let found : part_at e path ≡ Some part = part_found e path part is in
        let none : part_at e path ≡ None = ap (λ (x : Endpoint). part_at x path) same ∙ h in
        absurd cc
    by None h (inr m) ih = ih m

none_among : (es : List Endpoint) (path : List ℕ) → IsNoPath path → endpoint_among es path ≡ None
none_among [] path none = refl
none_among (f ∷ fs) path none = by (part_at f path) refl (none_among fs path none)
  where
    by : (v : Option (List ℕ)) → part_at f path ≡ v → endpoint_among fs path ≡ None
        → option_map_or (λ (p : List ℕ). Some (f, p)) v (endpoint_among fs path) ≡ None
    by (Some p) h ih = absurd (none f p (part_is f path p h))
    by None h ih = ih

is_among : (es : List Endpoint) (e : Endpoint) (part path : List ℕ) → endpoint_among es path ≡ Some (e, part) → IsPath e part path
is_among [] e part path h = absurd cc
is_among (f ∷ fs) e part path h = by (part_at f path) refl h (is_among fs e part path)
  where
    by : (v : Option (List ℕ)) → part_at f path ≡ v → option_map_or (λ (p : List ℕ). Some (f, p)) v (endpoint_among fs path) ≡ Some (e, part)
        → (endpoint_among fs path ≡ Some (e, part) → IsPath e part path) → IsPath e part path
    by (Some p) h m ih =
        let same : Path (Endpoint × List ℕ) (f, p) (e, part) = cc in
        subst (λ (x : Endpoint × List ℕ). IsPath x.0 x.1 path) same (part_is f path p h)
    by None h m ih = ih m

all_endpoints : List Endpoint
all_endpoints = Traces ∷ Trace ∷ Services ∷ OperationNames ∷ Operations ∷ Dependencies ∷ []

each_among : (e : Endpoint) → Among e all_endpoints
unfolding all_endpoints
each_among Traces = inl refl
each_among Trace = inr (inl refl)
each_among Services = inr (inr (inl refl))
each_among OperationNames = inr (inr (inr (inl refl)))
each_among Operations = inr (inr (inr (inr (inl refl))))
each_among Dependencies = inr (inr (inr (inr (inr (inl refl)))))

pub place_found : (e : Endpoint) (part path : List ℕ) → IsPath e part path → endpoint_of path ≡ Some (e, part)
unfolding endpoint_of all_endpoints
place_found e part path is = found_among all_endpoints e part path is (each_among e)

pub place_none : (path : List ℕ) → IsNoPath path → endpoint_of path ≡ None
unfolding endpoint_of all_endpoints
place_none path none = none_among all_endpoints path none

pub place_is : (e : Endpoint) (part path : List ℕ) → endpoint_of path ≡ Some (e, part) → IsPath e part path
unfolding endpoint_of all_endpoints
place_is e part path h = is_among all_endpoints e part path h

pub no_place : (path : List ℕ) → endpoint_of path ≡ None → IsNoPath path
no_place path h = λ e part is. let found = place_found e part path is in absurd cc

-- ---- targets

pub query_asked : (target : List ℕ) (read : Result Query Parameter) → AsksEndpoint target read → query_in target ≡ of_parameter read
unfolding query_in
query_asked target read a = rw (place_found a.endpoint a.part (path_of target) a.path, a.asked) refl

pub no_path_asked : (target : List ℕ) → IsNoPath (path_of target) → query_in target ≡ Err NoSuchPath
unfolding query_in
no_path_asked target none = rw (place_none (path_of target) none) refl
