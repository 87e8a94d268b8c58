-- The paths of the query interface, as facts about texts.
use Rattle.std.specs.Prelude.{◌≡◌, ◌≢◌, ℕ, ◌<◌, List, [], ◌∷◌, ◌++◌, length, codes}
use Rattle.matchit.specs.Rows.{RowsOf}
use Rattle.matchit.specs.Router.{RouteOf}
use Rattle.query_http.specs.declared.paths.Endpoint.{Endpoint}
use Rattle.query_http.specs.declared.paths.Endpoint.TheVariants.{Traces, Trace, Services, OperationNames, Operations, Dependencies}
use Rattle.std.specs.List.{AllByRecursion}

-- one part of a path: it isn't empty, and no slash is in it
pub record IsSegment (part : List ℕ) : Type 0 where
  pub some : 0 < length part
  pub plain : AllByRecursion (λ b. b ≢ 47) part

-- the path of an endpoint, with this part if it has one
abbrev pub IsPath : Endpoint → List ℕ → List ℕ → Type 0
IsPath Traces part path = (part ≡ []) × (path ≡ codes "/api/traces")
IsPath Trace part path = IsSegment part × (path ≡ codes "/api/traces/" ++ part)
IsPath Services part path = (part ≡ []) × (path ≡ codes "/api/services")
IsPath OperationNames part path = IsSegment part × (path ≡ codes "/api/services/" ++ (part ++ codes "/operations"))
IsPath Operations part path = (part ≡ []) × (path ≡ codes "/api/operations")
IsPath Dependencies part path = (part ≡ []) × (path ≡ codes "/api/dependencies")

-- no endpoint has the path
abbrev pub IsNoPath : List ℕ → Type 0
IsNoPath path = (e : Endpoint) (part : List ℕ) → IsPath e part path → ⊥

-- a route of the router: the pattern with 256 in place of a part, and the text with the part's name
abbrev pub literal_row : List ℕ → Endpoint → List ℕ × RouteOf Endpoint
literal_row text e = (text, record { pattern = text; text = text; names = []; value = e })

abbrev pub trace_pattern : List ℕ
trace_pattern = codes "/api/traces/" ++ 256 ∷ []

abbrev pub names_pattern : List ℕ
names_pattern = codes "/api/services/" ++ 256 ∷ codes "/operations"

-- the routes of the router
abbrev pub endpoint_rows : RowsOf (RouteOf Endpoint)
endpoint_rows =
    literal_row (codes "/api/dependencies") Dependencies
    ∷ literal_row (codes "/api/operations") Operations
    ∷ (names_pattern, record { pattern = names_pattern; text = codes "/api/services/{service}/operations"; names = (15, 22) ∷ []; value = OperationNames })
    ∷ literal_row (codes "/api/services") Services
    ∷ (trace_pattern, record { pattern = trace_pattern; text = codes "/api/traces/{id}"; names = (13, 15) ∷ []; value = Trace })
    ∷ literal_row (codes "/api/traces") Traces
    ∷ []
