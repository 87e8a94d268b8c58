-- The query that a GET of a target asks. Its paths are those that query_http states as facts: a law says so.
use Rattle.std.specs.Prelude.{ℕ, ◌-◌, ◌==◌, ◌&&◌, Bool, not, List, [], ◌∷◌, ◌++◌, length, take, drop, Option, Some, None, Result, Ok, Err, if◌then◌else◌}
use Rattle.std.specs.Prelude.{nat_lt, codes}
use Rattle.std.specs.List.{list_all}
use Rattle.std.specs.Option.{option_map_or}
use Rattle.jaeger_model.specs.Texts.{Pairs, same_text}
use Rattle.trace_model.specs.declared.query.Query.{Query}
use Rattle.query_http.specs.declared.fault.Parameter.{Parameter}
use Rattle.query_http.specs.declared.paths.Endpoint.{Endpoint}
use Rattle.query_http.specs.declared.paths.Endpoint.TheVariants.{Traces, Trace, Services, OperationNames, Operations, Dependencies}
use Rattle.query_http.specs.QueryStrings.{pairs_of}
use Rattle.query_http.specs.Queries.{query_at, path_of, query_string_of}
use Rattle.step_lines.specs.declared.fault.StepFault.{StepFault}
use Rattle.step_lines.specs.declared.fault.StepFault.TheVariants.{NoSuchPath, BadParameter}

-- ---- paths

-- one part of a path: it isn't empty, and no slash is in it
abbrev pub is_part : List ℕ → Bool
is_part part = nat_lt 0 (length part) && list_all (λ b. not (b == 47)) part

-- the path is this text, and has no part
abbrev pub whole : List ℕ → List ℕ → Option (List ℕ)
whole text path = if same_text path text then Some [] else None

-- the path without `front` bytes at its start and `end` bytes at its end
abbrev pub inner_part : ℕ → ℕ → List ℕ → List ℕ
inner_part front end path = take (length path - front - end) (drop front path)

-- this part, if the path is the two texts around it
abbrev pub part_if : List ℕ → List ℕ → List ℕ → List ℕ → Option (List ℕ)
part_if front end path part = if is_part part && same_text path (front ++ (part ++ end)) then Some part else None

-- the part of the path between two texts
abbrev pub between : List ℕ → List ℕ → List ℕ → Option (List ℕ)
between front end path = part_if front end path (inner_part (length front) (length end) path)

-- the part of the path for an endpoint, empty if the endpoint's path has none; None for another path
abbrev pub part_at : Endpoint → List ℕ → Option (List ℕ)
part_at Traces path = whole (codes "/api/traces") path
part_at Trace path = between (codes "/api/traces/") [] path
part_at Services path = whole (codes "/api/services") path
part_at OperationNames path = between (codes "/api/services/") (codes "/operations") path
part_at Operations path = whole (codes "/api/operations") path
part_at Dependencies path = whole (codes "/api/dependencies") path

-- the endpoint among these that has the path, with the path's part
abbrev pub endpoint_among : List Endpoint → List ℕ → Option (Endpoint × List ℕ)
endpoint_among [] path = None
endpoint_among (e ∷ es) path = option_map_or (λ (part : List ℕ). Some (e, part)) (part_at e path) (endpoint_among es path)

unfoldable pub endpoint_of : List ℕ → Option (Endpoint × List ℕ)
endpoint_of path = endpoint_among (Traces ∷ Trace ∷ Services ∷ OperationNames ∷ Operations ∷ Dependencies ∷ []) path

-- ---- targets

abbrev pub of_parameter : Result Query Parameter → Result Query StepFault
of_parameter (Ok query) = Ok query
of_parameter (Err parameter) = Err (BadParameter parameter)

abbrev pub query_for : Option (Endpoint × List ℕ) → Pairs → Result Query StepFault
query_for None pairs = Err NoSuchPath
query_for (Some place) pairs = of_parameter (query_at place.0 place.1 pairs)

-- the query of the path's endpoint, or the first parameter that can't be read
unfoldable pub query_in : List ℕ → Result Query StepFault
query_in target = query_for (endpoint_of (path_of target)) (pairs_of (query_string_of target))
