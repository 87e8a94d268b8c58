-- How the result of a function relates to the reading that defines it.
use Rattle.std.specs.Prelude.{◌≡◌, ℕ, List, Result, Ok, Err}
use Rattle.trace_model.specs.declared.query.Query.{Query}
use Rattle.query_http.specs.declared.fault.Parameter.{Parameter}
use Rattle.query_http.specs.declared.paths.Endpoint.{Endpoint}
use Rattle.query_http.specs.Paths.{IsPath, IsNoPath}
use Rattle.query_http.specs.QueryStrings.{pairs_of}
use Rattle.query_http.specs.Queries.{query_at, path_of, query_string_of}
use Rattle.query_http.specs.declared.fault.QueryFault.{QueryFault}
use Rattle.query_http.specs.declared.fault.QueryFault.TheVariants.{NoPath, Bad, NoMemory}

-- the reading's value, or its invalid parameter, unless memory ran out
abbrev pub IsAsRead : {X Y : Type 0} → (X → Y) → Result X QueryFault → Result Y Parameter → Type 0
IsAsRead view (Ok x) read = read ≡ Ok (view x)
IsAsRead view (Err NoMemory) read = Unit {0}
IsAsRead view (Err (Bad p)) read = read ≡ Err p
IsAsRead view (Err NoPath) read = ⊥

-- the query of the path's endpoint with this part
pub record AsksEndpoint (target : List ℕ) (read : Result Query Parameter) : Type 0 where
  pub endpoint : Endpoint
  pub part : List ℕ
  pub path : IsPath endpoint part (path_of target)
  pub asked : query_at endpoint part (pairs_of (query_string_of target)) ≡ read

-- the query of a target: its endpoint's query, no path, or the first invalid parameter, unless memory ran out
abbrev pub AsksTarget : Result Query QueryFault → List ℕ → Type 0
AsksTarget (Ok q) target = AsksEndpoint target (Ok q)
AsksTarget (Err NoMemory) target = Unit {0}
AsksTarget (Err (Bad p)) target = AsksEndpoint target (Err p)
AsksTarget (Err NoPath) target = IsNoPath (path_of target)
