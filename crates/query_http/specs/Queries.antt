-- The query of a request to an endpoint, or the first invalid parameter. The defaults are digits on purpose: they state
-- the values of the constants in src/query.rt a second time.
use Rattle.std.specs.Prelude.{ℕ, ℤ, pos, List, [], ◌∷◌, ◌++◌, Bool, ◌||◌, Option, Some, None, Result, Ok, Err, unwrap_or, codes, if◌then◌else◌}
use Rattle.std.specs.Str.{is_utf8}
use Rattle.percent_encoding.specs.Percent.{percent_decode}
use Rattle.serde_json.specs.Data.{Data, null, boolean, number, string, array, object, Members, no_members, member}
use Rattle.serde_json.specs.Read.{read}
use Rattle.jaeger_model.specs.Ids.{read_trace}
use Rattle.jaeger_model.specs.Texts.{Pairs, same_text, split_once}
use Rattle.trace_model.specs.declared.query.Find.{Find}
use Rattle.trace_model.specs.declared.query.Query.{Query}
use Rattle.trace_model.specs.declared.query.Query.TheVariants as ask
use Rattle.query_http.specs.declared.fault.Parameter.{Parameter}
use Rattle.query_http.specs.declared.fault.Parameter.TheVariants as bad
use Rattle.query_http.specs.declared.paths.Endpoint.{Endpoint}
use Rattle.query_http.specs.declared.paths.Endpoint.TheVariants as at
use Rattle.query_http.specs.Faults.{parameter_name}
use Rattle.query_http.specs.QueryStrings.{parameter, given_values, question_mark, colon}
use Rattle.query_http.specs.Numbers.{read_number, read_duration}

infixl 10 ◌>>=◌
abbrev pub ◌>>=◌ : {A B E : Type 0} → Result A E → (A → Result B E) → Result B E
(Ok x) >>= f = f x
(Err e) >>= f = Err e

abbrev pub or_bad : {A : Type 0} → Parameter → Option A → Result A Parameter
or_bad p None = Err p
or_bad p (Some x) = Ok x

-- the parameter's value, absent if it is empty
abbrev pub parameter_value : Parameter → Pairs → Option (List ℕ)
parameter_value p ps = parameter (parameter_name p) ps

-- a required parameter
unfoldable pub required_parameter : Parameter → Pairs → Result (List ℕ) Parameter
required_parameter p ps = or_bad p (parameter_value p ps)

-- an optional parameter
abbrev pub text_parameter : List ℕ → Pairs → List ℕ
text_parameter name ps = unwrap_or (parameter name ps) []

abbrev pub optional_by : {A : Type 0} → Parameter → (List ℕ → Option A) → Option (List ℕ) → Result (Option A) Parameter
optional_by p read None = Ok None
optional_by p read (Some t) = or_bad p (read t) >>= λ x. Ok (Some x)

abbrev pub number_parameter : Parameter → Pairs → Result (Option ℕ) Parameter
number_parameter p ps = optional_by p read_number (parameter_value p ps)

abbrev pub duration_at : Parameter → Pairs → Result (Option ℕ) Parameter
duration_at p ps = optional_by p read_duration (parameter_value p ps)

-- an optional parameter as a signed number
abbrev pub time_of : Option ℕ → Option ℤ
time_of None = None
time_of (Some n) = Some (pos n)

abbrev pub with_time : Result (Option ℕ) Parameter → Result (Option ℤ) Parameter
with_time (Ok n) = Ok (time_of n)
with_time (Err p) = Err p

-- a bound on starts, in microseconds
unfoldable pub time_at : Parameter → Pairs → Result (Option ℤ) Parameter
time_at p ps = with_time (number_parameter p ps)

-- a bound on durations, in microseconds; 0 if it is absent
unfoldable pub length_at : Parameter → Pairs → Result ℤ Parameter
length_at p ps = with_time (duration_at p ps) >>= λ d. Ok (unwrap_or d (pos 0))

-- the limit on the number of traces; 100 if it is absent
unfoldable pub limit_at : Pairs → Result ℕ Parameter
limit_at ps = number_parameter bad.Limit ps >>= λ n. Ok (unwrap_or n 100)

-- each `tag`, split at its first colon into a key and a text
abbrev pub tags_from : List (List ℕ) → Result Pairs Parameter
tags_from [] = Ok []
tags_from (t ∷ ts) = or_bad bad.Tag (split_once colon t) >>= λ p. tags_from ts >>= λ ps. Ok (p ∷ ps)

-- the members of an object, all of them texts, in the order of their keys
abbrev pub texts_in : Members → Option Pairs
texts_in no_members = Some []
texts_in (member k (string v) ms) = more (texts_in ms)
  where
    more : Option Pairs → Option Pairs
    more None = None
    more (Some ps) = Some ((k, v) ∷ ps)
texts_in (member k null ms) = None
texts_in (member k (boolean b) ms) = None
texts_in (member k (number n) ms) = None
texts_in (member k (array ds) ms) = None
texts_in (member k (object ns) ms) = None

abbrev pub object_texts : Option Data → Option Pairs
object_texts (Some (object ms)) = texts_in ms
object_texts (Some null) = None
object_texts (Some (boolean b)) = None
object_texts (Some (number n)) = None
object_texts (Some (string s)) = None
object_texts (Some (array ds)) = None
object_texts None = None

-- `tags`: a JSON object of texts
abbrev pub tags_object : Option (List ℕ) → Result Pairs Parameter
tags_object None = Ok []
tags_object (Some t) = or_bad bad.Tags (object_texts (read t))

-- the requested pairs of key and text: those of each `tag`, then those of `tags`
unfoldable pub tags_at : Pairs → Result Pairs Parameter
tags_at ps = do
  singles ← tags_from (given_values (codes "tag") ps)
  members ← tags_object (parameter_value bad.Tags ps)
  Ok (singles ++ members)

unfoldable pub find_at : Pairs → Result Find Parameter
find_at ps = do
  service ← required_parameter bad.Service ps
  start ← time_at bad.Start ps
  end ← time_at bad.End ps
  limit ← limit_at ps
  least ← length_at bad.MinDuration ps
  most ← length_at bad.MaxDuration ps
  tags ← tags_at ps
  Ok (record {
    service = service;
    operation = text_parameter (codes "operation") ps;
    tags = tags;
    start_min = start;
    start_max = end;
    duration_min = least;
    duration_max = most;
    limit = limit;
  })

abbrev pub is_yes : List ℕ → Bool
is_yes t =
    same_text t (codes "1") || same_text t (codes "t") || same_text t (codes "T") || same_text t (codes "true") || same_text t (codes "True")
    || same_text t (codes "TRUE")

abbrev pub raw_at : Pairs → Bool
raw_at ps = is_yes (text_parameter (codes "raw") ps)

-- a part of a path as text
unfoldable pub text_part : List ℕ → Result (List ℕ) Parameter
text_part part = if is_utf8 (percent_decode part) then Ok (percent_decode part) else Err bad.Service

unfoldable pub links_at : Pairs → Result Query Parameter
links_at ps = do
  end ← time_at bad.EndTs ps >>= or_bad bad.EndTs
  lookback ← time_at bad.Lookback ps
  Ok (ask.Links end (unwrap_or lookback (pos 86400000)))

unfoldable pub operations_at : Pairs → Result Query Parameter
operations_at ps = do
  service ← required_parameter bad.Service ps
  Ok (ask.Operations service (text_parameter (codes "spanKind") ps))

-- the query of an endpoint, from its path's part and its parameters
abbrev pub query_at : Endpoint → List ℕ → Pairs → Result Query Parameter
query_at at.Traces part ps = find_at ps >>= λ f. Ok (ask.Find f)
query_at at.Trace part ps = or_bad bad.TraceId (read_trace part) >>= λ id. Ok (ask.Trace id (raw_at ps))
query_at at.Services part ps = Ok ask.Services
query_at at.OperationNames part ps = text_part part >>= λ service. Ok (ask.OperationNames service)
query_at at.Operations part ps = operations_at ps
query_at at.Dependencies part ps = links_at ps

-- a target, split at its first `?`
abbrev pub path_of : List ℕ → List ℕ
path_of target = (unwrap_or (split_once question_mark target) (target, [])).0

abbrev pub query_string_of : List ℕ → List ℕ
query_string_of target = (unwrap_or (split_once question_mark target) (target, [])).1
