-- The names of parameters.
use Rattle.std.specs.Prelude.{ℕ, List, codes}
use Rattle.query_http.specs.declared.fault.Parameter.{Parameter}
use Rattle.query_http.specs.declared.fault.Parameter.TheVariants.{TraceId, Service, Start, End, Limit, MinDuration, MaxDuration, Tag, Tags, EndTs, Lookback}

abbrev pub parameter_name : Parameter → List ℕ
parameter_name TraceId = codes "traceID"
parameter_name Service = codes "service"
parameter_name Start = codes "start"
parameter_name End = codes "end"
parameter_name Limit = codes "limit"
parameter_name MinDuration = codes "minDuration"
parameter_name MaxDuration = codes "maxDuration"
parameter_name Tag = codes "tag"
parameter_name Tags = codes "tags"
parameter_name EndTs = codes "endTs"
parameter_name Lookback = codes "lookback"
