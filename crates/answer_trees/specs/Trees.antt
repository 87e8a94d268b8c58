-- The JSON trees of answers and errors, as Jaeger's query interface returns them: one definition for each
-- kind of object, its keys in the order of their bytes.
use Rattle.std.specs.Prelude.{ℕ, ℤ, pos, negsuc, suc, ◌-◌, ◌^◌, List, [], ◌∷◌, map, length, Option, Some, None, codes}
use Rattle.serde_json.specs.Data.{Data, null, boolean, number, string, array, object, unsigned, Members, member, no_members, put}
use Rattle.serde_json.specs.Find.{of_integer}
use Rattle.serde_json.specs.View.{items_of}
use Rattle.jaeger_model.specs.declared.ids.TraceId.{TraceId}
use Rattle.jaeger_model.specs.declared.batch.Process.{Process}
use Rattle.jaeger_model.specs.declared.span.Log.{Log}
use Rattle.jaeger_model.specs.declared.span.RefKind.{RefKind}
use Rattle.jaeger_model.specs.declared.span.RefKind.TheVariants.{ChildOf, FollowsFrom}
use Rattle.jaeger_model.specs.declared.span.SpanRef.{SpanRef}
use Rattle.jaeger_model.specs.declared.tag.Tag.{Tag}
use Rattle.jaeger_model.specs.declared.tag.Value.{Value}
use Rattle.jaeger_model.specs.declared.tag.Value.TheVariants as tagged
use Rattle.jaeger_model.specs.Ids.{span_text, trace_text}
use Rattle.jaeger_model.specs.Tags.{hex_text}
use Rattle.trace_model.specs.declared.answer.Shown.{Shown}
use Rattle.trace_model.specs.declared.answer.Operation.{Operation}
use Rattle.trace_model.specs.declared.answer.Link.{Link}
use Rattle.trace_model.specs.declared.answer.Answer.{Answer}
use Rattle.trace_model.specs.declared.answer.Answer.TheVariants as say
use Rattle.query_http.specs.Statuses.{code_of}
use Rattle.query_http.specs.declared.status.Status.TheVariants as status
use Rattle.answer_trees.specs.ProcessNames.{distinct, place, process_name}

abbrev pub list : List Data → Data
list ds = array (items_of ds)

abbrev pub text_list : List (List ℕ) → Data
text_list ts = list (map string ts)

-- ---- a trace

abbrev pub type_name : Value → List ℕ
type_name (tagged.Text t) = codes "string"
type_name (tagged.Double bytes) = codes "float64"
type_name (tagged.Bool b) = codes "bool"
type_name (tagged.Long z) = codes "int64"
type_name (tagged.Bytes bytes) = codes "binary"

-- a double's sixteen digits and bytes as text, an integer as a number, however large
abbrev pub value_tree : Value → Data
value_tree (tagged.Text t) = string t
value_tree (tagged.Double bytes) = string (hex_text bytes)
value_tree (tagged.Bool b) = boolean b
value_tree (tagged.Long z) = number (of_integer z)
value_tree (tagged.Bytes bytes) = string (hex_text bytes)

abbrev pub tag_tree : Tag → Data
tag_tree t = object (
    member (codes "key") (string t.key) (
    member (codes "type") (string (type_name t.value)) (
    member (codes "value") (value_tree t.value) no_members)))

abbrev pub log_tree : Log → Data
log_tree l = object (
    member (codes "fields") (list (map tag_tree l.fields)) (
    member (codes "timestamp") (number (of_integer l.at)) no_members))

abbrev pub kind_name : RefKind → List ℕ
kind_name ChildOf = codes "CHILD_OF"
kind_name FollowsFrom = codes "FOLLOWS_FROM"

abbrev pub reference_tree : SpanRef → Data
reference_tree r = object (
    member (codes "refType") (string (kind_name r.kind)) (
    member (codes "spanID") (string (span_text r.id)) (
    member (codes "traceID") (string (trace_text r.trace)) no_members)))

abbrev pub process_tree : Process → Data
process_tree p = object (
    member (codes "serviceName") (string p.service) (
    member (codes "tags") (list (map tag_tree p.tags)) no_members))

-- the number below 2 ^ 32 of the same 32 bits
abbrev pub flags_number : ℤ → ℕ
flags_number (pos n) = n
flags_number (negsuc n) = 2 ^ 32 - suc n

-- a list of texts, or null if there are none
abbrev pub warnings_tree : List (List ℕ) → Data
warnings_tree [] = null
warnings_tree (w ∷ ws) = text_list (w ∷ ws)

-- a span in a trace of these processes
abbrev pub span_tree : List Process → Shown → Data
span_tree ps s = object (
    member (codes "duration") (number (of_integer s.placed.span.duration)) (
    member (codes "flags") (number (unsigned (flags_number s.placed.span.flags))) (
    member (codes "logs") (list (map log_tree s.placed.span.logs)) (
    member (codes "operationName") (string s.placed.span.operation) (
    member (codes "processID") (string (process_name (place s.placed.process ps))) (
    member (codes "references") (list (map reference_tree s.placed.span.references)) (
    member (codes "spanID") (string (span_text s.placed.span.id)) (
    member (codes "startTime") (number (of_integer s.placed.span.start)) (
    member (codes "tags") (list (map tag_tree s.placed.span.tags)) (
    member (codes "traceID") (string (trace_text s.placed.span.trace)) (
    member (codes "warnings") (warnings_tree s.warnings) no_members)))))))))))

-- the processes by their names, counted from the k-th
abbrev pub processes_by_name : ℕ → List Process → Members → Members
processes_by_name k [] ms = ms
processes_by_name k (p ∷ ps) ms = processes_by_name (suc k) ps (put (process_name k) (process_tree p) ms)

abbrev pub processes_tree : List Process → Data
processes_tree ps = object (processes_by_name 0 ps no_members)

abbrev pub process_of : Shown → Process
process_of s = s.placed.process

-- the processes of these spans, each once, by first appearance
abbrev pub processes_of : List Shown → List Process
processes_of ss = distinct (map process_of ss)

-- the id of a trace is that of its first span; each trace of an answer has one
abbrev pub trace_id_text : List Shown → List ℕ
trace_id_text [] = []
trace_id_text (s ∷ ss) = trace_text s.placed.span.trace

-- a trace of these named processes and spans
abbrev pub trace_object : Data → Data → List ℕ → Data
trace_object processes spans id = object (
    member (codes "processes") processes (
    member (codes "spans") spans (
    member (codes "traceID") (string id) (
    member (codes "warnings") null no_members))))

abbrev pub trace_tree : List Shown → Data
trace_tree ss = trace_object (processes_tree (processes_of ss)) (list (map (span_tree (processes_of ss)) ss)) (trace_id_text ss)

-- ---- other answers

abbrev pub operation_tree : Operation → Data
operation_tree o = object (
    member (codes "name") (string o.name) (
    member (codes "spanKind") (string o.kind) no_members))

abbrev pub link_tree : Link → Data
link_tree l = object (
    member (codes "callCount") (number (unsigned l.calls)) (
    member (codes "child") (string l.child) (
    member (codes "parent") (string l.parent) no_members)))

abbrev pub id_tree : TraceId → Data
id_tree t = string (trace_text t)

-- ---- answers and errors

-- n items, no errors
abbrev pub items_tree : List Data → Data
items_tree items = object (
    member (codes "data") (list items) (
    member (codes "errors") null (
    member (codes "limit") (number (unsigned 0)) (
    member (codes "offset") (number (unsigned 0)) (
    member (codes "total") (number (unsigned (length items))) no_members)))))

abbrev pub refused_tree : ℕ → List ℕ → Data
refused_tree code msg = object (
    member (codes "code") (number (unsigned code)) (
    member (codes "msg") (string msg) no_members))

abbrev pub error_tree : ℕ → List ℕ → Data
error_tree code msg = object (
    member (codes "data") null (
    member (codes "errors") (list (refused_tree code msg ∷ [])) (
    member (codes "limit") (number (unsigned 0)) (
    member (codes "offset") (number (unsigned 0)) (
    member (codes "total") (number (unsigned 0)) no_members)))))

-- a trace that wasn't found is an error
abbrev pub found_tree : Option (List Shown) → Data
found_tree None = error_tree (code_of status.NotFound) (codes "trace not found")
found_tree (Some ss) = items_tree (trace_tree ss ∷ [])

abbrev pub answer_tree : Answer → Data
answer_tree (say.Trace t) = found_tree t
answer_tree (say.Names ns) = items_tree (map string ns)
answer_tree (say.Operations os) = items_tree (map operation_tree os)
answer_tree (say.Traces ts) = items_tree (map trace_tree ts)
answer_tree (say.Ids ts) = items_tree (map id_tree ts)
answer_tree (say.Links ls) = items_tree (map link_tree ls)
