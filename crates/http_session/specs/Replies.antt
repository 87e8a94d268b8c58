-- Replies, and the bytes of their responses.
use Rattle.std.specs.Prelude.{ℕ, ◌==◌, ◌||◌, List, [], ◌++◌, Bool, true, false, if◌then◌else◌, Some, None, codes}
use Rattle.serde_json.specs.Written.{compact_text}
use Rattle.batch_codec.specs.Faults.{fault_text}
use Rattle.trace_model.specs.declared.answer.Answer.{Answer}
use Rattle.trace_model.specs.declared.answer.Answer.TheVariants as give
use Rattle.trace_model.specs.declared.refusal.Refusal.{Refusal}
use Rattle.trace_model.specs.declared.refusal.Refusal.TheVariants as why
use Rattle.http_requests.specs.declared.request.RequestFault.{RequestFault}
use Rattle.http_requests.specs.declared.request.RequestFault.TheVariants as fault
use Rattle.query_http.specs.declared.paths.Endpoint.{Endpoint}
use Rattle.query_http.specs.Faults.{parameter_name}
use Rattle.query_http.specs.Responses.{response}
use Rattle.query_http.specs.Statuses.{refusal_status}
use Rattle.answer_trees.specs.Trees.{answer_tree, error_tree}
use Rattle.http_session.specs.Verdicts.{takes_post}
use Rattle.http_session.specs.declared.verdict.ErrorReply.{ErrorReply}
use Rattle.http_session.specs.declared.verdict.ErrorReply.TheVariants.{NoSuchPath, MethodNotAllowed, UnsupportedMediaType, BadBatch, BadParameter, NoMemory}
use Rattle.http_session.specs.declared.reply.Reply.{Reply}
use Rattle.http_session.specs.declared.reply.Reply.TheVariants.{Accepted, Answered, Refused, Error, NoRequest}

abbrev pub refusal_message : Refusal → List ℕ
refusal_message (why.JournalFull batches spans) = codes "journal full"
refusal_message (why.Stale last) = codes "internal error"
refusal_message why.NoMemory = codes "out of memory"
refusal_message why.Deferred = codes "deferred"
refusal_message why.Busy = codes "busy"
refusal_message why.Closed = codes "closed"
refusal_message why.Stranger = codes "internal error"
refusal_message why.NoReply = codes "internal error"
refusal_message (why.Behind front) = codes "internal error"
refusal_message (why.Conflict place) = codes "conflict"
refusal_message why.Gone = codes "internal error"

abbrev pub error_status : ErrorReply → ℕ
error_status NoSuchPath = 404
error_status (MethodNotAllowed e) = 405
error_status UnsupportedMediaType = 415
error_status (BadBatch f) = 400
error_status (BadParameter p) = 400
error_status NoMemory = 500

abbrev pub error_message : ErrorReply → List ℕ
error_message NoSuchPath = codes "no such path"
error_message (MethodNotAllowed e) = codes "method not allowed"
error_message UnsupportedMediaType = codes "unsupported content type"
error_message (BadBatch f) = codes "batch refused: " ++ fault_text f
error_message (BadParameter p) = codes "bad parameter: " ++ parameter_name p
error_message NoMemory = codes "out of memory"

abbrev pub fault_status : RequestFault → ℕ
fault_status fault.Head = 400
fault_status fault.Body = 400
fault_status fault.TooLarge = 413

abbrev pub fault_message : RequestFault → List ℕ
fault_message fault.Head = codes "bad request head"
fault_message fault.Body = codes "bad request body"
fault_message fault.TooLarge = codes "body too large"

abbrev pub answer_status : Answer → ℕ
answer_status (give.Trace None) = 404
answer_status (give.Trace (Some t)) = 200
answer_status (give.Names ns) = 200
answer_status (give.Operations os) = 200
answer_status (give.Traces ts) = 200
answer_status (give.Ids ids) = 200
answer_status (give.Links ls) = 200

abbrev pub status_of : Reply → ℕ
status_of Accepted = 202
status_of (Answered a) = answer_status a
status_of (Refused r) = refusal_status r
status_of (Error error) = error_status error
status_of (NoRequest b) = fault_status b

abbrev pub error_body : ℕ → List ℕ → List ℕ
error_body status message = compact_text (error_tree status message)

abbrev pub body_of : Reply → List ℕ
body_of Accepted = []
body_of (Answered a) = compact_text (answer_tree a)
body_of (Refused r) = error_body (refusal_status r) (refusal_message r)
body_of (Error error) = error_body (error_status error) (error_message error)
body_of (NoRequest b) = error_body (fault_status b) (fault_message b)

-- the methods that the endpoint takes
abbrev pub methods_of : Endpoint → List ℕ
methods_of e = if takes_post e then codes "GET, POST" else codes "GET"

abbrev pub allowed_by : ErrorReply → List ℕ
allowed_by (MethodNotAllowed e) = methods_of e
allowed_by NoSuchPath = []
allowed_by UnsupportedMediaType = []
allowed_by (BadBatch f) = []
allowed_by (BadParameter p) = []
allowed_by NoMemory = []

-- the methods of the endpoint, if the request's is none of them
abbrev pub allow_of : Reply → List ℕ
allow_of (Error error) = allowed_by error
allow_of Accepted = []
allow_of (Answered a) = []
allow_of (Refused r) = []
allow_of (NoRequest b) = []

abbrev pub error_closes : ErrorReply → Bool
error_closes (MethodNotAllowed e) = true
error_closes NoSuchPath = false
error_closes UnsupportedMediaType = false
error_closes (BadBatch f) = false
error_closes (BadParameter p) = false
error_closes NoMemory = false

-- the session closes after these, whatever the request asks
abbrev pub closes : Reply → Bool
closes (Error error) = error_closes error
closes (NoRequest b) = true
closes Accepted = false
closes (Answered a) = false
closes (Refused r) = false

-- the responses 202 and 500 need no memory
abbrev pub takes_no_memory : Reply → Bool
takes_no_memory r = status_of r == 202 || status_of r == 500

unfoldable pub response_of : Reply → Bool → List ℕ
response_of r close = response (status_of r) (body_of r) (allow_of r) close
