-- The numbers of statuses (RFC 9110, section 15), and the status of each refusal of the store.
use Rattle.std.specs.Prelude.{ℕ}
use Rattle.trace_model.specs.declared.refusal.Refusal.{Refusal}
use Rattle.trace_model.specs.declared.refusal.Refusal.TheVariants as why
use Rattle.query_http.specs.declared.status.Status.{Status}
use Rattle.query_http.specs.declared.status.Status.TheVariants as status

abbrev pub code_of : Status → ℕ
code_of status.Ok = 200
code_of status.Accepted = 202
code_of status.BadRequest = 400
code_of status.NotFound = 404
code_of status.MethodNotAllowed = 405
code_of status.Conflict = 409
code_of status.ContentTooLarge = 413
code_of status.UnsupportedMediaType = 415
code_of status.InternalServerError = 500
code_of status.ServiceUnavailable = 503

-- the number of the status of a response to a request that the store refused
abbrev pub refusal_status : Refusal → ℕ
refusal_status (why.JournalFull batches spans) = 503
refusal_status (why.Stale last) = 500
refusal_status why.NoMemory = 500
refusal_status why.Deferred = 503
refusal_status why.Busy = 503
refusal_status why.Closed = 503
refusal_status why.Stranger = 500
refusal_status why.NoReply = 500
refusal_status (why.Behind front) = 500
refusal_status (why.Conflict place) = 409
refusal_status why.Gone = 500
