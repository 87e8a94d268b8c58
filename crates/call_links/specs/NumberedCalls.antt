-- Services and calls of spans that were collected, each service with the number that represents it.
use Rattle.std.specs.Prelude.{◌≡◌, ℕ, Bool, false, List, [], map, flat_map, filter_map, find, Option, Some, None, option_map, if◌then◌else◌, ◌==◌, IfSome}
use Rattle.std.specs.List.{All, AllByRecursion}
use denote.Ref.{Bor}
use Rattle.jaeger_model.specs.declared.placed.Placed.{Placed}
use Rattle.jaeger_model.specs.Parents.{parent}
use Rattle.trace_model.specs.declared.answer.Link.{Link}
use Rattle.trace_model.specs.ServiceLinks.{has_id, calls_of, counted}
use Rattle.trace_model.specs.TakenSpans.{Taken}

-- a service: its number and its text
abbrev pub NumberedService : Type 0
NumberedService = ℕ × List ℕ

-- the service of a span, if there is one
abbrev pub text_in : Option Placed → List ℕ
text_in None = []
text_in (Some p) = p.process.service

abbrev pub service_in : Taken → NumberedService
service_in s = (s.number, text_in s.span)

abbrev pub service_seen : Bor Taken → NumberedService
service_seen s = service_in s.now

-- the span is there, and has this id and this parent's id
abbrev pub HasIds : ℕ → ℕ → Option Placed → Type 0
HasIds id parent_id o =
    (Some id ≡ option_map (λ (p : Placed). p.span.id.0) o) × (Some parent_id ≡ option_map (λ (p : Placed). (parent p.span).0) o)

-- the span is there, and has this id
abbrev pub has_span_id : ℕ → Option Placed → Bool
has_span_id id None = false
has_span_id id (Some p) = has_id (record { 0 = id }) p

-- the service of the first span with the id
abbrev pub service_of : ℕ → List Taken → Option NumberedService
service_of id ss = option_map service_in (find (λ s. has_span_id id s.span) ss)

abbrev pub CallSpans : Type 0
CallSpans = Bor Taken × Bor Taken

abbrev pub NumberedCall : Type 0
NumberedCall = NumberedService × NumberedService

abbrev pub numbered_call : CallSpans → NumberedCall
numbered_call c = (service_seen c.0, service_seen c.1)

-- services with one number do not call each other
abbrev pub call_between : Option NumberedService → NumberedService → Option NumberedCall
call_between None callee = None
call_between (Some caller) callee = if caller.0 == callee.0 then None else Some (caller, callee)

-- the call that a span represents, if a table has the services of the spans by their ids
abbrev pub call_in : (ℕ → Option NumberedService) → ℕ → Option Placed → Option NumberedCall
call_in service number None = None
call_in service number (Some p) = if (parent p.span).0 == 0 then None else call_between (service (parent p.span).0) (number, p.process.service)

abbrev pub call_by : (ℕ → Option NumberedService) → Taken → Option NumberedCall
call_by service s = call_in service s.number s.span

-- ---- the calls of a trace, and of traces
abbrev pub calls_in_trace : List Taken → List NumberedCall
calls_in_trace ss = filter_map (call_by (λ id. service_of id ss)) ss

abbrev pub calls_in_traces : List (List Taken) → List NumberedCall
calls_in_traces ts = flat_map calls_in_trace ts

-- the number of calls from each service of the traces to each other one
abbrev pub links_in : List (List Placed) → List Link
links_in ts = counted (flat_map calls_of ts)

-- ---- the texts and the numbers of a call
abbrev pub texts_called : NumberedCall → List ℕ × List ℕ
texts_called c = (c.0.1, c.1.1)

abbrev pub numbers_called : NumberedCall → ℕ × ℕ
numbers_called c = (c.0.0, c.1.0)

-- ---- numbers that represent services
-- the number is its text's, and the text its number's
abbrev pub StandsFor : (ℕ → List ℕ) → (List ℕ → ℕ) → NumberedService → Type 0
StandsFor text number t = (t.0 ≡ number t.1) × (text t.0 ≡ t.1)

abbrev pub AreCallsNumberedBy : (ℕ → List ℕ) → (List ℕ → ℕ) → List NumberedCall → Type 0
AreCallsNumberedBy text number cs = AllByRecursion (λ (c : NumberedCall). StandsFor text number c.0 × StandsFor text number c.1) cs

abbrev pub IsNumberedBy : (ℕ → List ℕ) → (List ℕ → ℕ) → Taken → Type 0
IsNumberedBy text number s = IfSome s.span (λ (p : Placed). StandsFor text number (s.number, p.process.service))

abbrev pub AreNumberedBy : (ℕ → List ℕ) → (List ℕ → ℕ) → List (List Taken) → Type 0
AreNumberedBy text number ts = All (λ (t : List Taken). All (IsNumberedBy text number) t) ts

-- each service of the spans has one number, and each number represents one service
abbrev pub AreServicesNumbered : List (List Taken) → Type 0
AreServicesNumbered ts = (text : ℕ → List ℕ) × ((number : List ℕ → ℕ) × AreNumberedBy text number ts)
