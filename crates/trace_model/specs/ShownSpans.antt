-- Which spans are shown.
use Rattle.std.specs.Prelude.{ℕ, Bool, false, List, [], ◌∷◌, ◌++◌, filter, Option, Some, None, if◌then◌else◌}
use Rattle.std.specs.List.{list_all}
use Rattle.jaeger_model.specs.declared.ids.TraceId.{TraceId}
use Rattle.jaeger_model.specs.declared.placed.Placed.{Placed}
use Rattle.jaeger_model.specs.Parents.{same_trace}
use Rattle.trace_model.specs.Events.{Event, came, limited, without_limits}
use Rattle.trace_model.specs.Rings.{holds, limited_ring}

abbrev pub trace_of : Placed → TraceId
trace_of p = p.span.trace

-- the newest traces after these events, if the limit was n before them
abbrev pub ring : ℕ → List (Event Placed) → List TraceId
ring n es = (limited_ring trace_of n es).ids

-- the limit after them
abbrev pub limit_after : ℕ → List (Event Placed) → ℕ
limit_after n es = (limited_ring trace_of n es).limit

-- the prefixes of before ++ rest that are longer than before
abbrev pub longer_prefixes : {X : Type 0} → List X → List X → List (List X)
longer_prefixes before [] = []
longer_prefixes before (x ∷ rest) = (before ++ x ∷ []) ∷ longer_prefixes (before ++ x ∷ []) rest

-- those of rest that pass the test in every prefix that holds them, counting those of `before` as earlier
abbrev pub lasting_after : {X : Type 0} → (List X → X → Bool) → List X → List X → List X
lasting_after keeps before [] = []
lasting_after keeps before (x ∷ rest) =
    if list_all (λ xs. keeps xs x) (longer_prefixes before (x ∷ rest)) then x ∷ lasting_after keeps (before ++ x ∷ []) rest else lasting_after keeps
    (before ++ x ∷ []) rest

-- after these events the trace of the item is in the ring
abbrev pub is_in_ring : {A : Type 0} → (A → TraceId) → ℕ → List (Event A) → Event A → Bool
is_in_ring trace n es (came x) = holds (limited_ring trace n es).ids (trace x)
is_in_ring trace n es (limited m) = false

-- an item is shown if its trace is in the ring after every prefix that holds it, also those that end with a limit
abbrev pub shown_by : {A : Type 0} → (A → TraceId) → ℕ → List (Event A) → List A
shown_by trace n es = without_limits (lasting_after (is_in_ring trace n) [] es)

-- the spans that are shown
abbrev pub shown : ℕ → List (Event Placed) → List Placed
shown n es = shown_by trace_of n es

abbrev pub of_trace : TraceId → List Placed → List Placed
of_trace t ps = filter (λ p. same_trace t (trace_of p)) ps

-- the spans, or None if there are none
abbrev pub if_any : {X : Type 0} → List X → Option (List X)
if_any [] = None
if_any (x ∷ xs) = Some (x ∷ xs)

abbrev pub spans_of_trace : ℕ → List (Event Placed) → TraceId → List Placed
spans_of_trace n es t = of_trace t (shown n es)

-- the shown spans of a trace; none if it has no such span
abbrev pub trace_found : ℕ → List (Event Placed) → TraceId → Option (List Placed)
trace_found n es t = if_any (spans_of_trace n es t)
