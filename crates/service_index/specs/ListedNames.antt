-- What was reported, as a sorted set, and the answers from it.
use Rattle.std.specs.Prelude.{ℕ, Bool, ◌&&◌, List, map, filter}
use Rattle.std.specs.declared.cmp.Ordering.{Ordering}
use Rattle.std.specs.Ordering.{ordering_then}
use Rattle.jaeger_model.specs.declared.placed.Placed.{Placed}
use Rattle.jaeger_model.specs.Texts.{same_text, text_cmp, sorted_set}
use Rattle.trace_model.specs.declared.answer.Operation.{Operation}
use Rattle.trace_model.specs.Names.{operation_of, operation_cmp, same_operation, is_asked_kind}

-- an operation of a service
pub record Listed : Type 0 where
  pub service : List ℕ
  pub operation : Operation

-- by service, then by operation
abbrev pub listed_cmp : Listed → Listed → Ordering
listed_cmp a b = ordering_then (text_cmp a.service b.service) (operation_cmp a.operation b.operation)

abbrev pub same_listed : Listed → Listed → Bool
same_listed a b = same_text a.service b.service && same_operation a.operation b.operation

abbrev pub listed : Placed → Listed
listed p = record { service = p.process.service; operation = operation_of p }

-- what these arrivals reported
abbrev pub listed_in : List Placed → List Listed
listed_in ps = sorted_set listed_cmp (map listed ps)

-- ---- the answers
abbrev pub services_in : List Listed → List (List ℕ)
services_in ls = sorted_set text_cmp (map (λ (l : Listed). l.service) ls)

-- the operations of a service
abbrev pub operations_of : List ℕ → List Listed → List Operation
operations_of service ls = map (λ (l : Listed). l.operation) (filter (λ (l : Listed). same_text service l.service) ls)

abbrev pub names_of : List Operation → List (List ℕ)
names_of os = sorted_set text_cmp (map (λ (o : Operation). o.name) os)

abbrev pub names_in : List ℕ → List Listed → List (List ℕ)
names_in service ls = names_of (operations_of service ls)

-- an empty kind matches all
abbrev pub operations_in : List ℕ → List ℕ → List Listed → List Operation
operations_in service kind ls = filter (is_asked_kind kind) (sorted_set operation_cmp (operations_of service ls))
