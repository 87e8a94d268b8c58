-- Spans that were collected from a store.
use Rattle.std.specs.Prelude.{ℕ, List, filter_map, map, Option}
use Rattle.jaeger_model.specs.declared.placed.Placed.{Placed}

-- a span, if there is one, and a number: the key of its process, or the number of its service
pub record Taken : Type 0 where
  pub span : Option Placed
  pub number : ℕ

-- the spans themselves
abbrev pub placed_taken : List Taken → List Placed
placed_taken ts = filter_map (λ (t : Taken). t.span) ts

-- their numbers
abbrev pub numbers_taken : List Taken → List ℕ
numbers_taken ts = map (λ (t : Taken). t.number) ts
