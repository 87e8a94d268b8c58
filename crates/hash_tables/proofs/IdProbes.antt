-- Ids among the rows of a table.
use Rattle.std.proofs.Common.{◌≡◌, ℕ, ◌<◌, true, List, length, get_or, Option, Some, None, refl, sym, ap, ◌∙◌, inl, inr, arith}
use Rattle.std.specs.Prelude.{position}
use Rattle.std.specs.List.{position_or_len}
use Rattle.std.proofs.lemmas.Bool.{cases_lt, cond_below, cond_above}
use Rattle.std.proofs.lemmas.Bool.Decides.{not_from_Decides}
use Rattle.std.proofs.lemmas.List.{get_or-map}
use Rattle.std.proofs.lemmas.List.Sums.{fails_before_first}
use Rattle.jaeger_model.specs.declared.ids.TraceId.{TraceId}
use Rattle.std.specs.declared.random_state.RandomState.{RandomState}
use Rattle.jaeger_model.specs.Parents.{same_trace}
use Rattle.jaeger_model.specs.SameLaws.{same_trace-decides}
use Rattle.hash_tables.specs.RowPlaces.{Found, AreOnce}
use Rattle.hash_tables.proofs.DistinctRows.{row_none, row_some}
use Rattle.hash_tables.specs.IdRows.{no_id, id_at}
use Rattle.hash_tables.specs.IdProbes.{hash_of, hashes_of}

pub same_is : (a b : TraceId) → same_trace a b ≡ true → a ≡ b
same_is a b = (same_trace-decides a b).0

-- positions
pub position_none : (id : TraceId) (ids : List TraceId) → ((r : ℕ) → r < length ids → id_at ids r ≡ id → ⊥) → None ≡ position (same_trace id) ids
position_none id ids nowhere =
    let e = row_none same_trace same_trace-decides no_id id ids nowhere in
    cond_above (position_or_len (same_trace id) ids) (length ids) (Some (position_or_len (same_trace id) ids)) None None (omega arith) refl

pub position_some : (id : TraceId) (ids : List TraceId) (r : ℕ) → r < length ids → id_at ids r ≡ id → AreOnce no_id ids → Some r ≡ position (same_trace id) ids
position_some id ids r rn is once =
    let e = row_some same_trace same_trace-decides no_id id ids r rn is once in
    ap (λ p. Some p) (sym e) ∙ cond_below (position_or_len (same_trace id) ids) (length ids) (Some (position_or_len (same_trace id) ids)) None (omega arith)

pub absent_nowhere : (id : TraceId) (ids : List TraceId) → position (same_trace id) ids ≡ None → (r : ℕ) → r < length ids → id_at ids r ≡ id → ⊥
absent_nowhere id ids none r rn is =
    elim (cases_lt (position_or_len (same_trace id) ids) (length ids)) [
      | inl below ↦
          let clash = cond_below (position_or_len (same_trace id) ids) (length ids) (Some (position_or_len (same_trace id) ids)) None below ∙ none in
          absurd cc
      | inr past ↦ not_from_Decides (same_trace id (id_at ids r)) (same_trace-decides id (id_at ids r))
          (fails_before_first (same_trace id) ids r no_id (omega arith)) (sym is)
    ]

-- what is found among the ids is the row of the id
pub found_at : (ids : List TraceId) (id : TraceId) → AreOnce no_id ids → (r : Option ℕ) → Found (length ids) (λ row. same_trace (id_at ids row) id) r
    → r ≡ position (same_trace id) ids
found_at ids id once (Some r) f = position_some id ids r f.0 (same_is (id_at ids r) id f.1) once
found_at ids id once None f = position_none id ids (λ r below. not_from_Decides (same_trace (id_at ids r) id) (same_trace-decides (id_at ids r) id) (f r below))

-- ids that are the same have the same hash
pub same_hash : (keys : RandomState) (ids : List TraceId) (id : TraceId) (row : ℕ) → row < length ids → same_trace (id_at ids row) id ≡ true
    → get_or (hashes_of keys ids) row 0 ≡ hash_of keys id
same_hash keys ids id row below e = get_or-map (hash_of keys) ids row no_id 0 below ∙ ap (hash_of keys) (same_is (id_at ids row) id e)
