-- What each trace has after a row was opened or written.
use Rattle.std.proofs.Common.{◌≡◌, ℕ, ◌+◌, ◌<◌, ◌≤◌, true, false, cond, nat_lt, List, [], ◌∷◌, ◌++◌, length, get_or, refl, sym, ap, ◌∙◌, inl, inr, arith}
use Rattle.std.proofs.Common.{Option, Some, None, length-append}
use Rattle.std.specs.Prelude.{IfSome, position, if◌then◌else◌}
use Rattle.std.specs.List.{position_or_len}
use Rattle.std.proofs.Math.ListN.{set}
use Rattle.std.proofs.lemmas.Bool.{false≢true, lt-ltb, cases_eq}
use Rattle.std.proofs.lemmas.List.{length-set, get_or-set_same, get_or-set_other, get_or_append_left, get_or_push}
use Rattle.std.proofs.lemmas.List.Quantifiers.{position-Some}
use Rattle.std.proofs.lemmas.List.Sums.{position_or_len_is}
use Rattle.jaeger_model.specs.declared.ids.TraceId.{TraceId}
use Rattle.jaeger_model.specs.Parents.{same_trace}
use Rattle.trace_model.proofs.ShownOfTrace.{same_is, same_self}
use Rattle.hash_tables.specs.IdRows.{no_id, id_at}
use Rattle.hash_tables.proofs.IdProbes.{absent_nowhere}
use Rattle.trace_model.specs.Rings.{holds}
use Rattle.trace_ring.specs.declared.ring.Evicted.{Evicted}
use Rattle.trace_ring.specs.RingValues.{opened_by, evicted_trace}
use Rattle.trace_ring.proofs.RingPlaces.{row_is, row_within}
use Rattle.trace_assembly.specs.declared.spot.Spot.{Spot}
use Rattle.trace_assembly.specs.AssembledRows.{spots_in_row, rows_after_eviction, with_spot}
use Rattle.trace_assembly.specs.LocatedSpans.{after_eviction}
use Rattle.std.specs.Cmp.{decided}
use Rattle.jaeger_model.specs.SameLaws.{same_trace-decides}

pub same_swap : (a b : TraceId) → same_trace a b ≡ same_trace b a
same_swap = (decided same_trace same_trace-decides).symm

-- a trace stays where it was first seen, however many come after it
still_first : (t : TraceId) (ids : List TraceId) (id : TraceId) (row : ℕ) → position (same_trace t) ids ≡ Some row
    → position (same_trace t) (ids ++ id ∷ []) ≡ Some row
still_first t ids id row e =
    let f = position-Some (same_trace t) ids row no_id e in
    let l = length-append ids (id ∷ []) in
    let old : (r : ℕ) → r < length ids → id_at (ids ++ id ∷ []) r ≡ id_at ids r = λ r less. get_or_append_left ids (id ∷ []) no_id r less in
    let is : position_or_len (same_trace t) (ids ++ id ∷ []) ≡ row =
    position_or_len_is (same_trace t) (ids ++ id ∷ []) row no_id (omega (arith, f.0, l))
    (λ k below. ap (same_trace t) (old k (omega (arith, f.0))) ∙ f.2 k below) (λ _. ap (same_trace t) (old row f.0) ∙ f.1) in
    ap (λ p. cond (nat_lt p (length (ids ++ id ∷ []))) (Some p) None) is
    ∙ ap (λ b. cond b (Some row) None) (lt-ltb row (length (ids ++ id ∷ [])) (omega (arith, f.0, l)))

-- a row that is opened has no spots, and each trace keeps its own
spots_opened : (ids : List TraceId) (chains : List (List Spot)) (id t : TraceId) → length chains ≡ length ids
    → spots_in_row (chains ++ [] ∷ []) (position (same_trace t) (ids ++ id ∷ [])) ≡ spots_in_row chains (position (same_trace t) ids)
spots_opened ids chains id t as_many = go (position (same_trace t) ids) refl
  where
    l : length (ids ++ id ∷ []) ≡ length ids + 1
    l = length-append ids (id ∷ [])

    at_end : (o : Option ℕ) → position (same_trace t) (ids ++ id ∷ []) ≡ o → position (same_trace t) ids ≡ None → spots_in_row (chains ++ [] ∷ []) o ≡ []
    at_end None e none = refl
    at_end (Some row) e none =
        let within = row_within t (ids ++ id ∷ []) row e in
        let is = row_is t (ids ++ id ∷ []) row e in
        elim (cases_eq row (length ids)) [
          | inl last ↦ get_or_push chains [] [] row (as_many ∙ sym last)
          | inr apart ↦ absurd (absent_nowhere t ids none row (omega (arith, l)) (sym (get_or_append_left ids (id ∷ []) no_id row (omega (arith, l))) ∙ is))
        ]

    go : (o : Option ℕ) → position (same_trace t) ids ≡ o
        → spots_in_row (chains ++ [] ∷ []) (position (same_trace t) (ids ++ id ∷ [])) ≡ spots_in_row chains (position (same_trace t) ids)
    go None e = at_end (position (same_trace t) (ids ++ id ∷ [])) refl e ∙ ap (spots_in_row chains) (sym e)
    go (Some row) e =
        let within = row_within t ids row e in
        ap (spots_in_row (chains ++ [] ∷ [])) (still_first t ids id row e) ∙ get_or_append_left chains ([] ∷ []) [] row (omega (arith, as_many))
        ∙ ap (spots_in_row chains) (sym e)

-- a trace that is new gets a row of its own, and each trace keeps its spots
pub rows_opened : (old now : List TraceId) (chains rows : List (List Spot)) (trace : TraceId) → length chains ≡ length old → now ≡ opened_by old trace
    → (length chains < length now → rows ≡ chains ++ [] ∷ []) → (length now ≤ length chains → rows ≡ chains)
    → (length rows ≡ length now) × ((t : TraceId) → spots_in_row rows (position (same_trace t) now) ≡ spots_in_row chains (position (same_trace t) old))
rows_opened old now chains rows trace as_many is opened same =
    elim (holds old trace) as (λ b. now ≡ (if b then old else old ++ trace ∷ []) → (length rows ≡ length now)
    × ((t : TraceId) → spots_in_row rows (position (same_trace t) now) ≡ spots_in_row chains (position (same_trace t) old))) [
      | true ↦ λ e.
          let kept = same (omega (arith, ap length e, as_many)) in
          (ap length kept ∙ as_many ∙ sym (ap length e), λ t i. spots_in_row (kept i) (position (same_trace t) (e i)))
      | false ↦ λ e.
          let l = length-append old (trace ∷ []) in
          let more = opened (omega (arith, ap length e, l, as_many)) in (
            omega (arith, ap length more, length-append chains ([] ∷ []), ap length e, l, as_many),
            λ t. (λ i. spots_in_row (more i) (position (same_trace t) (e i))) ∙ spots_opened old chains trace t as_many,
          )
    ] is

-- at most one more trace was seen
pub seen_opened : (old : List TraceId) (trace : TraceId) → length (opened_by old trace) ≤ length old + 1
seen_opened old trace = elim (holds old trace) as (λ b. length (if b then old else old ++ trace ∷ []) ≤ length old + 1) [
  | true ↦ omega arith
  | false ↦ omega (arith, length-append old (trace ∷ []))
]

-- no row is removed if a trace leaves
pub rows_left : (left : Option Evicted) (chains : List (List Spot)) → length (rows_after_eviction left chains) ≡ length chains
rows_left None chains = refl
rows_left (Some gone) chains = length-set chains gone.row []

-- the row of one trace is written
spots_written : (ids : List TraceId) (chains : List (List Spot)) (trace t : TraceId) (row : ℕ) (spots : List Spot) → length chains ≡ length ids
    → position (same_trace trace) ids ≡ Some row
    → spots_in_row (set chains row spots) (position (same_trace t) ids)
    ≡ (if same_trace t trace then spots else spots_in_row chains (position (same_trace t) ids))
spots_written ids chains trace t row spots as_many at =
    elim (same_trace t trace) as (λ b. same_trace t trace ≡ b
    → spots_in_row (set chains row spots) (position (same_trace t) ids) ≡ (if b then spots else spots_in_row chains (position (same_trace t) ids))) [
      | true ↦ λ e.
          let within = row_within trace ids row at in
          ap (λ (x : TraceId). spots_in_row (set chains row spots) (position (same_trace x) ids)) (same_is t trace e)
          ∙ ap (spots_in_row (set chains row spots)) at
          ∙ get_or-set_same chains row spots [] (omega (arith, as_many))
      | false ↦ λ e. other e (position (same_trace t) ids) refl
    ] refl
  where
    other : same_trace t trace ≡ false → (o : Option ℕ) → position (same_trace t) ids ≡ o
        → spots_in_row (set chains row spots) (position (same_trace t) ids) ≡ spots_in_row chains (position (same_trace t) ids)
    other e None none = ap (spots_in_row (set chains row spots)) none ∙ ap (spots_in_row chains) (sym none)
    other e (Some q) found =
        let apart : q ≡ row → ⊥ = λ same.
        let is : t ≡ trace = sym (row_is t ids q found) ∙ ap (id_at ids) same ∙ row_is trace ids row at in
        false≢true (sym e ∙ ap (λ (x : TraceId). same_trace x trace) is ∙ same_self trace) in
        ap (spots_in_row (set chains row spots)) found ∙ get_or-set_other chains row q spots [] apart ∙ ap (spots_in_row chains) (sym found)

-- one more spot of a trace with a row
spots_added : (ids : List TraceId) (chains : List (List Spot)) (trace t : TraceId) (row : ℕ) (spot : Spot) → length chains ≡ length ids
    → position (same_trace trace) ids ≡ Some row
    → spots_in_row (set chains row (get_or chains row [] ++ spot ∷ [])) (position (same_trace t) ids) ≡ with_spot trace spot
    (λ u. spots_in_row chains (position (same_trace u) ids)) t
spots_added ids chains trace t row spot as_many at =
    spots_written ids chains trace t row (get_or chains row [] ++ spot ∷ []) as_many at
    ∙ elim (same_trace t trace) as (λ b. same_trace t trace ≡ b
    → (if b then get_or chains row [] ++ spot ∷ [] else spots_in_row chains (position (same_trace t) ids))
    ≡ (if b then spots_in_row chains (position (same_trace t) ids) ++ spot ∷ [] else spots_in_row chains (position (same_trace t) ids))) [
      | true ↦ λ e. ap (λ l. l ++ spot ∷ [])
          (sym (ap (λ (x : TraceId). spots_in_row chains (position (same_trace x) ids)) (same_is t trace e) ∙ ap (spots_in_row chains) at))
      | false ↦ λ _. refl
    ] refl

-- the trace that left has no spots
length_left : (left : Option Evicted) (chains : List (List Spot)) → length (rows_after_eviction left chains) ≡ length chains
length_left None chains = refl
length_left (Some gone) chains = length-set chains gone.row []

pub spots_left : (ids : List TraceId) (chains : List (List Spot)) (left : Option Evicted) (t : TraceId) → length chains ≡ length ids
    → IfSome left (λ gone. position (same_trace gone.trace) ids ≡ Some gone.row)
    → spots_in_row (rows_after_eviction left chains) (position (same_trace t) ids) ≡ after_eviction (evicted_trace left)
    (λ u. spots_in_row chains (position (same_trace u) ids)) t
spots_left ids chains None t as_many at = refl
spots_left ids chains (Some gone) t as_many at = spots_written ids chains gone.trace t gone.row [] as_many at

-- one trace leaves, if one does, and then another one has one more spot
pub spots_arrived : (ids : List TraceId) (chains : List (List Spot)) (left : Option Evicted) (trace t : TraceId) (row : ℕ) (spot : Spot)
    (spots : TraceId → List Spot) → length chains ≡ length ids
    → IfSome left (λ gone. position (same_trace gone.trace) ids ≡ Some gone.row) → position (same_trace trace) ids ≡ Some row
    → ((u : TraceId) → spots_in_row chains (position (same_trace u) ids) ≡ spots u)
    → spots_in_row (set (rows_after_eviction left chains) row (get_or (rows_after_eviction left chains) row [] ++ spot ∷ [])) (position (same_trace t) ids)
    ≡ with_spot trace spot (after_eviction (evicted_trace left) spots) t
spots_arrived ids chains left trace t row spot spots as_many gone at same =
    spots_added ids (rows_after_eviction left chains) trace t row spot (length_left left chains ∙ as_many) at
    ∙ (λ i. with_spot trace spot (λ u. spots_left ids chains left u as_many gone i) t)
    ∙ (λ i. with_spot trace spot (after_eviction (evicted_trace left) (λ u. same u i)) t)
