-- The delta by which each span of a trace moves.
use Rattle.std.specs.Prelude.{◌≡◌, ◌<◌, ℕ, ℤ, pos, Bool, false, List, length, get_or, take}
use Rattle.std.specs.Prelude.{if◌then◌else◌}
use Rattle.std.specs.List.{list_any}
use Rattle.jaeger_model.specs.declared.placed.Placed.{Placed}
use Rattle.trace_model.specs.ServiceLinks.{has_id}
use Rattle.trace_model.specs.Adjusting.{shifted, shown_after}

-- for each span, whether a span before it has its id
abbrev pub AreRepeated : List Placed → List Bool → Type 0
AreRepeated trace marks =
    (length marks ≡ length trace) × ((k : ℕ) (d : Placed) → k < length trace → get_or marks k false
    ≡ list_any (has_id (get_or trace k d).span.id) (take k trace))

-- the deltas with 0 where there is a mark
abbrev pub IsZeroWhere : List Bool → List ℤ → List ℤ → Type 0
IsZeroWhere marks old new =
    (length new ≡ length old) × ((k : ℕ) → k < length old → get_or new k (pos 0) ≡ (if get_or marks k false then pos 0 else get_or old k (pos 0)))

-- each span, moved by its delta, is what is shown of it
abbrev pub AreDeltas : ℕ → List Placed → List ℤ → Type 0
AreDeltas max_skew trace deltas =
    (length deltas ≡ length trace) × ((k : ℕ) (d : Placed) → k < length trace → shifted max_skew (get_or deltas k (pos 0)) (get_or trace k d)
    ≡ shown_after max_skew trace (take k trace) (get_or trace k d))
