-- The result of a search or a window does not depend on whether a span has its parent among its references.
use Rattle.std.proofs.Common.{◌≡◌, ℤ, Bool, true, false, ◌∷◌, refl}
use Rattle.std.specs.Prelude.{if◌then◌else◌}
use Rattle.jaeger_model.specs.declared.span.Span.{Span}
use Rattle.jaeger_model.specs.declared.placed.Placed.{Placed}
use Rattle.jaeger_model.specs.Parents.{needs_no_reference, parent_reference}
use Rattle.trace_model.specs.declared.query.Find.{Find}
use Rattle.trace_model.specs.Searching.{matches}
use Rattle.trace_model.specs.ServiceLinks.{in_window}
use Rattle.collected_traces.specs.AdoptedSpans.{adopted}

abbrev pub with_if : Bool → Span → Span
with_if b s = if b then s else record s { references = parent_reference s ∷ s.references }

abbrev pub placed_if : Bool → Placed → Placed
placed_if b p = record { process = p.process; span = with_if b p.span }

-- ---- searches
pub matches-adopted : (q : Find) (p : Placed) → matches q (adopted p) ≡ matches q p
matches-adopted q p = elim (needs_no_reference p.span) as (λ b. matches q (placed_if b p) ≡ matches q p) [ true ↦ refl | false ↦ refl ]

pub start-adopted : (p : Placed) → (adopted p).span.start ≡ p.span.start
start-adopted p = elim (needs_no_reference p.span) as (λ b. (placed_if b p).span.start ≡ p.span.start) [ true ↦ refl | false ↦ refl ]

-- ---- windows
pub window-adopted : (end_ms lookback_ms : ℤ) (p : Placed) → in_window end_ms lookback_ms (adopted p) ≡ in_window end_ms lookback_ms p
window-adopted end_ms lookback_ms p =
    elim (needs_no_reference p.span) as (λ b. in_window end_ms lookback_ms (placed_if b p) ≡ in_window end_ms lookback_ms p) [ true ↦ refl | false ↦ refl ]
