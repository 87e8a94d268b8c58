-- Terms of the laws of adjusting.
use Rattle.std.specs.Prelude.{◌≡◌, ℕ, pos, ◌+ℤ◌, ◌≤ℤ◌, Bool, true, List, [], map, Option, Some, None, IsSomeAnd, option_map}
use Rattle.trace_model.specs.ServiceLinks.{parent_in}
use Rattle.jaeger_model.specs.declared.span.Log.{Log}
use Rattle.jaeger_model.specs.declared.placed.Placed.{Placed}
use Rattle.trace_model.specs.declared.clock.Clock.{Clock}
use Rattle.trace_model.specs.Adjusting.{host_of, clock_at, clock_below}

-- a root's clock is that of its own host, and any other span's follows from its parent's
abbrev pub clock_by : ℕ → (Placed → Option Clock) → Placed → Option Placed → Option Clock
clock_by max_skew above p None = Some (clock_at max_skew (host_of p) (pos 0) p.span)
clock_by max_skew above p (Some q) = option_map (λ c. clock_below max_skew c p) (above q)

-- the parents of these spans are among them
abbrev pub ParentsAmong : List Placed → (Placed → Bool) → Type 0
ParentsAmong trace among = (p : Placed) → among p ≡ true → IsSomeAnd (parent_in trace p) (λ q. among q ≡ true)

-- a span without its times and without the order of its references
abbrev pub still_log : Log → Log
still_log l = record { at = pos 0; fields = l.fields }

abbrev pub still : Placed → Placed
still p = record { process = p.process; span = record p.span { references = []; start = pos 0; logs = map still_log p.span.logs } }

-- p starts no earlier than q, and ends no later unless it is the longer one
pub record IsInTime (p q : Placed) : Type 0 where
  pub begins : q.span.start ≤ℤ p.span.start
  pub ends : p.span.duration ≤ℤ q.span.duration → (p.span.start +ℤ p.span.duration) ≤ℤ (q.span.start +ℤ q.span.duration)
