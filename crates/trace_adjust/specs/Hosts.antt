-- Numbers for the hosts of the spans of a trace, and deltas by these numbers.
use Rattle.std.specs.Prelude.{◌≡◌, ◌+◌, ◌<◌, ℕ, List, [], ◌∷◌, get_or, slice_get, map, take, not, ◌||◌, ◌==◌, Option, Some, ℤ}
use Rattle.std.specs.Prelude.{if◌then◌else◌}
use Rattle.jaeger_model.specs.declared.placed.Placed.{Placed}
use Rattle.jaeger_model.specs.Texts.{same_text}
use Rattle.trace_model.specs.Adjusting.{host_of, delta_between}
use Rattle.trace_adjust.specs.declared.clock.HostedSpan.{HostedSpan}
use Rattle.trace_adjust.specs.declared.known_deltas.KnownDelta.{KnownDelta}
use Rattle.trace_adjust.specs.KnownClocks.{first_place, start_with}

-- the hosts of the spans, after the empty one
abbrev pub hosts_of : List Placed → List (List ℕ)
hosts_of trace = [] ∷ map host_of trace

-- the number of a host: its first place
abbrev pub number_in : List (List ℕ) → List ℕ → Option ℕ
number_in hosts host = first_place (same_text host) hosts

-- each span has the number of its host
abbrev pub AreHostNumbers : List (List ℕ) → List Placed → List ℕ → Type 0
AreHostNumbers hosts trace ns = map Some ns ≡ map (λ p. number_in hosts (host_of p)) trace

-- the number is that of the host of one of the first spans, whose process has the key
pub record IsHostKept (trace : List Placed) (keys : List ℕ) (count key number : ℕ) : Type 0 where
  pub index : ℕ
  pub before : index < count
  pub stands : slice_get keys index ≡ Some key
  pub host : number_in (hosts_of (take count trace)) (get_or (hosts_of trace) (index + 1) []) ≡ Some number

-- each number is that of the key for which it is stored
abbrev pub AreKept : List Placed → List ℕ → ℕ → (ℕ → Option ℕ) → Type 0
AreKept trace keys count kept = (key number : ℕ) → kept key ≡ Some number → IsHostKept trace keys count key number

-- the delta of a span by its parent and the parent's delta
abbrev pub delta_by : HostedSpan → KnownDelta → HostedSpan → ℤ
delta_by above known below =
    let parent = above.placed.now.span in
    let span = below.placed.now.span in
    if (below.host_number == 0) || not (below.host_number == above.host_number)
    then delta_between (start_with known parent) parent.duration span.start span.duration
    else known.delta
