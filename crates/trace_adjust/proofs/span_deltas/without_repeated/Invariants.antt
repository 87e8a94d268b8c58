use Rattle.std.proofs.Common.{◌≡◌, ◌<◌, ◌≤◌, ℕ, pos, false, length, get_or}
use Rattle.std.specs.Prelude.{if◌then◌else◌}
use Rattle.trace_adjust.proofs.span_deltas.without_repeated.Given as goal

abbrev pub invariant-loop-place : goal.invariant-loop-place
invariant-loop-place l = record {
  many : length l.deltas.items ≡ length l.fn.deltas.items;
  done : (k : ℕ) → k < l.place → get_or l.deltas.items k (pos 0) ≡ (if get_or l.repeated k false then pos 0 else get_or l.fn.deltas.items k (pos 0));
  rest : (k : ℕ) → l.place ≤ k → get_or l.deltas.items k (pos 0) ≡ get_or l.fn.deltas.items k (pos 0);
}
