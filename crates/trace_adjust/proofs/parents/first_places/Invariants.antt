use Rattle.std.proofs.Common.{◌≡◌, ◌<◌, ℕ, false, length, get_or, take}
use Rattle.std.specs.Ordering.{nat_cmp}
use Rattle.std.specs.BTreeMap.{get}
use Rattle.std.specs.List.{list_any}
use Rattle.jaeger_model.specs.declared.placed.Placed.{Placed}
use Rattle.trace_model.specs.ServiceLinks.{has_id}
use Rattle.trace_adjust.specs.KnownClocks.{first_at}
use Rattle.trace_adjust.proofs.parents.first_places.Given as goal

abbrev pub invariant-loop-place : goal.invariant-loop-place
invariant-loop-place l = record {
  first : (id : ℕ) → get nat_cmp l.places id ≡ first_at id (take l.place l.trace);
  many : length l.repeated.items ≡ l.place;
  repeated : (k : ℕ) → k < l.place → (d : Placed) → get_or l.repeated.items k false ≡ list_any (has_id (get_or l.trace k d).span.id) (take k l.trace);
}
