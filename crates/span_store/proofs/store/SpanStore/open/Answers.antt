use Rattle.std.proofs.Common.{ℤ, List, length, sym, ap, subst, ◌∙◌, arith}
use Rattle.jaeger_model.specs.declared.ids.TraceId.{TraceId}
use Rattle.trace_model.specs.LimitedHistories.{LimitedHistory}
use Rattle.span_store.specs.StoreIndexes.{IsStoreKept}
use Rattle.span_store.proofs.store.SpanStore.open.Goals as goal

pub invariant_of-result : goal.invariant_of-result
invariant_of-result c =
    let shown = c.in_ok-shown.ensures in
    subst (λ (h : LimitedHistory). IsStoreKept h c.in_ok-shown.shown c.in_ok-starts.starts c.in_ok-named.named.0 c.in_ok-named.named.1)
    (sym c.in_ok-journal.ensures) (record {
      room = shown.room;
      used = shown.used;
      follows = record { limit = shown.limit; ring = shown.ids; spots = shown.spots };
      first = c.in_ok-starts.ensures.starts;
      counted = record {
        as_many = ap (λ (l : List ℤ). length l) c.in_ok-starts.ensures.starts ∙ sym (ap (λ (l : List TraceId). length l) shown.ids);
        few = omega (arith, c.in_ok-starts.ensures.used);
        same_room = c.in_ok-starts.ensures.room ∙ sym shown.room;
      };
      ranged = λ k t at. tt;
      named = c.in_ok-named.ensures.named;
      placed = c.in_ok-named.ensures.placed;
    })
