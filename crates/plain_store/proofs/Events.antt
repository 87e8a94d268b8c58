-- What is shown after one more event.
use Rattle.std.proofs.Common.{◌≡◌, ℕ, List, [], ◌∷◌, ◌++◌, ◌∙◌, ap, sym}
use Rattle.std.specs.Prelude.{IfOk, Result, Ok, Err}
use Rattle.jaeger_model.specs.declared.placed.Placed.{Placed}
use Rattle.trace_model.specs.Events.{Event, came, limited}
use Rattle.trace_model.specs.Rings.{arrive, newest}
use Rattle.trace_model.specs.ShownSpans.{trace_of}
use Rattle.trace_model.proofs.ShownByEvents.{ring_more, kept_more, ring_fewer, kept_fewer, limit_came, limit_limited}
use Rattle.plain_store.specs.Events.{in_ring, Shows}
use Rattle.plain_store.specs.declared.showing.Showing.{Showing}

pub once_came : (n : ℕ) (es : List (Event Placed)) (p : Placed) (s t : Showing) → t.limit ≡ s.limit → t.ring.items ≡ arrive s.limit s.ring.items (trace_of p)
    → t.spans.items ≡ in_ring t.ring.items (s.spans.items ++ p ∷ []) → Shows n es s → Shows n (es ++ came p ∷ []) t
once_came n es p s t l r k was =
    let ring' = ring_more n es p s.ring.items t.ring.items was.ring_is (r ∙ ap (λ m. arrive m s.ring.items (trace_of p)) was.limit_is) in
    record {
      limit_is = l ∙ was.limit_is ∙ sym (limit_came n es p);
      ring_is = ring';
      spans_are = kept_more n es p t.ring.items s.spans.items t.spans.items ring' was.spans_are k;
    }

pub once_limited : (n : ℕ) (es : List (Event Placed)) (m : ℕ) (s t : Showing) → t.limit ≡ m → t.ring.items ≡ newest m s.ring.items
    → t.spans.items ≡ in_ring t.ring.items s.spans.items → Shows n es s → Shows n (es ++ limited m ∷ []) t
once_limited n es m s t l r k was =
    let ring' = ring_fewer n es m s.ring.items t.ring.items was.ring_is r in
    record {
      limit_is = l ∙ sym (limit_limited n es m);
      ring_is = ring';
      spans_are = kept_fewer n es m t.ring.items s.spans.items t.spans.items ring' was.spans_are k;
    }

-- what follows from three facts of a success
pub if_ok : {A E : Type 0} {P Q R S : Type 0} (r : Result A E) → (P → Q → R → S) → IfOk r (λ _. P) → IfOk r (λ _. Q) → IfOk r (λ _. R) → IfOk r (λ _. S)
if_ok (Ok a) f p q s = f p q s
if_ok (Err e) f p q s = record {}
