use Rattle.std.proofs.Common.{◌≡◌, ◌<◌, ◌∙◌, ◌∷◌, [], Bool, true, false, ℕ, cond, get_or, length, length-append, take, sym, ap, arith, rules}
use Rattle.std.specs.Prelude.{Some, is_some}
use Rattle.std.specs.List.{list_any}
use Rattle.std.specs.Ordering.{nat_cmp, is_eq}
use Rattle.std.specs.BTreeMap.{get}
use Rattle.std.proofs.lemmas.List.{get_or_default}
use Rattle.jaeger_model.specs.declared.ids.SpanId.{SpanId}
use Rattle.jaeger_model.specs.declared.placed.Placed.{Placed}
use Rattle.trace_model.specs.ServiceLinks.{has_id}
use Rattle.trace_adjust.proofs.FirstPlaceTables.{place_entered, place_kept, has_place, below_push}
use Rattle.trace_adjust.proofs.parents.first_places.Goals as goal
use Rattle.trace_adjust.proofs.parents.first_places.Goals.{then-not-is_repeated+in_ok-place_u32+in_ok-insert, else-not-is_repeated}

pub loop-place-preserved : goal.loop-place-preserved
loop-place-preserved c =
    let ps = c.args.trace.now in
    let had = get nat_cmp c.loop-place.places in
    let i = c.loop-place.place in
    let p = c.index-trace-place.result in
    let l : i < length ps = search rules in
    let here = c.index-trace-place.is in
    let own = c.id.ensures in
    let inv = c.loop-place.invariant in
    let mark = c.contains_key-is_repeated.result in
    let put = c.in_ok-push.ensures.items in
    record {
      first = λ q. elim c.if-not-is_repeated.branch [
        | then-not-is_repeated+in_ok-place_u32+in_ok-insert w ↦
            let none : is_some (had p.span.id.0) ≡ false =
            ap (λ (k : SpanId). is_some (had k.0)) (sym own) ∙ sym c.contains_key-is_repeated.ensures ∙ w.if-not-is_repeated.true in
            let entered = w.in_ok-insert.ensures.updates.0 q
            ∙ (λ j. cond (is_eq (nat_cmp (own j).0 q)) (Some (w.in_ok-place_u32.ensures j)) (had q)) in
            ap (λ m. get nat_cmp m q) w.places-is ∙ place_entered q had (get nat_cmp w.insert.new.self q) ps i p l here inv.first none entered
        | else-not-is_repeated w ↦
            let there : is_some (had p.span.id.0) ≡ true =
            ap (λ (k : SpanId). is_some (had k.0)) (sym own) ∙ sym c.contains_key-is_repeated.ensures ∙ w.if-not-is_repeated.false in
            ap (λ m. get nat_cmp m q) w.places-is ∙ place_kept q had ps i p l here inv.first there
      ];
      many = omega (arith, inv.many, ap length put, length-append c.loop-place.repeated.items (mark ∷ []));
      repeated =
          below_push (λ (k : ℕ) (b : Bool). (d : Placed) → b ≡ list_any (has_id (get_or ps k d).span.id) (take k ps)) c.loop-place.repeated.items
          c.push.new.self.items mark false i inv.many put inv.repeated
          (λ d. c.contains_key-is_repeated.ensures ∙ ap is_some (inv.first c.id.result.0) ∙ has_place c.id.result (take i ps)
          ∙ ap (λ (x : SpanId). list_any (has_id x) (take i ps)) (own ∙ ap (λ (x : Placed). x.span.id) (here ∙ get_or_default ps i p d l)));
    }
