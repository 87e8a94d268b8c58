use Rattle.std.proofs.Common.{◌≡◌, ℕ, ℤ, pos, ◌-◌, append_assoc, false, ◌+◌, ◌<◌, ◌∷◌, ◌++◌, [], length, get_or, drop, ◌/◌, ◌∙◌, sym, ap, arith, List, w64}
use Rattle.std.proofs.Common.{to_z, of_z}
use Rattle.std.specs.Prelude.{int_lt}
use Rattle.trace_ring.specs.FirstStarts.{positions_from}
use Rattle.trace_ring.proofs.SkippedStarts.{block_miss, one_hit, one_miss}
use Rattle.trace_ring.proofs.first_starts.starts.FirstStarts.positions_after.Goals as goal
use Rattle.trace_ring.proofs.first_starts.starts.FirstStarts.positions_after.Goals.{then-is_later+in_ok-push, else-is_later}

pub loop-at-preserved-then-not-is_later : goal.loop-at-preserved-then-not-is_later
loop-at-preserved-then-not-is_later c =
    let time : ℤ = to_z w64 (of_z w64 c.args.time) in
    let s = c.self.inside in
    let at = c.loop-at.at in
    let i = c.loop-at.invariant in
    let from = i.from in
    let below : at < length s.opened.items = omega arith in
    let early : int_lt time (get_or s.bounds.items (at / 256) (pos 0)) ≡ false =
    ap (λ bs. int_lt time (get_or bs (at / 256) (pos 0))) (sym c.deref.ensures.value) ∙ sym c.is_later.ensures ∙ c.if-not-is_later.true in
    record {
      from = omega (arith, from);
      found =
          ap (λ l. c.loop-at.positions.items ++ l) (sym (block_miss s.room s.evicted s.opened.items s.bounds.items time at c.self.invariant.2 from below early))
          ∙ i.found;
    }

pub loop-at-preserved : goal.loop-at-preserved
loop-at-preserved c =
    let time : ℤ = to_z w64 (of_z w64 c.args.time) in
    let s = c.self.inside in
    let at = c.loop-at.at in
    let place : ℕ = at - s.evicted in
    let before : List ℕ = c.loop-at.positions.items in
    let rest : List ℕ = positions_from time (at + 1 - s.evicted) (drop (at + 1) s.opened.items) in
    let i = c.loop-at.invariant in
    let from = i.from in
    let below : at < length s.opened.items = omega arith in
    let next : place + 1 ≡ at + 1 - s.evicted = omega (arith, from) in
    let read : c.is_later-in-loop-at.result ≡ int_lt time (get_or s.opened.items at (pos 0)) =
    c.is_later-in-loop-at.ensures ∙ ap (λ os. int_lt time (get_or os at (pos 0))) c.deref-in-loop-at.ensures.value in
    record {
      from = omega (arith, from);
      found = elim c.if-is_later.branch [
        | then-is_later+in_ok-push w ↦
            ap (λ v. v.items ++ rest) w.positions-is ∙ ap (λ l. l ++ rest) w.in_ok-push.ensures.items ∙ append_assoc before (place ∷ []) rest
            ∙ ap (λ l. before ++ l) (sym (one_hit time s.opened.items at place below (sym read ∙ w.if-is_later.true)
            ∙ ap (λ n. place ∷ positions_from time n (drop (at + 1) s.opened.items)) next)) ∙ i.found
        | else-is_later w ↦
            ap (λ v. v.items ++ rest) w.positions-is
            ∙ ap (λ l. before ++ l) (sym (one_miss time s.opened.items at place below (sym read ∙ w.if-is_later.false)
            ∙ ap (λ n. positions_from time n (drop (at + 1) s.opened.items)) next)) ∙ i.found
      ];
    }
