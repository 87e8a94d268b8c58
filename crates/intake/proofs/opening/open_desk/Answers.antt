use Rattle.std.proofs.Common.{rules, ◌≡◌, ◌∙◌, ◌+◌, ap, arith}
use Rattle.std.specs.Arc.{arc_value}
use Rattle.std.specs.List.{range_with_len}
use Rattle.crossbeam_queue.specs.Passes.{ruled_capacity}
use Rattle.intake.proofs.Steps.{empty, seats}
use Rattle.intake.proofs.NewSeats.{seated-on}
use Rattle.intake.proofs.opening.open_desk.Goals as goal

pub ruled-requires-clause-rule : goal.ruled-requires-clause-rule
ruled-requires-clause-rule g c = empty

pub another-seat-requires-clause-rule : goal.another-seat-requires-clause-rule
another-seat-requires-clause-rule g c = seats _ _ c.loop-number.invariant.1 c.loop-number.invariant.2

pub loop-number-preserved : goal.loop-number-preserved
loop-number-preserved g c =
    let i = c.loop-number.invariant in
    let q = c.another-seat.ensures.queue in
    let r = c.another-seat.ensures.rule in
    let e = c.new-in-loop-number.ensures in
    let p = c.push_reserved.ensures in
    let size : ruled_capacity (arc_value c.in_ok-theirs.theirs).queue ≡ c.args.capacity = search rules in
    let s = seated-on c.loop-number.end.table_id c.another-seat.new.pass.table_id c.another-seat.result.table_id _ c.args.capacity c.loop-number.number _ _
    c.new-in-loop-number.result q.0.0 (search rules) size i.9 i.10 e.seat e.unused p.items in (
      search rules,
      ap (λ z. z.takes) r.0 ∙ i.1,
      ap (λ z. z.submits) r.0 ∙ i.2,
      ap (λ z. z.taken) r.0 ∙ i.3,
      ap (λ z. z.ended) r.0 ∙ i.4,
      ap (λ z. z.made) r.0 ∙ ap (λ n. n + 1) i.5,
      p.len ∙ ap (λ n. n + 1) i.6,
      rw p.capacity i.7,
      i.8,
      s.0,
      s.1,
    )

pub returns-clause-numbers : goal.returns-clause-numbers
returns-clause-numbers g c =
    let all : c.loop-number.number ≡ c.args.seats = omega (arith, c.loop-number-test.false, c.loop-number.auto.number-end) in
    c.loop-number.invariant.10 ∙ ap (range_with_len 0) all
