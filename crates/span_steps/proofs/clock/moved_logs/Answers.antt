use Rattle.std.proofs.Common.{rules, ◌≡◌, ◌∙◌, length}
use Rattle.std.specs.Int.{w128}
use Rattle.std.proofs.lemmas.Int.{to_z-of_z}
use Rattle.std.proofs.lemmas.List.{take_at}
use Rattle.span_steps.proofs.clock.moved_logs.Goals as goal

pub move_logs-requires : goal.move_logs-requires
move_logs-requires c =
    let d = to_z-of_z w128 c.args.delta c.ranges.delta in
    rw (d, c.deref_mut.ensures.value, c.into_vec-logs.ensures) c.requires

pub returns : goal.returns
returns c =
    let d = to_z-of_z w128 c.args.delta c.ranges.delta in
    let len : length c.move_logs.new.logs ≡ c.into_vec-logs.result.len = search rules in
    c.from_vec.ensures ∙ take_at c.move_logs.new.logs _ _ len ∙ (rw (d, c.deref_mut.ensures.value, c.into_vec-logs.ensures) at c.move_logs.ensures)
