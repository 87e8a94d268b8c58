use Rattle.std.proofs.Common.{◌∙◌, append_assoc}
use Rattle.std.specs.Int.{w128}
use Rattle.std.proofs.lemmas.Int.{to_z-of_z}
use Rattle.span_steps.proofs.warning.past_times.Goals as goal

pub returns : goal.returns
returns c =
    let text = rw (to_z-of_z w128 c.args.delta c.ranges.delta) at c.in_ok-text.ensures.ok in
    c.from_string.ensures ∙ simp append_assoc text
