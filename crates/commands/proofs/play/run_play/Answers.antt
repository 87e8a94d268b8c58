use Rattle.std.proofs.Common.{inl, inr}
use Rattle.text_lines.proofs.CompleteRuns.{stops_at_once}
use Rattle.text_lines.specs.RunErrors.{expected_of}
use Rattle.commands.specs.PlayRuns.{output_of, status_for}
use Rattle.commands.proofs.play.run_play.Goals as goal

pub returns-in_default-clause-runs : goal.returns-in_default-clause-runs
returns-in_default-clause-runs g c =
    inr (stops_at_once _ _ _ _ (expected_of (output_of c.args.limits) (status_for c.args.limits)) c.requires.input_works c.requires.output_works)

pub returns-clause-runs : goal.returns-clause-runs
returns-clause-runs g c = c.play_lines-status.ensures.runs c.args.limits (inl c.in-Ok.ensures)

pub returns-in_default-clause-limit : goal.returns-in_default-clause-limit
returns-in_default-clause-limit g c = λ lost. absurd cc
