use Rattle.std.proofs.Common.{◌≡◌, IfErr, subst, sym}
use Rattle.commands.specs.Arguments.{HasLimits}
use Rattle.text_lines.specs.declared.exit_status.ExitStatus.TheVariants.{Usage, OutOfMemory}
use Rattle.commands.proofs.SubcommandArguments.{some_is_no_fault}
use Rattle.commands.proofs.arguments.read_limits.Goals as goal

pub returns-clause-accepted : goal.returns-clause-accepted
returns-clause-accepted g c app limits makes taken has =
    let rows = c.in_ok-matches.ensures.rows app makes in
    let found = c.limits_of.ensures.found limits (subst (λ rs. HasLimits rs limits) (sym rows) has) in
    subst (λ r. IfErr r (λ e. e ≡ OutOfMemory)) (sym c.ok_or.ensures.value) (some_is_no_fault c.limits_of.result Usage _ found)
