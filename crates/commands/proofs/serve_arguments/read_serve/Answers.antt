use Rattle.std.proofs.Common.{◌≡◌, IfErr, subst, sym}
use Rattle.commands.specs.Arguments.{HasServeOptions, serve_app}
use Rattle.text_lines.specs.declared.exit_status.ExitStatus.TheVariants.{Usage, OutOfMemory}
use Rattle.commands.proofs.SubcommandArguments.{some_is_no_fault}
use Rattle.commands.proofs.serve_arguments.read_serve.Goals as goal

pub returns-clause-accepted : goal.returns-clause-accepted
returns-clause-accepted g c options takes =
    let rows = c.in_ok-matches.ensures.rows serve_app c.serve_command.ensures in
    let found = c.serve_options_of.ensures.found options (subst (λ rs. HasServeOptions rs options) (sym rows) takes.1) in
    subst (λ r. IfErr r (λ e. e ≡ OutOfMemory)) (sym c.ok_or.ensures.value) (some_is_no_fault c.serve_options_of.result Usage _ found)
