use Rattle.std.proofs.Common.{rules, ap, ◌≡◌, ◌∙◌, codes}
use Rattle.std.proofs.lemmas.Result.{IfOk-weaker}
use Rattle.clap.specs.Words.{app_of, new_app}
use Rattle.commands.specs.Arguments.{with_limits}
use Rattle.commands.proofs.SubcommandArguments.{pipe_is_simple}
use Rattle.commands.proofs.arguments.pipe_command.Goals as goal

pub returns : goal.returns
returns c =
    let own : app_of c.after_help-command.result ≡ new_app (codes "pipe") = search rules in
    (IfOk-weaker c.with_limits.result _ _ (λ r is. is ∙ ap with_limits own) c.with_limits.ensures, pipe_is_simple)
