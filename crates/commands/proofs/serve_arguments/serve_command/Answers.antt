use Rattle.std.proofs.Common.{rules, ap, ◌≡◌, ◌∙◌, codes}
use Rattle.std.proofs.lemmas.Result.{IfOk-weaker}
use Rattle.clap.specs.Words.{app_of, new_app}
use Rattle.commands.specs.Arguments.{with_limits, with_serving}
use Rattle.commands.proofs.SubcommandArguments.{serve_is_simple}
use Rattle.commands.proofs.serve_arguments.serve_command.Goals as goal

pub returns : goal.returns
returns c =
    let own : app_of c.after_help-command.result ≡ new_app (codes "serve") = search rules in
    let serving = c.in_ok-command.ensures ∙ ap with_serving own in
    (IfOk-weaker c.with_limits.result _ _ (λ r is. is ∙ ap with_limits serving) c.with_limits.ensures, serve_is_simple)
