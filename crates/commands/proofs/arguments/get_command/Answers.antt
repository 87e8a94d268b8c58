use Rattle.std.proofs.Common.{rules, ap, ap₂, ◌≡◌, ◌∙◌, codes}
use Rattle.std.proofs.lemmas.Result.{IfOk-weaker}
use Rattle.clap.specs.Words.{app_of, rule_of, new_app, with_rule}
use Rattle.commands.specs.Arguments.{with_limits, required_rule}
use Rattle.commands.proofs.SubcommandArguments.{get_is_simple}
use Rattle.commands.proofs.arguments.get_command.Goals as goal

pub returns : goal.returns
returns c =
    let trace : rule_of c.help-trace.result ≡ required_rule (codes "TRACE") = search rules in
    let own : app_of c.after_help.result ≡ new_app (codes "get") = search rules in
    let command : app_of c.in_ok-command.command ≡ with_rule (new_app (codes "get")) (required_rule (codes "TRACE")) =
    c.in_ok-command.ensures.shape (search rules) ∙ ap₂ with_rule own trace in
    (IfOk-weaker c.with_limits.result _ _ (λ r is. is ∙ ap with_limits command) c.with_limits.ensures, get_is_simple)
