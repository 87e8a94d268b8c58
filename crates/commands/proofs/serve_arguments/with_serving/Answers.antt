use Rattle.std.proofs.Common.{ap, ap₂, ◌∙◌}
use Rattle.std.proofs.lemmas.Result.{IfOk-weaker}
use Rattle.clap.specs.Words.{app_of, with_rule}
use Rattle.commands.proofs.serve_arguments.with_serving.Goals as goal

pub returns : goal.returns
returns c =
    IfOk-weaker c.arg-8.result _ _ (λ r added. added.shape c.report_option.ensures.own
    ∙ ap₂ with_rule (c.in_ok-arg-7.ensures.shape c.idle_option.ensures.own
    ∙ ap₂ with_rule (c.in_ok-arg-6.ensures.shape c.connections_option.ensures.own
    ∙ ap₂ with_rule (c.in_ok-arg-5.ensures.shape c.sessions_option.ensures.own
    ∙ ap₂ with_rule (c.in_ok-arg-4.ensures.shape c.queue_option.ensures.own
    ∙ ap₂ with_rule (c.in_ok-arg-3.ensures.shape c.workers_option.ensures.own
    ∙ ap₂ with_rule (c.in_ok-arg-2.ensures.shape c.port_option.ensures.own
    ∙ ap₂ with_rule (c.in_ok-arg.ensures.shape c.host_option.ensures.own
    ∙ ap (with_rule (app_of c.args.command)) c.host_option.ensures.rule)
    c.port_option.ensures.rule) c.workers_option.ensures.rule) c.queue_option.ensures.rule) c.sessions_option.ensures.rule)
    c.connections_option.ensures.rule) c.idle_option.ensures.rule) c.report_option.ensures.rule) c.arg-8.ensures
