use Rattle.trace_model.proofs.answered_trace.AnsweredTrace.lone.Goals as goal
use Rattle.trace_model.proofs.LoneSpans.{lone_adjusted}

pub returns-clause-adjusted : goal.returns-clause-adjusted
returns-clause-adjusted c m = lone_adjusted m c.args.span
