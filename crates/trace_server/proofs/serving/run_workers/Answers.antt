use Rattle.trace_server.proofs.Workers.{go_on}
use Rattle.trace_server.proofs.serving.run_workers.Goals as goal
use Rattle.std.proofs.lemmas.Result.{IfOk-weaker}

pub returns : goal.returns
returns g c =
    IfOk-weaker c.run_each-outcomes.result _ _ (λ v each. go_on (λ p. p.live.seat) (λ w. w.live.seat) c.args.starts.items v.items each)
    c.run_each-outcomes.ensures
