use Rattle.std.proofs.Common.{rules}
use Rattle.trace_server.proofs.Workers.{each_given, if_ok_both}
use Rattle.trace_server.proofs.threads.run_each.Goals as goal

pub returns : goal.returns
returns g c =
    if_ok_both c.map_vec.result _ _ _
    (λ v len each. each_given g.T.Task.gives c.args.arguments.items v.items (search rules)
    (λ i d lt. let j = each i d lt in let met = j.1.call.met in (j.1.job, j.1.job_is, search (rules, met))))
    c.map_vec.ensures.len c.map_vec.ensures.each
