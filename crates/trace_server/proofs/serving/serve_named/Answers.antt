use Rattle.std.proofs.Common.{inl, inr, map, subst, sym}
use Rattle.trace_model.specs.declared.limits.Limits.{Limits}
use Rattle.trace_server.specs.ServerRuns.{RunsServer, serving_of}
use Rattle.trace_server.proofs.ServerEnds.{listened_and_ended, unheard}
use Rattle.trace_server.proofs.serving.serve_named.Goals as goal

pub returns-in-Err : goal.returns-in-Err
returns-in-Err g c = inr (inl (unheard _ _ (g.W.Output.has_failed c.write_listening.new.output) _ _ c.in-Err.error _ c.end_unwritten.ensures c.in-Err.ensures))

pub returns : goal.returns
returns g c =
    let failed = g.W.Output.has_failed c.serve_store.new.output in
    let host = c.args.setup.now.config.now.options.host in
    let workers = c.args.setup.now.config.now.options.workers in
    let old = g.W.Output.contents c.args.output.now in
    let new = g.W.Output.contents c.serve_store.new.output in
    subst (λ (l : Limits). RunsServer (serving_of host l workers) (record { before = old; after = new; failed = failed }) c.serve_store.result)
    (sym c.requires.limits)
    (listened_and_ended (serving_of host g.N.StoreName.limits workers) c.in-Ok-open.shared.clerk.desk (map (λ p. p.live.seat) c.in-Ok-open.shared.starts.items)
    old _ new failed _ c.serve_store.result
    c.in-Ok-open.ensures.new c.in_default-write_listening.ensures.0 c.serve_store.ensures)
