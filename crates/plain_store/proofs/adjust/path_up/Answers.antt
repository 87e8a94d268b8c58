use Rattle.std.proofs.Common.{length, rules}
use Rattle.plain_store.specs.RootPaths.{path}
use Rattle.plain_store.proofs.RootPaths.{path_more, path_ends, path_out}
use Rattle.plain_store.proofs.adjust.path_up.Goals as goal

pub loop-step-preserved : goal.loop-step-preserved
loop-step-preserved c =
    let ps = c.args.parents.now in
    path_more ps (path (length ps) ps c.args.start) (length ps)
    c.loop-step._step c.loop-step.at c.loop-step.path.items c.loop-step.invariant c.in-Some.parent c.push.new.self.items
    (search rules) (search rules) c.in_ok-push.ensures.items

pub returns-in-None : goal.returns-in-None
returns-in-None c =
    let ps = c.args.parents.now in
    path_ends ps (path (length ps) ps c.args.start) (length ps)
    c.loop-step._step c.loop-step.at c.loop-step.path.items c.loop-step.invariant c.push.new.self.items
    (search rules) (search rules) c.in_ok-push.ensures.items

pub returns : goal.returns
returns c =
    let ps = c.args.parents.now in
    path_out ps (path (length ps) ps c.args.start) (length ps) c.loop-step._step c.loop-step.at c.loop-step.path.items c.loop-step.invariant (search rules)
