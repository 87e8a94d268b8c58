use Rattle.std.proofs.Common.{◌≡◌, rules, subst, List}
use Rattle.trace_model.specs.declared.entry.Entry.{Entry}
use Rattle.intake.specs.Denials.{IsDenied}
use Rattle.intake.specs.LiveStores.{LiveValue, IsRefusedJob}
use Rattle.intake.proofs.LeftOutEntries.{refused_job}
use Rattle.intake.proofs.live.Live.take_denial.Goals as goal

pub returns-in-Some-clause-history : goal.returns-in-Some-clause-history
returns-in-Some-clause-history g c e d =
    let limits = g.N.StoreName.limits in
    let why = c.args.denial.refusal in
    let known : c.history.result ≡ c.self.inside.pass.known = search rules in
    let left = subst (IsDenied limits e why) c.in-Some.is d in
    let after : List Entry → LiveValue = λ list. record { seat = c.args.self.now.seat; known = list; refused_by = c.longer.result } in
    subst (λ list. IsRefusedJob limits e why (after list)) known
    (refused_job limits e why c.in-Some.list (after c.history.result) c.is_prefix_of-one_begins.result c.len-legal.ensures.legal
    c.is_prefix_of-one_begins.ensures c.longer.ensures.other left)
