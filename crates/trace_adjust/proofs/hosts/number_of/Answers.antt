use Rattle.std.proofs.Common.{rules, ◌≡◌, ℕ, None, Option}
use Rattle.std.specs.BTreeMap.{get}
use Rattle.jaeger_model.specs.Texts.{text_cmp}
use Rattle.trace_adjust.proofs.HostNumbers.{entry_made}
use Rattle.trace_adjust.proofs.hosts.number_of.Goals as goal

pub returns-clause-numbers : goal.returns-clause-numbers
returns-clause-numbers c = λ t.
    let none : ◌≡◌ {A = Option ℕ} (get text_cmp c.args.numbers.now c.args.host) None = search rules in
    entry_made (get text_cmp c.args.numbers.now) c.args.host (get text_cmp c.insert.new.self t) c.args.fresh t none (c.in_ok-insert.ensures.updates.0 t)
