use Rattle.std.proofs.Common.{◌≡◌, ap, sym, subst, ◌∙◌, length, take, drop, take-append-drop, List}
use mathlib.Core.List.{IsPrefix}
use Rattle.trace_model.specs.declared.entry.Entry.{Entry}
use Rattle.trace_model.proofs.Prefixes.{prefix_trans}
use Rattle.read_side.specs.Keepers.{accepted}
use Rattle.read_side.proofs.keeper.Keeper.includes.Goals as goal

pub returns-clause-included : goal.returns-clause-included
returns-clause-included g c =
    let prefix = c.args.prefix.now in
    let log = c.seen.result.now.log in
    let all = c.self.inside.history.items in
    let items : all ≡ accepted c.args.self.now = c.self.invariant.3 ∙ (c.self.invariant.2 ∙ ap accepted c.self.view_is) in
    let first : IsPrefix (take (length prefix) log) log = (drop (length prefix) log, take-append-drop (length prefix) log) in
    let seen : IsPrefix prefix log = subst (λ (xs : List Entry). IsPrefix xs log) (sym c.seen.ensures.list) first in
    subst (λ (xs : List Entry). IsPrefix prefix xs) items (prefix_trans prefix log all seen c.includes.ensures.prefix)
