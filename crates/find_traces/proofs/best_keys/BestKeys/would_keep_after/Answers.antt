use Rattle.std.proofs.Common.{rules, ◌≡◌, Bool, subst, true, false, length, take, refl, sym, ◌∙◌, arith}
use Rattle.std.specs.Prelude.{IfSome, Option}
use Rattle.std.specs.Bool.{OnFalse}
use Rattle.std.specs.BTreeSet.{insert_key}
use Rattle.std.specs.Ordering.{is_lt}
use Rattle.find_traces.specs.declared.key.Key.{Key}
use Rattle.find_traces.specs.BestKeys.{IsWorst}
use Rattle.find_traces.specs.Keys.{key_cmp, reversed, reverse_key_cmp}
use Rattle.find_traces.proofs.Order.{reverse_total}
use Rattle.find_traces.proofs.InsertedKeys.{none_joins}
use Rattle.find_traces.proofs.best_keys.BestKeys.would_keep_after.Goals as goal

pub returns-in-Some : goal.returns-in-Some
returns-in-Some c =
    let keys = c.args.self.now.keys.keys in
    let n = c.args.self.now.limit in
    let w = c.in-Some.worst in
    let less : c.lt.result ≡ is_lt (key_cmp w c.args.key) = search rules in
    let kept = subst (λ (o : Option Key). IfSome o (IsWorst keys n)) c.in-Some.is c.requires.worst in
    elim c.lt.result as (λ b. c.lt.result ≡ b → OnFalse b (take n (insert_key reverse_key_cmp keys (reversed c.args.key)) ≡ keys)) [
      | true ↦ λ e. tt
      | false ↦ λ e. none_joins reverse_total n keys (reversed w) (reversed c.args.key)
          (omega (arith, kept.full, c.requires.within)) kept.last (sym less ∙ e)
    ] refl
