use Rattle.std.proofs.Common.{rules, ◌≡◌, Bool, true, false, length, take, refl, sym, ◌∙◌, arith}
use Rattle.std.specs.Bool.{OnFalse}
use Rattle.std.specs.BTreeSet.{insert_key}
use Rattle.std.specs.Ordering.{is_lt}
use Rattle.std.proofs.lemmas.List.Elements.{recursion_from_All}
use Rattle.find_traces.specs.Keys.{key_cmp, reversed, reverse_key_cmp}
use Rattle.find_traces.proofs.Order.{reverse_total}
use Rattle.find_traces.proofs.InsertedKeys.{none_joins}
use Rattle.find_traces.proofs.best_keys.BestKeys.would_keep.Goals as goal

pub returns-in-Some : goal.returns-in-Some
returns-in-Some c =
    let keys = c.args.self.now.keys.keys in
    let n = c.args.self.now.limit in
    let w = c.in-Some.worst.now in
    let less : c.lt.result ≡ is_lt (key_cmp w.0 c.args.key) = search rules in
    elim c.lt.result as (λ b. c.lt.result ≡ b → OnFalse b (take n (insert_key reverse_key_cmp keys (reversed c.args.key)) ≡ keys)) [
      | true ↦ λ e. tt
      | false ↦ λ e.
          none_joins reverse_total n keys w (reversed c.args.key) (omega (arith, c.len.ensures.len, c.if-len-self.false, c.requires))
          (recursion_from_All (λ x. is_lt (reverse_key_cmp w x) ≡ false) keys c.in-Some.ensures.all_up_to)
          (sym less ∙ e)
    ] refl
