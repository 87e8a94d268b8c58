use Rattle.std.proofs.Common.{rules, ◌≡◌, ◌∙◌, ◌+◌, ap, sym, subst, [], List}
use Rattle.std.specs.List.{All}
use Rattle.read_side.specs.Passes.{PassValue, new_pass}
use Rattle.read_side.proofs.CopySteps.{admits, starts}
use Rattle.read_side.proofs.opening.open.Goals as goal
use Rattle.std.proofs.lemmas.List.Elements.{All-push}

pub new-requires-clause-rule : goal.new-requires-clause-rule
new-requires-clause-rule g c =
    starts g.N.StoreName.book g.N.StoreName.limits c.new-first.result (search rules) (search rules) (search rules) (search rules)

pub reader-requires : goal.reader-requires
reader-requires g c = admits _ _

pub loop-made-init : goal.loop-made-init
loop-made-init g c =
    let none : All (λ (p : PassValue). p ≡ new_pass) [] = search rules in (
      (let P : List PassValue → Type 0 = λ z. All (λ p. p ≡ new_pass) z in subst P (sym c.in_ok-passes.ensures.items) none),
      c.in_ok-passes.ensures.len,
      c.in_ok-passes.ensures.capacity,
    )

pub loop-made-preserved : goal.loop-made-preserved
loop-made-preserved g c =
    let empty : c.new-pass.result ≡ new_pass = search rules in (
      (let P : List PassValue → Type 0 = λ z. All (λ p. p ≡ new_pass) z in
          subst P (sym c.push_reserved.ensures.items) (All-push (λ p. p ≡ new_pass) _ _ c.loop-made.invariant.0 empty)),
      c.push_reserved.ensures.len ∙ ap (λ n. n + 1) c.loop-made.invariant.1,
      rw c.push_reserved.ensures.capacity c.loop-made.invariant.2,
    )
