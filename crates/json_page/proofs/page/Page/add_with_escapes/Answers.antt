use Rattle.std.proofs.Common.{◌≡◌, ◌<◌, ◌+◌, ◌-◌, ◌++◌, ◌∙◌, List, ℕ, [], ap, sym, drop, take, length, append_assoc, append-nil, arith}
use Rattle.std.proofs.lemmas.List.{drop_all}
use Rattle.json.specs.Print.{escape}
use Rattle.json_page.proofs.Escapes.{escape_next, escape_run}
use Rattle.json_page.proofs.Pages.{Adds-is, Adds-then}
use Rattle.json_page.proofs.page.Page.add_with_escapes.Goals as goal

pub returns-then-stop-text : goal.returns-then-stop-text
returns-then-stop-text c =
    let l = c.loop-at in
    let text = c.args.text.now in
    let stop = c.plain_end-stop.result in
    let run : List ℕ = take (stop - l.at) (drop l.at text) in
    let none : drop stop text ≡ [] = drop_all stop text (omega (arith, c.if-stop-text.true)) in
    let all : escape (drop l.at text) ≡ run =
    escape_run text l.at stop c.plain_end-stop.ensures.value ∙ ap (λ (t : List ℕ). run ++ escape t) none ∙ append-nil run in
    Adds-is (Adds-then l.invariant.2 c.add.ensures) (ap (λ (t : List ℕ). l.invariant.1 ++ t) (sym all) ∙ l.invariant.3)

pub loop-at-preserved : goal.loop-at-preserved
loop-at-preserved c =
    let l = c.loop-at in
    let text = c.args.text.now in
    let front = l.invariant.1 in
    let stop = c.plain_end-stop.result in
    let run : List ℕ = take (stop - l.at) (drop l.at text) in
    let within : stop < length text = omega (arith, c.plain_end-stop.ensures.bound, c.if-stop-text.false) in
    let escaped : List ℕ = take c.escape_of-len.result.1 c.escape_of-len.result.0 in
    let rest : List ℕ = escape (drop (stop + 1) text) in
    let next : escape (drop stop text) ≡ escaped ++ rest =
    escape_next text stop within ∙ ap (λ (t : List ℕ). t ++ rest) (sym c.escape_of-len.ensures.value) in (
      omega (arith, within),
      (front ++ run) ++ escaped,
      Adds-then (Adds-then l.invariant.2 c.add.ensures) c.add-in-loop-at.ensures,
      append_assoc (front ++ run) escaped rest ∙ append_assoc front run (escaped ++ rest) ∙ ap (λ (t : List ℕ). front ++ (run ++ t)) (sym next)
          ∙ ap (λ (t : List ℕ). front ++ t) (sym (escape_run text l.at stop c.plain_end-stop.ensures.value)) ∙ l.invariant.3,
    )
