use Rattle.std.proofs.Common.{◌≡◌, ◌++◌, ◌-◌, ◌≤◌, List, ℕ, length, drop}
use Rattle.json.specs.Print.{escape}
use Rattle.json_page.specs.Page.{Adds}
use Rattle.json_page.proofs.page.Page.add_with_escapes.Given as goal

abbrev pub invariant-loop-at : goal.invariant-loop-at
invariant-loop-at l =
    (l.at ≤ length l.text) × (front : List ℕ) × Adds l.fn.self l.self front × (front ++ escape (drop l.at l.text) ≡ escape l.text)

abbrev pub decreases-loop-at : goal.decreases-loop-at
decreases-loop-at l = length l.text - l.at
