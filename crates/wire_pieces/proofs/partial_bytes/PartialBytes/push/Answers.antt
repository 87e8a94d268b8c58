use Rattle.std.proofs.Common.{◌≡◌, ℕ, ◌+◌, ◌≤◌, ◌<◌, List, [], ◌∷◌, ◌++◌, length, set, refl, ap, sym, ◌∙◌, arith, rules}
use Rattle.std.proofs.lemmas.List.{take_all, take_more_set, length-set}
use Rattle.wire_pieces.proofs.partial_bytes.PartialBytes.push.Goals as goal

-- the last byte
pub returns-clause-parts : goal.returns-clause-parts
returns-clause-parts g c =
    let q = c.self.inside in
    let below = c.self.invariant in
    let len : length q.bytes ≡ g.row.N = search rules in
    let inside : q.len < length q.bytes = omega arith in
    let after = length-set q.bytes q.len c.args.byte in
    let all : length (set q.bytes q.len c.args.byte) ≤ q.len + 1 = omega arith in
    (sym (take_all (q.len + 1) _ all) ∙ take_more_set q.bytes q.len c.args.byte inside ∙ ap (λ (l : List ℕ). l ++ c.args.byte ∷ []) c.self.view_is, refl)
