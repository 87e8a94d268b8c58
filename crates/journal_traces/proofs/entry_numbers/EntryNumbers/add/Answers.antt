use Rattle.std.proofs.Common.{◌≡◌, ◌∙◌, ◌+◌, ◌-◌, ◌<◌, suc, None, Some, get_or, length, map, sym, ap, arith}
use Rattle.std.specs.Prelude.{slice_set}
use Rattle.std.proofs.lemmas.List.{length-map, length-set}
use Rattle.journal_traces.specs.Numbered.{preceding, numbered}
use Rattle.journal_traces.proofs.Numbering.{numbered_below, numbered_more, preceding_set}
use Rattle.journal_traces.proofs.entry_numbers.EntryNumbers.add.Goals as goal

pub overflow_add-next : goal.overflow_add-next
overflow_add-next c =
    let ns = c.self.inside.following.items in
    let k = c.args.place - 1 in
    let long = ap length c.self.view_is in
    let below : k < length (map preceding ns) = omega (arith, c.requires.above, c.requires.within, long) in
    let fewer = numbered_below (map preceding ns) k below (ap (λ l. get_or l k None) c.self.view_is ∙ c.requires.new) in
    omega (arith, fewer, length-map ns preceding, c.self.invariant.0, c.self.invariant.1)

pub invariant_of-self : goal.invariant_of-self
invariant_of-self c =
    let ns = c.self.inside.following.items in
    let n = c.self.inside.count in
    let k = c.args.place - 1 in
    let long = ap length c.self.view_is in
    let below : k < length (map preceding ns) = omega (arith, c.requires.above, c.requires.within, long) in
    let none = ap (λ l. get_or l k None) c.self.view_is ∙ c.requires.new in
    let next : n + 1 ≡ suc n = omega arith in
    let put : map preceding (slice_set ns k (n + 1)) ≡ slice_set (map preceding ns) k (Some n) =
    ap (λ m. map preceding (slice_set ns k m)) next ∙ preceding_set ns k n in
    let more = ap numbered put ∙ numbered_more (map preceding ns) k n below none ∙ ap suc (sym c.self.invariant.1) ∙ sym next in
    (omega (arith, length-set ns k (n + 1), c.self.invariant.0), sym more)

pub returns-clause-number : goal.returns-clause-number
returns-clause-number c = c.self.invariant.1 ∙ ap numbered c.self.view_is

pub returns-clause-numbers : goal.returns-clause-numbers
returns-clause-numbers c =
    let ns = c.self.inside.following.items in
    let n = c.self.inside.count in
    let k = c.args.place - 1 in
    let next : n + 1 ≡ suc n = omega arith in
    ap (λ m. map preceding (slice_set ns k m)) next ∙ preceding_set ns k n
    ∙ ap (λ m. slice_set (map preceding ns) k (Some m)) c.self.invariant.1
    ∙ ap (λ l. slice_set l k (Some (numbered l))) c.self.view_is
