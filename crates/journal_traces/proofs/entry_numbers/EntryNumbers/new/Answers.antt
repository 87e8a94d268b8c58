use Rattle.std.proofs.Common.{◌≡◌, ◌∙◌, length, map, replicate, sym, ap, arith}
use Rattle.std.proofs.lemmas.List.{length-replicate}
use Rattle.journal_traces.specs.Numbered.{preceding, numbered}
use Rattle.journal_traces.proofs.Numbering.{preceding_zeros, none_numbered}
use Rattle.journal_traces.proofs.entry_numbers.EntryNumbers.new.Goals as goal

pub invariant_of-result : goal.invariant_of-result
invariant_of-result c =
    let count = c.args.count in
    let zeros : c.in_ok-following.following.items ≡ replicate count 0 = c.in_ok-following.ensures.items_if_clones_equal (λ y e. e) in
    let long : length c.in_ok-following.following.items ≡ count = ap length zeros ∙ length-replicate count 0 in
    let none = ap (λ ns. numbered (map preceding ns)) zeros ∙ ap numbered (preceding_zeros count) ∙ none_numbered count in
    (omega (arith, long, c.requires), sym none)

pub returns : goal.returns
returns c =
    let count = c.args.count in
    let zeros : c.in_ok-following.following.items ≡ replicate count 0 = c.in_ok-following.ensures.items_if_clones_equal (λ y e. e) in
    ap (map preceding) zeros ∙ preceding_zeros count
