use Rattle.std.proofs.Common.{◌∙◌, ◌-◌, ◌<◌, None, get_or, length, sym, ap, arith}
use Rattle.std.proofs.lemmas.Grind.{get_or_default_zero}
use Rattle.std.proofs.lemmas.List.{length-map}
use Rattle.journal_traces.specs.Numbered.{preceding}
use Rattle.journal_traces.proofs.Numbering.{preceding_is, preceding_at}
use Rattle.journal_traces.proofs.entry_numbers.EntryNumbers.at.Goals as goal

pub returns : goal.returns
returns c =
    let ns = c.self.inside.following.items in
    let k = c.args.place - 1 in
    let long = ap length c.self.view_is in
    let below : k < length ns = omega (arith, c.requires.above, c.requires.within, long, length-map ns preceding) in
    preceding_is c.checked_sub.result c.index.result.now c.checked_sub.ensures
    ∙ ap preceding (c.index.ensures ∙ get_or_default_zero ns k c.index.result.now below)
    ∙ sym (preceding_at ns k) ∙ ap (λ l. get_or l k None) c.self.view_is
