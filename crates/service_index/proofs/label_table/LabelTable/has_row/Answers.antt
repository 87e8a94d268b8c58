use Rattle.std.proofs.Common.{◌≡◌, ◌∙◌, ◌<◌, ℕ, List, length, get_or, sym, ap, arith}
use Rattle.std.specs.Prelude.{Some}
use Rattle.std.proofs.lemmas.Bool.{OnTrue_from}
use Rattle.service_index.specs.Labels.{label_value, same_label}
use Rattle.service_index.specs.Probes.{row_of}
use Rattle.service_index.proofs.LabelProbes.{row_is}
use Rattle.service_index.proofs.label_table.LabelTable.has_row.Goals as goal

pub returns-then-row-numbers : goal.returns-then-row-numbers
returns-then-row-numbers g c =
    let labels = g.L.Labels.labels c.args.labels.now in
    let t = c.args.self.now in
    let label = label_value c.args.label in
    let row = c.args.row in
    let same = c.numbers-numbers.ensures in
    let below : row < length t.numbers = omega (arith, ap length same) in
    let at = ap (λ (xs : List ℕ). same_label (labels.at (get_or xs row 0)) label) same in
    OnTrue_from c.is_label.result ((row < length t.numbers) × (row ≡ row_of labels t.numbers label))
    (λ yes. (below, row_is labels t label c.requires (Some row) (below, sym at ∙ sym c.is_label.ensures ∙ yes)))
