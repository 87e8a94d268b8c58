use Rattle.std.proofs.Common.{◌∙◌, ap, sym}
use Rattle.service_index.specs.Probes.{hash_of}
use Rattle.service_index.proofs.LabelProbes.{hash_of_row}
use Rattle.service_index.proofs.sought_label.SoughtLabelSought.hash_at.Goals as goal

pub returns : goal.returns
returns g c =
    let s = c.args.self.now in
    c.label_hash.ensures ∙ ap (hash_of s.keys) c.label_at.ensures
    ∙ sym (hash_of_row (g.L.Labels.labels s.labels.now) s.keys s.numbers.now c.args.row c.requires.row)
