use Rattle.std.proofs.Common.{◌≡◌, ◌∙◌, ℕ, ◌+◌, ◌<◌, ◌≤◌, List, length, map, ap, sym, subst, arith}
use Rattle.jaeger_model.specs.Texts.{insert_once, sorted_set}
use Rattle.service_index.specs.ListedNames.{listed_cmp}
use Rattle.service_index.specs.Labels.{operation_labels}
use Rattle.service_index.specs.Probes.{row_of}
use Rattle.service_index.specs.Indexes.{Index, IsIndexed, listing_by}
use Rattle.service_index.proofs.LinkedOperations.{listed_again, number_known, row_within, indexed_more}
use Rattle.service_index.specs.LinkedRows.{newest_with}
use Rattle.service_index.proofs.RowsOfOperations.{row_same}
use Rattle.service_index.proofs.index.ServiceIndex.add_at.Goals as goal

pub returns-then-row-rows-clause-listed : goal.returns-then-row-rows-clause-listed
returns-then-row-rows-clause-listed g c =
    let names = g.T.Texts.names c.args.texts.now in
    let inside = c.self.inside in
    let old : Index = record {
      operations = inside.operations;
      services = inside.services;
      newest = inside.links.newest;
      earlier = inside.links.earlier;
      used =
          inside.used;
      room = inside.room;
    } in
    let indexed : IsIndexed names old = subst (IsIndexed names) (sym c.self.view_is) c.requires.indexed in
    let numbers = c.self.inside.operations.numbers in
    let rows = c.self.invariant.1.earlier_links in
    let row = c.add-row.ensures.row in
    let below : row_of (operation_labels names) numbers ((operation_labels names).at c.args.n) < length numbers = omega (arith, c.if-row-rows.true) in
    ap (λ xs. sorted_set listed_cmp (map names.at xs)) (c.add-row.ensures.numbers ∙ number_known (operation_labels names) numbers c.args.n below)
    ∙ listed_again names numbers c.args.n (g.met.T.Texts.services_numbered c.args.texts.now) (record { held = indexed.operations.numbers.held })
    c.requires.held below
    ∙ ap (λ (i : Index). insert_once listed_cmp (listing_by names i) (names.at c.args.n)) c.self.view_is

pub returns-clause-indexed : goal.returns-clause-indexed
returns-clause-indexed g c =
    let names = g.T.Texts.names c.args.texts.now in
    let inside = c.self.inside in
    let old : Index = record {
      operations = inside.operations;
      services = inside.services;
      newest = inside.links.newest;
      earlier = inside.links.earlier;
      used =
          inside.used;
      room = inside.room;
    } in
    let indexed : IsIndexed names old = subst (IsIndexed names) (sym c.self.view_is) c.requires.indexed in
    let sized = c.self.invariant.1 in
    let rows = sized.earlier_links in
    let services_numbered = g.met.T.Texts.services_numbered c.args.texts.now in
    let s = c.add-service.result in
    let within = row_within (operation_labels names) inside.operations.numbers ((operation_labels names).at c.args.n) in
    let past : length old.operations.numbers ≤ c.add-row.result = omega (arith, c.if-row-rows.false, c.rows.ensures) in
    let at : length old.earlier + 1 ≡ c.add-row.result + 1 = omega (arith, c.add-row.ensures.row) in
    indexed_more names services_numbered old c.add-row.new.self c.add-service.new.self c.add_row.new.self.newest c.add_row.new.self.earlier c.args.n s
    c.add-row.result _
    _ c.requires.held indexed c.add-row.ensures.leads c.add-service.ensures.leads
    c.add-row.ensures.numbers c.add-row.ensures.row past c.add-service.ensures.numbers c.add-service.ensures.row
    (c.add_row.ensures.newest ∙ ap (newest_with old.newest s) at) c.add_row.ensures.earlier

pub returns-then-row-rows-clause-row : goal.returns-then-row-rows-clause-row
returns-then-row-rows-clause-row g c =
    let labels = operation_labels (g.T.Texts.names c.args.texts.now) in
    let numbers = c.self.inside.operations.numbers in
    c.add-row.ensures.row ∙ sym (row_same labels numbers c.args.n)
    ∙ sym (ap (λ (ns : List ℕ). row_of labels ns (labels.at c.args.n)) c.add-row.ensures.numbers)

pub returns-clause-row : goal.returns-clause-row
returns-clause-row g c =
    let labels = operation_labels (g.T.Texts.names c.args.texts.now) in
    let numbers = c.self.inside.operations.numbers in
    c.add-row.ensures.row ∙ sym (row_same labels numbers c.args.n)
    ∙ sym (ap (λ (ns : List ℕ). row_of labels ns (labels.at c.args.n)) c.add-row.ensures.numbers)
