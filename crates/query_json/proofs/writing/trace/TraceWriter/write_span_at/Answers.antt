use Rattle.std.proofs.Common.{◌≡◌, ◌+◌, ◌∙◌, [], ap, arith, get_or, sym}
use Rattle.std.proofs.lemmas.List.{get_or-map}
use Rattle.std.proofs.lemmas.Option.{get_or_from_slice_get}
use Rattle.query_json.specs.TracePieces.{span_text_in}
use Rattle.answer_trees.specs.Trees.{processes_of}
use Rattle.answer_trees.specs.TraceProcesses.{process_place}
use Rattle.json_page.proofs.Pages.{Puts-is}
use Rattle.query_json.proofs.writing.trace.TraceWriter.write_span_at.Goals as goal

pub returns : goal.returns
returns c =
    let ss = c.args.self.now.spans.now in
    let i = c.args.index in
    let s = c.at.result in
    let is : s ≡ get_or ss i s = sym (get_or_from_slice_get ss i s s c.at.ensures) in
    let place : c.from-number.result + 1 ≡ process_place (processes_of ss) s + 1 =
    omega (arith, c.from-number.ensures, c.place_at.ensures, c.requires.numbered.places i s c.requires.within is) in
    Puts-is (c.write_span.ensures (processes_of ss) place) (ap (span_text_in ss) is ∙ sym (get_or-map (span_text_in ss) ss i s [] c.requires.within))
