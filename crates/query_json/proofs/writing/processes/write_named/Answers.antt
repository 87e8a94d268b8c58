use Rattle.std.proofs.Common.{◌≡◌, ◌∷◌, ◌∙◌, ◌++◌, [], ap, append_assoc, sym}
use Rattle.std.proofs.lemmas.List.{get_or-map}
use Rattle.std.proofs.lemmas.Option.{get_or_from_slice_get}
use Rattle.json.specs.Print.{quoted}
use Rattle.serde_json.specs.Data.{null}
use Rattle.serde_json.specs.Written.{compact_text}
use Rattle.query_json.specs.NamedProcesses.{name_of, process_tree_at, shown_process_tree}
use Rattle.answer_trees.specs.Trees.{process_tree}
use Rattle.json_page.proofs.Pages.{◌▸◌, Puts-is}
use Rattle.query_json.proofs.writing.processes.write_named.Goals as goal

pub returns : goal.returns
returns c =
    let p = c.args.named in
    let ss = c.args.spans.now in
    let s = c.at.result in
    let own : process_tree c.process.result.now ≡ process_tree_at ss p.span =
    ap process_tree c.process.ensures
    ∙ sym (get_or-map shown_process_tree ss p.span s null c.requires ∙ ap shown_process_tree (get_or_from_slice_get ss p.span s s c.at.ensures)) in
    Puts-is (c.write_name.ensures ▸ c.push_str.ensures ▸ c.write.ensures)
    (append_assoc (quoted (name_of p)) (58 ∷ []) (compact_text (process_tree c.process.result.now)) ∙ ap (λ d. quoted (name_of p) ++ 58 ∷ compact_text d) own)
