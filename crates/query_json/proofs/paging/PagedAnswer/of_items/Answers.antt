use Rattle.std.proofs.Common.{◌≡◌, ◌++◌, ◌∙◌, [], length, length-append, refl, ap, append-nil, append_assoc, arith, sym}
use Rattle.std.proofs.lemmas.Result.{IfOk-weaker}
use Rattle.query_json.specs.AnswerPages.{part_of}
use Rattle.query_json.specs.Pieces.{item_pieces, runs_of}
use Rattle.query_json.specs.Runs.{front_text, left_at, runs_text}
use Rattle.json_page.proofs.Pages.{◌▸◌}
use Rattle.query_json.proofs.Pieces.{whole_text}
use Rattle.query_json.proofs.Runs.{left_first, left_none, length_runs, put_items}
use Rattle.query_json.proofs.paging.PagedAnswer.of_items.Goals as goal

pub returns-then-end-count-clause-text : goal.returns-then-end-count-clause-text
returns-then-end-count-clause-text c =
    let rs = runs_of c.args.items in
    let f = c.fill-end.ensures.fills in
    let end = c.fill-end.result in
    let none : left_at rs end.run end.piece ≡ [] =
    left_none rs end.run end.piece (omega (arith, length_runs (item_pieces c.args.items), c.count.ensures.count, c.if-end-count.true)) in
    let all : runs_text rs ≡ f.bytes =
    ap runs_text (sym (left_first rs c.first.result.run c.first.result.piece c.first.ensures.run c.first.ensures.piece)) ∙ f.text
    ∙ ap (λ ls. f.bytes ++ runs_text ls) none ∙ append-nil f.bytes in
    let put = put_items (c.write_start.ensures ▸ f.puts) c.in_ok-text.ensures.ok.0
    c.in_ok-page.ensures.items in
    ap (λ l. part_of c.whole.result ++ l) c.whole.ensures.rest ∙ append-nil (part_of c.whole.result) ∙ c.whole.ensures.part
    ∙ c.in_ok-text.ensures.ok.1 ∙ put
    ∙ ap (λ l. front_text ++ l) (sym all) ∙ whole_text c.args.items c.requires

pub returns-clause-text : goal.returns-clause-text
returns-clause-text c =
    let rs = runs_of c.args.items in
    let f = c.fill-end.ensures.fills in
    let end = c.fill-end.result in
    let left = left_at rs end.run end.piece in
    let first = ap runs_text (sym (left_first rs c.first.result.run c.first.result.piece c.first.ensures.run c.first.ensures.piece)) ∙ f.text in
    let put = put_items (c.write_start.ensures ▸ f.puts) (sym c.if-is_full.ensures)
    c.in_ok-page.ensures.items in
    let whole = ap (λ l. l ++ runs_text left) put ∙ append_assoc front_text f.bytes (runs_text left) ∙ ap (λ l. front_text ++ l) (sym first)
    ∙ whole_text c.args.items c.requires in
    IfOk-weaker c.in_parts.result _ _ (λ p given. given ∙ whole) c.in_parts.ensures.text

pub returns-clause-some : goal.returns-clause-some
returns-clause-some c =
    let f = c.fill-end.ensures.fills in
    let put = put_items (c.write_start.ensures ▸ f.puts) (sym c.if-is_full.ensures)
    c.in_ok-page.ensures.items in
    let front : length front_text ≡ 9 = refl in
    IfOk-weaker c.in_parts.result _ _
    (λ p given empty. absurd (omega (arith, ap length (sym empty ∙ given ∙ put), length-append front_text f.bytes, front))) c.in_parts.ensures.part
