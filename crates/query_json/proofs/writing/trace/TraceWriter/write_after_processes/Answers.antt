use Rattle.std.proofs.Common.{◌≡◌, ◌<◌, ◌≤◌, ◌-◌, ◌∷◌, ◌∙◌, [], ap, arith, get_or, length, map, sym}
use Rattle.std.proofs.lemmas.List.{length-map}
use Rattle.query_json.specs.TracePieces.{between_text, close_text, span_text_in}
use Rattle.json_page.proofs.Pages.{◌▸◌, Puts-is}
use Rattle.query_json.proofs.TracePieces.{length_pieces, piece_behind, piece_first, piece_listed}
use Rattle.query_json.proofs.writing.trace.TraceWriter.write_after_processes.Goals as goal

pub returns-then-piece-eq0 : goal.returns-then-piece-eq0
returns-then-piece-eq0 c =
    let ss = c.args.self.now.spans.now in
    Puts-is c.push_str.ensures (piece_first between_text (map (span_text_in ss) ss) (close_text ss ∷ []) c.args.piece c.if-piece-eq0.true)

pub returns-then-index-len : goal.returns-then-index-len
returns-then-index-len c =
    let ss = c.args.self.now.spans.now in
    let texts = map (span_text_in ss) ss in
    let k = c.args.piece in
    let long : length texts ≡ length ss = length-map ss (span_text_in ss) in
    let over : length ss ≤ k - 1 = omega (arith, c.len.ensures, c.if-index-len.true) in
    let last : k - 1 - length ss ≡ 0 = omega (arith, over, c.requires.piece, long, length_pieces between_text texts (close_text ss ∷ []) k) in
    Puts-is c.write_close.ensures
    (ap (λ n. get_or (close_text ss ∷ []) n []) (sym last) ∙ piece_behind between_text texts (close_text ss ∷ []) k c.if-piece-eq0.false (length ss) long over)

pub returns : goal.returns
returns c =
    let ss = c.args.self.now.spans.now in
    let within : c.args.piece - 1 < length (map (span_text_in ss) ss) = omega (arith, c.len.ensures, c.if-index-len.false, length-map ss (span_text_in ss)) in
    Puts-is (c.write_separator.ensures ▸ c.write_span_at.ensures)
    (piece_listed between_text (map (span_text_in ss) ss) (close_text ss ∷ []) c.args.piece c.if-piece-eq0.false within)
