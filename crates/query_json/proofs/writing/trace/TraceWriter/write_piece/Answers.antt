use Rattle.std.proofs.Common.{◌≡◌, ◌<◌, ◌≤◌, ◌-◌, arith, length, map}
use Rattle.std.proofs.lemmas.List.{length-map}
use Rattle.query_json.specs.NamedProcesses.{named_text}
use Rattle.query_json.specs.TracePieces.{open_text, span_pieces}
use Rattle.json_page.proofs.Pages.{◌▸◌, Puts-is}
use Rattle.query_json.proofs.TracePieces.{piece_behind, piece_first, piece_listed}
use Rattle.query_json.proofs.writing.trace.TraceWriter.write_piece.Goals as goal

pub returns-then-piece-eq0 : goal.returns-then-piece-eq0
returns-then-piece-eq0 c =
    let t = c.args.self.now in
    Puts-is c.push_str.ensures (piece_first open_text (map (named_text t.spans.now) t.processes.now) (span_pieces t.spans.now) c.args.piece c.if-piece-eq0.true)

pub returns-then-index-self : goal.returns-then-index-self
returns-then-index-self c =
    let ss = c.args.self.now.spans.now in
    let ps = c.args.self.now.processes.now in
    let long : length (map (named_text ss) ps) ≡ length ps = length-map ps (named_text ss) in
    let over : length ps ≤ c.args.piece - 1 = omega (arith, c.if-index-self.true) in
    Puts-is c.write_after_processes.ensures
    (piece_behind open_text (map (named_text ss) ps) (span_pieces ss) c.args.piece c.if-piece-eq0.false (length ps) long over)

pub returns : goal.returns
returns c =
    let ss = c.args.self.now.spans.now in
    let ps = c.args.self.now.processes.now in
    let texts = map (named_text ss) ps in
    let within : c.args.piece - 1 < length texts = omega (arith, c.if-index-self.false, length-map ps (named_text ss)) in
    Puts-is (c.write_separator.ensures ▸ c.write_process.ensures) (piece_listed open_text texts (span_pieces ss) c.args.piece c.if-piece-eq0.false within)
