use Rattle.std.proofs.Common.{◌+◌, ◌++◌, ◌∙◌, List, ℕ, ap, sym, drop, append_assoc}
use Rattle.std.proofs.lemmas.Str.{IsUtf8-from_ascii}
use Rattle.jaeger_model.specs.Tags.{hex_text}
use Rattle.json_page.specs.Page.{Puts}
use Rattle.json_page.proofs.Escapes.{hex_text_next}
use Rattle.json_page.proofs.Pages.{◌▸◌}
use Rattle.json_page.proofs.page.Page.push_hex.Goals as goal

pub loop-byte-preserved : goal.loop-byte-preserved
loop-byte-preserved c =
    let l = c.loop-byte in
    let bytes = c.args.bytes.now in
    let pair = c.hex_of_byte in
    let rest : List ℕ = hex_text (drop (l.byte-index + 1) bytes) in
    let put : Puts l.self c.add.new.self pair.result = record { adds = c.add.ensures; utf8 = IsUtf8-from_ascii pair.result pair.ensures.ascii } in (
      l.invariant.0 ++ pair.result,
      l.invariant.1 ▸ put,
      append_assoc l.invariant.0 pair.result rest ∙ ap (λ (ds : List ℕ). l.invariant.0 ++ (ds ++ rest)) pair.ensures.digits
          ∙ ap (λ (ds : List ℕ). l.invariant.0 ++ ds) (sym (hex_text_next bytes l.byte-index c.loop-byte-test.true)) ∙ l.invariant.2,
    )
