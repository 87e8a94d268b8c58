use Rattle.std.proofs.Common.{◌≡◌, ◌++◌, List, ℕ, drop}
use Rattle.jaeger_model.specs.Tags.{hex_text}
use Rattle.json_page.specs.Page.{Puts}
use Rattle.json_page.proofs.page.Page.push_hex.Given as goal

abbrev pub invariant-loop-byte : goal.invariant-loop-byte
invariant-loop-byte l =
    (front : List ℕ) × Puts l.fn.self l.self front × (front ++ hex_text (drop l.byte-index l.bytes) ≡ hex_text l.bytes)
