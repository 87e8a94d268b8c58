use Rattle.std.proofs.Common.{rules, ◌∙◌, ◌≡◌, ◌==◌, true, false, Some, length, ◌-◌, take}
use Rattle.std.specs.Prelude.{slice_get}
use Rattle.std.specs.Option.{option_eq}
use Rattle.text_lines.proofs.LineEnds.{return_off, return_kept}
use Rattle.text_lines.proofs.line_buffer.drop_return.Goals as goal

pub returns-then-eq : goal.returns-then-eq
returns-then-eq c =
    let items = c.args.line.now.items in
    let e : option_eq ◌==◌ (slice_get items (length items - 1)) (Some 13) ≡ true = search rules in
    let s : c.truncate.new.self.items ≡ take (length items - 1) items = search rules in
    s ∙ return_off items e

pub returns-else-eq : goal.returns-else-eq
returns-else-eq c =
    let items = c.args.line.now.items in
    let e : option_eq ◌==◌ (slice_get items (length items - 1)) (Some 13) ≡ false = search rules in
    return_kept items e
