use Rattle.std.proofs.Common.{rules, ◌≡◌, true, false, Ok, ap}
use Rattle.std.specs.Str.{is_utf8}
use Rattle.std.proofs.lemmas.Str.{is_utf8-from_IsUtf8, IsUtf8-string_bytes}
use Rattle.wire_pieces.specs.Pieces.{Comes, moment}
use Rattle.value_pieces.specs.Values.{partial_text}
use Rattle.value_pieces.proofs.ReceivedTexts.{text-whole, text-bad, not_text}
use Rattle.value_pieces.proofs.texts.PartialTextPartial.more.Goals as goal

pub returns-in-Ok-clause-continues : goal.returns-in-Ok-clause-continues
returns-in-Ok-clause-continues c =
    let same : c.in-Ok.text.bytes.items ≡ c.in-Ok-Some.bytes.items = ap (λ v. v.items) c.in-Ok.ensures.ok in
    let is : is_utf8 c.in-Ok-Some.bytes.items ≡ true = rw (← same) (is_utf8-from_IsUtf8 c.in-Ok.text.bytes.items (IsUtf8-string_bytes c.in-Ok.text)) in
    let whole : Comes (moment (partial_text c.args.self.now) c.args.piece.now) (moment (λ w. Ok (c.in-Ok-Some.bytes.items, w)) c.more.new.piece) =
    text-whole _ _ _ _ is (rw c.in-Ok-Some.field-0-is at c.in-Ok-Some.ensures.reads) in
    search (rules, whole, same)

pub returns-clause-continues : goal.returns-clause-continues
returns-clause-continues c =
    let isnt : is_utf8 c.in-Ok-Some.bytes.items ≡ false = not_text _ (λ h. absurd (let k : false ≡ true = c.in-Err-from_utf8.ensures.succeeds h in cc)) in
    text-bad _ _ _ _ isnt (rw c.in-Ok-Some.field-0-is at c.in-Ok-Some.ensures.reads)
