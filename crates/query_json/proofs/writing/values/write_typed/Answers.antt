use Rattle.std.proofs.Common.{◌≡◌, ◌++◌, List, ℕ, ◌∙◌, ap, rules, sym, to_z, of_z, w64}
use Rattle.std.specs.Fmt.{signed_decimal}
use Rattle.jaeger_model.specs.declared.tag_value.ValueRef.{ValueRef}
use Rattle.jaeger_model.specs.StoredValues.{borrowed_value}
use Rattle.query_json.specs.Tags.{after_tag, behind_key}
use Rattle.json_page.proofs.Pages.{◌▸◌, Puts-is}
use Rattle.query_json.proofs.TagTexts.{bytes_then, double_then, flag_then, long_then, text_then}
use Rattle.query_json.proofs.writing.values.write_typed.Goals as goal

shown : {r s : ValueRef} → r ≡ s → behind_key (borrowed_value r) ≡ behind_key (borrowed_value s)
shown e = ap (λ r. behind_key (borrowed_value r)) e

pub returns-in-Text : goal.returns-in-Text
returns-in-Text c =
    let more = after_tag c.args.after in
    Puts-is (c.push_str.ensures ▸ c.push_escaped.ensures ▸ c.close_string.ensures)
    (text_then c.in-Text.text.now more ∙ ap (λ (l : List ℕ). l ++ more) (shown (sym c.in-Text.is) ∙ ap behind_key c.get.ensures))

pub returns-in-Double : goal.returns-in-Double
returns-in-Double c =
    let more = after_tag c.args.after in
    Puts-is (c.push_str-in-Double.ensures ▸ c.push_hex_of_eight.ensures ▸ c.close_string-in-Double.ensures)
    (double_then c.in-Double.bytes.now more ∙ ap (λ (l : List ℕ). l ++ more) (shown (sym c.in-Double.is) ∙ ap behind_key c.get.ensures))

pub returns-in-Bool : goal.returns-in-Bool
returns-in-Bool c =
    let more = after_tag c.args.after in
    Puts-is (Puts-is c.push_str-in-Bool.ensures c.typed_flag.ensures ▸ c.close.ensures)
    (flag_then c.in-Bool.flag more ∙ ap (λ (l : List ℕ). l ++ more) (shown (sym c.in-Bool.is) ∙ ap behind_key c.get.ensures))

pub returns-in-Long : goal.returns-in-Long
returns-in-Long c =
    let more = after_tag c.args.after in
    let read : to_z w64 (of_z w64 c.in-Long.number) ≡ c.in-Long.number = search rules in
    Puts-is (c.push_str-in-Long.ensures ▸ Puts-is c.push_signed.ensures (ap signed_decimal read) ▸ c.close-in-Long.ensures)
    (long_then c.in-Long.number more ∙ ap (λ (l : List ℕ). l ++ more) (shown (sym c.in-Long.is) ∙ ap behind_key c.get.ensures))

pub returns-in-Bytes : goal.returns-in-Bytes
returns-in-Bytes c =
    let more = after_tag c.args.after in
    Puts-is (c.push_str-in-Bytes.ensures ▸ c.push_hex.ensures ▸ c.close_string-in-Bytes.ensures)
    (bytes_then c.in-Bytes.bytes.now more ∙ ap (λ (l : List ℕ). l ++ more) (shown (sym c.in-Bytes.is) ∙ ap behind_key c.get.ensures))
