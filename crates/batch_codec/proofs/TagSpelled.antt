-- The bytes of a tag that is read spell it, and every spelling of a tag is read.
use Rattle.std.proofs.Common.{◌≡◌, ℕ, ℤ, pos, eqb, ◌&&◌, Some, Ok, refl, sym, ap, ◌∙◌}
use Rattle.std.specs.Ordering.{int_eq}
use Rattle.jaeger_model.specs.declared.tag.Tag.{Tag}
use Rattle.jaeger_model.specs.declared.tag.Value.{Value}
use Rattle.thrift_binary.proofs.ReadBytesSpell.{ok_is}
use Rattle.batch_codec.specs.declared.fault.StructName.TheVariants as structs
use Rattle.batch_codec.specs.declared.tag.TagSlots.{TagSlots}
use Rattle.batch_codec.specs.EmptySlots.{value_named}
use Rattle.batch_codec.specs.TagReading.{take_tag, tag_from, tag_at}
use Rattle.batch_codec.specs.Batches.{TagField, MakesTag, tag_rule, IsTag}
use Rattle.batch_codec.proofs.ValuesSpelled.{Agrees, is_text, is_type, is_double, is_bool, is_i64, is_binary}
use Rattle.batch_codec.proofs.Structs.{known_is, skipped_is, struct_is, required_found}

pub tag_field_is : (s : TagSlots) (c : ℕ) (i : ℤ) → Agrees (take_tag s c i) (λ v t. TagField s (record { code = c; id = i; text = v }) t)
unfolding take_tag TagField
tag_field_is s c i =
    known_is is_text (λ x. record s { key = Some x }) (eqb c 11 && int_eq i (pos 1)) _ _ (
    known_is is_type (λ x. record s { kind = Some x }) (eqb c 8 && int_eq i (pos 2)) _ _ (
    known_is is_text (λ x. record s { text = x }) (eqb c 11 && int_eq i (pos 3)) _ _ (
    known_is is_double (λ x. record s { double = x }) (eqb c 4 && int_eq i (pos 4)) _ _ (
    known_is is_bool (λ x. record s { boolean = x }) (eqb c 2 && int_eq i (pos 5)) _ _ (
    known_is is_i64 (λ x. record s { long = x }) (eqb c 10 && int_eq i (pos 6)) _ _ (
    known_is is_binary (λ x. record s { binary = x }) (eqb c 11 && int_eq i (pos 7)) _ _ (
    skipped_is s c)))))))

made : (s : TagSlots) (x : Tag) → tag_from s ≡ Ok x → MakesTag s x
unfolding tag_from
made s x e =
    let k = required_found s.key structs.Tag 1 _ x e in
    let n = required_found s.kind structs.Tag 2 _ x k.2 in
    let tag : Tag = record { key = k.0; value = value_named n.0 s } in
    let same : tag ≡ x = ok_is tag x n.2 in
    record {
      key = k.1 ∙ ap (λ (y : Tag). Some y.key) same;
      kind = n.0;
      named = n.1;
      value = sym (ap (λ (y : Tag). y.value) same);
    }

makes : (s : TagSlots) (x : Tag) → MakesTag s x → tag_from s ≡ Ok x
unfolding tag_from
makes s x m =
    let step : tag_from s ≡ Ok (record { key = x.key; value = value_named m.kind s }) = rw (m.key, m.named) refl in
    step ∙ ap (λ (v : Value). let tag : Tag = record { key = x.key; value = v } in Ok tag) (sym m.value)

pub is_tag : Agrees tag_at IsTag
unfolding tag_at IsTag
is_tag = struct_is take_tag tag_rule tag_from tag_field_is made makes
