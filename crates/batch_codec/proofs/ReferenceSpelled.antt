-- The bytes of a reference that is read spell it, and every spelling of a reference is read.
use Rattle.std.proofs.Common.{◌≡◌, ℕ, ℤ, pos, eqb, ◌&&◌, Some, Ok, refl, ap, ◌∙◌}
use Rattle.std.specs.Ordering.{int_eq}
use Rattle.jaeger_model.specs.declared.span.SpanRef.{SpanRef}
use Rattle.thrift_binary.proofs.ReadBytesSpell.{ok_is}
use Rattle.batch_codec.specs.declared.fault.StructName.TheVariants as structs
use Rattle.batch_codec.specs.declared.reference.ReferenceSlots.{ReferenceSlots}
use Rattle.batch_codec.specs.ReferenceReading.{take_reference, reference_from, reference_at}
use Rattle.batch_codec.specs.Batches.{ReferenceField, whole_reference, reference_rule, IsReference}
use Rattle.batch_codec.proofs.ValuesSpelled.{Agrees, is_kind, is_id}
use Rattle.batch_codec.proofs.Structs.{known_is, skipped_is, struct_is, required_found}

pub reference_field_is : (s : ReferenceSlots) (c : ℕ) (i : ℤ)
    → Agrees (take_reference s c i) (λ v t. ReferenceField s (record { code = c; id = i; text = v }) t)
unfolding take_reference ReferenceField
reference_field_is s c i =
    known_is is_kind (λ x. record s { kind = Some x }) (eqb c 8 && int_eq i (pos 1)) _ _ (
    known_is is_id (λ x. record s { trace_low = Some x }) (eqb c 10 && int_eq i (pos 2)) _ _ (
    known_is is_id (λ x. record s { trace_high = Some x }) (eqb c 10 && int_eq i (pos 3)) _ _ (
    known_is is_id (λ x. record s { id = Some x }) (eqb c 10 && int_eq i (pos 4)) _ _ (
    skipped_is s c))))

all_there : (s : ReferenceSlots) (x : SpanRef) → s.kind ≡ Some x.kind → s.trace_low ≡ Some x.trace.low → s.trace_high ≡ Some x.trace.high → s.id ≡ Some x.id.0
    → s ≡ whole_reference x
all_there s x a b c d = rw (a, b, c, d) refl

made : (s : ReferenceSlots) (x : SpanRef) → reference_from s ≡ Ok x → s ≡ whole_reference x
unfolding reference_from
made s x e =
    let a = required_found s.kind structs.SpanRef 1 _ x e in
    let b = required_found s.trace_low structs.SpanRef 2 _ x a.2 in
    let c = required_found s.trace_high structs.SpanRef 3 _ x b.2 in
    let d = required_found s.id structs.SpanRef 4 _ x c.2 in
    let whole : SpanRef = record { kind = a.0; trace = record { high = c.0; low = b.0 }; id = record { 0 = d.0 } } in
    let same : whole ≡ x = ok_is whole x d.2 in
    let there : s ≡ whole_reference whole = all_there s whole a.1 b.1 c.1 d.1 in
    there ∙ ap (λ (y : SpanRef). whole_reference y) same

makes : (s : ReferenceSlots) (x : SpanRef) → s ≡ whole_reference x → reference_from s ≡ Ok x
unfolding reference_from
makes s x m = rw m refl

pub is_reference : Agrees reference_at IsReference
unfolding reference_at IsReference
is_reference = struct_is take_reference reference_rule reference_from reference_field_is made makes
