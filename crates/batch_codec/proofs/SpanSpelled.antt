-- The bytes of a span that is read spell it, and every spelling of a span is read.
use Rattle.std.proofs.Common.{◌≡◌, ℕ, ℤ, pos, eqb, ◌&&◌, Some, Ok, refl, ap, ◌∙◌}
use Rattle.std.specs.Ordering.{int_eq}
use Rattle.jaeger_model.specs.declared.span.Span.{Span}
use Rattle.thrift_binary.proofs.ReadBytesSpell.{ok_is}
use Rattle.batch_codec.specs.declared.fault.StructName.TheVariants as structs
use Rattle.batch_codec.specs.declared.span.SpanSlots.{SpanSlots}
use Rattle.batch_codec.specs.SpanReading.{take_span, span_from, span_at}
use Rattle.batch_codec.specs.Batches.{SpanField, whole_span, span_rule, IsSpan}
use Rattle.batch_codec.proofs.ValuesSpelled.{Agrees, is_text, is_id, is_i32, is_i64}
use Rattle.batch_codec.proofs.Structs.{known_is, skipped_is, struct_is, required_found, is_list}
use Rattle.batch_codec.proofs.TagSpelled.{is_tag}
use Rattle.batch_codec.proofs.LogSpelled.{is_log}
use Rattle.batch_codec.proofs.ReferenceSpelled.{is_reference}

pub span_field_is : (s : SpanSlots) (c : ℕ) (i : ℤ) → Agrees (take_span s c i) (λ v t. SpanField s (record { code = c; id = i; text = v }) t)
unfolding take_span SpanField
span_field_is s c i =
    known_is is_id (λ x. record s { trace_low = Some x }) (eqb c 10 && int_eq i (pos 1)) _ _ (
    known_is is_id (λ x. record s { trace_high = Some x }) (eqb c 10 && int_eq i (pos 2)) _ _ (
    known_is is_id (λ x. record s { id = Some x }) (eqb c 10 && int_eq i (pos 3)) _ _ (
    known_is is_id (λ x. record s { parent = Some x }) (eqb c 10 && int_eq i (pos 4)) _ _ (
    known_is is_text (λ x. record s { operation = Some x }) (eqb c 11 && int_eq i (pos 5)) _ _ (
    known_is (is_list is_reference) (λ x. record s { references = x }) (eqb c 15 && int_eq i (pos 6)) _ _ (
    known_is is_i32 (λ x. record s { flags = Some x }) (eqb c 8 && int_eq i (pos 7)) _ _ (
    known_is is_i64 (λ x. record s { start = Some x }) (eqb c 10 && int_eq i (pos 8)) _ _ (
    known_is is_i64 (λ x. record s { duration = Some x }) (eqb c 10 && int_eq i (pos 9)) _ _ (
    known_is (is_list is_tag) (λ x. record s { tags = x }) (eqb c 15 && int_eq i (pos 10)) _ _ (
    known_is (is_list is_log) (λ x. record s { logs = x }) (eqb c 15 && int_eq i (pos 11)) _ _ (
    skipped_is s c)))))))))))

all_there : (s : SpanSlots) (x : Span) → s.trace_low ≡ Some x.trace.low → s.trace_high ≡ Some x.trace.high → s.id ≡ Some x.id.0 → s.parent ≡ Some x.parent.0
    → s.operation ≡ Some x.operation → s.references ≡ x.references → s.flags ≡ Some x.flags → s.start ≡ Some x.start → s.duration ≡ Some x.duration
    → s.tags ≡ x.tags → s.logs ≡ x.logs → s ≡ whole_span x
all_there s x a b c d e f g h i j k = rw (a, b, c, d, e, f, g, h, i, j, k) refl

made : (s : SpanSlots) (x : Span) → span_from s ≡ Ok x → s ≡ whole_span x
unfolding span_from
made s x e =
    let a = required_found s.trace_low structs.Span 1 _ x e in
    let b = required_found s.trace_high structs.Span 2 _ x a.2 in
    let c = required_found s.id structs.Span 3 _ x b.2 in
    let d = required_found s.parent structs.Span 4 _ x c.2 in
    let e = required_found s.operation structs.Span 5 _ x d.2 in
    let f = required_found s.flags structs.Span 7 _ x e.2 in
    let g = required_found s.start structs.Span 8 _ x f.2 in
    let h = required_found s.duration structs.Span 9 _ x g.2 in
    let whole : Span = record {
      trace = record { high = b.0; low = a.0 };
      id = record { 0 = c.0 };
      parent = record { 0 = d.0 };
      operation = e.0;
      references =
          s.references;
      flags = f.0;
      start = g.0;
      duration = h.0;
      tags = s.tags;
      logs = s.logs;
    } in
    let same : whole ≡ x = ok_is whole x h.2 in
    let there : s ≡ whole_span whole = all_there s whole a.1 b.1 c.1 d.1 e.1 refl f.1 g.1 h.1 refl refl in
    there ∙ ap (λ (y : Span). whole_span y) same

makes : (s : SpanSlots) (x : Span) → s ≡ whole_span x → span_from s ≡ Ok x
unfolding span_from
makes s x m = rw m refl

pub is_span : Agrees span_at IsSpan
unfolding span_at IsSpan
is_span = struct_is take_span span_rule span_from span_field_is made makes
