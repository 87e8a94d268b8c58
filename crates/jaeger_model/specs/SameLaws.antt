-- Laws that the impls of this crate name, and their lemmas. They are in specs/, since a clause can't name its own crate's proofs/.
-- Each test of Sameness.antt decides whether two values are equal.
use Rattle.std.specs.Prelude.{◌≡◌, ℤ, ◌==◌, Option, Some, None, refl}
use Rattle.std.specs.Bool.{Decides, beq}
use Rattle.std.specs.Ordering.{int_eq}
use Rattle.std.specs.Cmp.{booleans_Decides}
use Rattle.std.specs.Cmp.Lexicographic.{pointwise, pointwise_decides, bytes_decides}
use Rattle.std.proofs.Common.{ap}
use Rattle.std.proofs.lemmas.Bool.Decides.{Decides-eqb, Decides-int_eq, Decides-like, Decides-and}
use Rattle.jaeger_model.specs.Parents.{same_trace}
use Rattle.jaeger_model.specs.declared.ids.TraceId.{TraceId}
use Rattle.jaeger_model.specs.declared.ids.SpanId.{SpanId}
use Rattle.jaeger_model.specs.declared.span.RefKind.{RefKind}
use Rattle.jaeger_model.specs.declared.span.RefKind.TheVariants.{ChildOf, FollowsFrom}
use Rattle.jaeger_model.specs.declared.span.SpanRef.{SpanRef}
use Rattle.jaeger_model.specs.declared.span.Log.{Log}
use Rattle.jaeger_model.specs.declared.span.Span.{Span}
use Rattle.jaeger_model.specs.declared.batch.Batch.{Batch}
use Rattle.jaeger_model.specs.declared.placed.Placed.{Placed}
use Rattle.jaeger_model.specs.declared.tag.Tag.{Tag}
use Rattle.jaeger_model.specs.declared.batch.Process.{Process}
use Rattle.jaeger_model.specs.declared.tag.Value.{Value}
use Rattle.jaeger_model.specs.declared.tag.Value.TheVariants.{Text, Double, Bool as BoolValue, Long, Bytes}
use Rattle.jaeger_model.specs.Sameness.{same_value, same_tag, same_process, same_id, same_kind, same_reference, same_log, same_span, same_seq_no, same_batch}
use Rattle.jaeger_model.specs.Sameness.{same_placed}

pub same_value-decides : (a b : Value) → Decides (same_value a b) (a ≡ b)
same_value-decides (Text x) (Text y) = Decides-like (pointwise ◌==◌ x y) (λ e. ap (λ t. Text t) e) (λ e. cc) (bytes_decides x y)
same_value-decides (Double x) (Double y) = Decides-like (pointwise ◌==◌ x y) (λ e. ap (λ t. Double t) e) (λ e. cc) (bytes_decides x y)
same_value-decides (BoolValue x) (BoolValue y) = Decides-like (beq x y) (λ e. ap (λ t. BoolValue t) e) (λ e. cc) (booleans_Decides x y)
same_value-decides (Long x) (Long y) = Decides-like (int_eq x y) (λ e. ap (λ t. Long t) e) (λ e. cc) (Decides-int_eq x y)
same_value-decides (Bytes x) (Bytes y) = Decides-like (pointwise ◌==◌ x y) (λ e. ap (λ t. Bytes t) e) (λ e. cc) (bytes_decides x y)
same_value-decides (Text x) (Double y) = (λ e. absurd cc, λ e. absurd cc)
same_value-decides (Text x) (BoolValue y) = (λ e. absurd cc, λ e. absurd cc)
same_value-decides (Text x) (Long y) = (λ e. absurd cc, λ e. absurd cc)
same_value-decides (Text x) (Bytes y) = (λ e. absurd cc, λ e. absurd cc)
same_value-decides (Double x) (Text y) = (λ e. absurd cc, λ e. absurd cc)
same_value-decides (Double x) (BoolValue y) = (λ e. absurd cc, λ e. absurd cc)
same_value-decides (Double x) (Long y) = (λ e. absurd cc, λ e. absurd cc)
same_value-decides (Double x) (Bytes y) = (λ e. absurd cc, λ e. absurd cc)
same_value-decides (BoolValue x) (Text y) = (λ e. absurd cc, λ e. absurd cc)
same_value-decides (BoolValue x) (Double y) = (λ e. absurd cc, λ e. absurd cc)
same_value-decides (BoolValue x) (Long y) = (λ e. absurd cc, λ e. absurd cc)
same_value-decides (BoolValue x) (Bytes y) = (λ e. absurd cc, λ e. absurd cc)
same_value-decides (Long x) (Text y) = (λ e. absurd cc, λ e. absurd cc)
same_value-decides (Long x) (Double y) = (λ e. absurd cc, λ e. absurd cc)
same_value-decides (Long x) (BoolValue y) = (λ e. absurd cc, λ e. absurd cc)
same_value-decides (Long x) (Bytes y) = (λ e. absurd cc, λ e. absurd cc)
same_value-decides (Bytes x) (Text y) = (λ e. absurd cc, λ e. absurd cc)
same_value-decides (Bytes x) (Double y) = (λ e. absurd cc, λ e. absurd cc)
same_value-decides (Bytes x) (BoolValue y) = (λ e. absurd cc, λ e. absurd cc)
same_value-decides (Bytes x) (Long y) = (λ e. absurd cc, λ e. absurd cc)

pub same_tag-decides : (a b : Tag) → Decides (same_tag a b) (a ≡ b)
same_tag-decides a b =
    Decides-like (same_tag a b) (λ p. both p.0 p.1) (λ e. (ap (λ (t : Tag). t.key) e, ap (λ (t : Tag). t.value) e))
    (Decides-and (pointwise ◌==◌ a.key b.key) (same_value a.value b.value) (bytes_decides a.key b.key) (same_value-decides a.value b.value))
  where
    both : a.key ≡ b.key → a.value ≡ b.value → a ≡ b
    both k v = λ i. record { key = k i; value = v i }

pub same_process-decides : (a b : Process) → Decides (same_process a b) (a ≡ b)
same_process-decides a b =
    Decides-like (same_process a b) (λ p. both p.0 p.1) (λ e. (ap (λ (t : Process). t.service) e, ap (λ (t : Process). t.tags) e))
    (Decides-and (pointwise ◌==◌ a.service b.service) (pointwise same_tag a.tags b.tags) (bytes_decides a.service b.service)
    (pointwise_decides same_tag-decides a.tags b.tags))
  where
    both : a.service ≡ b.service → a.tags ≡ b.tags → a ≡ b
    both k v = λ i. record { service = k i; tags = v i }

pub same_trace-decides : (a b : TraceId) → Decides (same_trace a b) (a ≡ b)
same_trace-decides a b =
    Decides-like (same_trace a b) (λ p. λ i. record { high = p.0 i; low = p.1 i }) (λ e. (ap (λ (t : TraceId). t.high) e, ap (λ (t : TraceId). t.low) e))
    (Decides-and (a.high == b.high) (a.low == b.low) (Decides-eqb a.high b.high) (Decides-eqb a.low b.low))

pub same_id-decides : (a b : SpanId) → Decides (same_id a b) (a ≡ b)
same_id-decides a b = Decides-like (same_id a b) (λ e. λ i. record { 0 = e i }) (λ e. ap (λ (t : SpanId). t.0) e) (Decides-eqb a.0 b.0)

pub same_kind-decides : (a b : RefKind) → Decides (same_kind a b) (a ≡ b)
same_kind-decides ChildOf ChildOf = (λ e. refl, λ e. refl)
same_kind-decides FollowsFrom FollowsFrom = (λ e. refl, λ e. refl)
same_kind-decides ChildOf FollowsFrom = (λ e. absurd cc, λ e. absurd cc)
same_kind-decides FollowsFrom ChildOf = (λ e. absurd cc, λ e. absurd cc)

pub same_reference-decides : (a b : SpanRef) → Decides (same_reference a b) (a ≡ b)
same_reference-decides a b =
    Decides-like (same_reference a b) (λ p. λ i. record { kind = p.0 i; trace = p.1.0 i; id = p.1.1 i })
    (λ e. (ap (λ (t : SpanRef). t.kind) e, (ap (λ (t : SpanRef). t.trace) e, ap (λ (t : SpanRef). t.id) e)))
    (Decides-and (same_kind a.kind b.kind) _ (same_kind-decides a.kind b.kind)
    (Decides-and (same_trace a.trace b.trace) (same_id a.id b.id) (same_trace-decides a.trace b.trace) (same_id-decides a.id b.id)))

pub same_log-decides : (a b : Log) → Decides (same_log a b) (a ≡ b)
same_log-decides a b =
    Decides-like (same_log a b) (λ p. λ i. record { at = p.0 i; fields = p.1 i }) (λ e. (ap (λ (t : Log). t.at) e, ap (λ (t : Log). t.fields) e))
    (Decides-and (int_eq a.at b.at) (pointwise same_tag a.fields b.fields) (Decides-int_eq a.at b.at) (pointwise_decides same_tag-decides a.fields b.fields))

pub same_span-decides : (a b : Span) → Decides (same_span a b) (a ≡ b)
same_span-decides a b =
    Decides-like (same_span a b)
    (λ p. λ i. record {
      trace = p.0 i;
      id = p.1.0 i;
      parent = p.1.1.0 i;
      operation = p.1.1.1.0 i;
      references = p.1.1.1.1.0 i;
      flags = p.1.1.1.1.1.0 i;
      start = p.1.1.1.1.1.1.0 i;
      duration = p.1.1.1.1.1.1.1.0 i;
      tags = p.1.1.1.1.1.1.1.1.0 i;
      logs = p.1.1.1.1.1.1.1.1.1 i;
    })
    (λ e. (
      ap (λ (t : Span). t.trace) e,
      (
        ap (λ (t : Span). t.id) e,
        (
          ap (λ (t : Span). t.parent) e,
          (
            ap (λ (t : Span). t.operation) e,
            (
              ap (λ (t : Span). t.references) e,
              (
                ap (λ (t : Span). t.flags) e,
                (ap (λ (t : Span). t.start) e, (ap (λ (t : Span). t.duration) e, (ap (λ (t : Span). t.tags) e, ap (λ (t : Span). t.logs) e))),
              ),
            ),
          ),
        ),
      ),
    ))
    (Decides-and (same_trace a.trace b.trace) _ (same_trace-decides a.trace b.trace)
    (Decides-and (same_id a.id b.id) _ (same_id-decides a.id b.id)
    (Decides-and (same_id a.parent b.parent) _ (same_id-decides a.parent b.parent)
    (Decides-and (pointwise ◌==◌ a.operation b.operation) _ (bytes_decides a.operation b.operation)
    (Decides-and (pointwise same_reference a.references b.references) _ (pointwise_decides same_reference-decides a.references b.references)
    (Decides-and (int_eq a.flags b.flags) _ (Decides-int_eq a.flags b.flags)
    (Decides-and (int_eq a.start b.start) _ (Decides-int_eq a.start b.start)
    (Decides-and (int_eq a.duration b.duration) _ (Decides-int_eq a.duration b.duration)
    (Decides-and (pointwise same_tag a.tags b.tags) _ (pointwise_decides same_tag-decides a.tags b.tags)
    (pointwise_decides same_log-decides a.logs b.logs))))))))))

pub same_seq_no-decides : (a b : Option ℤ) → Decides (same_seq_no a b) (a ≡ b)
same_seq_no-decides None None = (λ e. refl, λ e. refl)
same_seq_no-decides (Some x) (Some y) = Decides-like (int_eq x y) (λ e. ap (λ z. Some z) e) (λ e. cc) (Decides-int_eq x y)
same_seq_no-decides None (Some y) = (λ e. absurd cc, λ e. absurd cc)
same_seq_no-decides (Some x) None = (λ e. absurd cc, λ e. absurd cc)

pub same_batch-decides : (a b : Batch) → Decides (same_batch a b) (a ≡ b)
same_batch-decides a b =
    Decides-like (same_batch a b) (λ p. λ i. record { seq_no = p.0 i; process = p.1.0 i; spans = p.1.1 i })
    (λ e. (ap (λ (t : Batch). t.seq_no) e, (ap (λ (t : Batch). t.process) e, ap (λ (t : Batch). t.spans) e)))
    (Decides-and (same_seq_no a.seq_no b.seq_no) _ (same_seq_no-decides a.seq_no b.seq_no)
    (Decides-and (same_process a.process b.process) _ (same_process-decides a.process b.process) (pointwise_decides same_span-decides a.spans b.spans)))

pub same_placed-decides : (a b : Placed) → Decides (same_placed a b) (a ≡ b)
same_placed-decides a b =
    Decides-like (same_placed a b) (λ p. λ i. record { process = p.1 i; span = p.0 i }) (λ e. (ap (λ (t : Placed). t.span) e, ap (λ (t : Placed). t.process) e))
    (Decides-and (same_span a.span b.span) (same_process a.process b.process) (same_span-decides a.span b.span) (same_process-decides a.process b.process))
