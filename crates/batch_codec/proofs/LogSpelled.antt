-- The bytes of a log that is read spell it, and every spelling of a log is read.
use Rattle.std.proofs.Common.{◌≡◌, ℕ, ℤ, pos, eqb, ◌&&◌, Some, Ok, refl, ap, ◌∙◌}
use Rattle.std.specs.Ordering.{int_eq}
use Rattle.jaeger_model.specs.declared.span.Log.{Log}
use Rattle.thrift_binary.proofs.ReadBytesSpell.{ok_is}
use Rattle.batch_codec.specs.declared.fault.StructName.TheVariants as structs
use Rattle.batch_codec.specs.declared.log.LogSlots.{LogSlots}
use Rattle.batch_codec.specs.LogReading.{take_log, log_from, log_at}
use Rattle.batch_codec.specs.Batches.{LogField, whole_log, log_rule, IsLog}
use Rattle.batch_codec.proofs.ValuesSpelled.{Agrees, is_i64}
use Rattle.batch_codec.proofs.Structs.{known_is, skipped_is, struct_is, required_found, is_list}
use Rattle.batch_codec.proofs.TagSpelled.{is_tag}

pub log_field_is : (s : LogSlots) (c : ℕ) (i : ℤ) → Agrees (take_log s c i) (λ v t. LogField s (record { code = c; id = i; text = v }) t)
unfolding take_log LogField
log_field_is s c i =
    known_is is_i64 (λ x. record s { at = Some x }) (eqb c 10 && int_eq i (pos 1)) _ _ (
    known_is (is_list is_tag) (λ x. record s { fields = Some x }) (eqb c 15 && int_eq i (pos 2)) _ _ (
    skipped_is s c))

all_there : (s : LogSlots) (x : Log) → s.at ≡ Some x.at → s.fields ≡ Some x.fields → s ≡ whole_log x
all_there s x a b = rw (a, b) refl

made : (s : LogSlots) (x : Log) → log_from s ≡ Ok x → s ≡ whole_log x
unfolding log_from
made s x e =
    let a = required_found s.at structs.Log 1 _ x e in
    let b = required_found s.fields structs.Log 2 _ x a.2 in
    let whole : Log = record { at = a.0; fields = b.0 } in
    let same : whole ≡ x = ok_is whole x b.2 in
    let there : s ≡ whole_log whole = all_there s whole a.1 b.1 in
    there ∙ ap (λ (y : Log). whole_log y) same

makes : (s : LogSlots) (x : Log) → s ≡ whole_log x → log_from s ≡ Ok x
unfolding log_from
makes s x m = rw m refl

pub is_log : Agrees log_at IsLog
unfolding log_at IsLog
is_log = struct_is take_log log_rule log_from log_field_is made makes
