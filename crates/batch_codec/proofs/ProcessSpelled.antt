-- The bytes of a process that is read spell it, and every spelling of a process is read.
use Rattle.std.proofs.Common.{◌≡◌, ℕ, ℤ, pos, eqb, ◌&&◌, Some, Ok, refl, ap, ◌∙◌}
use Rattle.std.specs.Ordering.{int_eq}
use Rattle.jaeger_model.specs.declared.batch.Process.{Process}
use Rattle.thrift_binary.proofs.ReadBytesSpell.{ok_is}
use Rattle.batch_codec.specs.declared.fault.StructName.TheVariants as structs
use Rattle.batch_codec.specs.declared.process.ProcessSlots.{ProcessSlots}
use Rattle.batch_codec.specs.ProcessReading.{take_process, process_from, process_at}
use Rattle.batch_codec.specs.Batches.{ProcessField, whole_process, process_rule, IsProcess}
use Rattle.batch_codec.proofs.ValuesSpelled.{Agrees, is_text}
use Rattle.batch_codec.proofs.Structs.{known_is, skipped_is, struct_is, required_found, is_list}
use Rattle.batch_codec.proofs.TagSpelled.{is_tag}

pub process_field_is : (s : ProcessSlots) (c : ℕ) (i : ℤ) → Agrees (take_process s c i) (λ v t. ProcessField s (record { code = c; id = i; text = v }) t)
unfolding take_process ProcessField
process_field_is s c i =
    known_is is_text (λ x. record s { service = Some x }) (eqb c 11 && int_eq i (pos 1)) _ _ (
    known_is (is_list is_tag) (λ x. record s { tags = x }) (eqb c 15 && int_eq i (pos 2)) _ _ (
    skipped_is s c))

all_there : (s : ProcessSlots) (x : Process) → s.service ≡ Some x.service → s.tags ≡ x.tags → s ≡ whole_process x
all_there s x a b = rw (a, b) refl

made : (s : ProcessSlots) (x : Process) → process_from s ≡ Ok x → s ≡ whole_process x
unfolding process_from
made s x e =
    let a = required_found s.service structs.Process 1 _ x e in
    let whole : Process = record { service = a.0; tags = s.tags } in
    let same : whole ≡ x = ok_is whole x a.2 in
    let there : s ≡ whole_process whole = all_there s whole a.1 refl in
    there ∙ ap (λ (y : Process). whole_process y) same

makes : (s : ProcessSlots) (x : Process) → s ≡ whole_process x → process_from s ≡ Ok x
unfolding process_from
makes s x m = rw m refl

pub is_process : Agrees process_at IsProcess
unfolding process_at IsProcess
is_process = struct_is take_process process_rule process_from process_field_is made makes
