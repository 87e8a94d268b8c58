-- The bytes of a batch that is read spell it, and every spelling of a batch is read.
use Rattle.std.proofs.Common.{◌≡◌, ℕ, ℤ, pos, eqb, ◌&&◌, List, [], ◌++◌, length, Some, Result, Ok, Err, refl, sym, ap, subst, ◌∙◌, ◌⊎◌, inl, inr}
use Rattle.std.specs.Ordering.{int_eq}
use Rattle.std.specs.Prelude.{IfOk}
use Rattle.std.proofs.lemmas.Bool.{eqb-true}
use Rattle.std.proofs.lemmas.List.{append-nil, nil_from_length}
use Rattle.jaeger_model.specs.declared.batch.Batch.{Batch}
use Rattle.thrift_binary.proofs.ReadBytesSpell.{bind_ok, pass_ok, ok_is}
use Rattle.batch_codec.specs.declared.fault.DecodeError.{DecodeError}
use Rattle.batch_codec.specs.declared.fault.DecodeError.TheVariants.{Memory, Wire, Missing, BadEnum, Trailing}
use Rattle.batch_codec.specs.declared.fault.StructName.TheVariants as structs
use Rattle.batch_codec.specs.declared.batch.BatchSlots.{BatchSlots}
use Rattle.batch_codec.specs.Decoding.{Gives}
use Rattle.batch_codec.specs.BatchReading.{take_batch, batch_from, batch_at, at_end, decoded}
use Rattle.batch_codec.specs.Batches.{BatchField, whole_batch, batch_rule, IsBatch, Answers}
use Rattle.batch_codec.specs.SpelledBatches.{DecodesWhatIsSpelled}
use Rattle.batch_codec.proofs.ValuesSpelled.{Agrees, is_i64}
use Rattle.batch_codec.proofs.Structs.{known_is, skipped_is, struct_is, required_found, is_list}
use Rattle.batch_codec.proofs.ProcessSpelled.{is_process}
use Rattle.batch_codec.proofs.SpanSpelled.{is_span}

pub batch_field_is : (s : BatchSlots) (c : ℕ) (i : ℤ) → Agrees (take_batch s c i) (λ v t. BatchField s (record { code = c; id = i; text = v }) t)
unfolding take_batch BatchField
batch_field_is s c i =
    known_is is_process (λ x. record s { process = Some x }) (eqb c 12 && int_eq i (pos 1)) _ _ (
    known_is (is_list is_span) (λ x. record s { spans = Some x }) (eqb c 15 && int_eq i (pos 2)) _ _ (
    known_is is_i64 (λ x. record s { seq_no = Some x }) (eqb c 10 && int_eq i (pos 3)) _ _ (
    skipped_is s c)))

all_there : (s : BatchSlots) (x : Batch) → s.process ≡ Some x.process → s.spans ≡ Some x.spans → s.seq_no ≡ x.seq_no → s ≡ whole_batch x
all_there s x a b c = rw (a, b, c) refl

made : (s : BatchSlots) (x : Batch) → batch_from s ≡ Ok x → s ≡ whole_batch x
unfolding batch_from
made s x e =
    let a = required_found s.process structs.Batch 1 _ x e in
    let b = required_found s.spans structs.Batch 2 _ x a.2 in
    let whole : Batch = record { process = a.0; spans = b.0; seq_no = s.seq_no } in
    let same : whole ≡ x = ok_is whole x b.2 in
    let there : s ≡ whole_batch whole = all_there s whole a.1 b.1 refl in
    there ∙ ap (λ (y : Batch). whole_batch y) same

makes : (s : BatchSlots) (x : Batch) → s ≡ whole_batch x → batch_from s ≡ Ok x
unfolding batch_from
makes s x m = rw m refl

pub is_batch : Agrees batch_at IsBatch
unfolding batch_at IsBatch
is_batch = struct_is take_batch batch_rule batch_from batch_field_is made makes

-- ---- all of the bytes

pub batch_found : (w : List ℕ) (b : Batch) → decoded w ≡ Ok b → IsBatch w b
unfolding decoded
batch_found w b e =
    let x = bind_ok (batch_at w) at_end b e in
    let p = pass_ok (eqb (length x.0.1) 0) Trailing x.0.0 b x.2 in
    let f = is_batch.found w x.0.0 x.0.1 x.1 in
    let none : x.0.1 ≡ [] = nil_from_length x.0.1 (eqb-true (length x.0.1) 0 p.0) in
    let same : f.text ≡ w = sym (f.parts ∙ ap (λ (v : List ℕ). f.text ++ v) none ∙ append-nil f.text) in
    let spells : IsBatch w x.0.0 = subst (λ (v : List ℕ). IsBatch v x.0.0) same f.spells in
    subst (λ (y : Batch). IsBatch w y) p.1 spells

pub batch_again : (w : List ℕ) (b : Batch) → IsBatch w b → decoded w ≡ Ok b
unfolding decoded
batch_again w b is =
    let here : batch_at w ≡ Ok (b, []) = ap batch_at (sym (append-nil w)) ∙ is_batch.again w [] b is in
    rw here refl

pub decodes_what_is_spelled : DecodesWhatIsSpelled
decodes_what_is_spelled w b = (batch_found w b, batch_again w b)

pub decoded_found : (w : List ℕ) (result : Result Batch DecodeError) → Gives result (decoded w) → IfOk result (λ b. IsBatch w b)
decoded_found w (Ok b) e = batch_found w b e
decoded_found w (Err d) e = tt

abbrev ok_batch : Batch → Result Batch DecodeError
ok_batch b = Ok b

-- the result of a call whose reading yields a batch
decoded_so : (read : Result Batch DecodeError) (b : Batch) (result : Result Batch DecodeError) → read ≡ ok_batch b → Gives result read → (result ≡ ok_batch b)
    ⊎ (result ≡ Err Memory)
decoded_so read b (Ok x) e g = inl (sym g ∙ e)
decoded_so read b (Err Memory) e g = inr refl
decoded_so read b (Err (Wire d)) e g = absurd cc
decoded_so read b (Err (Missing p i)) e g = absurd cc
decoded_so read b (Err BadEnum) e g = absurd cc
decoded_so read b (Err Trailing) e g = absurd cc

pub decoded_complete : (w : List ℕ) (result : Result Batch DecodeError) → Gives result (decoded w) → Answers w result
decoded_complete w result g b is = decoded_so (decoded w) b result (batch_again w b is) g
