-- The text of fields, part by part.
use Rattle.std.proofs.Common.{◌≡◌, ℕ, List, [], ◌∷◌, ◌++◌, Bool, true, Result, Ok, Err, refl, sym, ap, ◌∙◌, append_assoc}
use Rattle.std.specs.Prelude.{pos}
use Rattle.jaeger_model.specs.declared.span.Span.{Span}
use Rattle.jaeger_model.specs.declared.batch.Process.{Process}
use Rattle.jaeger_model.specs.declared.batch.Batch.{Batch}
use Rattle.thrift_binary.specs.Spelling.{Field}
use Rattle.thrift_binary.specs.declared.out.WriteError.{WriteError}
use Rattle.thrift_binary.specs.declared.out.WriteError.TheVariants.{BadLength, Memory}
use Rattle.thrift_binary.specs.Writing.{field_text, fields_text, stop_text, Writes}
use Rattle.batch_codec.specs.Changes.{change}
use Rattle.batch_codec.specs.CanonicalTexts.{Encodes, front_text, text_field, list_field, list_if_any, number_if_any, canon_tag, canon_log, canon_reference}
use Rattle.batch_codec.specs.CanonicalTexts.{canon_process, canon_span, span_front, span_middle, span_fields, process_fields, batch_fields}

pub front_text-append : (fs gs : List Field) → front_text (fs ++ gs) ≡ front_text fs ++ front_text gs
front_text-append [] gs = refl
front_text-append (f ∷ fs) gs =
    ap (λ (t : List ℕ). field_text f.code f.id ++ (f.text ++ t)) (front_text-append fs gs)
    ∙ ap (λ (t : List ℕ). field_text f.code f.id ++ t) (sym (append_assoc f.text (front_text fs) (front_text gs)))
    ∙ sym (append_assoc (field_text f.code f.id) (f.text ++ front_text fs) (front_text gs))

pub fields_text-front : (fs : List Field) → fields_text fs ≡ front_text fs ++ stop_text
fields_text-front [] = refl
fields_text-front (f ∷ fs) =
    ap (λ (t : List ℕ). field_text f.code f.id ++ (f.text ++ t)) (fields_text-front fs)
    ∙ ap (λ (t : List ℕ). field_text f.code f.id ++ t) (sym (append_assoc f.text (front_text fs) stop_text))
    ∙ sym (append_assoc (field_text f.code f.id) (f.text ++ front_text fs) stop_text)

-- the text of a process, field by field
pub process_is : (p : Process)
    → fields_text (process_fields p) ≡ (front_text (text_field (pos 1) p.service ∷ []) ++ front_text (list_if_any (pos 2) canon_tag p.tags)) ++ stop_text
process_is p =
    fields_text-front (process_fields p)
    ∙ ap (λ (t : List ℕ). t ++ stop_text) (front_text-append (text_field (pos 1) p.service ∷ []) (list_if_any (pos 2) canon_tag p.tags))

-- the text of a batch, field by field
pub batch_is : (b : Batch)
    → fields_text (batch_fields b)
    ≡ (((field_text 12 (pos 1) ++ canon_process b.process) ++ front_text (list_field (pos 2) canon_span b.spans ∷ []))
    ++ front_text (number_if_any (pos 3) b.seq_no)) ++ stop_text
batch_is b =
    let n = number_if_any (pos 3) b.seq_no in
    let l = list_field (pos 2) canon_span b.spans in
    fields_text-front (batch_fields b)
    ∙ ap (λ (t : List ℕ). t ++ stop_text)
    (ap (λ (t : List ℕ). field_text 12 (pos 1) ++ (canon_process b.process ++ t)) (front_text-append (l ∷ []) n)
    ∙ regroup (field_text 12 (pos 1)) (canon_process b.process) (front_text (l ∷ [])) (front_text n))
  where
    regroup : (a b c d : List ℕ) → a ++ (b ++ (c ++ d)) ≡ ((a ++ b) ++ c) ++ d
    regroup a b c d = simp append_assoc

pub span_stop : (s : Span) → fields_text (span_fields s) ≡ front_text (span_fields s) ++ stop_text
span_stop s = fields_text-front (span_fields s)

pub span_front_parts : (s : Span)
    → front_text (span_fields s) ≡ (((front_text (span_front s) ++ front_text (list_if_any (pos 6) canon_reference s.references)) ++ front_text (span_middle s))
    ++ front_text (list_if_any (pos 10) canon_tag s.tags)) ++ front_text (list_if_any (pos 11) canon_log s.logs)
span_front_parts s =
    let a = span_front s in
    let b = list_if_any (pos 6) canon_reference s.references in
    let c = span_middle s in
    let d = list_if_any (pos 10) canon_tag s.tags in
    let e = list_if_any (pos 11) canon_log s.logs in
    front_text-append a (b ++ (c ++ (d ++ e)))
    ∙ ap (λ (t : List ℕ). front_text a ++ t)
    (front_text-append b (c ++ (d ++ e))
    ∙ ap (λ (t : List ℕ). front_text b ++ t) (front_text-append c (d ++ e) ∙ ap (λ (t : List ℕ). front_text c ++ t) (front_text-append d e)))
    ∙ regroup (front_text a) (front_text b) (front_text c) (front_text d) (front_text e)
  where
    regroup : (a b c d e : List ℕ) → a ++ (b ++ (c ++ (d ++ e))) ≡ (((a ++ b) ++ c) ++ d) ++ e
    regroup a b c d e = simp append_assoc

-- the stop byte after fields that were written
pub ends : (front whole : List ℕ) (fits : Bool) (old mid new : List ℕ) (r : Result (Unit {0}) WriteError) → fits ≡ true → mid ≡ old ++ front
    → whole ≡ front ++ stop_text → Writes stop_text mid r new → Encodes whole fits (change old new) r
ends front whole fits old mid new (Ok x) f m w h =
    (f, h ∙ ap (λ (t : List ℕ). t ++ stop_text) m ∙ append_assoc old front stop_text ∙ ap (λ (t : List ℕ). old ++ t) (sym w))
ends front whole fits old mid new (Err BadLength) f m w h = absurd (other h.0)
  where
    other : BadLength ≡ Memory → ⊥
    other e = absurd cc
ends front whole fits old mid new (Err Memory) f m w h = tt
