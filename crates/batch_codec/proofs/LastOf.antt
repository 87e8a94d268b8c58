-- The last of several fields with one id and the declared type counts.
use Rattle.std.proofs.Common.{◌≡◌, ℕ, ℤ, pos, Bool, true, false, eqb, ◌&&◌, ◌||◌, List, [], ◌∷◌, Some, refl, sym, subst}
use Rattle.std.specs.Prelude.{MatchBool}
use Rattle.std.specs.Ordering.{int_eq}
use Rattle.std.proofs.lemmas.Bool.{eqb-true}
use Rattle.std.proofs.lemmas.Bool.Decides.{Decides-int_eq}
use Rattle.thrift_binary.specs.Fields.{Take}
use Rattle.thrift_binary.specs.Spelling.{Field, IsValue, has}
use Rattle.batch_codec.specs.declared.tag.TagSlots.{TagSlots}
use Rattle.batch_codec.specs.declared.log.LogSlots.{LogSlots}
use Rattle.batch_codec.specs.declared.reference.ReferenceSlots.{ReferenceSlots}
use Rattle.batch_codec.specs.declared.process.ProcessSlots.{ProcessSlots}
use Rattle.batch_codec.specs.declared.span.SpanSlots.{SpanSlots}
use Rattle.batch_codec.specs.declared.batch.BatchSlots.{BatchSlots}
use Rattle.batch_codec.specs.declared.fault.DecodeError.{DecodeError}
use Rattle.batch_codec.specs.Decoding.{Reading}
use Rattle.batch_codec.specs.StructRules.{StructRule, KnownFields}
use Rattle.batch_codec.specs.Batches.{Gathers, IsStruct, TagField, LogField, ReferenceField, ProcessField, SpanField, BatchField, IsTag, IsLog, IsReference}
use Rattle.batch_codec.specs.Batches.{IsProcess, IsSpan, IsBatch}
use Rattle.batch_codec.specs.LastCounts.{is_known, OthersAreValues, LastCounts, IsByLast, known_of_tag, known_of_log, known_of_reference, known_of_process}
use Rattle.batch_codec.specs.LastCounts.{known_of_span, known_of_batch, LastOfTag, LastOfLog, LastOfReference, LastOfProcess, LastOfSpan, LastOfBatch, TagLast}
use Rattle.batch_codec.specs.LastCounts.{LogLast, ReferenceLast, ProcessLast, SpanLast, BatchLast}
use Rattle.batch_codec.proofs.ValuesSpelled.{Agrees}
use Rattle.batch_codec.proofs.OneDivision.{the_same, one_division, one_value}
use Rattle.batch_codec.proofs.TagSpelled.{is_tag, tag_field_is}
use Rattle.batch_codec.specs.TagReading.{take_tag}
use Rattle.batch_codec.proofs.LogSpelled.{is_log, log_field_is}
use Rattle.batch_codec.specs.LogReading.{take_log}
use Rattle.batch_codec.proofs.ReferenceSpelled.{is_reference, reference_field_is}
use Rattle.batch_codec.specs.ReferenceReading.{take_reference}
use Rattle.batch_codec.proofs.ProcessSpelled.{is_process, process_field_is}
use Rattle.batch_codec.specs.ProcessReading.{take_process}
use Rattle.batch_codec.proofs.SpanSpelled.{is_span, span_field_is}
use Rattle.batch_codec.specs.SpanReading.{take_span}
use Rattle.batch_codec.proofs.BatchSpelled.{is_batch, batch_field_is}
use Rattle.batch_codec.specs.BatchReading.{take_batch}

-- these are the type and the id, or others
decide : {G : Type 0} (c d : ℕ) (i j : ℤ) → (c ≡ d → i ≡ j → (eqb c d && int_eq i j) ≡ true → G) → ((eqb c d && int_eq i j) ≡ false → G) → G
decide {G = G} c d i j this others = by (eqb c d) refl (int_eq i j) refl this others
  where
    by : (a : Bool) → eqb c d ≡ a → (b : Bool) → int_eq i j ≡ b → (c ≡ d → i ≡ j → (a && b) ≡ true → G) → ((a && b) ≡ false → G) → G
    by true p true q this others = this (eqb-true c d p) ((Decides-int_eq i j).0 q) refl
    by true p false q this others = others refl
    by false p b q this others = others refl

-- a field of this type and id, or another
split : {G : Type 0} (A Others : Type 0) (d : ℕ) (j : ℤ) (f : Field) → MatchBool (has d j f) A Others → (f.code ≡ d → f.id ≡ j → A → G)
    → (has d j f ≡ false → Others → G) → G
split A Others d j f m this others = decide f.code d f.id j (λ p q h. this p q (given true h)) (λ h. others h (given false h))
  where
    given : (b : Bool) → has d j f ≡ b → MatchBool b A Others
    given b h = subst (λ b. MatchBool b A Others) h m

-- ---- the other fields

-- a field that isn't this one, nor one of the others that are known
pass : {Others G : Type 0} (A : Type 0) (f : Field) (d : ℕ) (j : ℤ) (rest : Bool) → (Others → rest ≡ false → G) → MatchBool (has d j f) A Others
    → (has d j f || rest) ≡ false → G
pass {Others = Others} {G = G} A f d j rest go = by (has d j f)
  where
    by : (b : Bool) → MatchBool b A Others → (b || rest) ≡ false → G
    by true m e = absurd cc
    by false m e = go m e

others_of : {S : Type 0} (Does : S → Field → S → Type 0) (known : List (ℕ × ℤ))
    → ((s : S) (f : Field) (t : S) → Does s f t → is_known known f ≡ false → IsValue 64 f.code f.text) → (fs : List Field) (s t : S) → Gathers Does s fs t
    → OthersAreValues known fs
others_of Does known each [] s t g = tt
others_of Does known each (f ∷ fs) s t (u, d, g) = (each s f u d, others_of Does known each fs u t g)

-- ---- from all of the fields to the last, and back

abbrev field : ℕ → ℤ → List ℕ → Field
field c i v = record { code = c; id = i; text = v }

-- LastOf s fs t: from s on, the last fields of fs leave t
gathers_on : {S : Type 0} (Does : S → Field → S → Type 0) (LastOf : S → List Field → S → Type 0)
    → ((s : S) → LastOf s [] s)
    → ((s u t : S) (f : Field) (fs : List Field) → Does s f u → LastOf u fs t → LastOf s (f ∷ fs) t)
    → (fs : List Field) (s t : S) → Gathers Does s fs t → LastOf s fs t
gathers_on Does LastOf nothing first [] s t g = subst (λ u. LastOf s [] u) (sym g) (nothing s)
gathers_on Does LastOf nothing first (f ∷ fs) s t (u, d, g) = first s u t f fs d (gathers_on Does LastOf nothing first fs u t g)

gathers_back : {S : Type 0} (Does : S → Field → S → Type 0) (known : List (ℕ × ℤ)) (LastOf : S → List Field → S → Type 0)
    → ((s t : S) → LastOf s [] t → t ≡ s)
    → ((s t : S) (c : ℕ) (i : ℤ) (v : List ℕ) (fs : List Field) → LastOf s (field c i v ∷ fs) t → (is_known known (field c i v) ≡ false → IsValue 64 c v)
    → (u : S) × Does s (field c i v) u × LastOf u fs t)
    → (fs : List Field) (s t : S) → LastOf s fs t → OthersAreValues known fs → Gathers Does s fs t
gathers_back Does known LastOf none step [] s t l o = none s t l
gathers_back Does known LastOf none step (f ∷ fs) s t l o =
    let m = step s t f.code f.id f.text fs l o.0 in
    (m.0, m.1, gathers_back Does known LastOf none step fs m.0 t m.2 o.1)

-- ---- a struct: what its last fields leave is what it has

module _ {S X : Type 0} {read : Reading X} {rule : StructRule S X} {known : KnownFields S} (take : Take S DecodeError) where
  pub by_last : Agrees read (IsStruct rule)
      → ((s : S) (c : ℕ) (i : ℤ) → Agrees (take s c i) (λ v t. rule.changes s (field c i v) t))
      → ((s : S) (f : Field) (t : S) → rule.changes s f t → is_known known.types f ≡ false → IsValue 64 f.code f.text)
      → ((s : S) → known.last s [] s)
      → ((s t : S) → known.last s [] t → t ≡ s)
      → ((s u t : S) (f : Field) (fs : List Field) → rule.changes s f u → known.last u fs t → known.last s (f ∷ fs) t)
      → ((s t : S) (c : ℕ) (i : ℤ) (v : List ℕ) (fs : List Field) → known.last s (field c i v ∷ fs) t
      → (is_known known.types (field c i v) ≡ false → IsValue 64 c v)
      → (u : S) × rule.changes s (field c i v) u × known.last u fs t)
      → IsByLast (IsStruct rule) rule known
  by_last agrees field_is other kept nothing first step = record { same = λ w x. (forth w x, back w x); one = one }
    where
      forth : (w : List ℕ) (x : X) → IsStruct rule w x → LastCounts rule known w x
      forth w x is = record {
        fields = is.fields;
        spelled = is.spelled;
        left = is.gathered;
        last = gathers_on rule.changes known.last kept first is.fields rule.none is.gathered is.gathers;
        makes = is.makes;
        others = others_of rule.changes known.types other is.fields rule.none is.gathered is.gathers;
      }

      gathers : (w : List ℕ) (x : X) (a : LastCounts rule known w x) → Gathers rule.changes rule.none a.fields a.left
      gathers w x a = gathers_back rule.changes known.types known.last nothing step a.fields rule.none a.left a.last a.others

      back : (w : List ℕ) (x : X) → LastCounts rule known w x → IsStruct rule w x
      back w x a = record { fields = a.fields; spelled = a.spelled; gathered = a.left; gathers = gathers w x a; makes = a.makes }

      one : (w : List ℕ) (x y : X) (a : LastCounts rule known w x) (b : LastCounts rule known w y) → (a.fields ≡ b.fields) × (x ≡ y)
      one w x y a b = (
        one_division take rule.changes (λ s f u v d. (field_is s f.code f.id).again f.text v u d) a.fields b.fields w rule.none a.left b.left a.spelled
            b.spelled (gathers w x a) (gathers w y b),
        one_value agrees w x y (back w x a) (back w y b),
      )

-- ---- Tag

tag_first : (s u t : TagSlots) (f : Field) (fs : List Field) → TagField s f u → LastOfTag u fs t → LastOfTag s (f ∷ fs) t
unfolding TagField
tag_first s u t f fs m0 =
    split _ _ 11 (pos 1) f m0 (λ c i v. rw (c, i, v.2) (λ l. ((v.0, v.1, l.0), l.1, l.2, l.3, l.4, l.5, l.6))) (λ h1 m1.
    split _ _ 8 (pos 2) f m1 (λ c i v. rw (c, i, v.2) (λ l. (l.0, (v.0, v.1, l.1), l.2, l.3, l.4, l.5, l.6))) (λ h2 m2.
    split _ _ 11 (pos 3) f m2 (λ c i v. rw (c, i, v.2) (λ l. (l.0, l.1, (v.0, v.1, l.2), l.3, l.4, l.5, l.6))) (λ h3 m3.
    split _ _ 4 (pos 4) f m3 (λ c i v. rw (c, i, v.2) (λ l. (l.0, l.1, l.2, (v.0, v.1, l.3), l.4, l.5, l.6))) (λ h4 m4.
    split _ _ 2 (pos 5) f m4 (λ c i v. rw (c, i, v.2) (λ l. (l.0, l.1, l.2, l.3, (v.0, v.1, l.4), l.5, l.6))) (λ h5 m5.
    split _ _ 10 (pos 6) f m5 (λ c i v. rw (c, i, v.2) (λ l. (l.0, l.1, l.2, l.3, l.4, (v.0, v.1, l.5), l.6))) (λ h6 m6.
    split _ _ 11 (pos 7) f m6 (λ c i v. rw (c, i, v.2) (λ l. (l.0, l.1, l.2, l.3, l.4, l.5, (v.0, v.1, l.6)))) (λ h7 m7.
    rw (h1, h2, h3, h4, h5, h6, h7, m7.1) (λ l. l))))))))

tag_other : (s : TagSlots) (f : Field) (t : TagSlots) → TagField s f t → is_known known_of_tag f ≡ false → IsValue 64 f.code f.text
unfolding TagField
tag_other s f t =
    pass _ f 11 (pos 1) _ (
    pass _ f 8 (pos 2) _ (
    pass _ f 11 (pos 3) _ (
    pass _ f 4 (pos 4) _ (
    pass _ f 2 (pos 5) _ (
    pass _ f 10 (pos 6) _ (
    pass _ f 11 (pos 7) _ (
    λ m e. m.0)))))))

tag_none : (s t : TagSlots) → LastOfTag s [] t → t ≡ s
tag_none s t l = rw (l.0, l.1, the_same l.2, the_same l.3, the_same l.4, the_same l.5, the_same l.6) refl

tag_step : (s t : TagSlots) (c : ℕ) (i : ℤ) (v : List ℕ) (fs : List Field) → LastOfTag s (field c i v ∷ fs) t
    → (is_known known_of_tag (field c i v) ≡ false → IsValue 64 c v) → (u : TagSlots) × TagField s (field c i v) u × LastOfTag u fs t
unfolding TagField
tag_step s t c i v fs =
    decide c 11 i (pos 1) (λ p q _. rw (p, q) (λ l o. (record s { key = Some l.0.0 }, (l.0.0, l.0.1, refl), (l.0.2, l.1, l.2, l.3, l.4, l.5, l.6)))) (λ h1.
    decide c 8 i (pos 2) (λ p q _. rw (p, q) (λ l o. (record s { kind = Some l.1.0 }, (l.1.0, l.1.1, refl), (l.0, l.1.2, l.2, l.3, l.4, l.5, l.6)))) (λ h2.
    decide c 11 i (pos 3) (λ p q _. rw (p, q) (λ l o. (record s { text = l.2.0 }, (l.2.0, l.2.1, refl), (l.0, l.1, l.2.2, l.3, l.4, l.5, l.6)))) (λ h3.
    decide c 4 i (pos 4) (λ p q _. rw (p, q) (λ l o. (record s { double = l.3.0 }, (l.3.0, l.3.1, refl), (l.0, l.1, l.2, l.3.2, l.4, l.5, l.6)))) (λ h4.
    decide c 2 i (pos 5) (λ p q _. rw (p, q) (λ l o. (record s { boolean = l.4.0 }, (l.4.0, l.4.1, refl), (l.0, l.1, l.2, l.3, l.4.2, l.5, l.6)))) (λ h5.
    decide c 10 i (pos 6) (λ p q _. rw (p, q) (λ l o. (record s { long = l.5.0 }, (l.5.0, l.5.1, refl), (l.0, l.1, l.2, l.3, l.4, l.5.2, l.6)))) (λ h6.
    decide c 11 i (pos 7) (λ p q _. rw (p, q) (λ l o. (record s { binary = l.6.0 }, (l.6.0, l.6.1, refl), (l.0, l.1, l.2, l.3, l.4, l.5, l.6.2)))) (λ h7.
    rw (h1, h2, h3, h4, h5, h6, h7) (λ l o. (s, (o refl, refl), l)))))))))

pub tag_last : TagLast
unfolding IsTag
tag_last = by_last take_tag is_tag tag_field_is tag_other (λ s. (refl, refl, refl, refl, refl, refl, refl)) tag_none tag_first tag_step

-- ---- Log

log_first : (s u t : LogSlots) (f : Field) (fs : List Field) → LogField s f u → LastOfLog u fs t → LastOfLog s (f ∷ fs) t
unfolding LogField
log_first s u t f fs m0 =
    split _ _ 10 (pos 1) f m0 (λ c i v. rw (c, i, v.2) (λ l. ((v.0, v.1, l.0), l.1))) (λ h1 m1.
    split _ _ 15 (pos 2) f m1 (λ c i v. rw (c, i, v.2) (λ l. (l.0, (v.0, v.1, l.1)))) (λ h2 m2.
    rw (h1, h2, m2.1) (λ l. l)))

log_other : (s : LogSlots) (f : Field) (t : LogSlots) → LogField s f t → is_known known_of_log f ≡ false → IsValue 64 f.code f.text
unfolding LogField
log_other s f t =
    pass _ f 10 (pos 1) _ (
    pass _ f 15 (pos 2) _ (
    λ m e. m.0))

log_none : (s t : LogSlots) → LastOfLog s [] t → t ≡ s
log_none s t l = rw (l.0, l.1) refl

log_step : (s t : LogSlots) (c : ℕ) (i : ℤ) (v : List ℕ) (fs : List Field) → LastOfLog s (field c i v ∷ fs) t
    → (is_known known_of_log (field c i v) ≡ false → IsValue 64 c v) → (u : LogSlots) × LogField s (field c i v) u × LastOfLog u fs t
unfolding LogField
log_step s t c i v fs =
    decide c 10 i (pos 1) (λ p q _. rw (p, q) (λ l o. (record s { at = Some l.0.0 }, (l.0.0, l.0.1, refl), (l.0.2, l.1)))) (λ h1.
    decide c 15 i (pos 2) (λ p q _. rw (p, q) (λ l o. (record s { fields = Some l.1.0 }, (l.1.0, l.1.1, refl), (l.0, l.1.2)))) (λ h2.
    rw (h1, h2) (λ l o. (s, (o refl, refl), l))))

pub log_last : LogLast
unfolding IsLog
log_last = by_last take_log is_log log_field_is log_other (λ s. (refl, refl)) log_none log_first log_step

-- ---- SpanRef

reference_first : (s u t : ReferenceSlots) (f : Field) (fs : List Field) → ReferenceField s f u → LastOfReference u fs t → LastOfReference s (f ∷ fs) t
unfolding ReferenceField
reference_first s u t f fs m0 =
    split _ _ 8 (pos 1) f m0 (λ c i v. rw (c, i, v.2) (λ l. ((v.0, v.1, l.0), l.1, l.2, l.3))) (λ h1 m1.
    split _ _ 10 (pos 2) f m1 (λ c i v. rw (c, i, v.2) (λ l. (l.0, (v.0, v.1, l.1), l.2, l.3))) (λ h2 m2.
    split _ _ 10 (pos 3) f m2 (λ c i v. rw (c, i, v.2) (λ l. (l.0, l.1, (v.0, v.1, l.2), l.3))) (λ h3 m3.
    split _ _ 10 (pos 4) f m3 (λ c i v. rw (c, i, v.2) (λ l. (l.0, l.1, l.2, (v.0, v.1, l.3)))) (λ h4 m4.
    rw (h1, h2, h3, h4, m4.1) (λ l. l)))))

reference_other : (s : ReferenceSlots) (f : Field) (t : ReferenceSlots) → ReferenceField s f t → is_known known_of_reference f ≡ false
    → IsValue 64 f.code f.text
unfolding ReferenceField
reference_other s f t =
    pass _ f 8 (pos 1) _ (
    pass _ f 10 (pos 2) _ (
    pass _ f 10 (pos 3) _ (
    pass _ f 10 (pos 4) _ (
    λ m e. m.0))))

reference_none : (s t : ReferenceSlots) → LastOfReference s [] t → t ≡ s
reference_none s t l = rw (l.0, l.1, l.2, l.3) refl

reference_step : (s t : ReferenceSlots) (c : ℕ) (i : ℤ) (v : List ℕ) (fs : List Field) → LastOfReference s (field c i v ∷ fs) t
    → (is_known known_of_reference (field c i v) ≡ false → IsValue 64 c v) → (u : ReferenceSlots) × ReferenceField s (field c i v) u × LastOfReference u fs t
unfolding ReferenceField
reference_step s t c i v fs =
    decide c 8 i (pos 1) (λ p q _. rw (p, q) (λ l o. (record s { kind = Some l.0.0 }, (l.0.0, l.0.1, refl), (l.0.2, l.1, l.2, l.3)))) (λ h1.
    decide c 10 i (pos 2) (λ p q _. rw (p, q) (λ l o. (record s { trace_low = Some l.1.0 }, (l.1.0, l.1.1, refl), (l.0, l.1.2, l.2, l.3)))) (λ h2.
    decide c 10 i (pos 3) (λ p q _. rw (p, q) (λ l o. (record s { trace_high = Some l.2.0 }, (l.2.0, l.2.1, refl), (l.0, l.1, l.2.2, l.3)))) (λ h3.
    decide c 10 i (pos 4) (λ p q _. rw (p, q) (λ l o. (record s { id = Some l.3.0 }, (l.3.0, l.3.1, refl), (l.0, l.1, l.2, l.3.2)))) (λ h4.
    rw (h1, h2, h3, h4) (λ l o. (s, (o refl, refl), l))))))

pub reference_last : ReferenceLast
unfolding IsReference
reference_last =
    by_last take_reference is_reference reference_field_is reference_other (λ s. (refl, refl, refl, refl)) reference_none reference_first reference_step

-- ---- Process

process_first : (s u t : ProcessSlots) (f : Field) (fs : List Field) → ProcessField s f u → LastOfProcess u fs t → LastOfProcess s (f ∷ fs) t
unfolding ProcessField
process_first s u t f fs m0 =
    split _ _ 11 (pos 1) f m0 (λ c i v. rw (c, i, v.2) (λ l. ((v.0, v.1, l.0), l.1))) (λ h1 m1.
    split _ _ 15 (pos 2) f m1 (λ c i v. rw (c, i, v.2) (λ l. (l.0, (v.0, v.1, l.1)))) (λ h2 m2.
    rw (h1, h2, m2.1) (λ l. l)))

process_other : (s : ProcessSlots) (f : Field) (t : ProcessSlots) → ProcessField s f t → is_known known_of_process f ≡ false → IsValue 64 f.code f.text
unfolding ProcessField
process_other s f t =
    pass _ f 11 (pos 1) _ (
    pass _ f 15 (pos 2) _ (
    λ m e. m.0))

process_none : (s t : ProcessSlots) → LastOfProcess s [] t → t ≡ s
process_none s t l = rw (l.0, the_same l.1) refl

process_step : (s t : ProcessSlots) (c : ℕ) (i : ℤ) (v : List ℕ) (fs : List Field) → LastOfProcess s (field c i v ∷ fs) t
    → (is_known known_of_process (field c i v) ≡ false → IsValue 64 c v) → (u : ProcessSlots) × ProcessField s (field c i v) u × LastOfProcess u fs t
unfolding ProcessField
process_step s t c i v fs =
    decide c 11 i (pos 1) (λ p q _. rw (p, q) (λ l o. (record s { service = Some l.0.0 }, (l.0.0, l.0.1, refl), (l.0.2, l.1)))) (λ h1.
    decide c 15 i (pos 2) (λ p q _. rw (p, q) (λ l o. (record s { tags = l.1.0 }, (l.1.0, l.1.1, refl), (l.0, l.1.2)))) (λ h2.
    rw (h1, h2) (λ l o. (s, (o refl, refl), l))))

pub process_last : ProcessLast
unfolding IsProcess
process_last = by_last take_process is_process process_field_is process_other (λ s. (refl, refl)) process_none process_first process_step

-- ---- Span

span_first : (s u t : SpanSlots) (f : Field) (fs : List Field) → SpanField s f u → LastOfSpan u fs t → LastOfSpan s (f ∷ fs) t
unfolding SpanField
span_first s u t f fs m0 =
    split _ _ 10 (pos 1) f m0 (λ c i v. rw (c, i, v.2) (λ l. ((v.0, v.1, l.0), l.1, l.2, l.3, l.4, l.5, l.6, l.7, l.8, l.9, l.10))) (λ h1 m1.
    split _ _ 10 (pos 2) f m1 (λ c i v. rw (c, i, v.2) (λ l. (l.0, (v.0, v.1, l.1), l.2, l.3, l.4, l.5, l.6, l.7, l.8, l.9, l.10))) (λ h2 m2.
    split _ _ 10 (pos 3) f m2 (λ c i v. rw (c, i, v.2) (λ l. (l.0, l.1, (v.0, v.1, l.2), l.3, l.4, l.5, l.6, l.7, l.8, l.9, l.10))) (λ h3 m3.
    split _ _ 10 (pos 4) f m3 (λ c i v. rw (c, i, v.2) (λ l. (l.0, l.1, l.2, (v.0, v.1, l.3), l.4, l.5, l.6, l.7, l.8, l.9, l.10))) (λ h4 m4.
    split _ _ 11 (pos 5) f m4 (λ c i v. rw (c, i, v.2) (λ l. (l.0, l.1, l.2, l.3, (v.0, v.1, l.4), l.5, l.6, l.7, l.8, l.9, l.10))) (λ h5 m5.
    split _ _ 15 (pos 6) f m5 (λ c i v. rw (c, i, v.2) (λ l. (l.0, l.1, l.2, l.3, l.4, (v.0, v.1, l.5), l.6, l.7, l.8, l.9, l.10))) (λ h6 m6.
    split _ _ 8 (pos 7) f m6 (λ c i v. rw (c, i, v.2) (λ l. (l.0, l.1, l.2, l.3, l.4, l.5, (v.0, v.1, l.6), l.7, l.8, l.9, l.10))) (λ h7 m7.
    split _ _ 10 (pos 8) f m7 (λ c i v. rw (c, i, v.2) (λ l. (l.0, l.1, l.2, l.3, l.4, l.5, l.6, (v.0, v.1, l.7), l.8, l.9, l.10))) (λ h8 m8.
    split _ _ 10 (pos 9) f m8 (λ c i v. rw (c, i, v.2) (λ l. (l.0, l.1, l.2, l.3, l.4, l.5, l.6, l.7, (v.0, v.1, l.8), l.9, l.10))) (λ h9 m9.
    split _ _ 15 (pos 10) f m9 (λ c i v. rw (c, i, v.2) (λ l. (l.0, l.1, l.2, l.3, l.4, l.5, l.6, l.7, l.8, (v.0, v.1, l.9), l.10))) (λ h10 m10.
    split _ _ 15 (pos 11) f m10 (λ c i v. rw (c, i, v.2) (λ l. (l.0, l.1, l.2, l.3, l.4, l.5, l.6, l.7, l.8, l.9, (v.0, v.1, l.10)))) (λ h11 m11.
    rw (h1, h2, h3, h4, h5, h6, h7, h8, h9, h10, h11, m11.1) (λ l. l))))))))))))

span_other : (s : SpanSlots) (f : Field) (t : SpanSlots) → SpanField s f t → is_known known_of_span f ≡ false → IsValue 64 f.code f.text
unfolding SpanField
span_other s f t =
    pass _ f 10 (pos 1) _ (
    pass _ f 10 (pos 2) _ (
    pass _ f 10 (pos 3) _ (
    pass _ f 10 (pos 4) _ (
    pass _ f 11 (pos 5) _ (
    pass _ f 15 (pos 6) _ (
    pass _ f 8 (pos 7) _ (
    pass _ f 10 (pos 8) _ (
    pass _ f 10 (pos 9) _ (
    pass _ f 15 (pos 10) _ (
    pass _ f 15 (pos 11) _ (
    λ m e. m.0)))))))))))

span_none : (s t : SpanSlots) → LastOfSpan s [] t → t ≡ s
span_none s t l = rw (l.0, l.1, l.2, l.3, l.4, the_same l.5, l.6, l.7, l.8, the_same l.9, the_same l.10) refl

span_step : (s t : SpanSlots) (c : ℕ) (i : ℤ) (v : List ℕ) (fs : List Field) → LastOfSpan s (field c i v ∷ fs) t
    → (is_known known_of_span (field c i v) ≡ false → IsValue 64 c v) → (u : SpanSlots) × SpanField s (field c i v) u × LastOfSpan u fs t
unfolding SpanField
span_step s t c i v fs =
    decide c 10 i (pos 1) (λ p q _. rw (p, q)
    (λ l o. (record s { trace_low = Some l.0.0 }, (l.0.0, l.0.1, refl), (l.0.2, l.1, l.2, l.3, l.4, l.5, l.6, l.7, l.8, l.9, l.10)))) (λ h1.
    decide c 10 i (pos 2) (λ p q _. rw (p, q)
    (λ l o. (record s { trace_high = Some l.1.0 }, (l.1.0, l.1.1, refl), (l.0, l.1.2, l.2, l.3, l.4, l.5, l.6, l.7, l.8, l.9, l.10)))) (λ h2.
    decide c 10 i (pos 3) (λ p q _. rw (p, q)
    (λ l o. (record s { id = Some l.2.0 }, (l.2.0, l.2.1, refl), (l.0, l.1, l.2.2, l.3, l.4, l.5, l.6, l.7, l.8, l.9, l.10)))) (λ h3.
    decide c 10 i (pos 4) (λ p q _. rw (p, q)
    (λ l o. (record s { parent = Some l.3.0 }, (l.3.0, l.3.1, refl), (l.0, l.1, l.2, l.3.2, l.4, l.5, l.6, l.7, l.8, l.9, l.10)))) (λ h4.
    decide c 11 i (pos 5) (λ p q _. rw (p, q)
    (λ l o. (record s { operation = Some l.4.0 }, (l.4.0, l.4.1, refl), (l.0, l.1, l.2, l.3, l.4.2, l.5, l.6, l.7, l.8, l.9, l.10)))) (λ h5.
    decide c 15 i (pos 6) (λ p q _. rw (p, q)
    (λ l o. (record s { references = l.5.0 }, (l.5.0, l.5.1, refl), (l.0, l.1, l.2, l.3, l.4, l.5.2, l.6, l.7, l.8, l.9, l.10)))) (λ h6.
    decide c 8 i (pos 7) (λ p q _. rw (p, q)
    (λ l o. (record s { flags = Some l.6.0 }, (l.6.0, l.6.1, refl), (l.0, l.1, l.2, l.3, l.4, l.5, l.6.2, l.7, l.8, l.9, l.10)))) (λ h7.
    decide c 10 i (pos 8) (λ p q _. rw (p, q)
    (λ l o. (record s { start = Some l.7.0 }, (l.7.0, l.7.1, refl), (l.0, l.1, l.2, l.3, l.4, l.5, l.6, l.7.2, l.8, l.9, l.10)))) (λ h8.
    decide c 10 i (pos 9) (λ p q _. rw (p, q)
    (λ l o. (record s { duration = Some l.8.0 }, (l.8.0, l.8.1, refl), (l.0, l.1, l.2, l.3, l.4, l.5, l.6, l.7, l.8.2, l.9, l.10)))) (λ h9.
    decide c 15 i (pos 10) (λ p q _. rw (p, q)
    (λ l o. (record s { tags = l.9.0 }, (l.9.0, l.9.1, refl), (l.0, l.1, l.2, l.3, l.4, l.5, l.6, l.7, l.8, l.9.2, l.10)))) (λ h10.
    decide c 15 i (pos 11) (λ p q _. rw (p, q)
    (λ l o. (record s { logs = l.10.0 }, (l.10.0, l.10.1, refl), (l.0, l.1, l.2, l.3, l.4, l.5, l.6, l.7, l.8, l.9, l.10.2)))) (λ h11.
    rw (h1, h2, h3, h4, h5, h6, h7, h8, h9, h10, h11) (λ l o. (s, (o refl, refl), l)))))))))))))

pub span_last : SpanLast
unfolding IsSpan
span_last =
    by_last take_span is_span span_field_is span_other (λ s. (refl, refl, refl, refl, refl, refl, refl, refl, refl, refl, refl)) span_none span_first span_step

-- ---- Batch

batch_first : (s u t : BatchSlots) (f : Field) (fs : List Field) → BatchField s f u → LastOfBatch u fs t → LastOfBatch s (f ∷ fs) t
unfolding BatchField
batch_first s u t f fs m0 =
    split _ _ 12 (pos 1) f m0 (λ c i v. rw (c, i, v.2) (λ l. ((v.0, v.1, l.0), l.1, l.2))) (λ h1 m1.
    split _ _ 15 (pos 2) f m1 (λ c i v. rw (c, i, v.2) (λ l. (l.0, (v.0, v.1, l.1), l.2))) (λ h2 m2.
    split _ _ 10 (pos 3) f m2 (λ c i v. rw (c, i, v.2) (λ l. (l.0, l.1, (v.0, v.1, l.2)))) (λ h3 m3.
    rw (h1, h2, h3, m3.1) (λ l. l))))

batch_other : (s : BatchSlots) (f : Field) (t : BatchSlots) → BatchField s f t → is_known known_of_batch f ≡ false → IsValue 64 f.code f.text
unfolding BatchField
batch_other s f t =
    pass _ f 12 (pos 1) _ (
    pass _ f 15 (pos 2) _ (
    pass _ f 10 (pos 3) _ (
    λ m e. m.0)))

batch_none : (s t : BatchSlots) → LastOfBatch s [] t → t ≡ s
batch_none s t l = rw (l.0, l.1, l.2) refl

batch_step : (s t : BatchSlots) (c : ℕ) (i : ℤ) (v : List ℕ) (fs : List Field) → LastOfBatch s (field c i v ∷ fs) t
    → (is_known known_of_batch (field c i v) ≡ false → IsValue 64 c v) → (u : BatchSlots) × BatchField s (field c i v) u × LastOfBatch u fs t
unfolding BatchField
batch_step s t c i v fs =
    decide c 12 i (pos 1) (λ p q _. rw (p, q) (λ l o. (record s { process = Some l.0.0 }, (l.0.0, l.0.1, refl), (l.0.2, l.1, l.2)))) (λ h1.
    decide c 15 i (pos 2) (λ p q _. rw (p, q) (λ l o. (record s { spans = Some l.1.0 }, (l.1.0, l.1.1, refl), (l.0, l.1.2, l.2)))) (λ h2.
    decide c 10 i (pos 3) (λ p q _. rw (p, q) (λ l o. (record s { seq_no = Some l.2.0 }, (l.2.0, l.2.1, refl), (l.0, l.1, l.2.2)))) (λ h3.
    rw (h1, h2, h3) (λ l o. (s, (o refl, refl), l)))))

pub batch_last : BatchLast
unfolding IsBatch
batch_last = by_last take_batch is_batch batch_field_is batch_other (λ s. (refl, refl, refl)) batch_none batch_first batch_step
