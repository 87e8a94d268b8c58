-- The bytes of a struct divide into fields in one way, and spell one value.
use Rattle.std.proofs.Common.{◌≡◌, ℕ, ℤ, List, [], ◌∷◌, ◌++◌, Option, Some, None, Ok, refl, sym, ap, subst, ◌∙◌}
use Rattle.std.proofs.lemmas.List.{append_cancel_right}
use Rattle.thrift_binary.specs.Reading.{field_at}
use Rattle.thrift_binary.specs.Fields.{Take}
use Rattle.thrift_binary.specs.Spelling.{Field, IsHead, IsFields}
use Rattle.thrift_binary.proofs.ReadBytesSpell.{ok_is, both_are}
use Rattle.thrift_binary.proofs.SpellingsAreRead.{field_again, stop_again}
use Rattle.batch_codec.specs.declared.fault.DecodeError.{DecodeError}
use Rattle.batch_codec.specs.Decoding.{Reading}
use Rattle.batch_codec.specs.Batches.{Gathers}
use Rattle.batch_codec.proofs.ValuesSpelled.{Agrees}

pub the_same : {A : Type 0} {x y : A} → Some x ≡ Some y → x ≡ y
the_same {A = A} {x = x} e = ap (λ (o : Option A). or_first o) e
  where
    or_first : Option A → A
    or_first (Some y) = y
    or_first None = x

same_field : (f g : Field) → f.code ≡ g.code → f.id ≡ g.id → f.text ≡ g.text → f ≡ g
same_field f g a b c = rw (a, b, c) refl

abbrev Head : Type 0
Head = Option (ℕ × ℤ) × List ℕ

-- the type and the id
abbrev named : Field → ℕ × ℤ
named f = (f.code, f.id)

abbrev a_field : Field → List ℕ → Head
a_field f r = (Some (named f), f.text ++ r)

abbrev no_field : List ℕ → Head
no_field r = (None, r)

-- the head of a field is read, or the stop byte
head_read : (f : Field) (h r w : List ℕ) → IsHead h f → w ≡ h ++ (f.text ++ r) → field_at w ≡ Ok (a_field f r)
head_read f h r w head parts = ap field_at parts ∙ field_again h (f.text ++ r) f head

stop_read : (w : List ℕ) → w ≡ 0 ∷ [] → field_at w ≡ Ok (no_field [])
stop_read w e = ap field_at e ∙ stop_again []

not_both : (w : List ℕ) (f : Field) (r : List ℕ) → field_at w ≡ Ok (no_field []) → field_at w ≡ Ok (a_field f r) → ⊥
not_both w f r a b = none (ap (λ (p : Head). p.0) (ok_is (no_field []) (a_field f r) (sym a ∙ b)))
  where
    none : None ≡ Some (named f) → ⊥
    none e = absurd cc

module _ {S : Type 0} (take : Take S DecodeError) (Does : S → Field → S → Type 0)
    (again : (s : S) (f : Field) (t : S) (r : List ℕ) → Does s f t → take s f.code f.id (f.text ++ r) ≡ Ok (t, r)) where
  pub one_division : (fs gs : List Field) (w : List ℕ) (s t u : S) → IsFields fs w → IsFields gs w → Gathers Does s fs t → Gathers Does s gs u → fs ≡ gs
  one_division [] [] w s t u a b p q = refl
  one_division [] (g ∷ gs) w s t u a (h, r, head, parts, b) p (v, d, q) = absurd (not_both w g r (stop_read w a) (head_read g h r w head parts))
  one_division (f ∷ fs) [] w s t u (h, r, head, parts, a) b (v, d, p) q = absurd (not_both w f r (stop_read w b) (head_read f h r w head parts))
  one_division (f ∷ fs) (g ∷ gs) w s t u (h, r, head, parts, a) (h2, r2, head2, parts2, b) (v, d, p) (v2, d2, q) =
      let heads : a_field f r ≡ a_field g r2 = ok_is (a_field f r) (a_field g r2) (sym (head_read f h r w head parts) ∙ head_read g h2 r2 w head2 parts2) in
      let names : named f ≡ named g = the_same (ap (λ (x : Head). x.0) heads) in
      let code : f.code ≡ g.code = ap (λ (x : ℕ × ℤ). x.0) names in
      let id : f.id ≡ g.id = ap (λ (x : ℕ × ℤ). x.1) names in
      let tail : f.text ++ r ≡ g.text ++ r2 = ap (λ (x : Head). x.1) heads in
      let other : take s f.code f.id (f.text ++ r) ≡ Ok (v2, r2) = rw (code, id, tail) (again s g v2 r2 d2) in
      let both = both_are v v2 r r2 (sym (again s f v r d) ∙ other) in
      let text : f.text ≡ g.text = append_cancel_right f.text g.text r2 (subst (λ (x : List ℕ). f.text ++ x ≡ g.text ++ r2) both.1 tail) in
      let first : f ≡ g = same_field f g code id text in
      let more : fs ≡ gs = one_division fs gs r v t u a (subst (λ (x : List ℕ). IsFields gs x) (sym both.1) b) p
      (subst (λ (x : S). Gathers Does x gs u) (sym both.0) q) in
      rw (first, more) refl

pub one_value : {X : Type 0} {read : Reading X} {Spells : List ℕ → X → Type 0} → Agrees read Spells → (w : List ℕ) (x y : X) → Spells w x → Spells w y → x ≡ y
one_value agrees w x y a b = (both_are x y [] [] (sym (agrees.again w [] x a) ∙ agrees.again w [] y b)).0
