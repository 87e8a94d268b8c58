-- Entries of a history get numbers as they are collected.
use Rattle.std.proofs.Common.{◌≡◌, ℕ, zero, suc, ◌-◌, ◌<◌, ◌≤◌, ◌≢◌, List, [], ◌∷◌, ◌++◌, map, length, replicate, get_or, refl, sym, ap, subst, ◌∙◌}
use Rattle.std.proofs.Common.{arith, Some, None, Option, ⊎_elim, length-append}
use Rattle.std.specs.Option.{SomeIff}
use Rattle.std.specs.Prelude.{slice_get, slice_set}
use Rattle.std.proofs.lemmas.List.{length-replicate, length-set, get_or-set_same, get_or-set_other}
use Rattle.std.proofs.lemmas.Bool.{cases_eq}
use Rattle.trace_model.specs.declared.entry.Entry.{Entry}
use Rattle.trace_model.specs.Places.{entry_at}
use Rattle.journal_traces.specs.Numbered.{preceding, numbered, AreNumbers}

-- ---- the numbers, by those that follow them
pub preceding_at : (ns : List ℕ) (k : ℕ) → get_or (map preceding ns) k None ≡ preceding (get_or ns k 0)
preceding_at [] k = refl
preceding_at (n ∷ ns) zero = refl
preceding_at (n ∷ ns) (suc k) = preceding_at ns k

pub preceding_is : (o : Option ℕ) (n : ℕ) → SomeIff o (1 ≤ n) (n - 1) → o ≡ preceding n
preceding_is None zero e = refl
preceding_is None (suc n) e = let above : 1 ≤ suc n = omega arith in absurd (e above)
preceding_is (Some x) zero e = let above : 1 ≤ 0 = e.0 in absurd (omega (arith, above))
preceding_is (Some x) (suc n) e = let before : suc n - 1 ≡ n = omega arith in ap Some (e.1 ∙ before)

pub preceding_set : (ns : List ℕ) (k n : ℕ) → map preceding (slice_set ns k (suc n)) ≡ slice_set (map preceding ns) k (Some n)
preceding_set [] k n = refl
preceding_set (m ∷ ns) zero n = refl
preceding_set (m ∷ ns) (suc k) n = ap (λ l. preceding m ∷ l) (preceding_set ns k n)

pub preceding_zeros : (count : ℕ) → map preceding (replicate count 0) ≡ replicate count None
preceding_zeros zero = refl
preceding_zeros (suc count) = ap (λ l. None ∷ l) (preceding_zeros count)

-- ---- the count of numbers
pub none_numbered : (count : ℕ) → numbered (replicate count None) ≡ 0
none_numbered zero = refl
none_numbered (suc count) = none_numbered count

numbered_within : (ns : List (Option ℕ)) → numbered ns ≤ length ns
numbered_within [] = omega arith
numbered_within (None ∷ ns) = let rest = numbered_within ns in omega arith
numbered_within (Some n ∷ ns) = let rest = numbered_within ns in omega arith

-- an entry without a number is not counted
pub numbered_below : (ns : List (Option ℕ)) (k : ℕ) → k < length ns → get_or ns k None ≡ None → numbered ns < length ns
numbered_below [] k le none = absurd (omega arith)
numbered_below (None ∷ ns) zero le none = let rest = numbered_within ns in omega arith
numbered_below (Some n ∷ ns) zero le none = absurd (cc none)
numbered_below (None ∷ ns) (suc k) le none = let rest = numbered_below ns k (omega arith) none in omega arith
numbered_below (Some n ∷ ns) (suc k) le none = let rest = numbered_below ns k (omega arith) none in omega arith

pub numbered_more : (ns : List (Option ℕ)) (k n : ℕ) → k < length ns → get_or ns k None ≡ None → numbered (slice_set ns k (Some n)) ≡ suc (numbered ns)
numbered_more [] k n le none = absurd (omega arith)
numbered_more (None ∷ ns) zero n le none = refl
numbered_more (Some m ∷ ns) zero n le none = absurd (cc none)
numbered_more (None ∷ ns) (suc k) n le none = numbered_more ns k n (omega arith) none
numbered_more (Some m ∷ ns) (suc k) n le none = ap suc (numbered_more ns k n (omega arith) none)

-- ---- the entry at a place
got_last : (es : List Entry) (x : Entry) → slice_get (es ++ x ∷ []) (length es) ≡ Some x
got_last [] x = refl
got_last (y ∷ es) x = got_last es x

got_more : (es : List Entry) (x e : Entry) (n : ℕ) → slice_get es n ≡ Some e → slice_get (es ++ x ∷ []) n ≡ Some e
got_more [] x e n is = absurd (cc is)
got_more (y ∷ es) x e zero is = is
got_more (y ∷ es) x e (suc n) is = got_more es x e n is

pub below_got : (es : List Entry) (n : ℕ) (e : Entry) → slice_get es n ≡ Some e → n < length es
below_got [] n e is = absurd (cc is)
below_got (y ∷ es) zero e is = omega arith
below_got (y ∷ es) (suc n) e is = let rest = below_got es n e is in omega arith

got_at : (h : List Entry) (place : ℕ) (x : Entry) → Some x ≡ entry_at h place → slice_get h (place - 1) ≡ Some x
got_at h zero x there = absurd (cc there)
got_at h (suc b) x there = let before : suc b - 1 ≡ b = omega arith in ap (slice_get h) before ∙ sym there

pub place_above : (h : List Entry) (place : ℕ) (x : Entry) → Some x ≡ entry_at h place → 0 < place
place_above h zero x there = absurd (cc there)
place_above h (suc b) x there = omega arith

pub place_within : (h : List Entry) (place : ℕ) (x : Entry) → Some x ≡ entry_at h place → place ≤ length h
place_within h place x there =
    let below : place - 1 < length h = below_got h (place - 1) x (got_at h place x there) in
    omega arith

-- ---- one more number
-- no entry has a number yet
pub none_known : (h : List Entry) → AreNumbers h [] (replicate (length h) None)
none_known h = record {
  as_many = length-replicate (length h) None;
  counted = none_numbered (length h);
  each = λ k n e is at. absurd (cc (sym (none_at (length h) k) ∙ is));
}
  where
    none_at : (count k : ℕ) → get_or {A = Option ℕ} (replicate {A = Option ℕ} count None) k None ≡ None
    none_at zero k = refl
    none_at (suc count) zero = refl
    none_at (suc count) (suc k) = none_at count k

module _ (h es : List Entry) (numbers : List (Option ℕ)) (x : Entry) (known : AreNumbers h es numbers) where
  number_put : (b : ℕ) → slice_get h b ≡ Some x → (k n : ℕ) (e : Entry) → get_or (slice_set numbers b (Some (numbered numbers))) k None ≡ Some n
      → slice_get h k ≡ Some e → slice_get (es ++ x ∷ []) n ≡ Some e
  number_put b there k n e got at = ⊎_elim same other (cases_eq k b)
    where
      same : k ≡ b → slice_get (es ++ x ∷ []) n ≡ Some e
      same here =
          let below : b < length numbers = omega (arith, below_got h b x there, known.as_many) in
          let own : Some (numbered numbers) ≡ Some n =
          sym (get_or-set_same numbers b (Some (numbered numbers)) None below)
          ∙ ap (λ j. get_or (slice_set numbers b (Some (numbered numbers))) j None) (sym here) ∙ got in
          let counted : numbered numbers ≡ n = cc own in
          ap (slice_get (es ++ x ∷ [])) (sym counted ∙ known.counted) ∙ got_last es x ∙ sym there ∙ ap (slice_get h) (sym here) ∙ at

      other : k ≢ b → slice_get (es ++ x ∷ []) n ≡ Some e
      other apart = got_more es x e n (known.each k n e (sym (get_or-set_other numbers b k (Some (numbered numbers)) None apart) ∙ got) at)

  module _ (place : ℕ) (there : Some x ≡ entry_at h place) where
    pub numbers_within : place ≤ length numbers
    numbers_within = let within = place_within h place x there in omega (arith, within, known.as_many)

    -- the number of the entry at a place, if it has one
    pub number_known : (n : ℕ) → Some n ≡ get_or numbers (place - 1) None → slice_get es n ≡ Some x
    number_known n is = known.each (place - 1) n x (sym is) (got_at h place x there)

    pub number_last : (new : List Entry) → new ≡ es ++ x ∷ [] → (n : ℕ) → n ≡ numbered numbers → slice_get new n ≡ Some x
    number_last new put n is = ap (λ l. slice_get l n) put ∙ ap (slice_get (es ++ x ∷ [])) (is ∙ known.counted) ∙ got_last es x

    pub numbers_more : (new : List Entry) (more : List (Option ℕ)) → get_or numbers (place - 1) None ≡ None → new ≡ es ++ x ∷ []
        → more ≡ slice_set numbers (place - 1) (Some (numbered numbers)) → AreNumbers h new more
    numbers_more new more none put is =
        let b = place - 1 in
        let below : b < length numbers = omega (arith, below_got h b x (got_at h place x there), known.as_many) in
        let long : length (es ++ x ∷ []) ≡ suc (length es) = length-append es (x ∷ []) ∙ omega arith in
        subst (λ (l : List Entry × List (Option ℕ)). AreNumbers h l.0 l.1) (λ i. (sym put i, sym is i)) (record {
          as_many = length-set numbers b (Some (numbered numbers)) ∙ known.as_many;
          counted = numbered_more numbers b (numbered numbers) below none ∙ ap suc known.counted ∙ sym long;
          each = number_put b (got_at h place x there);
        })
