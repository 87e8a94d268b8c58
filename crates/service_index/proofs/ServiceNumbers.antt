-- The numbers of services, as one more entry arrives.
use Rattle.std.proofs.Common.{◌≡◌, ℕ, Bool, true, ◌+◌, ◌<◌, ◌≤◌, List, [], ◌∷◌, ◌++◌, length, get_or, refl, sym, ap, ◌∙◌, inl, inr, arith, length-append}
use Rattle.std.specs.List.{position_or_len}
use Rattle.std.proofs.lemmas.Bool.{false≢true, cases_eq, cases_lt}
use Rattle.std.proofs.lemmas.List.{length-map, map_push, get_or_append_left, get_or_push}
use Rattle.std.proofs.lemmas.List.Sums.{position_or_len_is, fails_before_first, passes_at_first}
use Rattle.jaeger_model.specs.Texts.{same_text}
use Rattle.trace_model.specs.declared.entry.Entry.{Entry}
use Rattle.trace_model.proofs.NameLaws.{text_self}
use Rattle.trace_model.specs.EntryWork.{service_brought}
use Rattle.service_index.specs.ServicePlaces.{reporters, service_at, service_number_in, AreServiceNumbers}

-- ---- the first that passes
-- it is no later than any that passes
pub first_low : {X : Type 0} (p : X → Bool) (xs : List X) (k : ℕ) (d : X) → k < length xs → p (get_or xs k d) ≡ true → position_or_len p xs ≤ k
first_low p xs k d below e = elim (cases_lt k (position_or_len p xs)) [
  | inl low ↦ absurd (false≢true (sym (fails_before_first p xs k d low) ∙ e))
  | inr high ↦ omega arith
]

-- it stays where it was
first_still : {X : Type 0} (p : X → Bool) (xs : List X) (y d : X) → position_or_len p xs < length xs → position_or_len p (xs ++ y ∷ []) ≡ position_or_len p xs
first_still p xs y d below =
    let r = position_or_len p xs in
    let l = length-append xs (y ∷ []) in
    position_or_len_is p (xs ++ y ∷ []) r d (omega arith) (λ k low. ap p (get_or_append_left xs (y ∷ []) d k (omega arith)) ∙ fails_before_first p xs k d low)
    (λ _. ap p (get_or_append_left xs (y ∷ []) d r below) ∙ passes_at_first p xs d below)

-- or is the new one
first_new : {X : Type 0} (p : X → Bool) (xs : List X) (y d : X) → length xs ≤ position_or_len p xs → p y ≡ true → position_or_len p (xs ++ y ∷ []) ≡ length xs
first_new p xs y d none e =
    let l = length-append xs (y ∷ []) in
    position_or_len_is p (xs ++ y ∷ []) (length xs) d (omega arith)
    (λ k low. ap p (get_or_append_left xs (y ∷ []) d k low) ∙ fails_before_first p xs k d (omega arith))
    (λ _. ap p (get_or_push xs y d (length xs) refl) ∙ e)

-- ---- services
pub reporters_push : (h0 h : List Entry) (e : Entry) → h0 ++ e ∷ [] ≡ h → reporters h ≡ reporters h0 ++ (service_brought e.work) ∷ []
reporters_push h0 h e is = ap reporters (sym is) ∙ map_push (λ (e : Entry). service_brought e.work) h0 e

pub as_many_reporters : (h : List Entry) → length (reporters h) ≡ length h
as_many_reporters h = length-map h (λ (e : Entry). service_brought e.work)

-- the service of an entry that was there, and of the last one
pub service_old : (h0 h : List Entry) (e : Entry) (n : ℕ) → h0 ++ e ∷ [] ≡ h → n < length h0 → service_at h n ≡ service_at h0 n
service_old h0 h e n is below =
    let m = as_many_reporters h0 in
    ap (λ rs. get_or rs n []) (reporters_push h0 h e is) ∙ get_or_append_left (reporters h0) ((service_brought e.work) ∷ []) [] n (omega arith)

pub service_last : (h0 h : List Entry) (e : Entry) (n : ℕ) → h0 ++ e ∷ [] ≡ h → n ≡ length h0 → service_at h n ≡ service_brought e.work
service_last h0 h e n is at =
    let m = as_many_reporters h0 in
    ap (λ rs. get_or rs n []) (reporters_push h0 h e is) ∙ get_or_push (reporters h0) (service_brought e.work) [] n (omega arith)

-- ---- numbers of services
-- the number of an entry's service is that of some entry
pub service_number_within : (h : List Entry) (n : ℕ) → n < length h → service_number_in h (service_at h n) ≤ n
service_number_within h n below =
    let m = as_many_reporters h in first_low (same_text (service_at h n)) (reporters h) n [] (omega arith) (text_self (service_at h n))

-- it doesn't change
pub service_number_known : (h0 h : List Entry) (e : Entry) (s : List ℕ) → h0 ++ e ∷ [] ≡ h → service_number_in h0 s < length h0
    → service_number_in h s ≡ service_number_in h0 s
service_number_known h0 h e s is below =
    let m = as_many_reporters h0 in
    ap (position_or_len (same_text s)) (reporters_push h0 h e is) ∙ first_still (same_text s) (reporters h0) (service_brought e.work) [] (omega arith)

pub service_number_old : (h0 h : List Entry) (e : Entry) (n : ℕ) → h0 ++ e ∷ [] ≡ h → n < length h0
    → service_number_in h (service_at h n) ≡ service_number_in h0 (service_at h0 n)
service_number_old h0 h e n is below =
    let w = service_number_within h0 n below in
    ap (service_number_in h) (service_old h0 h e n is below) ∙ service_number_known h0 h e (service_at h0 n) is (omega arith)

-- the number of a service that no entry had is that of the last entry
pub service_number_new : (h0 h : List Entry) (e : Entry) → h0 ++ e ∷ [] ≡ h → length h0 ≤ service_number_in h0 (service_brought e.work)
    → service_number_in h (service_brought e.work) ≡ length h0
service_number_new h0 h e is none =
    let m = as_many_reporters h0 in
    ap (position_or_len (same_text (service_brought e.work))) (reporters_push h0 h e is)
    ∙ first_new (same_text (service_brought e.work)) (reporters h0) (service_brought e.work) [] (omega arith) (text_self (service_brought e.work)) ∙ m

-- one more entry
pub service_numbers_more : (h0 h : List Entry) (e : Entry) (service_numbers : List ℕ) (service_number : ℕ) → h0 ++ e ∷ [] ≡ h
    → AreServiceNumbers h0 service_numbers
    → service_number ≡ service_number_in h (service_brought e.work) → AreServiceNumbers h (service_numbers ++ service_number ∷ [])
service_numbers_more h0 h e service_numbers service_number is a g =
    let many = a.as_many in
    let l : length (service_numbers ++ service_number ∷ []) ≡ length service_numbers + 1 = length-append service_numbers (service_number ∷ []) in
    let m : length (h0 ++ e ∷ []) ≡ length h0 + 1 = length-append h0 (e ∷ []) in
    let k : length h ≡ length (h0 ++ e ∷ []) = ap length (sym is) in
    record {
      as_many = omega arith;
      each = λ n below. elim (cases_eq n (length h0)) [
        | inl last ↦ get_or_push service_numbers service_number 0 n (omega arith) ∙ g ∙ ap (service_number_in h) (sym (service_last h0 h e n is last))
        | inr other ↦ let old : n < length h0 = omega arith in
            get_or_append_left service_numbers (service_number ∷ []) 0 n (omega arith) ∙ a.each n old ∙ sym (service_number_old h0 h e n is old)
      ];
    }
