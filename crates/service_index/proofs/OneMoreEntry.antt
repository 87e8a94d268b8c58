-- One more entry.
use Rattle.std.proofs.Common.{◌≡◌, ℕ, false, ◌+◌, ◌-◌, ◌<◌, ◌≤◌, cond, List, [], ◌∷◌, ◌++◌, map, length, get_or, Some, None, sym, ap, subst, ◌∙◌, inl, inr}
use Rattle.std.proofs.Common.{arith, length-append}
use Rattle.std.proofs.Math.Bool.{and-true}
use Rattle.std.proofs.lemmas.Bool.{ltb-false, lt-ltb, cases_eq, cases_lt}
use Rattle.std.proofs.lemmas.List.{length-map, get_or-map, get_or_append_left, get_or_push}
use Rattle.std.specs.List.{list_any, position_or_len}
use Rattle.jaeger_model.specs.Texts.{same_text}
use Rattle.trace_model.specs.declared.entry.Entry.{Entry}
use Rattle.service_index.specs.Probes.{Table, AreNumbersBelow, IsLabelTable, row_of, with_number}
use Rattle.service_index.specs.LinkedRows.{newest_with}
use Rattle.service_index.specs.Indexes.{IsNewest, IsLinked}
use Rattle.service_index.proofs.MoreNames.{Grows, numbers_agree, named_extends}
use Rattle.service_index.proofs.LinkedOperations.{FindsLabel, AreKeys, linked_more, row_by_key, row_within, number_known}
use Rattle.service_index.proofs.LinkedOperations.{number_new, service_own, service_new, none_of}
use Rattle.trace_model.proofs.Lists.{is_position}
use Rattle.trace_model.specs.EntryWork.{service_brought}
use Rattle.service_index.specs.ServicePlaces.{ServicePlacesValue, reporters, service_at, service_label, service_labels}
use Rattle.service_index.specs.ServicePlaces.{service_number_in, service_number_of, AreServiceNumbers, ArePlacesKept}
use Rattle.service_index.proofs.ServiceNumbers.{reporters_push, as_many_reporters, service_old, service_last}
use Rattle.service_index.proofs.ServiceNumbers.{service_number_old, service_number_new, service_numbers_more}

-- the number of entries before the last one
pub last_number : (h0 h : List Entry) (e : Entry) (count : ℕ) → h0 ++ e ∷ [] ≡ h → length h ≡ count → count - 1 ≡ length h0
last_number h0 h e count is counted =
    let one = length-append h0 (e ∷ []) in
    let all : length (h0 ++ e ∷ []) ≡ length h = ap length is in
    omega arith

pub extends_one : (h0 h : List Entry) (e : Entry) → h0 ++ e ∷ [] ≡ h → Grows (service_labels h0) (service_labels h)
extends_one h0 h e is =
    let l = length-append h0 (e ∷ []) in
    let k : length h ≡ length (h0 ++ e ∷ []) = ap length (sym is) in
    record { count = omega arith; same = λ n below. ap service_label (service_old h0 h e n is below) }

-- ---- labels tell services
services_keyed : (h : List Entry) → AreKeys (service_labels h) (service_at h)
services_keyed h m below n within = and-true (same_text (service_at h m) (service_at h n))

service_asked : (h : List Entry) (s : List ℕ) → FindsLabel (service_labels h) (service_label s) (service_at h) (same_text s)
service_asked h s n within = and-true (same_text s (service_at h n))

-- the row of a service
pub row_is : (h : List Entry) (numbers : List ℕ) (s : List ℕ) → AreNumbersBelow (length h) numbers
    → row_of (service_labels h) numbers (service_label s) ≡ position_or_len (same_text s) (map (service_at h) numbers)
row_is h numbers s held = row_by_key (service_labels h) (service_label s) (service_at h) (same_text s) numbers [] (service_asked h s) held

linked_still : (h0 h : List Entry) (e : Entry) (old : ServicePlacesValue) → h0 ++ e ∷ [] ≡ h → ArePlacesKept h0 old
    → IsLinked (reporters h0) (map (service_at h) old.services.numbers) old.newest old.earlier
linked_still h0 h e old is k =
    subst (λ (x : List (List ℕ)). IsLinked (reporters h0) x old.newest old.earlier)
    (sym (numbers_agree (length h0) (service_at h) (service_at h0) (λ n below. service_old h0 h e n is below) old.services.numbers k.named.numbers.held))
    k.linked

-- the first entries of services stay the first
first_old : (h0 h : List Entry) (e : Entry) (numbers : List ℕ) (r : ℕ) → h0 ++ e ∷ [] ≡ h → AreNumbersBelow (length h0) numbers
    → ((r : ℕ) → r < length numbers → service_number_in h0 (service_at h0 (get_or numbers r 0)) ≡ get_or numbers r 0)
    → r < length numbers → service_number_in h (service_at h (get_or numbers r 0)) ≡ get_or numbers r 0
first_old h0 h e numbers r is held first below = service_number_old h0 h e (get_or numbers r 0) is (held.held r below) ∙ first r below

-- One more entry, e: its number n is among the services, in row s, and the number of its service is stored.
pub record HasOneMore (h0 h : List Entry) (e : Entry) (old : ServicePlacesValue) (services : Table) (service_numbers : List ℕ)
    (s n service_number : ℕ) : Type 0 where
  pub is : h0 ++ e ∷ [] ≡ h
  pub at : n ≡ length h0
  pub kept : ArePlacesKept h0 old
  pub named : IsLabelTable (service_labels h) services
  pub numbers : services.numbers ≡ with_number (service_labels h) old.services.numbers n
  pub row : s ≡ row_of (service_labels h) old.services.numbers ((service_labels h).at n)
  pub room : services.room ≡ old.services.room
  pub number : service_number ≡ get_or services.numbers s 0
  pub noted : service_numbers ≡ old.service_numbers ++ service_number ∷ []

-- the index before the entry e, in terms of the longer list
record IsFollowed (h0 h : List Entry) (e : Entry) (old : ServicePlacesValue) (s n : ℕ) : Type 0 where
  pub longer : length h ≡ length h0 + 1
  pub reported : length (reporters h0) ≡ length h0
  pub listed : length (map (service_at h) old.services.numbers) ≡ length old.services.numbers
  pub few : length old.services.numbers ≤ length h0
  pub last : service_at h n ≡ service_brought e.work
  pub held : AreNumbersBelow (length h0) old.services.numbers
  pub found : s ≡ position_or_len (same_text (service_at h n)) (map (service_at h) old.services.numbers)
  pub linked : IsLinked (reporters h0) (map (service_at h) old.services.numbers) old.newest old.earlier
  pub named : IsLabelTable (service_labels h) old.services

followed : (h0 h : List Entry) (e : Entry) (old : ServicePlacesValue) (services : Table) (service_numbers : List ℕ) (s n service_number : ℕ)
    → HasOneMore h0 h e old services service_numbers s n service_number → IsFollowed h0 h e old s n
followed h0 h e old services service_numbers s n service_number m =
    let l = length-append h0 (e ∷ []) in
    let j : length h ≡ length (h0 ++ e ∷ []) = ap length (sym m.is) in
    let still : IsLabelTable (service_labels h) old.services =
    named_extends (service_labels h0) (service_labels h) old.services (extends_one h0 h e m.is) m.kept.named in
    record {
      longer = omega arith;
      reported = as_many_reporters h0;
      listed = length-map old.services.numbers (service_at h);
      few = m.kept.few;
      last = service_last h0 h e n m.is m.at;
      held = record { held = m.kept.named.numbers.held };
      found = m.row ∙ row_is h old.services.numbers (service_at h n) still.numbers;
      linked = linked_still h0 h e old m.is m.kept;
      named = still;
    }

-- The numbers of services are those of the first entries of each, and the one in row s is of this service.
record IsNumbered (h : List Entry) (numbers : List ℕ) (s : ℕ) (service : List ℕ) : Type 0 where
  pub few : length numbers ≤ length h
  pub first : (r : ℕ) → r < length numbers → service_number_in h (service_at h (get_or numbers r 0)) ≡ get_or numbers r 0
  pub number : get_or numbers s 0 ≡ service_number_in h service

-- if a row has the service
numbered_own : (h0 h : List Entry) (e : Entry) (old : ServicePlacesValue) (services : Table) (service_numbers : List ℕ) (s n service_number : ℕ)
    → HasOneMore h0 h e old services service_numbers s n service_number → s < length old.services.numbers
    → IsNumbered h services.numbers s (service_brought e.work)
numbered_own h0 h e old services service_numbers s n service_number m below =
    let numbers = old.services.numbers in
    let b = followed h0 h e old services service_numbers s n service_number m in
    let same : services.numbers ≡ numbers = m.numbers ∙ number_known (service_labels h) numbers n (omega (arith, m.row, below)) in
    let there : service_at h (get_or numbers s 0) ≡ service_brought e.work =
    sym (get_or-map (service_at h) numbers s 0 [] below) ∙ service_own (map (service_at h) numbers) (service_at h n) s b.found (omega (arith, b.listed, below))
    ∙ b.last in
    subst (λ (x : List ℕ). IsNumbered h x s (service_brought e.work)) (sym same) (record {
      few = omega (arith, b.longer, b.few);
      first = λ r low. first_old h0 h e numbers r m.is b.held m.kept.first low;
      number = sym (first_old h0 h e numbers s m.is b.held m.kept.first below) ∙ ap (service_number_in h) there;
    })

-- if none has it
numbered_new : (h0 h : List Entry) (e : Entry) (old : ServicePlacesValue) (services : Table) (service_numbers : List ℕ) (s n service_number : ℕ)
    → HasOneMore h0 h e old services service_numbers s n service_number → length old.services.numbers ≤ s
    → IsNumbered h services.numbers s (service_brought e.work)
numbered_new h0 h e old services service_numbers s n service_number m beyond =
    let labels = service_labels h in
    let numbers = old.services.numbers in
    let new = service_brought e.work in
    let b = followed h0 h e old services service_numbers s n service_number m in
    let w = row_within labels numbers (labels.at n) in
    let absent : list_any (same_text new) (map (service_at h) numbers) ≡ false =
    ap (λ (x : List ℕ). list_any (same_text x) (map (service_at h) numbers)) (sym b.last)
    ∙ service_new (map (service_at h) numbers) (service_at h n) s b.found (omega (arith, b.listed, beyond)) in
    let fresh : services.numbers ≡ numbers ++ n ∷ [] = m.numbers ∙ number_new labels numbers n (omega (arith, m.row, beyond)) in
    let one = length-append numbers (n ∷ []) in
    let none : length h0 ≤ service_number_in h0 new = subst (λ (x : ℕ). x ≤ service_number_in h0 new) b.reported
    (ltb-false (position_or_len (same_text new) (reporters h0)) (length (reporters h0))
    (is_position (same_text new) (reporters h0) [] ∙ sym (b.linked.same (same_text new)) ∙ absent)) in
    let number : service_number_in h new ≡ n = service_number_new h0 h e m.is none ∙ sym m.at in
    let row_last : length numbers ≡ s = omega (arith, m.row, w, beyond) in
    subst (λ (x : List ℕ). IsNumbered h x s new) (sym fresh) (record {
      few = omega (arith, one, b.longer, b.few);
      first = λ r low. elim (cases_eq r (length numbers)) [
        | inl e ↦
            let here = get_or_push numbers n 0 r (sym e) in
            ap (λ (x : ℕ). service_number_in h (service_at h x)) here ∙ ap (service_number_in h) b.last ∙ number ∙ sym here
        | inr other ↦
            let below : r < length numbers = omega arith in
            let here = get_or_append_left numbers (n ∷ []) 0 r below in
            ap (λ (x : ℕ). service_number_in h (service_at h x)) here ∙ first_old h0 h e numbers r m.is b.held m.kept.first below ∙ sym here
      ];
      number = get_or_push numbers n 0 s row_last ∙ sym number;
    })

pub kept_more : (h0 h : List Entry) (e : Entry) (old : ServicePlacesValue) (services : Table) (newest earlier service_numbers : List ℕ) (s n service_number : ℕ)
    → HasOneMore h0 h e old services service_numbers s n service_number
    → newest ≡ newest_with old.newest s (n + 1) → earlier ≡ old.earlier ++ get_or old.newest s 0 ∷ []
    → ArePlacesKept h (record { services = services; newest = newest; earlier = earlier; service_numbers = service_numbers; batches = old.batches })
kept_more h0 h e old services newest earlier service_numbers s n service_number m to f =
    let b = followed h0 h e old services service_numbers s n service_number m in
    let numbered : IsNumbered h services.numbers s (service_brought e.work) = elim (cases_lt s (length old.services.numbers)) [
      | inl below ↦ numbered_own h0 h e old services service_numbers s n service_number m below
      | inr beyond ↦ numbered_new h0 h e old services service_numbers s n service_number m beyond
    ] in
    record {
      fits = m.kept.fits;
      room = m.room ∙ m.kept.room;
      few = numbered.few;
      named = m.named;
      linked =
          subst (λ (x : List (List ℕ)). IsLinked x (map (service_at h) services.numbers) newest earlier)
          (ap (λ (x : List ℕ). reporters h0 ++ x ∷ []) b.last ∙ sym (reporters_push h0 h e m.is))
          (linked_more (service_labels h) (service_at h) old.services (reporters h0) old.newest old.earlier newest earlier services.numbers n s
          (services_keyed h) b.named b.linked
          m.numbers m.row b.found (to ∙ ap (λ (k : ℕ). newest_with old.newest s (k + 1)) (m.at ∙ sym b.reported)) f);
      first = numbered.first;
      services_numbered =
          subst (λ (x : List ℕ). AreServiceNumbers h x) (sym m.noted)
          (service_numbers_more h0 h e old.service_numbers service_number m.is m.kept.services_numbered (m.number ∙ numbered.number));
    }

-- ---- the newest place of a service
pub newest_own : (h : List Entry) (kept : ServicePlacesValue) (s : List ℕ) (r at : ℕ) → ArePlacesKept h kept
    → r ≡ row_of (service_labels h) kept.services.numbers (service_label s) → r < length kept.services.numbers → at ≡ get_or kept.newest r 0
    → IsNewest (reporters h) s at (length (reporters h))
newest_own h kept s r at k is below e =
    let services = map (service_at h) kept.services.numbers in
    let o = length-map kept.services.numbers (service_at h) in
    let own = service_own services s r (is ∙ row_is h kept.services.numbers s k.named.numbers) (omega arith) in
    subst (λ (x : ℕ). IsNewest (reporters h) s x (length (reporters h))) (sym e)
    (subst (λ (x : List ℕ). IsNewest (reporters h) x (get_or kept.newest r 0) (length (reporters h))) own (k.linked.last r (omega arith)))

-- a service with no row has no entry
none_reported : (h : List Entry) (kept : ServicePlacesValue) (s : List ℕ) (r : ℕ) → ArePlacesKept h kept
    → r ≡ row_of (service_labels h) kept.services.numbers (service_label s)
    → length kept.services.numbers ≤ r → list_any (same_text s) (reporters h) ≡ false
none_reported h kept s r k is past =
    let o = length-map kept.services.numbers (service_at h) in
    sym (k.linked.same (same_text s))
    ∙ service_new (map (service_at h) kept.services.numbers) s r (is ∙ row_is h kept.services.numbers s k.named.numbers) (omega arith)

pub newest_none : (h : List Entry) (kept : ServicePlacesValue) (s : List ℕ) (r at : ℕ) → ArePlacesKept h kept
    → r ≡ row_of (service_labels h) kept.services.numbers (service_label s) → length kept.services.numbers ≤ r → at ≡ 0
    → IsNewest (reporters h) s at (length (reporters h))
newest_none h kept s r at k is past e =
    let absent = none_reported h kept s r k is past in
    record {
      within = omega arith;
      own = λ pos. absurd (omega arith);
      none = λ j low below is. none_of (reporters h) s absent j below (sym is);
    }

-- ---- the number of a service that is asked for
pub service_number_own : (h : List Entry) (kept : ServicePlacesValue) (s : List ℕ) (r : ℕ) → ArePlacesKept h kept
    → r ≡ row_of (service_labels h) kept.services.numbers (service_label s)
    → r < length kept.services.numbers
    → Some (get_or kept.services.numbers r 0) ≡ service_number_of h s
service_number_own h kept s r k is below =
    let numbers = kept.services.numbers in
    let o = length-map numbers (service_at h) in
    let m = as_many_reporters h in
    let q = get_or numbers r 0 in
    let own : service_at h q ≡ s =
    sym (get_or-map (service_at h) numbers r 0 [] below)
    ∙ service_own (map (service_at h) numbers) s r (is ∙ row_is h numbers s k.named.numbers) (omega arith) in
    let number : q ≡ service_number_in h s = sym (k.first r below) ∙ ap (service_number_in h) own in
    let held = k.named.numbers.held r below in
    let low : service_number_in h s < length (reporters h) = omega arith in
    ap Some number ∙ sym (ap (λ b. cond b (Some (service_number_in h s)) None) (lt-ltb (service_number_in h s) (length (reporters h)) low))

pub service_number_none : (h : List Entry) (kept : ServicePlacesValue) (s : List ℕ) (r : ℕ) → ArePlacesKept h kept
    → r ≡ row_of (service_labels h) kept.services.numbers (service_label s)
    → length kept.services.numbers ≤ r → None ≡ service_number_of h s
service_number_none h kept s r k is past =
    sym (ap (λ b. cond b (Some (service_number_in h s)) None) (is_position (same_text s) (reporters h) [] ∙ none_reported h kept s r k is past))

-- as many services as newest places
pub newest_links : (h : List Entry) (kept : ServicePlacesValue) → ArePlacesKept h kept → length kept.newest ≡ length kept.services.numbers
newest_links h kept k = k.linked.as_many ∙ length-map kept.services.numbers (service_at h)
