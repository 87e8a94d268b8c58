-- Labels among the rows of a table.
use Rattle.std.proofs.Common.{◌≡◌, ℕ, ◌^◌, ◌<◌, Bool, true, List, [], ◌∷◌, ◌++◌, map, length, get_or, Option, Some, None, refl, sym, ap, subst, ◌∙◌, inl}
use Rattle.std.proofs.Common.{inr, arith, length-append}
use Rattle.std.specs.Prelude.{◌==◌}
use Rattle.std.specs.Ordering.{is_eq}
use Rattle.std.specs.Cmp.Lexicographic.{bytes_decides}
use Rattle.std.specs.declared.cmp.Ordering.{Ordering}
use Rattle.std.specs.declared.cmp.Ordering.TheVariants.{Less, Equal, Greater}
use Rattle.std.specs.Bool.{Decides}
use Rattle.std.proofs.lemmas.Bool.{false≢true, cases_lt, cond_below, cond_above}
use Rattle.std.proofs.lemmas.Bool.Decides.{Decides-eqb, Decides-and, Decides-like, not_from_Decides}
use Rattle.std.proofs.lemmas.List.{length-map, map_push, get_or-map, get_or_append_left, get_or_push}
use Rattle.std.specs.declared.random_state.RandomState.{RandomState}
use Rattle.hash_tables.specs.RowPlaces.{Slots, LeadsTo, Found, AreOnce}
use Rattle.hash_tables.proofs.DistinctRows.{row_none, row_some, once_more}
use Rattle.jaeger_model.specs.Texts.{same_text}
use Rattle.service_index.specs.Labels.{LabelValue, same_label, Labelling}
use Rattle.service_index.specs.Probes.{Table, no_label, label_at, hash_of, hashes_of, AreNumbersBelow, IsLabelTable, row_of, with_number}

pub is_equal : (r : Ordering) → is_eq r ≡ true → r ≡ Equal
is_equal Less e = absurd (false≢true e)
is_equal Equal e = refl
is_equal Greater e = absurd (false≢true e)

-- ---- texts and labels that are the same
same_label-decides : (a b : LabelValue) → Decides (same_label a b) (a ≡ b)
same_label-decides a b =
    Decides-like (same_label a b) (λ p. λ i. record { service_number = p.0 i; name = p.1.0 i; kind = p.1.1 i })
    (λ e. (ap (λ (l : LabelValue). l.service_number) e, (ap (λ (l : LabelValue). l.name) e, ap (λ (l : LabelValue). l.kind) e)))
    (Decides-and (a.service_number == b.service_number) _ (Decides-eqb a.service_number b.service_number)
    (Decides-and (same_text a.name b.name) (same_text a.kind b.kind) (bytes_decides a.name b.name) (bytes_decides a.kind b.kind)))

pub same_is : (a b : LabelValue) → same_label a b ≡ true → a ≡ b
same_is a b = (same_label-decides a b).0

pub label_self : (l : LabelValue) → same_label l l ≡ true
label_self l = (same_label-decides l l).1 refl

-- the labels of numbers
pub label_of : (labels : Labelling) (numbers : List ℕ) (r : ℕ) → r < length numbers → label_at (map labels.at numbers) r ≡ labels.at (get_or numbers r 0)
label_of labels numbers r below = get_or-map labels.at numbers r 0 no_label below

-- the label of a row
abbrev pub is_label : Labelling → List ℕ → LabelValue → ℕ → Bool
is_label labels numbers label row = same_label (labels.at (get_or numbers row 0)) label

pub is_at : (labels : Labelling) (numbers : List ℕ) (label : LabelValue) (row : ℕ) → row < length numbers → is_label labels numbers label row ≡ true
    → label_at (map labels.at numbers) row ≡ label
is_at labels numbers label row below e = label_of labels numbers row below ∙ same_is (labels.at (get_or numbers row 0)) label e

-- hashes
pub hash_of_row : (labels : Labelling) (keys : RandomState) (numbers : List ℕ) (row : ℕ) → row < length (hashes_of keys (map labels.at numbers))
    → get_or (hashes_of keys (map labels.at numbers)) row 0 ≡ hash_of keys (labels.at (get_or numbers row 0))
hash_of_row labels keys numbers row below =
    let k = length-map (map labels.at numbers) (hash_of keys) in
    let l = length-map numbers labels.at in
    get_or-map (hash_of keys) (map labels.at numbers) row no_label 0 (omega arith) ∙ ap (hash_of keys) (label_of labels numbers row (omega arith))

-- equal labels have equal hashes
pub same_hash : (labels : Labelling) (keys : RandomState) (numbers : List ℕ) (label : LabelValue) (hash row : ℕ) → hash ≡ hash_of keys label
    → row < length (hashes_of keys (map labels.at numbers)) → is_label labels numbers label row ≡ true
    → get_or (hashes_of keys (map labels.at numbers)) row 0 ≡ hash
same_hash labels keys numbers label hash row is below e =
    hash_of_row labels keys numbers row below ∙ ap (hash_of keys) (same_is (labels.at (get_or numbers row 0)) label e) ∙ sym is

-- what was found
abbrev pub row_in : List ℕ → Option ℕ → ℕ
row_in numbers (Some r) = r
row_in numbers None = length numbers

-- the row that was found, over the fields as they are read
pub found_of : (labels : Labelling) (keys : RandomState) (xs numbers : List ℕ) (said label : LabelValue) (r : Option ℕ) → xs ≡ numbers → said ≡ label
    → Found (length (hashes_of keys (map labels.at xs))) (is_label labels xs said) r
    → Found (length numbers) (is_label labels numbers label) r
found_of labels keys xs numbers said label r e s f =
    subst (λ (ys : List ℕ). Found (length ys) (is_label labels ys label) r) e (subst (λ (y : LabelValue). Found (length xs) (is_label labels xs y) r) s
    (subst (λ (n : ℕ). Found n (is_label labels xs said) r) (length-map (map labels.at xs) (hash_of keys) ∙ length-map xs labels.at) f))

pub nowhere_of : (labels : Labelling) (numbers : List ℕ) (label : LabelValue) → Found (length numbers) (is_label labels numbers label) None → (r : ℕ)
    → r < length (map labels.at numbers) → label_at (map labels.at numbers) r ≡ label → ⊥
nowhere_of labels numbers label f r below e =
    let l = length-map numbers labels.at in
    not_from_Decides (same_label (labels.at (get_or numbers r 0)) label) (same_label-decides (labels.at (get_or numbers r 0)) label) (f r (omega arith))
    (sym (label_of labels numbers r (omega arith)) ∙ e)

pub row_is : (labels : Labelling) (t : Table) (label : LabelValue) → IsLabelTable labels t → (r : Option ℕ)
    → Found (length t.numbers) (is_label labels t.numbers label) r → row_in t.numbers r ≡ row_of labels t.numbers label
row_is labels t label h (Some r) f =
    let l = length-map t.numbers labels.at in
    let w = f.0 in
    sym (row_some same_label same_label-decides no_label label (map labels.at t.numbers) r (omega arith) (is_at labels t.numbers label r f.0 f.1) h.once)
row_is labels t label h None f =
    sym (row_none same_label same_label-decides no_label label (map labels.at t.numbers) (nowhere_of labels t.numbers label f) ∙ length-map t.numbers labels.at)

-- the numbers afterwards
abbrev pub numbers_in : List ℕ → ℕ → Option ℕ → List ℕ
numbers_in numbers n (Some r) = numbers
numbers_in numbers n None = numbers ++ n ∷ []

pub numbers_are : (labels : Labelling) (t : Table) (n : ℕ) → IsLabelTable labels t → (r : Option ℕ)
    → Found (length t.numbers) (is_label labels t.numbers (labels.at n)) r → numbers_in t.numbers n r ≡ with_number labels t.numbers n
numbers_are labels t n h (Some r) f =
    let e = row_is labels t (labels.at n) h (Some r) f in
    let b = f.0 in
    cond_below (row_of labels t.numbers (labels.at n)) (length t.numbers) t.numbers (t.numbers ++ n ∷ []) (omega arith)
numbers_are labels t n h None f =
    let e = row_is labels t (labels.at n) h None f in
    cond_above (row_of labels t.numbers (labels.at n)) (length t.numbers) t.numbers (t.numbers ++ n ∷ []) (t.numbers ++ n ∷ []) (omega arith) refl

-- no number yet
pub named_empty : (labels : Labelling) (keys : RandomState) (room : ℕ) (slots : Slots) → room < 2 ^ 32 → LeadsTo [] slots
    → IsLabelTable labels (record { numbers = []; room = room; keys = keys; slots = slots })
named_empty labels keys room slots fits leads = record {
  fits = fits;
  within = omega arith;
  numbers = record { held = λ r below. absurd (omega arith) };
  once = λ i j below within _. absurd (omega arith);
  leads = leads;
}

-- no number, and one more
pub no_numbers : (count : ℕ) → AreNumbersBelow count []
no_numbers count = record { held = λ r below. absurd (omega arith) }

pub numbers_more : (count : ℕ) (numbers : List ℕ) (n : ℕ) → AreNumbersBelow count numbers → n < count → AreNumbersBelow count (numbers ++ n ∷ [])
numbers_more count numbers n h held = record {
  held = λ r below. elim (cases_lt r (length numbers)) [
    | inl old ↦ let e = get_or_append_left numbers (n ∷ []) 0 r old in let b = h.held r old in omega arith
    | inr new ↦ let l = length-append numbers (n ∷ []) in let e = get_or_push numbers n 0 r (omega arith) in omega arith
  ];
}

pub named_more : (labels : Labelling) (t : Table) (n : ℕ) (slots : Slots) → IsLabelTable labels t → n < labels.count → length t.numbers < t.room
    → Found (length t.numbers) (is_label labels t.numbers (labels.at n)) None
    → LeadsTo (hashes_of t.keys (map labels.at t.numbers) ++ hash_of t.keys (labels.at n) ∷ []) slots
    → IsLabelTable labels (record { numbers = t.numbers ++ n ∷ []; room = t.room; keys = t.keys; slots = slots })
named_more labels t n slots h held more f leads =
    let known = map labels.at t.numbers in
    let m = length-append t.numbers (n ∷ []) in
    let pushed : known ++ labels.at n ∷ [] ≡ map labels.at (t.numbers ++ n ∷ []) = sym (map_push labels.at t.numbers n) in
    record {
      fits = h.fits;
      within = omega arith;
      numbers = numbers_more labels.count t.numbers n h.numbers held;
      once = subst (AreOnce no_label) pushed (once_more no_label known (labels.at n) h.once (nowhere_of labels t.numbers (labels.at n) f));
      leads =
          subst (λ (xs : List LabelValue). LeadsTo (hashes_of t.keys xs) slots) pushed
          (subst (λ (hs : List ℕ). LeadsTo hs slots) (sym (map_push (hash_of t.keys) known (labels.at n))) leads);
    }
