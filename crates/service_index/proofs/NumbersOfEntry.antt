-- The numbers of one more entry.
use Rattle.std.proofs.Common.{◌≡◌, ℕ, ◌+◌, ◌-◌, ◌<◌, ◌≤◌, List, [], ◌∷◌, ◌++◌, length, get_or, refl, sym, ap, subst, ◌∙◌, inl, inr, arith, length-append}
use Rattle.std.proofs.lemmas.Bool.{cases_lt}
use Rattle.std.proofs.lemmas.List.{length-map, get_or_append_left, get_or-append_right, get_or_push, flat_map_more, take-append-le, take_all}
use Rattle.std.proofs.lemmas.List.Sums.{sum_by-cons}
use Rattle.std.proofs.lemmas.List.Concat.{flat_map-cons}
use Rattle.jaeger_model.specs.declared.placed.Placed.{Placed}
use Rattle.jaeger_model.specs.Parents.{placed}
use Rattle.trace_model.specs.declared.entry.Entry.{Entry}
use Rattle.trace_model.specs.declared.entry.Work.{Work}
use Rattle.trace_model.specs.declared.entry.Work.TheVariants as brings
use Rattle.trace_model.specs.EntryWork.{spans_brought, placed_brought}
use Rattle.trace_model.specs.Histories.{arrivals, span_count}
use Rattle.service_index.specs.ArrivalNumbers.{IsAt, AreOf}

pub as_many_placed : (w : Work) → length (placed_brought w) ≡ length (spans_brought w)
as_many_placed (brings.Batch b) = length-map b.spans (placed b)
as_many_placed (brings.TraceLimit n) = refl

pub arrivals_push : (h : List Entry) (e : Entry) → arrivals (h ++ e ∷ []) ≡ arrivals h ++ placed_brought e.work
arrivals_push h e = sym (flat_map_more (λ (e : Entry). placed_brought e.work) [] h e)

-- count times the same number, appended
pub record Filled (old : List ℕ) (same count : ℕ) (now : List ℕ) : Type 0 where
  pub as_many : length now ≡ length old + count
  pub before : (n : ℕ) → n < length old → get_or now n 0 ≡ get_or old n 0
  pub after : (n : ℕ) → length old ≤ n → n < length now → get_or now n 0 ≡ same

at_old : (h : List Entry) (e : Entry) (before first n : ℕ) → n < length (arrivals h) → IsAt h before first n → IsAt (h ++ e ∷ []) before first n
at_old h e before first n below a =
    let l : length (h ++ e ∷ []) ≡ length h + 1 = length-append h (e ∷ []) in
    let entry = a.entry in
    let same : (x : Entry) → x ≡ get_or (h ++ e ∷ []) before x → x ≡ get_or h before x = λ x is. is ∙ get_or_append_left h (e ∷ []) x before entry in
    record {
      entry = omega arith;
      from = a.from;
      within = λ x is. a.within x (same x is);
      is = λ x is d. ap (λ ps. get_or ps n d) (arrivals_push h e) ∙ get_or_append_left (arrivals h) (placed_brought e.work) d n below ∙ a.is x (same x is) d;
    }

at_new : (h : List Entry) (e : Entry) (n : ℕ) → length (arrivals h) ≤ n → n < length (arrivals h) + length (spans_brought e.work)
    → IsAt (h ++ e ∷ []) (length h) (length (arrivals h)) n
at_new h e n low below =
    let l : length (h ++ e ∷ []) ≡ length h + 1 = length-append h (e ∷ []) in
    let last : (x : Entry) → x ≡ get_or (h ++ e ∷ []) (length h) x → x ≡ e = λ x is. is ∙ get_or_push h e x (length h) refl in
    record {
      entry = omega arith;
      from = low;
      within = λ x is. subst (λ (y : Entry). n - length (arrivals h) < length (spans_brought y.work)) (sym (last x is)) (omega arith);
      is = λ x is d.
          ap (λ ps. get_or ps n d) (arrivals_push h e) ∙ get_or-append_right (arrivals h) (placed_brought e.work) (length (arrivals h)) n d refl low
          ∙ ap (λ (y : Entry). get_or (placed_brought y.work) (n - length (arrivals h)) d) (sym (last x is));
    }

pub numbers_more : (h : List Entry) (e : Entry) (entry_of firsts now : List ℕ) → AreOf h entry_of firsts
    → Filled entry_of (length h) (length (spans_brought e.work)) now → AreOf (h ++ e ∷ []) now (firsts ++ length entry_of ∷ [])
numbers_more h e entry_of firsts now a f =
    let many = a.as_many in
    let starts = a.starts in
    let filled = f.as_many in
    let l : length (h ++ e ∷ []) ≡ length h + 1 = length-append h (e ∷ []) in
    let m : length (firsts ++ length entry_of ∷ []) ≡ length firsts + 1 = length-append firsts (length entry_of ∷ []) in
    let spans = as_many_placed e.work in
    let all : length (arrivals (h ++ e ∷ [])) ≡ length (arrivals h) + length (placed_brought e.work) =
    ap (λ (ps : List Placed). length ps) (arrivals_push h e) ∙ length-append (arrivals h) (placed_brought e.work) in
    record {
      as_many = omega arith;
      starts = omega arith;
      first = λ k below. elim (cases_lt k (length h)) [
        | inl old ↦
            get_or_append_left firsts (length entry_of ∷ []) 0 k (omega arith) ∙ a.first k old
            ∙ sym (ap (λ (x : List Entry). length (arrivals x)) (take-append-le k h (e ∷ []) (omega arith)))
        | inr new ↦
            get_or_push firsts (length entry_of) 0 k (omega arith) ∙ many
            ∙ sym (ap (λ (x : List Entry). length (arrivals x)) (take-append-le k h (e ∷ []) (omega arith) ∙ take_all k h new))
      ];
      at = λ n below. elim (cases_lt n (length entry_of)) [
        | inl old ↦
            let there = a.at n old in
            let entry = there.entry in
            subst (λ (k : ℕ). IsAt (h ++ e ∷ []) k (get_or (firsts ++ length entry_of ∷ []) k 0) n) (sym (f.before n old))
            (subst (λ (k : ℕ). IsAt (h ++ e ∷ []) (get_or entry_of n 0) k n)
            (sym (get_or_append_left firsts (length entry_of ∷ []) 0 (get_or entry_of n 0) (omega arith)))
            (at_old h e (get_or entry_of n 0) (get_or firsts (get_or entry_of n 0) 0) n (omega arith) there))
        | inr new ↦
            subst (λ (k : ℕ). IsAt (h ++ e ∷ []) k (get_or (firsts ++ length entry_of ∷ []) k 0) n) (sym (f.after n new below))
            (subst (λ (k : ℕ). IsAt (h ++ e ∷ []) (length h) k n) (sym many ∙ sym (get_or_push firsts (length entry_of) 0 (length h) starts))
            (at_new h e n (omega arith) (omega arith)))
      ];
    }

pub length-arrivals : (h : List Entry) → length (arrivals h) ≡ span_count h
length-arrivals [] = refl
length-arrivals (e ∷ h) =
    let first = as_many_placed e.work in
    let rest = length-arrivals h in
    let both = length-append (placed_brought e.work) (arrivals h) in
    ap (λ (ps : List Placed). length ps) (flat_map-cons (λ (x : Entry). placed_brought x.work) e h) ∙ (omega arith)
    ∙ sym (sum_by-cons (λ (x : Entry). length (spans_brought x.work)) e h)
