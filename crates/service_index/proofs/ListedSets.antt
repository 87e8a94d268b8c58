-- Sets by their members, and the order of what is listed.
use Rattle.std.proofs.Common.{◌≡◌, Bool, ◌||◌, List, sym, ap, ◌∙◌}
use Rattle.std.specs.List.{list_any}
use Rattle.std.specs.List.Sorted.{IsStrictlySortedBy}
use Rattle.std.specs.declared.cmp.Ordering.{Ordering}
use Rattle.std.specs.Ordering.{eq_by_cmp}
use Rattle.std.specs.Cmp.{IsTotalOrder, on_total}
use Rattle.std.specs.Cmp.Lexicographic.{on_texts}
use Rattle.std.specs.FinMap.{IsAntisymmetric}
use Rattle.std.proofs.lemmas.Cmp.{then_total}
use Rattle.jaeger_model.specs.Texts.{text_cmp, sorted_set, insert_once}
use Rattle.trace_model.specs.Names.{operation_cmp}
use Rattle.trace_model.proofs.SortedSets.{sorted_set-rises, rises_insert, rises_same, any_set, any_insert}
use Rattle.trace_model.proofs.NameLaws.{both_equal, text_exact, operation_total, operation_exact}
use Rattle.service_index.specs.ListedNames.{Listed, listed_cmp}

-- ---- sets by their members
module _ {K : Type 0} {cmp : K → K → Ordering} (o : IsTotalOrder cmp) (exact : IsAntisymmetric cmp) where
  -- an ascending list is the set of each list with its members
  pub is_set : (xs ys : List K) → IsStrictlySortedBy cmp xs → ((p : K → Bool) → list_any p xs ≡ list_any p ys) → xs ≡ sorted_set cmp ys
  is_set xs ys r same =
      rises_same o exact xs (sorted_set cmp ys) r (sorted_set-rises o ys) (λ q. same (eq_by_cmp cmp q) ∙ sym (any_set exact (eq_by_cmp cmp q) ys))

  pub same_set : (xs ys : List K) → ((p : K → Bool) → list_any p xs ≡ list_any p ys) → sorted_set cmp xs ≡ sorted_set cmp ys
  same_set xs ys same = is_set (sorted_set cmp xs) ys (sorted_set-rises o xs) (λ p. any_set exact p xs ∙ same p)

  -- one more member
  pub set_more : (xs ys : List K) (x : K) → ((p : K → Bool) → list_any p ys ≡ (p x || list_any p xs))
      → sorted_set cmp ys ≡ insert_once cmp (sorted_set cmp xs) x
  set_more xs ys x more = sym (is_set (insert_once cmp (sorted_set cmp xs) x) ys (rises_insert o (sorted_set cmp xs) x (sorted_set-rises o xs)) (λ p.
      any_insert exact p (sorted_set cmp xs) x ∙ ap (λ b. p x || b) (any_set exact p xs) ∙ sym (more p)))

pub listed_total : IsTotalOrder listed_cmp
listed_total = then_total (on_texts (λ (l : Listed). l.service)) (on_total (λ (l : Listed). l.operation) operation_total)

pub listed_exact : IsAntisymmetric listed_cmp
listed_exact a b e = both_equal (text_cmp a.service b.service) (operation_cmp a.operation b.operation) e (λ s t.
    let ss = text_exact a.service b.service s in
    let os = operation_exact a.operation b.operation t in
    λ i. record { service = ss i; operation = os i })
