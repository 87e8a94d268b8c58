-- What is listed already.
use Rattle.std.proofs.Common.{◌≡◌, Bool, true, ◌||◌, ◌&&◌, List, [], ◌∷◌, refl, sym, ap, ◌∙◌}
use Rattle.std.specs.List.{list_any}
use Rattle.std.specs.List.Sorted.{IsStrictlySortedBy}
use Rattle.std.specs.declared.cmp.Ordering.TheVariants.{Less, Equal, Greater}
use Rattle.std.specs.Ordering.{is_eq, eq_by_cmp}
use Rattle.std.specs.Cmp.Lexicographic.{texts_ties}
use Rattle.jaeger_model.specs.Texts.{text_cmp, insert_once}
use Rattle.trace_model.specs.declared.answer.Operation.{Operation}
use Rattle.trace_model.specs.Names.{operation_cmp, same_operation}
use Rattle.trace_model.proofs.SortedSets.{rises_same, rises_insert, any_insert}
use Rattle.service_index.specs.ListedNames.{Listed, listed_cmp, same_listed}
use Rattle.service_index.proofs.ListedSets.{listed_total, listed_exact}
use Rattle.trace_model.proofs.NameLaws.{then_eq}

pub any_agree : {X : Type 0} (p q : X → Bool) → ((x : X) → p x ≡ q x) → (xs : List X) → list_any p xs ≡ list_any q xs
any_agree p q h [] = refl
any_agree p q h (x ∷ xs) = λ i. h x i || any_agree p q h xs i

pub same_operation_by_cmp : (a b : Operation) → same_operation a b ≡ is_eq (operation_cmp a b)
same_operation_by_cmp a b = (λ i. texts_ties a.name b.name i && texts_ties a.kind b.kind i) ∙ sym (then_eq (text_cmp a.name b.name) (text_cmp a.kind b.kind))

pub same_listed_by_cmp : (a b : Listed) → same_listed a b ≡ is_eq (listed_cmp a b)
same_listed_by_cmp a b =
    (λ i. texts_ties a.service b.service i && same_operation_by_cmp a.operation b.operation i)
    ∙ sym (then_eq (text_cmp a.service b.service) (operation_cmp a.operation b.operation))

absorbed : (ls : List Listed) (l q : Listed) → list_any (same_listed l) ls ≡ true
    → (eq_by_cmp listed_cmp q l || list_any (eq_by_cmp listed_cmp q) ls) ≡ list_any (eq_by_cmp listed_cmp q) ls
absorbed ls l q known =
    elim (listed_cmp q l) as (λ r. listed_cmp q l ≡ r → (is_eq r || list_any (eq_by_cmp listed_cmp q) ls) ≡ list_any (eq_by_cmp listed_cmp q) ls) [
      | Less ↦ λ e. refl
      | Equal ↦ λ e. sym (ap (λ x. list_any (eq_by_cmp listed_cmp x) ls) (listed_exact q l e)
          ∙ sym (any_agree (same_listed l) (eq_by_cmp listed_cmp l) (same_listed_by_cmp l) ls) ∙ known)
      | Greater ↦ λ e. refl
    ] refl

-- adding what is listed changes nothing
pub known_again : (ls : List Listed) (l : Listed) → IsStrictlySortedBy listed_cmp ls → list_any (same_listed l) ls ≡ true → insert_once listed_cmp ls l ≡ ls
known_again ls l rise known =
    rises_same listed_total listed_exact (insert_once listed_cmp ls l) ls (rises_insert listed_total ls l rise) rise (λ q.
    any_insert listed_exact (eq_by_cmp listed_cmp q) ls l ∙ absorbed ls l q known)
