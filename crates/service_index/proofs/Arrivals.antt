-- The index of all arrivals answers as the plain store does.
use Rattle.std.proofs.Common.{◌≡◌, ℕ, Bool, ◌&&◌, List, [], ◌∷◌, ◌++◌, map, sym, ap, ◌∙◌}
use Rattle.std.specs.Prelude.{filter}
use Rattle.std.specs.List.{list_any}
use Rattle.std.proofs.lemmas.List.{map_push}
use Rattle.std.proofs.lemmas.List.Sums.{fold_push}
use Rattle.jaeger_model.specs.declared.placed.Placed.{Placed}
use Rattle.jaeger_model.specs.Texts.{same_text, sorted_set, insert_once}
use Rattle.trace_model.specs.declared.answer.Operation.{Operation}
use Rattle.trace_model.specs.Names.{services, operation_names, operations, operation_of, of_service, is_asked_kind}
use Rattle.trace_model.proofs.SortedSets.{any_set}
use Rattle.trace_model.proofs.NameLaws.{text_total, text_exact, operation_total, operation_exact, any_map, any_filter}
use Rattle.service_index.specs.ListedNames.{Listed, listed, listed_cmp, listed_in, services_in, operations_of, names_in, operations_in}
use Rattle.service_index.proofs.ListedSets.{same_set, listed_exact}

pub listed_more : (ps : List Placed) (p : Placed) → listed_in (ps ++ p ∷ []) ≡ insert_once listed_cmp (listed_in ps) (listed p)
listed_more ps p = ap (sorted_set listed_cmp) (map_push listed ps p) ∙ fold_push (insert_once listed_cmp) [] (map listed ps) (listed p)

any_listed : (p : Listed → Bool) (ps : List Placed) → list_any p (listed_in ps) ≡ list_any (λ q. p (listed q)) ps
any_listed p ps = any_set listed_exact p (map listed ps) ∙ any_map p listed ps

pub services_listed : (ps : List Placed) → services_in (listed_in ps) ≡ services ps
services_listed ps =
    same_set text_total text_exact (map (λ (l : Listed). l.service) (listed_in ps)) (map (λ (p : Placed). p.process.service) ps) (λ p.
    any_map p (λ (l : Listed). l.service) (listed_in ps) ∙ any_listed (λ (l : Listed). p l.service) ps ∙ sym (any_map p (λ (q : Placed). q.process.service) ps))

-- the operations of a service, listed or among the arrivals
any_operations : (s : List ℕ) (p : Operation → Bool) (ps : List Placed)
    → list_any p (operations_of s (listed_in ps)) ≡ list_any p (map operation_of (of_service s ps))
any_operations s p ps =
    any_map p (λ (l : Listed). l.operation) (filter (λ (l : Listed). same_text s l.service) (listed_in ps))
    ∙ any_filter (λ (l : Listed). p l.operation) (λ (l : Listed). same_text s l.service) (listed_in ps)
    ∙ any_listed (λ (l : Listed). same_text s l.service && p l.operation) ps
    ∙ sym (any_map p operation_of (of_service s ps) ∙ any_filter (λ q. p (operation_of q)) (λ (q : Placed). same_text s q.process.service) ps)

pub operations_listed : (service kind : List ℕ) (ps : List Placed) → operations_in service kind (listed_in ps) ≡ operations service kind ps
operations_listed s kind ps =
    ap (filter (is_asked_kind kind))
    (same_set operation_total operation_exact (operations_of s (listed_in ps)) (map operation_of (of_service s ps)) (λ p. any_operations s p ps))

pub names_listed : (service : List ℕ) (ps : List Placed) → names_in service (listed_in ps) ≡ operation_names service ps
names_listed s ps =
    let name : Operation → List ℕ = λ o. o.name in
    same_set text_total text_exact (map name (operations_of s (listed_in ps))) (map (λ (p : Placed). p.span.operation) (of_service s ps)) (λ p.
    any_map p name (operations_of s (listed_in ps)) ∙ any_operations s (λ o. p (name o)) ps
    ∙ any_map (λ (o : Operation). p o.name) operation_of (of_service s ps)
    ∙ sym (any_map p (λ (q : Placed). q.span.operation) (of_service s ps)))
