-- An operation is known if it is known with one of the kinds.
use Rattle.std.proofs.Common.{◌≡◌, ℕ, Bool, true, false, ◌||◌, ◌&&◌, List, [], ◌∷◌, map, refl, sym, ap, ◌∙◌}
use Rattle.std.specs.Prelude.{codes, if◌then◌else◌}
use Rattle.std.specs.List.{list_any}
use Rattle.std.proofs.Math.Bool.{or-true, or-false}
use Rattle.jaeger_model.specs.declared.placed.Placed.{Placed}
use Rattle.jaeger_model.specs.Tags.{is_kind, kind_in, kind_of, first_text}
use Rattle.jaeger_model.specs.Texts.{same_text}
use Rattle.trace_model.proofs.SortedSets.{any_set, or_swap}
use Rattle.trace_model.proofs.NameLaws.{any_map, text_turned}
use Rattle.service_index.specs.ListedNames.{Listed, same_listed, listed, listed_in}
use Rattle.service_index.specs.Indexes.{has_operation}
use Rattle.service_index.specs.OperationRows.{all_kinds as kinds}
use Rattle.service_index.proofs.KnownNames.{any_agree}
use Rattle.service_index.proofs.ListedSets.{listed_exact}
use Rattle.service_index.specs.KeptNames.{reports_operation}

any_or : {X : Type 0} (f g : X → Bool) (xs : List X) → (list_any f xs || list_any g xs) ≡ list_any (λ x. f x || g x) xs
any_or f g [] = refl
any_or f g (x ∷ xs) = elim (f x) as (λ b. ((b || list_any f xs) || (g x || list_any g xs)) ≡ ((b || g x) || list_any (λ x. f x || g x) xs)) [
  | true ↦ refl
  | false ↦ or_swap (list_any f xs) (g x) (list_any g xs) ∙ ap (λ b. g x || b) (any_or f g xs)
]

abbrev pub six : (List ℕ → Bool) → Bool
six is = is [] || (is (codes "client") || (is (codes "server") || (is (codes "producer") || (is (codes "consumer") || is (codes "internal")))))

-- the same as a test of a list
pub any_six : (is : List ℕ → Bool) → list_any is kinds ≡ six is
any_six is =
    ap (λ b. is [] || (is (codes "client") || (is (codes "server") || (is (codes "producer") || (is (codes "consumer") || b)))))
    (or-false (is (codes "internal")))

five : (a b c d e : Bool) → (a || b || c || d || e) ≡ (a || (b || (c || (d || e))))
five true b c d e = refl
five false true c d e = refl
five false false true d e = refl
five false false false true e = refl
five false false false false e = refl

pub some_kind : (t : List ℕ) → six (λ k. same_text k (kind_in t)) ≡ true
some_kind t = elim (is_kind t) as (λ b. is_kind t ≡ b → six (λ k. same_text k (if b then t else [])) ≡ true) [
  | true ↦ λ e.
      ap (λ b. same_text [] t || b) ((λ i. text_turned (codes "client") t i
      || (text_turned (codes "server") t i
      || (text_turned (codes "producer") t i || (text_turned (codes "consumer") t i || text_turned (codes "internal") t i))))
      ∙ sym (five (same_text t (codes "client")) (same_text t (codes "server")) (same_text t (codes "producer")) (same_text t (codes "consumer"))
      (same_text t (codes "internal"))) ∙ e)
      ∙ or-true (same_text [] t)
  | false ↦ λ e. refl
] refl

six_and : (a b k0 k1 k2 k3 k4 k5 : Bool) → (k0 || (k1 || (k2 || (k3 || (k4 || k5))))) ≡ true
    → ((a && (b && k0)) || ((a && (b && k1)) || ((a && (b && k2)) || ((a && (b && k3)) || ((a && (b && k4)) || (a && (b && k5))))))) ≡ (a && b)
six_and true true k0 k1 k2 k3 k4 k5 e = e
six_and true false k0 k1 k2 k3 k4 k5 e = refl
six_and false b k0 k1 k2 k3 k4 k5 e = refl

abbrev asked : List ℕ → List ℕ → List ℕ → Placed → Bool
asked s o k p = same_text s p.process.service && (same_text o p.span.operation && same_text k (kind_of p.span))

one_kind : (s o k : List ℕ) (ps : List Placed) → has_operation s o k (listed_in ps) ≡ list_any (asked s o k) ps
one_kind s o k ps =
    let l : Listed = record { service = s; operation = record { name = o; kind = k } } in
    any_set listed_exact (same_listed l) (map listed ps) ∙ any_map (same_listed l) listed ps

pub all_kinds : (s o : List ℕ) (ps : List Placed) → six (λ k. has_operation s o k (listed_in ps)) ≡ reports_operation s o ps
all_kinds s o ps =
    (λ i. one_kind s o [] ps i || (one_kind s o (codes "client") ps i
    || (one_kind s o (codes "server") ps i
    || (one_kind s o (codes "producer") ps i || (one_kind s o (codes "consumer") ps i || one_kind s o (codes "internal") ps i)))))
    ∙ ap (λ b. any [] || (any (codes "client") || (any (codes "server") || (any (codes "producer") || b))))
    (any_or (asked s o (codes "consumer")) (asked s o (codes "internal")) ps)
    ∙ ap (λ b. any [] || (any (codes "client") || (any (codes "server") || b)))
    (any_or (asked s o (codes "producer")) (λ p. asked s o (codes "consumer") p || asked s o (codes "internal") p) ps)
    ∙ ap (λ b. any [] || (any (codes "client") || b))
    (any_or (asked s o (codes "server")) (λ p. asked s o (codes "producer") p || (asked s o (codes "consumer") p || asked s o (codes "internal") p)) ps)
    ∙ ap (λ b. any [] || b) (any_or (asked s o (codes "client"))
    (λ p. asked s o (codes "server") p || (asked s o (codes "producer") p || (asked s o (codes "consumer") p || asked s o (codes "internal") p))) ps)
    ∙ any_or (asked s o []) (λ p. asked s o (codes "client") p
    || (asked s o (codes "server") p || (asked s o (codes "producer") p || (asked s o (codes "consumer") p || asked s o (codes "internal") p)))) ps
    ∙ any_agree (λ p. six (λ k. asked s o k p)) (λ (p : Placed). same_text s p.process.service && same_text o p.span.operation) (λ p.
    six_and (same_text s p.process.service) (same_text o p.span.operation) (same_text [] (kind_of p.span)) (same_text (codes "client") (kind_of p.span))
    (same_text (codes "server") (kind_of p.span))
    (same_text (codes "producer") (kind_of p.span)) (same_text (codes "consumer") (kind_of p.span)) (same_text (codes "internal") (kind_of p.span))
    (some_kind (first_text (codes "span.kind") p.span.tags))) ps
  where
    any : List ℕ → Bool
    any k = list_any (asked s o k) ps
