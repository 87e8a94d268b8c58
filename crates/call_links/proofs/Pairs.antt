-- Lists of pairs in order of their keys, and their changes by one more pair.
use Rattle.std.proofs.Common.{◌≡◌, false, ◌||◌, cond, List, [], ◌∷◌, map, refl, sym, ap, ◌∙◌}
use Rattle.std.specs.Prelude.{fold, Some, None}
use Rattle.std.specs.List.{AllByRecursion}
use Rattle.std.specs.Map.{lookup}
use Rattle.std.specs.BTreeMap.{insert_entry, is_at}
use Rattle.std.specs.declared.cmp.Ordering.{Ordering}
use Rattle.std.specs.declared.cmp.Ordering.TheVariants.{Less, Equal, Greater}
use Rattle.std.specs.Ordering.{is_eq, match_ordering}
use Rattle.std.specs.Cmp.{IsTotalOrder}
use Rattle.jaeger_model.specs.Texts.{insert_once, sorted_set, placed_by}
use Rattle.trace_model.proofs.SortedSets.{Below, has, rises_insert}
use Rattle.std.specs.List.Sorted.{IsStrictlySortedBy}

abbrev pub put : {K V : Type 0} → (K → K → Ordering) → List (K × V) → K × V → List (K × V)
put cmp es e = insert_entry cmp es e.0 e.1

abbrev pub with_values : {K V : Type 0} → (K → V) → List K → List (K × V)
with_values {K} {V} f ks = map {B = K × V} (λ k. (k, f k)) ks

-- ---- entries whose keys and values are mapped
pub insert_through : {K L V W : Type 0} (cmp : L → L → Ordering) (f : K → L) (p : V → W) (es : List (K × V)) (k : K) (v : V)
    → map {B = L × W} (λ e. (f e.0, p e.1)) (insert_entry (λ a b. cmp (f a) (f b)) es k v)
    ≡ insert_entry cmp (map {B = L × W} (λ e. (f e.0, p e.1)) es) (f k) (p v)
insert_through cmp f p [] k v = refl
insert_through {K} {L} {V} {W} cmp f p (e ∷ es) k v =
    elim (cmp (f k) (f e.0)) as (λ r. map {B = L × W}
    (λ e. (f e.0, p e.1)) (match_ordering r ((k, v) ∷ e ∷ es) ((e.0, v) ∷ es) (e ∷ insert_entry (λ a b. cmp (f a) (f b)) es k v))
    ≡ match_ordering r ((f k, p v) ∷ (f e.0, p e.1) ∷ map {B = L × W} (λ e. (f e.0, p e.1)) es) ((f e.0, p v) ∷ map {B = L × W} (λ e. (f e.0, p e.1)) es)
    ((f e.0, p e.1) ∷ insert_entry cmp (map {B = L × W} (λ e. (f e.0, p e.1)) es) (f k) (p v))) [
      | Less ↦ refl
      | Equal ↦ refl
      | Greater ↦ ap (λ l. (f e.0, p e.1) ∷ l) (insert_through cmp f p es k v)
    ]

-- ---- a list of pairs in order, under any total order that tells keys apart
module _ {K : Type 0} {cmp : K → K → Ordering} (o : IsTotalOrder cmp) (exact : (x y : K) → cmp x y ≡ Equal → x ≡ y) where
  abbrev Apart : K → List K → Type 0
  Apart c [] = Unit {0}
  Apart c (k ∷ ks) = (is_eq (cmp c k) ≡ false) × Apart c ks

  apart_below : (c k : K) (ks : List K) → cmp c k ≡ Less → Below cmp k ks → Apart c ks
  apart_below c k [] l b = tt
  apart_below c k (x ∷ ks) l b = (ap is_eq (o.trans c k x l b.0), apart_below c k ks l b.1)

  apart_equal : (c k : K) (ks : List K) → cmp c k ≡ Equal → Below cmp k ks → Apart c ks
  apart_equal c k [] q b = tt
  apart_equal c k (x ∷ ks) q b = (ap is_eq (o.congr c k x q ∙ b.0), apart_equal c k ks q b.1)

module _ {K V : Type 0} {cmp : K → K → Ordering} (o : IsTotalOrder cmp) (exact : (x y : K) → cmp x y ≡ Equal → x ≡ y) where
  abbrev paired : (K → V) → List K → List (K × V)
  paired f [] = []
  paired f (k ∷ ks) = (k, f k) ∷ paired f ks

  same_where_apart : (f g : K → V) (c : K) → ((k : K) → is_eq (cmp c k) ≡ false → g k ≡ f k) → (ks : List K) → Apart o exact c ks → paired g ks ≡ paired f ks
  same_where_apart f g c h [] a = refl
  same_where_apart f g c h (k ∷ ks) a = λ i. (k, h k a.0 i) ∷ same_where_apart f g c h ks a.1 i

  -- one more key, if only its own value changes
  pub insert_paired : (f g : K → V) (c : K) (v : V) → ((k : K) → is_eq (cmp c k) ≡ false → g k ≡ f k) → g c ≡ v → (ks : List K) → IsStrictlySortedBy cmp ks
      → paired g (insert_once cmp ks c) ≡ insert_entry cmp (paired f ks) c v
  unfolding IsStrictlySortedBy
  insert_paired f g c v h e [] r = λ i. (c, e i) ∷ []
  insert_paired f g c v h e (k ∷ ks) r =
      elim (cmp c k) as (λ a. cmp c k ≡ a
      → paired g (placed_by a (insert_once cmp ks) c k ks)
      ≡ match_ordering a ((c, v) ∷ (k, f k) ∷ paired f ks) ((k, v) ∷ paired f ks) ((k, f k) ∷ insert_entry cmp (paired f ks) c v)) [
        | Less ↦ λ l. λ i. (c, e i) ∷ (k, h k (ap is_eq l) i) ∷ same_where_apart f g c h ks (apart_below o exact c k ks l r.0) i
        | Equal ↦ λ q.
            let same : k ≡ c = sym (exact c k q) in
            let rest : Apart o exact c ks = apart_equal o exact c k ks q r.0 in
            λ i. (k, (ap g same ∙ e) i) ∷ same_where_apart f g c h ks rest i
        | Greater ↦ λ q. λ i. (k, h k (ap is_eq q) i) ∷ insert_paired f g c v h e ks r.1 i
      ] refl

  -- what a key finds
  pub lookup_paired : (f : K → V) (c : K) (ks : List K) → lookup (is_at (cmp c)) (paired f ks) ≡ cond (has cmp c ks) (Some (f c)) None
  lookup_paired f c [] = refl
  lookup_paired f c (k ∷ ks) =
      elim (cmp c k) as (λ a. cmp c k ≡ a
      → cond (is_eq a) (Some (f k)) (lookup (is_at (cmp c)) (paired f ks)) ≡ cond (is_eq a || has cmp c ks) (Some (f c)) None) [
        | Less ↦ λ q. lookup_paired f c ks
        | Equal ↦ λ q. ap (λ x. Some (f x)) (sym (exact c k q))
        | Greater ↦ λ q. lookup_paired f c ks
      ] refl

  pub paired_is : (f : K → V) (ks : List K) → map {B = K × V} (λ k. (k, f k)) ks ≡ paired f ks
  paired_is f [] = refl
  paired_is f (k ∷ ks) = ap (λ l. (k, f k) ∷ l) (paired_is f ks)

  pub insert_mapped_pairs : (f : K → V) (c : K) (ks : List K) → IsStrictlySortedBy cmp ks
      → map {B = K × V} (λ k. (k, f k)) (insert_once cmp ks c) ≡ insert_entry cmp (map {B = K × V} (λ k. (k, f k)) ks) c (f c)
  insert_mapped_pairs f c ks r =
      paired_is f (insert_once cmp ks c) ∙ insert_paired f f c (f c) (λ k _. refl) refl ks r
      ∙ ap (λ l. insert_entry cmp l c (f c)) (sym (paired_is f ks))

  -- pairs whose values follow from their keys, inserted one by one
  put_from : (f : K → V) (ks base : List K) → IsStrictlySortedBy cmp base
      → fold (put cmp) (with_values f base) (with_values f ks) ≡ with_values f (fold (insert_once cmp) base ks)
  put_from f [] base r = refl
  put_from f (k ∷ ks) base r =
      ap (λ l. fold (put cmp) l (with_values f ks)) (sym (insert_mapped_pairs f k base r)) ∙ put_from f ks (insert_once cmp base k) (rises_insert o base k r)

  pub put_all : (f : K → V) (ks : List K) → fold (put cmp) [] (with_values f ks) ≡ with_values f (sorted_set cmp ks)
  unfolding IsStrictlySortedBy
  put_all f ks = put_from f ks [] tt

-- ---- what holds of each item of a list holds of each item of its set
module _ {K : Type 0} (cmp : K → K → Ordering) (P : K → Type 0) where
  each_insert : (ks : List K) (k : K) → AllByRecursion P ks → P k → AllByRecursion P (insert_once cmp ks k)
  each_insert [] k a p = (p, tt)
  each_insert (x ∷ ks) k a p = elim (cmp k x) as (λ r. AllByRecursion P (placed_by r (insert_once cmp ks) k x ks)) [
    | Less ↦ (p, a)
    | Equal ↦ a
    | Greater ↦ (a.0, each_insert ks k a.1 p)
  ]

  each_from : (xs base : List K) → AllByRecursion P xs → AllByRecursion P base → AllByRecursion P (fold (insert_once cmp) base xs)
  each_from [] base a b = b
  each_from (x ∷ xs) base a b = each_from xs (insert_once cmp base x) a.1 (each_insert base x b a.0)

  pub each_in_set : (xs : List K) → AllByRecursion P xs → AllByRecursion P (sorted_set cmp xs)
  each_in_set xs a = each_from xs [] a tt
