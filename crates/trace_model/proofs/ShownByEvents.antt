-- How the ring and the shown spans change with one more event.
use Rattle.std.proofs.Common.{◌≡◌, ℕ, Bool, true, false, ◌&&◌, cond, List, [], ◌∷◌, ◌++◌, map, refl, sym, ap, subst, ◌∙◌, append_assoc}
use Rattle.std.specs.Prelude.{filter, fold, if◌then◌else◌}
use Rattle.std.specs.List.{list_all}
use Rattle.std.proofs.lemmas.List.{append-nil}
use Rattle.std.proofs.lemmas.List.Sums.{fold_push}
use Rattle.jaeger_model.specs.declared.ids.TraceId.{TraceId}
use Rattle.jaeger_model.specs.declared.placed.Placed.{Placed}
use Rattle.trace_model.specs.Events.{Event, came, limited, event_map, without_limits}
use Rattle.trace_model.specs.Rings.{holds, arrive, newest, LimitedRing, ring_step, limited_ring}
use Rattle.trace_model.specs.ShownSpans.{trace_of, ring, limit_after, longer_prefixes, lasting_after, is_in_ring, shown_by, shown}

-- induction from the front
pub by_pushes : {X : Type 0} (P : List X → Type 0) → P [] → ((xs : List X) (x : X) → P xs → P (xs ++ x ∷ [])) → (xs : List X) → P xs
by_pushes {X} P none more xs = go [] xs none
  where
    go : (done rest : List X) → P done → P (done ++ rest)
    go done [] p = subst P (sym (append-nil done)) p
    go done (x ∷ rest) p = subst P (append_assoc done (x ∷ []) rest) (go (done ++ x ∷ []) rest (more done x p))

-- those whose trace is in the ring
abbrev pub in_ring_by : {A : Type 0} → (A → TraceId) → List TraceId → List A → List A
in_ring_by trace r xs = filter (λ x. holds r (trace x)) xs

abbrev pub in_ring : List TraceId → List Placed → List Placed
in_ring r ps = in_ring_by trace_of r ps

longer_push : {X : Type 0} (before rest : List X) (x : X)
    → longer_prefixes before (rest ++ x ∷ []) ≡ longer_prefixes before rest ++ (before ++ (rest ++ x ∷ [])) ∷ []
longer_push before [] x = refl
longer_push before (y ∷ rest) x =
    ap (λ l. (before ++ y ∷ []) ∷ l)
    (longer_push (before ++ y ∷ []) rest x ∙ ap (λ l. longer_prefixes (before ++ y ∷ []) rest ++ l ∷ []) (append_assoc before (y ∷ []) (rest ++ x ∷ [])))

pub all_push : {X : Type 0} (t : X → Bool) (xs : List X) (x : X) → list_all t (xs ++ x ∷ []) ≡ (list_all t xs && t x)
all_push t [] x = elim (t x) as (λ b. (b && true) ≡ b) [ true ↦ refl | false ↦ refl ]
all_push t (y ∷ xs) x = elim (t y) as (λ b. (b && list_all t (xs ++ x ∷ [])) ≡ ((b && list_all t xs) && t x)) [ true ↦ all_push t xs x | false ↦ refl ]

one_more : {X : Type 0} (a : Bool) (f : X → Bool) (q : X) (s l t : List X) → l ≡ filter f (s ++ t)
    → (if a && f q then q ∷ l else l) ≡ filter f ((if a then q ∷ s else s) ++ t)
one_more true f q s l t e =
    elim (f q) as (λ b. (if b then q ∷ l else l) ≡ cond b (q ∷ filter f (s ++ t)) (filter f (s ++ t))) [ true ↦ ap (λ m. q ∷ m) e | false ↦ e ]
one_more false f q s l t e = e

-- after one more, the earlier ones that lasted and the new one stay if the test holds of the whole list
pub lasting_after_push : {X : Type 0} (keeps : List X → X → Bool) (before rest : List X) (x : X)
    → lasting_after keeps before (rest ++ x ∷ []) ≡ filter (keeps (before ++ (rest ++ x ∷ []))) (lasting_after keeps before rest ++ x ∷ [])
lasting_after_push {X} keeps before [] x =
    let none : List X = [] in
    elim (keeps (before ++ x ∷ []) x) as (λ b. (if b && true then x ∷ none else none) ≡ cond b (x ∷ none) none) [ true ↦ refl | false ↦ refl ]
lasting_after_push {X} keeps before (y ∷ rest) x =
    let all = before ++ (y ∷ rest ++ x ∷ []) in
    let s = lasting_after keeps (before ++ y ∷ []) rest in
    let l = lasting_after keeps (before ++ y ∷ []) (rest ++ x ∷ []) in
    let test : List X → Bool = λ xs. keeps xs y in
    let a = list_all test (longer_prefixes before (y ∷ rest)) in
    let kept : list_all test (longer_prefixes before (y ∷ rest ++ x ∷ [])) ≡ (a && keeps all y) =
    ap (list_all test) (longer_push before (y ∷ rest) x) ∙ all_push test (longer_prefixes before (y ∷ rest)) all in
    let later : l ≡ filter (keeps all) (s ++ x ∷ []) =
    lasting_after_push keeps (before ++ y ∷ []) rest x ∙ ap (λ xs. filter (keeps xs) (s ++ x ∷ [])) (append_assoc before (y ∷ []) (rest ++ x ∷ [])) in
    ap (λ b. if b then y ∷ l else l) kept ∙ one_more a (keeps all) y s l (x ∷ []) later

filter_again : {X : Type 0} (f : X → Bool) (xs : List X) → filter f (filter f xs) ≡ filter f xs
filter_again f [] = refl
filter_again {X} f (x ∷ xs) = elim (f x) as (λ b. f x ≡ b → filter f (cond b (x ∷ filter f xs) (filter f xs)) ≡ cond b (x ∷ filter f xs) (filter f xs)) [
  | true ↦ λ e. ap (λ b. cond b (x ∷ filter f (filter f xs)) (filter f (filter f xs))) e ∙ ap (λ l. x ∷ l) (filter_again f xs)
  | false ↦ λ e. filter_again f xs
] refl

pub without_limits-append : {A : Type 0} (es fs : List (Event A)) → without_limits (es ++ fs) ≡ without_limits es ++ without_limits fs
without_limits-append [] fs = refl
without_limits-append (came x ∷ es) fs = ap (λ l. x ∷ l) (without_limits-append es fs)
without_limits-append (limited n ∷ es) fs = without_limits-append es fs

pub without_limits-came : {A : Type 0} (xs : List A) → without_limits (map came xs) ≡ xs
without_limits-came [] = refl
without_limits-came (x ∷ xs) = ap (λ l. x ∷ l) (without_limits-came xs)

module _ {A : Type 0} (trace : A → TraceId) (n : ℕ) where
  pub limited_ring_push : (es : List (Event A)) (e : Event A) → limited_ring trace n (es ++ e ∷ []) ≡ ring_step trace (limited_ring trace n es) e
  limited_ring_push es e = fold_push (ring_step trace) (record { limit = n; ids = [] }) es e

  standing : (es xs : List (Event A)) → without_limits (filter (is_in_ring trace n es) xs) ≡ in_ring_by trace (limited_ring trace n es).ids (without_limits xs)
  standing es [] = refl
  standing es (came x ∷ xs) =
      elim (holds (limited_ring trace n es).ids (trace x)) as (λ b.
      without_limits (cond b (came x ∷ filter (is_in_ring trace n es) xs) (filter (is_in_ring trace n es) xs))
      ≡ cond b (x ∷ in_ring_by trace (limited_ring trace n es).ids (without_limits xs))
      (in_ring_by trace (limited_ring trace n es).ids (without_limits xs))) [
        | true ↦ ap (λ l. x ∷ l) (standing es xs)
        | false ↦ standing es xs
      ]
  standing es (limited m ∷ xs) = standing es xs

  -- what is shown after one more event: what was shown before and what arrived, without those whose trace left the
  -- ring
  pub shown_by_push : (es : List (Event A)) (e : Event A)
      → shown_by trace n (es ++ e ∷ []) ≡ in_ring_by trace (limited_ring trace n (es ++ e ∷ [])).ids (shown_by trace n es ++ without_limits (e ∷ []))
  shown_by_push es e =
      ap without_limits (lasting_after_push (is_in_ring trace n) [] es e)
      ∙ standing (es ++ e ∷ []) (lasting_after (is_in_ring trace n) [] es ++ e ∷ [])
      ∙ ap (in_ring_by trace (limited_ring trace n (es ++ e ∷ [])).ids) (without_limits-append (lasting_after (is_in_ring trace n) [] es) (e ∷ []))

  -- the trace of what is shown is in the ring
  pub shown_by_in_ring : (es : List (Event A)) → in_ring_by trace (limited_ring trace n es).ids (shown_by trace n es) ≡ shown_by trace n es
  shown_by_in_ring = by_pushes (λ es. in_ring_by trace (limited_ring trace n es).ids (shown_by trace n es) ≡ shown_by trace n es) refl (λ es e _.
      ap (in_ring_by trace (limited_ring trace n (es ++ e ∷ [])).ids) (shown_by_push es e) ∙ filter_again _ (shown_by trace n es ++ without_limits (e ∷ []))
      ∙ sym (shown_by_push es e))

-- a ring of mapped items is the ring of the items
pub limited_ring-mapped : {A B : Type 0} (trace : B → TraceId) (f : A → B) (n : ℕ) (es : List (Event A))
    → limited_ring trace n (map (event_map f) es) ≡ limited_ring (λ x. trace (f x)) n es
limited_ring-mapped {A} trace f n es = go (record { limit = n; ids = [] }) es
  where
    go : (r : LimitedRing) (es : List (Event A)) → fold (ring_step trace) r (map (event_map f) es) ≡ fold (ring_step (λ x. trace (f x))) r es
    go r [] = refl
    go r (came x ∷ es) = go (record r { ids = arrive r.limit r.ids (trace (f x)) }) es
    go r (limited m ∷ es) = go (record { limit = m; ids = newest m r.ids }) es

pub ring_came : (n : ℕ) (es : List (Event Placed)) (p : Placed) → ring n (es ++ came p ∷ []) ≡ arrive (limit_after n es) (ring n es) (trace_of p)
ring_came n es p = ap (λ (r : LimitedRing). r.ids) (limited_ring_push trace_of n es (came p))

pub ring_limited : (n : ℕ) (es : List (Event Placed)) (m : ℕ) → ring n (es ++ limited m ∷ []) ≡ newest m (ring n es)
ring_limited n es m = ap (λ (r : LimitedRing). r.ids) (limited_ring_push trace_of n es (limited m))

pub limit_came : (n : ℕ) (es : List (Event Placed)) (p : Placed) → limit_after n (es ++ came p ∷ []) ≡ limit_after n es
limit_came n es p = ap (λ (r : LimitedRing). r.limit) (limited_ring_push trace_of n es (came p))

pub limit_limited : (n : ℕ) (es : List (Event Placed)) (m : ℕ) → limit_after n (es ++ limited m ∷ []) ≡ m
limit_limited n es m = ap (λ (r : LimitedRing). r.limit) (limited_ring_push trace_of n es (limited m))

-- the shown spans after one more event
pub shown_push : (n : ℕ) (es : List (Event Placed)) (e : Event Placed)
    → shown n (es ++ e ∷ []) ≡ in_ring (ring n (es ++ e ∷ [])) (shown n es ++ without_limits (e ∷ []))
shown_push n es e = shown_by_push trace_of n es e

pub shown_in_ring : (n : ℕ) (es : List (Event Placed)) → in_ring (ring n es) (shown n es) ≡ shown n es
shown_in_ring n es = shown_by_in_ring trace_of n es

-- one step of a loop over the events
pub ring_more : (n : ℕ) (es : List (Event Placed)) (p : Placed) (r r' : List TraceId) → r ≡ ring n es → r' ≡ arrive (limit_after n es) r (trace_of p)
    → r' ≡ ring n (es ++ came p ∷ [])
ring_more n es p r r' e f = f ∙ ap (λ x. arrive (limit_after n es) x (trace_of p)) e ∙ sym (ring_came n es p)

pub kept_more : (n : ℕ) (es : List (Event Placed)) (p : Placed) (r' : List TraceId) (k k' : List Placed) → r' ≡ ring n (es ++ came p ∷ []) → k ≡ shown n es
    → k' ≡ in_ring r' (k ++ p ∷ []) → k' ≡ shown n (es ++ came p ∷ [])
kept_more n es p r' k k' e f g = g ∙ (λ i. in_ring (e i) (f i ++ p ∷ [])) ∙ sym (shown_push n es (came p))

pub ring_fewer : (n : ℕ) (es : List (Event Placed)) (m : ℕ) (r r' : List TraceId) → r ≡ ring n es → r' ≡ newest m r → r' ≡ ring n (es ++ limited m ∷ [])
ring_fewer n es m r r' e f = f ∙ ap (newest m) e ∙ sym (ring_limited n es m)

pub kept_fewer : (n : ℕ) (es : List (Event Placed)) (m : ℕ) (r' : List TraceId) (k k' : List Placed) → r' ≡ ring n (es ++ limited m ∷ []) → k ≡ shown n es
    → k' ≡ in_ring r' k → k' ≡ shown n (es ++ limited m ∷ [])
kept_fewer n es m r' k k' e f g =
    g ∙ (λ i. in_ring (e i) (f i)) ∙ ap (in_ring (ring n (es ++ limited m ∷ []))) (sym (append-nil (shown n es))) ∙ sym (shown_push n es (limited m))
