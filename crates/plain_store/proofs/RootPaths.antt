-- The clock of a span for a program that goes up to the root and down again.
use Rattle.std.proofs.Common.{◌≡◌, ℕ, zero, suc, pos, ◌+◌, ◌-◌, ◌<◌, ◌≤◌, List, [], ◌∷◌, ◌++◌, map, length, get_or, reverse, refl, sym, ap, ◌∙◌, subst, arith}
use Rattle.std.proofs.Common.{append_assoc}
use Rattle.std.specs.Prelude.{Option, Some, None, option_map, option_and_then, fold, if◌then◌else◌}
use Rattle.std.specs.List.{AllByRecursion}
use Rattle.std.proofs.lemmas.List.{get_or-map, length-map, map_push, reverse-append}
use Rattle.std.proofs.lemmas.Option.{none-some, same_Some}
use Rattle.jaeger_model.specs.declared.placed.Placed.{Placed}
use Rattle.jaeger_model.specs.Parents.{parent}
use Rattle.trace_model.specs.ServiceLinks.{parent_in, place_of_parent}
use Rattle.trace_model.specs.declared.clock.Clock.{Clock}
use Rattle.trace_model.specs.Adjusting.{chain, chain_through, clock_along, clock_of, clock_at, clock_below, host_of}
use Rattle.trace_model.proofs.ParentChains.{chain_step, chain_none, parent_there, parent_within}
use Rattle.plain_store.specs.RootPaths.{path, path_through, next_clock, downward, clock_down}

-- ---- a path, one step at a time
path_step : (n : ℕ) (ps : List (Option ℕ)) (k : ℕ) → path (suc n) ps k ≡ path_through k (λ j. path n ps j) (get_or ps k None)
unfolding path
path_step n ps k = refl

path_none : (ps : List (Option ℕ)) (k : ℕ) → path 0 ps k ≡ None
unfolding path
path_none ps k = refl

module _ (ps : List (Option ℕ)) (whole : Option (List ℕ)) (n i at : ℕ) (done : List ℕ)
    (inv : whole ≡ option_map (λ above. done ++ above) (path (n - i) ps at)) where
  opened : i < n → whole ≡ option_map (λ above. done ++ above) (path_through at (λ j. path (n - (i + 1)) ps j) (get_or ps at None))
  opened l =
      let e : n - i ≡ suc (n - (i + 1)) = omega arith in
      inv ∙ ap (λ k. option_map (λ above. done ++ above) (path k ps at)) e ∙ ap (option_map (λ above. done ++ above)) (path_step (n - (i + 1)) ps at)

  pub path_more : (j : ℕ) (now : List ℕ) → i < n → Some j ≡ get_or ps at None → now ≡ done ++ at ∷ []
      → whole ≡ option_map (λ above. now ++ above) (path (n - (i + 1)) ps j)
  path_more j now l e put =
      opened l ∙ ap (λ o. option_map (λ above. done ++ above) (path_through at (λ j. path (n - (i + 1)) ps j) o)) (sym e)
      ∙ by_path (path (n - (i + 1)) ps j) ∙ ap (λ d. option_map (λ above. d ++ above) (path (n - (i + 1)) ps j)) (sym put)
    where
      by_path : (o : Option (List ℕ))
          → option_map (λ above. done ++ above) (option_map (λ above. at ∷ above) o) ≡ option_map (λ above. (done ++ at ∷ []) ++ above) o
      by_path None = refl
      by_path (Some above) = ap (λ r. Some r) (sym (append_assoc done (at ∷ []) above))

  pub path_ends : (now : List ℕ) → i < n → None ≡ get_or ps at None → now ≡ done ++ at ∷ [] → Some now ≡ whole
  path_ends now l e put =
      ap (λ r. Some r) put ∙ sym (opened l ∙ ap (λ o. option_map (λ above. done ++ above) (path_through at (λ j. path (n - (i + 1)) ps j) o)) (sym e))

  pub path_out : n ≤ i → None ≡ whole
  path_out l =
      let e : n - i ≡ 0 = omega arith in
      sym (inv ∙ ap (λ k. option_map (λ above. done ++ above) (path k ps at)) e ∙ ap (option_map (λ above. done ++ above)) (path_none ps at))

-- ---- the places of a trace
module _ (trace : List Placed) (d : Placed) where
  abbrev parents : List (Option ℕ)
  parents = map (place_of_parent trace) trace

  abbrev at : ℕ → Placed
  at k = get_or trace k d

  read : (k : ℕ) → k < length trace → get_or parents k None ≡ place_of_parent trace (at k)
  read k l = get_or-map (place_of_parent trace) trace k d None l

  -- the places up to a root are the spans down from it
  path_chain : (n k : ℕ) → k < length trace → chain n trace (at k) ≡ option_map (λ ks. downward trace ks d) (path n parents k)
  path_chain zero k l = chain_none trace (at k) ∙ ap (option_map (λ ks. downward trace ks d)) (sym (path_none parents k))
  path_chain (suc n) k l =
      chain_step n trace (at k) ∙ by_parent (path_chain n) (get_or parents k None) refl
      ∙ ap (option_map (λ ks. downward trace ks d)) (sym (path_step n parents k))
    where
      above : (o : Option ℕ) → get_or parents k None ≡ o → parent_in trace (at k) ≡ option_map at o
      above o e = sym (parent_there trace (at k) d) ∙ ap (option_map at) (sym (read k l) ∙ e)

      turned : (o : Option (List ℕ))
          → option_map (λ ups. ups ++ at k ∷ []) (option_map (λ ks. downward trace ks d) o) ≡ option_map
          (λ ks. downward trace ks d) (option_map (λ ks. k ∷ ks) o)
      turned None = refl
      turned (Some ks) = ap (λ r. Some r) (sym (reverse-append (at k ∷ []) (map at ks)))

      by_parent : ((j : ℕ) → j < length trace → chain n trace (at j) ≡ option_map (λ ks. downward trace ks d) (path n parents j)) → (o : Option ℕ)
          → get_or parents k None ≡ o → chain_through (at k) (λ q. chain n trace q) (parent_in trace (at k)) ≡ option_map
          (λ ks. downward trace ks d) (path_through k (λ j. path n parents j) o)
      by_parent up None e = ap (chain_through (at k) (λ q. chain n trace q)) (above None e)
      by_parent up (Some j) e =
          ap (chain_through (at k) (λ q. chain n trace q)) (above (Some j) e)
          ∙ ap (option_map (λ ups. ups ++ at k ∷ [])) (up j (parent_within trace (at k) j (sym (read k l) ∙ e)))
          ∙ turned (path n parents j)

  -- and each of them is in the trace
  path_below : (n k : ℕ) (ks : List ℕ) → k < length trace → path n parents k ≡ Some ks → AllByRecursion (λ j. j < length trace) ks
  path_below zero k ks l e = absurd (none-some ks (sym (path_none parents k) ∙ e))
  path_below (suc n) k ks l e = by_parent (path_below n) (get_or parents k None) refl (sym (path_step n parents k) ∙ e)
    where
      on : ((j : ℕ) (ks : List ℕ) → j < length trace → path n parents j ≡ Some ks → AllByRecursion (λ j. j < length trace) ks) → (j : ℕ) (o : Option (List ℕ))
          → j < length trace → path n parents j ≡ o → option_map (λ above. k ∷ above) o ≡ Some ks → AllByRecursion (λ j. j < length trace) ks
      on up j None lj e f = absurd (none-some ks f)
      on up j (Some above) lj e f = subst (AllByRecursion (λ j. j < length trace)) (same_Some (k ∷ above) ks f) (l, up j above lj e)

      by_parent : ((j : ℕ) (ks : List ℕ) → j < length trace → path n parents j ≡ Some ks → AllByRecursion (λ j. j < length trace) ks) → (o : Option ℕ)
          → get_or parents k None ≡ o → path_through k (λ j. path n parents j) o ≡ Some ks → AllByRecursion (λ j. j < length trace) ks
      by_parent up None e f = subst (AllByRecursion (λ j. j < length trace)) (same_Some (k ∷ []) ks f) (l, tt)
      by_parent up (Some j) e f = on up j (path n parents j) (parent_within trace (at k) j (sym (read k l) ∙ e)) refl f

-- ---- down again
below : (m : ℕ) (c : Clock) (ys : List Placed) → fold (next_clock m) (Some c) ys ≡ Some (fold (clock_below m) c ys)
below m c [] = refl
below m c (y ∷ ys) = below m (clock_below m c y) ys

along : (m : ℕ) (xs : List Placed) → fold (next_clock m) None xs ≡ clock_along m xs
along m [] = refl
along m (x ∷ xs) = below m (clock_at m (host_of x) (pos 0) x.span) xs

module _ (m : ℕ) (trace : List Placed) (ps : List (Option ℕ)) (k : ℕ) (e : ps ≡ map (place_of_parent trace) trace) (l : k < length trace) where
  as_long : length ps ≡ length trace
  as_long = ap length e ∙ length-map trace (place_of_parent trace)

  same_path : path (length trace) (map (place_of_parent trace) trace) k ≡ path (length ps) ps k
  same_path = ap (λ n. path n (map (place_of_parent trace) trace) k) (sym as_long) ∙ ap (λ r. path (length ps) r k) (sym e)

  way_up : (d : Placed) → chain (length trace) trace (get_or trace k d) ≡ option_map (λ ks. downward trace ks d) (path (length ps) ps k)
  way_up d = path_chain trace d (length trace) k l ∙ ap (option_map (λ ks. downward trace ks d)) same_path

  pub up_and_down : (o : Option (List ℕ)) (ks : List ℕ) (c : Option Clock) → o ≡ path (length ps) ps k → Some ks ≡ o
      → ((d : Placed) → c ≡ clock_down m trace ks d) → (d : Placed) → c ≡ clock_of m trace (get_or trace k d)
  up_and_down o ks c q s f d =
      f d ∙ along m (downward trace ks d)
      ∙ sym (ap (option_and_then (clock_along m)) (way_up d ∙ ap (option_map (λ ks. downward trace ks d)) (sym q ∙ sym s)))

  pub no_way_up : (o : Option (List ℕ)) → o ≡ path (length ps) ps k → None ≡ o → (d : Placed) → None ≡ clock_of m trace (get_or trace k d)
  no_way_up o q s d = sym (ap (option_and_then (clock_along m)) (way_up d ∙ ap (option_map (λ ks. downward trace ks d)) (sym q ∙ sym s)))

  some_of : (xs : List Placed) → k < length xs → Placed
  some_of [] l = absurd (omega arith)
  some_of (x ∷ xs) l = x

  pub way_is_within : (o : Option (List ℕ)) (ks : List ℕ) → o ≡ path (length ps) ps k → Some ks ≡ o → AllByRecursion (λ j. j < length trace) ks
  way_is_within o ks q s =
      path_below trace (some_of trace l) (length trace) k ks l (same_path ∙ sym q ∙ sym s)

-- ---- one step down
pub clock_pops : (m : ℕ) (trace : List Placed) (d : Placed) (c : Option Clock) (rest : List ℕ) (k : ℕ)
    → fold (next_clock m) c (downward trace (rest ++ k ∷ []) d) ≡ fold (next_clock m) (next_clock m c (get_or trace k d)) (downward trace rest d)
clock_pops m trace d c rest k =
    ap (fold (next_clock m) c) (ap reverse (map_push (λ j. get_or trace j d) rest k)
    ∙ reverse-append (map (λ j. get_or trace j d) rest) (get_or trace k d ∷ []))
