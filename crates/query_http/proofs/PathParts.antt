-- What a part of a path matches, with literal bytes or nothing after it.
use Rattle.std.proofs.Common.{◌≡◌, ◌≢◌, ℕ, ◌+◌, ◌-◌, ◌<◌, ◌≤◌, List, [], ◌∷◌, ◌++◌, length, drop, Option, Some, None, Bool, true, false, cond, refl, sym, ap}
use Rattle.std.proofs.Common.{◌∙◌, subst, rules, eqb, ltb, arith, inl, inr, ◌⊎◌, length-append}
use Rattle.std.proofs.lemmas.Bool.Decides.{nat_tests}
use Rattle.std.proofs.lemmas.Bool.{lt-ltb}
use Rattle.std.proofs.lemmas.List.{append-nil, drop_at, length-drop, nil_from_length}
use Rattle.std.specs.List.{AllByRecursion}
use Rattle.std.proofs.lemmas.Option.{none-some}
use Rattle.matchit.specs.Rows.{RowsOf}
use Rattle.matchit.specs.Seek.{seek, or_else, step, param_step, has_slash, segment, cuts}
use Rattle.query_http.specs.Paths.{IsSegment}
use Rattle.query_http.proofs.RouteWalks.{seek_none, seek_skips, found_end, found_behind, seek_behind, AreLiteral, behind}

pub record NoSlash (t : List ℕ) : Type 0 where
  pub none : has_slash t ≡ false
  pub whole : segment t ≡ t
  pub plain : AllByRecursion (λ b. b ≢ 47) t

pub record AtSlash (t : List ℕ) : Type 0 where
  pub part : List ℕ
  pub tail : List ℕ
  pub is : t ≡ part ++ (47 ∷ tail)
  pub front : segment t ≡ part ++ (47 ∷ [])
  pub some : has_slash t ≡ true
  pub plain : AllByRecursion (λ b. b ≢ 47) part

-- a text has no slash, or a first one
pub slash_cut : (t : List ℕ) → NoSlash t ⊎ AtSlash t
slash_cut [] = inl (record { none = refl; whole = refl; plain = tt })
slash_cut (b ∷ t) = by (eqb b 47) refl (slash_cut t)
  where
    by : (v : Bool) → eqb b 47 ≡ v → NoSlash t ⊎ AtSlash t → NoSlash (b ∷ t) ⊎ AtSlash (b ∷ t)
    by true e h =
        let b-is : b ≡ 47 = search (rules, nat_tests) in
        inr (record { part = []; tail = t; is = ap (λ (x : ℕ). x ∷ t) b-is; front = rw (e, b-is) refl; some = rw e refl; plain = tt })
    by false e (inl h) =
        let other : b ≢ 47 = λ q. grind (arith, nat_tests) in
        inl (record { none = rw e h.none; whole = rw (e, h.whole) refl; plain = (other, h.plain) })
    by false e (inr h) =
        let other : b ≢ 47 = λ q. grind (arith, nat_tests) in
        inr (record {
          part = b ∷ h.part;
          tail = h.tail;
          is = ap (λ (x : List ℕ). b ∷ x) h.is;
          front = rw (e, h.front) refl;
          some = rw e h.some;
          plain = (other, h.plain);
        })

or_some : {K : Type 0} (x y : Option K) (k : K) → or_else x (or_else y None) ≡ Some k → (x ≡ Some k) ⊎ (y ≡ Some k)
or_some None None k e = absurd (none-some k e)
or_some None (Some j) k e = inr e
or_some (Some j) y k e = inl e

or_none : {K : Type 0} (x y : Option K) → or_else x (or_else y None) ≡ None → y ≡ None
or_none None None e = refl
or_none None (Some j) e = absurd cc
or_none (Some j) y e = absurd cc

no_longer : (n : ℕ) (path w rest : List ℕ) → length path ≤ n + 1 → drop n path ≡ (47 ∷ w) ++ rest → 0 < length w → ⊥
no_longer n path w rest le e some =
    omega (arith, ap length e, length-drop n path, length-append (47 ∷ w) rest)

-- what these routes match after the part that begins this path
abbrev after_part : {K : Type 0} → RowsOf K → ℕ → List ℕ → Option K
after_part rows b path = seek ((param_step rows (b ∷ path)).0 - 1) (param_step rows (b ∷ path)).1 path

module _ {K : Type 0} (k : K) (tail : List ℕ) (b : ℕ) (path : List ℕ) where
  -- what the route of a part matches follows the marker as a byte, or follows a part
  found_by : {P : Type 0} (found : K) → (IsSegment (b ∷ []) → seek 0 ((tail, k) ∷ []) path ≡ Some found → P)
      → (after_part ((tail, k) ∷ []) b path ≡ Some found → P)
      → seek 0 ((256 ∷ tail, k) ∷ []) (b ∷ path) ≡ Some found → P
  unfolding seek
  found_by {P = P} found as_byte behind_part e = by (eqb 256 b) refl (or_some _ _ found e)
    where
      by : (v : Bool) → eqb 256 b ≡ v → (seek 0 (cond v ((tail, k) ∷ []) []) path ≡ Some found) ⊎ (after_part ((tail, k) ∷ []) b path ≡ Some found) → P
      by true s (inl h) =
          let b-is : 256 ≡ b = search (rules, nat_tests) in
          let other : b ≢ 47 = λ q. omega arith in
          as_byte (record { some = omega arith; plain = (other, tt) }) h
      by false s (inl h) = absurd (none-some found (sym (seek_none 0 path) ∙ h))
      by v s (inr h) = behind_part h

  -- if it matches nothing, nothing follows a part
  none_after : seek 0 ((256 ∷ tail, k) ∷ []) (b ∷ path) ≡ None → after_part ((tail, k) ∷ []) b path ≡ None
  unfolding seek
  none_after e = or_none (seek 0 (step b ((256 ∷ tail, k) ∷ [])) path) (after_part ((tail, k) ∷ []) b path) e

module _ {K : Type 0} (k : K) where
  -- ---- a part at the end of the path
  taken_last-is : (t : List ℕ) → param_step (([], k) ∷ []) t ≡ cond (has_slash t) (0, []) (length t, ([], k) ∷ [])
  unfolding param_step
  taken_last-is t = refl

  last_one : (b : ℕ) (path : List ℕ) (found : K) → after_part (([], k) ∷ []) b path ≡ Some found → IsSegment (b ∷ path) × (found ≡ k)
  last_one b path found e = by (slash_cut (b ∷ path))
    where
      goes : (v : Bool) → has_slash (b ∷ path) ≡ v → param_step (([], k) ∷ []) (b ∷ path) ≡ cond v (0, []) (length (b ∷ path), ([], k) ∷ [])
      goes v h = taken_last-is (b ∷ path) ∙ ap (λ (u : Bool). cond {A = ℕ × RowsOf K} u (0, []) (length (b ∷ path), ([], k) ∷ [])) h

      by : NoSlash (b ∷ path) ⊎ AtSlash (b ∷ path) → IsSegment (b ∷ path) × (found ≡ k)
      by (inl h) =
          let e' : seek (length (b ∷ path) - 1) (([], k) ∷ []) path ≡ Some found =
          subst (λ (s : ℕ × RowsOf K). seek (s.0 - 1) s.1 path ≡ Some found) (goes false h.none) e in
          let f = found_end k (drop (length (b ∷ path) - 1) path) found (sym (seek_skips (length (b ∷ path) - 1) (([], k) ∷ []) path) ∙ e') in
          (record { some = omega arith; plain = h.plain }, f.1)
      by (inr h) =
          let e' : seek (0 - 1) [] path ≡ Some found = subst (λ (s : ℕ × RowsOf K). seek (s.0 - 1) s.1 path ≡ Some found) (goes true h.some) e in
          absurd (none-some found (sym (seek_none (0 - 1) path) ∙ e'))

  -- what a part at the end matches is one part
  pub found_last : (path : List ℕ) (found : K) → seek 0 ((256 ∷ [], k) ∷ []) path ≡ Some found → IsSegment path × (found ≡ k)
  unfolding seek
  found_last [] found e = absurd (none-some found e)
  found_last (b ∷ path) found e =
      found_by k [] b path found
      (λ is h. (let f = found_end k path found h in (subst (λ (p : List ℕ). IsSegment (b ∷ p)) (sym f.0) is, f.1)))
      (last_one b path found) e

  -- and it matches one part at the end
  pub part_last : (part : List ℕ) → IsSegment part → seek 0 ((256 ∷ [], k) ∷ []) part ≡ None → ⊥
  unfolding seek
  part_last [] p e = absurd (omega (arith, p.some))
  part_last (b ∷ path) p e = by (slash_cut (b ∷ path))
    where
      none : after_part (([], k) ∷ []) b path ≡ None
      none = none_after k [] b path e

      by : NoSlash (b ∷ path) ⊎ AtSlash (b ∷ path) → ⊥
      by (inl h) =
          let goes : param_step (([], k) ∷ []) (b ∷ path) ≡ (length (b ∷ path), ([], k) ∷ []) = taken_last-is (b ∷ path) ∙ rw h.none refl in
          let e' : seek (length (b ∷ path) - 1) (([], k) ∷ []) path ≡ None = subst (λ (s : ℕ × RowsOf K). seek (s.0 - 1) s.1 path ≡ None) goes none in
          let gone : drop (length (b ∷ path) - 1) path ≡ [] = all_gone path in
          none-some k (sym (sym (seek_skips (length (b ∷ path) - 1) (([], k) ∷ []) path) ∙ e') ∙ ap (λ p. seek 0 (([], k) ∷ []) p) gone)
        where
          all_gone : (p : List ℕ) → drop (length (b ∷ p) - 1) p ≡ []
          all_gone p = nil_from_length (drop (length (b ∷ p) - 1) p) (omega (arith, length-drop (length (b ∷ p) - 1) p))
      by (inr h) = not_plain h.part h.tail (subst (λ (t : List ℕ). AllByRecursion (λ b. b ≢ 47) t) h.is p.plain)
        where
          not_plain : (x y : List ℕ) → AllByRecursion (λ b. b ≢ 47) (x ++ (47 ∷ y)) → ⊥
          not_plain [] y a = a.0 refl
          not_plain (c ∷ x) y a = not_plain x y a.1

module _ {K : Type 0} (k : K) (w : List ℕ) (l : AreLiteral (47 ∷ w)) (long : 0 < length w) where
  -- ---- a part with a slash and more literal bytes after it
  more_rows : RowsOf K
  more_rows = ((47 ∷ w), k) ∷ []

  cut_step : List ℕ → Bool → ℕ × RowsOf K
  cut_step t true = (length (segment t) - 1, ((47 ∷ w), k) ∷ [])
  cut_step t false = cond (has_slash t) (0, []) (length t, ((47 ∷ w), k) ∷ [])

  param_step-is : (t : List ℕ) → param_step (((47 ∷ w), k) ∷ []) t ≡ cut_step t (cuts (segment t) (47 ∷ []))
  unfolding param_step cut_step
  param_step-is t = by (cuts (segment t) (47 ∷ [])) refl
    where
      by : (v : Bool) → cuts (segment t) (47 ∷ []) ≡ v → param_step (((47 ∷ w), k) ∷ []) t ≡ cut_step t (cuts (segment t) (47 ∷ []))
      by true e = rw e refl
      by false e = rw e refl

  -- the bytes after the part
  pub record Between (path : List ℕ) (found : K) : Type 0 where
    pub part : List ℕ
    pub is_part : IsSegment part
    pub path_is : path ≡ part ++ (47 ∷ w)
    pub found_is : found ≡ k

  behind_one : ((47 ∷ w), k) ∷ [] ≡ behind (47 ∷ w) (([], k) ∷ [])
  behind_one = ap (λ (v : List ℕ). (v, k) ∷ []) (sym (append-nil (47 ∷ w)))

  found_more : (path : List ℕ) (found : K) → seek 0 (((47 ∷ w), k) ∷ []) path ≡ Some found → (path ≡ 47 ∷ w) × (found ≡ k)
  found_more path found e =
      let f = found_behind (47 ∷ w) (([], k) ∷ []) path found l (sym (ap (λ r. seek 0 r path) behind_one) ∙ e) in
      let g = found_end k f.0 found f.2 in
      (f.1 ∙ ap (λ (r : List ℕ). (47 ∷ w) ++ r) g.0 ∙ append-nil (47 ∷ w), g.1)

  -- cut: the segment ends with a slash and has bytes before it
  between_cut : (b : ℕ) (path : List ℕ) (found : K) → cuts (segment (b ∷ path)) (47 ∷ []) ≡ true
      → seek (length (segment (b ∷ path)) - 1 - 1) (((47 ∷ w), k) ∷ []) path ≡ Some found → NoSlash (b ∷ path) ⊎ AtSlash (b ∷ path) → Between (b ∷ path) found
  between_cut b path found cut e (inl h) =
      let f = found_more (drop (length (segment (b ∷ path)) - 1 - 1) path) found
      (sym (seek_skips (length (segment (b ∷ path)) - 1 - 1) (((47 ∷ w), k) ∷ []) path) ∙ e) in
      absurd (too_short (length (segment (b ∷ path)) - 1 - 1) path (omega (arith, ap length h.whole)) f.0)
    where
      too_short : (n : ℕ) (p : List ℕ) → length p ≤ n + 1 → drop n p ≡ 47 ∷ w → ⊥
      too_short n p le d = omega (arith, ap length d, length-drop n p)
  between_cut b path found cut e (inr h) =
      let f = found_more (drop (length (segment (b ∷ path)) - 1 - 1) path) found
      (sym (seek_skips (length (segment (b ∷ path)) - 1 - 1) (((47 ∷ w), k) ∷ []) path) ∙ e) in
      by h.part h.is h.front h.plain f
    where
      one_more : (c : ℕ) (x : List ℕ) → length ((c ∷ x) ++ (47 ∷ [])) - 1 - 1 ≡ length x
      one_more c x = omega (arith, length-append (c ∷ x) (47 ∷ []))

      by : (part : List ℕ) → b ∷ path ≡ part ++ (47 ∷ h.tail) → segment (b ∷ path) ≡ part ++ (47 ∷ []) → AllByRecursion (λ c. c ≢ 47) part
          → (drop (length (segment (b ∷ path)) - 1 - 1) path ≡ 47 ∷ w) × (found ≡ k) → Between (b ∷ path) found
      by [] is front plain f =
          absurd (not_alone (segment (b ∷ path)) front cut)
        where
          not_alone : (s : List ℕ) → s ≡ 47 ∷ [] → cuts s (47 ∷ []) ≡ true → ⊥
          not_alone s e c = no_true (sym (ap (λ x. cuts x (47 ∷ [])) e) ∙ c)
            where
              no_true : cuts (47 ∷ []) (47 ∷ []) ≡ true → ⊥
              no_true q = absurd cc
      by (c ∷ part) is front plain f =
          let path-is : path ≡ part ++ (47 ∷ h.tail) = ap (λ (x : List ℕ). drop 1 x) is in
          let size : length (segment (b ∷ path)) - 1 - 1 ≡ length part = ap (λ (x : List ℕ). length x - 1 - 1) front ∙ one_more c part in
          let rest-is : 47 ∷ h.tail ≡ 47 ∷ w =
          sym (drop_at part (47 ∷ h.tail) (length part) refl) ∙ sym (ap (λ (x : List ℕ). drop (length part) x) path-is) ∙ sym (ap (λ n. drop n path) size)
          ∙ f.0 in
          record {
            part = c ∷ part;
            is_part = record { some = omega arith; plain = plain };
            path_is = is ∙ ap (λ (x : List ℕ). (c ∷ part) ++ x) rest-is;
            found_is = f.1;
          }

  -- not cut: the part would have to end the path
  between_whole : (b : ℕ) (path : List ℕ) (found : K) → seek ((cut_step (b ∷ path) false).0 - 1) (cut_step (b ∷ path) false).1 path ≡ Some found
      → NoSlash (b ∷ path) ⊎ AtSlash (b ∷ path) → Between (b ∷ path) found
  unfolding cut_step
  between_whole b path found e (inl h) =
      let e' : seek (length (b ∷ path) - 1) (((47 ∷ w), k) ∷ []) path ≡ Some found =
      subst (λ (v : Bool). seek ((cond {A = ℕ × RowsOf K} v (0, []) (length (b ∷ path), ((47 ∷ w), k) ∷ [])).0 - 1)
      (cond {A = ℕ × RowsOf K} v (0, []) (length (b ∷ path), ((47 ∷ w), k) ∷ [])).1 path ≡ Some found) h.none e in
      let f = found_more (drop (length (b ∷ path) - 1) path) found (sym (seek_skips (length (b ∷ path) - 1) (((47 ∷ w), k) ∷ []) path) ∙ e') in
      absurd (omega (arith, ap length f.0, length-drop (length (b ∷ path) - 1) path))
  between_whole b path found e (inr h) =
      let e' : seek (0 - 1) [] path ≡ Some found =
      subst (λ (v : Bool). seek ((cond {A = ℕ × RowsOf K} v (0, []) (length (b ∷ path), ((47 ∷ w), k) ∷ [])).0 - 1)
      (cond {A = ℕ × RowsOf K} v (0, []) (length (b ∷ path), ((47 ∷ w), k) ∷ [])).1 path ≡ Some found) h.some e in
      absurd (none-some found (sym (seek_none (0 - 1) path) ∙ e'))

  between_param : (b : ℕ) (path : List ℕ) (found : K) → after_part (((47 ∷ w), k) ∷ []) b path ≡ Some found → Between (b ∷ path) found
  unfolding cut_step
  between_param b path found e = by (cuts (segment (b ∷ path)) (47 ∷ [])) refl
    where
      at : (v : Bool) → cuts (segment (b ∷ path)) (47 ∷ []) ≡ v → seek ((cut_step (b ∷ path) v).0 - 1) (cut_step (b ∷ path) v).1 path ≡ Some found
      at v c = subst (λ (s : ℕ × RowsOf K). seek (s.0 - 1) s.1 path ≡ Some found) (param_step-is (b ∷ path) ∙ ap (λ (u : Bool). cut_step (b ∷ path) u) c) e

      by : (v : Bool) → cuts (segment (b ∷ path)) (47 ∷ []) ≡ v → Between (b ∷ path) found
      by true c = between_cut b path found c (at true c) (slash_cut (b ∷ path))
      by false c = between_whole b path found (at false c) (slash_cut (b ∷ path))

  -- what a part with bytes after it matches is one part and those bytes
  pub found_between : (path : List ℕ) (found : K) → seek 0 ((256 ∷ (47 ∷ w), k) ∷ []) path ≡ Some found → Between path found
  unfolding seek
  found_between [] found e = absurd (none-some found e)
  found_between (b ∷ path) found e =
      found_by k (47 ∷ w) b path found
      (λ is h. (let f = found_more path found h in record { part = b ∷ []; is_part = is; path_is = ap (λ (p : List ℕ). b ∷ p) f.0; found_is = f.1 }))
      (between_param b path found) e

  -- ---- and it matches one part with those bytes after it
  plain_segment : (part tail : List ℕ) → AllByRecursion (λ c. c ≢ 47) part → segment (part ++ (47 ∷ tail)) ≡ part ++ (47 ∷ [])
  plain_segment [] tail p = refl
  plain_segment (c ∷ part) tail p =
      let e : eqb c 47 ≡ false = grind (arith, nat_tests, p.0) in
      rw (e, plain_segment part tail p.1) refl

  cuts_plain : (c : ℕ) (part : List ℕ) → cuts ((c ∷ part) ++ (47 ∷ [])) (47 ∷ []) ≡ true
  cuts_plain c part =
      let long : ltb 1 (length ((c ∷ part) ++ (47 ∷ []))) ≡ true =
      lt-ltb 1 (length ((c ∷ part) ++ (47 ∷ []))) (omega (arith, length-append (c ∷ part) (47 ∷ []))) in
      let at : length ((c ∷ part) ++ (47 ∷ [])) - 1 ≡ length (c ∷ part) = omega (arith, length-append (c ∷ part) (47 ∷ [])) in
      let end : drop (length ((c ∷ part) ++ (47 ∷ [])) - 1) ((c ∷ part) ++ (47 ∷ [])) ≡ 47 ∷ [] =
      ap (λ n. drop n ((c ∷ part) ++ (47 ∷ []))) at ∙ drop_at (c ∷ part) (47 ∷ []) (length (c ∷ part)) refl in
      rw (long, end) refl

  found_literal : seek 0 (((47 ∷ w), k) ∷ []) (47 ∷ w) ≡ Some k
  unfolding seek
  found_literal =
      ap (λ r. seek 0 r (47 ∷ w)) behind_one
      ∙ ap (λ p. seek 0 (behind (47 ∷ w) (([], k) ∷ [])) p) (sym (append-nil (47 ∷ w)))
      ∙ seek_behind (47 ∷ w) (([], k) ∷ []) [] l ∙ at_end
    where
      at_end : seek 0 (([], k) ∷ []) [] ≡ Some k
      at_end = refl

  between_found : (c : ℕ) (part : List ℕ) → AllByRecursion (λ b. b ≢ 47) (c ∷ part) → after_part (((47 ∷ w), k) ∷ []) c (part ++ (47 ∷ w)) ≡ Some k
  unfolding cut_step
  between_found c part p =
      let seg : segment ((c ∷ part) ++ (47 ∷ w)) ≡ (c ∷ part) ++ (47 ∷ []) = plain_segment (c ∷ part) w p in
      let cut : cuts (segment ((c ∷ part) ++ (47 ∷ w))) (47 ∷ []) ≡ true = ap (λ s. cuts s (47 ∷ [])) seg ∙ cuts_plain c part in
      let size : length (segment ((c ∷ part) ++ (47 ∷ w))) - 1 - 1 ≡ length part = ap (λ (s : List ℕ). length s - 1 - 1) seg ∙ two_less in
      let step : param_step (((47 ∷ w), k) ∷ []) ((c ∷ part) ++ (47 ∷ w)) ≡ cut_step ((c ∷ part) ++ (47 ∷ w)) true =
      param_step-is ((c ∷ part) ++ (47 ∷ w)) ∙ ap (λ (u : Bool). cut_step ((c ∷ part) ++ (47 ∷ w)) u) cut in
      ap (λ (s : ℕ × RowsOf K). seek (s.0 - 1) s.1 (part ++ (47 ∷ w))) step
      ∙ ap (λ n. seek n (((47 ∷ w), k) ∷ []) (part ++ (47 ∷ w))) size
      ∙ seek_skips (length part) (((47 ∷ w), k) ∷ []) (part ++ (47 ∷ w))
      ∙ ap (λ p. seek 0 (((47 ∷ w), k) ∷ []) p) (drop_at part (47 ∷ w) (length part) refl)
      ∙ found_literal
    where
      two_less : length ((c ∷ part) ++ (47 ∷ [])) - 1 - 1 ≡ length part
      two_less = omega (arith, length-append (c ∷ part) (47 ∷ []))

  pub part_between : (part : List ℕ) → IsSegment part → seek 0 ((256 ∷ (47 ∷ w), k) ∷ []) (part ++ (47 ∷ w)) ≡ None → ⊥
  part_between [] p e = absurd (omega (arith, p.some))
  part_between (c ∷ part) p e = none-some k (sym (none_after k (47 ∷ w) c (part ++ (47 ∷ w)) e) ∙ between_found c part p.plain)
