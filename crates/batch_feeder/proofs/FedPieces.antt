-- The pieces that a feeder was given.
use Rattle.std.proofs.Common.{◌≡◌, ℕ, suc, eqb, false, arith, ◌<◌, ◌≤◌, List, [], ◌∷◌, ◌++◌, length, drop, get_or, Result, ap, sym, ◌∙◌, drop-cons, append-nil}
use Rattle.std.specs.Prelude.{flat_map}
use Rattle.std.proofs.Math.ListN.{drop_of_length-le}
use Rattle.jaeger_model.specs.declared.batch.Batch.{Batch}
use Rattle.batch_codec.specs.declared.fault.DecodeError.{DecodeError}
use Rattle.batch_codec.specs.Decoding.{Fails, Gives}
use Rattle.value_pieces.specs.ContinuedCalls.{Faults}
use Rattle.batch_feeder.specs.FeederResults.{HasNoFault, HasRefused, FeederTakes, FeederFails}
use Rattle.batch_feeder.proofs.FeederSteps.{none-failed, fails-unless, gives-same}

module _ {V : Type 0} (f : V → List ℕ) (a d : List ℕ → Result Batch DecodeError) where
  pub pieces-end : (vs : List V) (i : ℕ) (r : Result Batch DecodeError) → length vs ≤ i
      → ((w : List ℕ) → a (flat_map f (drop i vs) ++ w) ≡ d (flat_map f vs ++ w)) → r ≡ a [] → Gives r (d (flat_map f vs))
  pieces-end vs i r le inv is =
      let none : drop i vs ≡ [] = drop_of_length-le vs le in
      let e : a [] ≡ d (flat_map f vs) = (let h = rw none at (inv []) in rw (append-nil (flat_map f vs)) at h) in
      gives-same r (d (flat_map f vs)) (is ∙ e)

  pub pieces-fail : (vs : List V) (i : ℕ) (x : V) (p : List ℕ) (e : DecodeError) → i < length vs → x ≡ get_or vs i x → p ≡ f x
      → ((w : List ℕ) → a (flat_map f (drop i vs) ++ w) ≡ d (flat_map f vs ++ w)) → Faults a p e → Fails e (d (flat_map f vs))
  pieces-fail vs i x p e lt is same inv g =
      let split : drop i vs ≡ x ∷ drop (suc i) vs = drop-cons vs i x lt ∙ ap (λ y. y ∷ drop (suc i) vs) (sym is) in
      let h : a (p ++ flat_map f (drop (suc i) vs)) ≡ d (flat_map f vs) = (let k = rw split at (inv []) in rw same (rw append-nil at (rw append-nil at k))) in
      fails-unless (d (flat_map f vs)) e (λ n. sym h ∙ (g n).same (flat_map f (drop (suc i) vs)))

-- ---- a piece that is taken byte by byte

pub some-bytes : (p : List ℕ) → eqb (length p) 0 ≡ false → 0 < length p
some-bytes [] h = absurd cc
some-bytes (b ∷ p) h = omega arith

module _ (old now : List ℕ → Result Batch DecodeError) (p : List ℕ) (i : ℕ) (same : (w : List ℕ) → old (p ++ w) ≡ now (drop i p ++ w)) where
  pub bytes-fail : (next : List ℕ → Result Batch DecodeError) (d : ℕ) (e : DecodeError) → i < length p
      → ((before : DecodeError) → HasRefused old before → HasRefused now before) → FeederFails now next (get_or p i d ∷ []) e → FeederFails old next p e
  bytes-fail next d e lt still g =
      let split : drop i p ≡ get_or p i d ∷ drop (suc i) p = drop-cons p i d lt in
      record {
        faults = λ n. record { same = λ w. same w ∙ ap (λ u. now (u ++ w)) split ∙ (g.faults n).same (drop (suc i) p ++ w); no_want = (g.faults n).no_want };
        repeats = λ before h. g.repeats before (still before h);
        stays = g.stays;
      }

  pub bytes-more : (next : List ℕ → Result Batch DecodeError) (j d : ℕ) → i < length p → j ≡ suc i
      → ((before : DecodeError) → HasRefused old before → HasRefused now before)
      → FeederTakes now next (get_or p i d ∷ []) → ((w : List ℕ) → old (p ++ w) ≡ next (drop j p ++ w)) × (0 < j → HasNoFault (next []))
      × ((before : DecodeError) → HasRefused old before → HasRefused next before)
  bytes-more next j d lt is still g =
      let split : drop i p ≡ get_or p i d ∷ drop (suc i) p = drop-cons p i d lt in
      rw is (
        λ w. same w ∙ ap (λ u. now (u ++ w)) split ∙ g.same (drop (suc i) p ++ w),
        λ some. rw (g.same []) at g.sound,
        λ before failed. absurd (none-failed now (get_or p i d ∷ []) g.sound before (still before failed)),
      )

  pub bytes-end : length p ≤ i → HasNoFault (now []) → FeederTakes old now p
  bytes-end le sound =
      let none : drop i p ≡ [] = drop_of_length-le p le in
      let here : old p ≡ now [] = (let h = rw none at (same []) in rw append-nil at h) in
      record { same = rw none at same; sound = rw here sound }
