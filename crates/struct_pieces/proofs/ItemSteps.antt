-- The steps of a list of structs that arrives in pieces.
use Rattle.std.proofs.Common.{◌≡◌, ℕ, suc, ◌<◌, ◌-◌, List, [], ◌∷◌, ◌++◌, None, Result, Ok, Err, refl, ap, sym, ◌∙◌, arith, append_assoc, append-nil}
use Rattle.thrift_binary.specs.declared.fault.WireError.TheVariants.{Truncated}
use Rattle.thrift_binary.specs.Reading.{◌>>=◌}
use Rattle.thrift_binary.specs.Lists.{items_at}
use Rattle.wire_pieces.specs.declared.fault.PieceError.{PieceError}
use Rattle.wire_pieces.specs.declared.heads.ListHead.{ListHead}
use Rattle.wire_pieces.specs.Pieces.{Comes, NeedsMore, Refused, moment}
use Rattle.wire_pieces.specs.Heads.{list_head}
use Rattle.wire_pieces.specs.Lists.{items_from, with_beginning, items_after_head}
use Rattle.wire_pieces.proofs.Steps.{comes-trans, comes-is, comes-inside}
use Rattle.wire_pieces.proofs.ListSteps.{items-refuses, list-waits}
use Rattle.batch_codec.specs.declared.fault.DecodeError.{DecodeError}
use Rattle.batch_codec.specs.declared.fault.DecodeError.TheVariants.{Wire}
use Rattle.batch_codec.specs.Decoding.{Reading, wire}
use Rattle.value_pieces.specs.ContinuedCalls.{fault_of, ended, Faults}
use Rattle.struct_pieces.specs.Lists.{items_after, items_ended, list_from, list_state}
use Rattle.value_pieces.proofs.CallSteps.{faults-lift, faults-inside}

module _ {A : Type 0} (one : Reading A) where
  -- an item of which bytes are wanted
  pub item-short : (items : List A) (n : ℕ) (now : Reading A) (w : List ℕ) → now w ≡ Err (Wire Truncated) → items_from one items n now w ≡ Err (Wire Truncated)
  unfolding items_from
  item-short items n now w h = rw h refl

  pub items-faults : (items : List A) (n : ℕ) (now : Reading A) (w : List ℕ) (e : DecodeError) → Faults now w e → Faults (items_from one items n now) w e
  items-faults items n now w e g = λ apart. items-refuses one (Wire Truncated) items n now w e (g apart)

-- n items after those that have arrived
module _ {A : Type 0} (one : Reading A) where
  behind-of : (items : List A) (x : A) (r : Result (List A × List ℕ) DecodeError)
      → with_beginning items (r >>= λ z. Ok (x ∷ z.0, z.1)) ≡ with_beginning (items ++ x ∷ []) r
  behind-of items x (Err e) = refl
  behind-of items x (Ok z) = ap (λ (zs : List A). Ok (zs, z.1)) (simp append_assoc)

  behind-next : (items : List A) (m : ℕ) (r : Result (A × List ℕ) DecodeError)
      → with_beginning items (r >>= λ y. items_at one m y.1 >>= λ z. Ok (y.0 ∷ z.0, z.1)) ≡ (r >>= λ x. with_beginning (items ++ x.0 ∷ []) (items_at one m x.1))
  behind-next items m (Err e) = refl
  behind-next items m (Ok y) = behind-of items y.0 (items_at one m y.1)

  behind-is : (items : List A) (n m : ℕ) (w : List ℕ) → n ≡ suc m → items_after one items n w ≡ items_from one items m one w
  unfolding items_from items_at
  behind-is items n m w is = rw is (behind-next items m (one w))

  -- the first of n items
  pub behind-opens : (a : Reading (List A)) (items : List A) (n m : ℕ) (p w : List ℕ) → 0 < n → m ≡ n - 1
      → Comes (moment a p) (moment (items_after one items n) w)
      → Comes (moment a p) (moment (items_from one items m one) w)
  behind-opens a items n m p w lt is inv =
      let k : n ≡ suc m = omega (arith, is) in
      comes-trans inv (comes-is (items_after one items n) (items_from one items m one) w (λ u. behind-is items n m u k))

  -- a complete item
  pub item-done : (now : Reading A) (items next : List A) (m : ℕ) (x : A) (w v : List ℕ) → next ≡ items ++ x ∷ []
      → Comes (moment now w) (moment (λ u. Ok (x, u)) v)
      → Comes (moment (items_from one items m now) w) (moment (items_after one next m) v)
  unfolding items_from
  item-done now items next m x w v is g = rw is (comes-inside (λ y. with_beginning (items ++ y.0 ∷ []) (items_at one m y.1)) g)

  -- no more items
  pub behind-none : (a : Reading (List A)) (items : List A) (n : ℕ) (p w : List ℕ) → n ≡ 0 → Comes (moment a p) (moment (items_after one items n) w)
      → Comes (moment a p) (moment (λ u. Ok (items, u)) w)
  unfolding items_at
  behind-none a items n p w is inv = comes-trans inv (record { same = λ rest. rw (is, append-nil items) refl })

  -- an item whose bytes have arrived
  ended-then : (end : Result A DecodeError) (f : A × List ℕ → Result (List A × List ℕ) DecodeError) (w : List ℕ) → (ended end w >>= f) ≡ (end >>= λ x. f (x, w))
  ended-then (Ok x) f w = refl
  ended-then (Err e) f w = refl

  pub item-ended : (items : List A) (n : ℕ) (now : Reading A) (end : Result A DecodeError) (w v : List ℕ) → Comes (moment now w) (moment (ended end) v)
      → Comes (moment (items_from one items n now) w) (moment (items_ended one items n end) v)
  unfolding items_from
  item-ended items n now end w v g =
      let then = λ (y : A × List ℕ). with_beginning (items ++ y.0 ∷ []) (items_at one n y.1) in
      comes-trans (comes-inside then g) (record { same = λ rest. ended-then end then (v ++ rest) })

  -- a fault that it makes
  pub ended-faults : (a : Reading (List A)) (items : List A) (n : ℕ) (end : Result A DecodeError) (e : DecodeError) (p w : List ℕ) → end ≡ Err e
      → (end ≡ Err (Wire Truncated) → ⊥) → Comes (moment a p) (moment (items_ended one items n end) w) → Faults a p e
  ended-faults a items n end e p w is never inv = λ apart. record { same = λ rest. inv.same rest ∙ rw is refl; no_want = λ h. never (is ∙ ap (λ d. Err d) h) }

  -- the value that it makes
  pub ended-behind : (a : Reading (List A)) (items next : List A) (n : ℕ) (end : Result A DecodeError) (x : A) (p w : List ℕ) → end ≡ Ok x
      → next ≡ items ++ x ∷ [] → Comes (moment a p) (moment (items_ended one items n end) w) → Comes (moment a p) (moment (items_after one next n) w)
  ended-behind a items next n end x p w is push inv = comes-trans inv (record { same = λ rest. rw (is, push) refl })

  -- the first of n items, in place of the one before
  pub item-next : (a : Reading (List A)) (items : List A) (n m : ℕ) (now : Reading A) (p w : List ℕ) → 0 < n → m ≡ n - 1 → ((u : List ℕ) → now u ≡ one u)
      → Comes (moment a p) (moment (items_after one items n) w) → Comes (moment a p) (moment (items_from one items m now) w)
  unfolding items_from
  item-next a items n m now p w lt is same inv =
      comes-trans (behind-opens a items n m p w lt is inv)
      (comes-is (items_from one items m one) (items_from one items m now) w
      (λ u. ap (λ r. r >>= λ y. with_beginning (items ++ y.0 ∷ []) (items_at one m y.1)) (sym (same u))))

  -- after the head of a list
  pub head-none : (c n : ℕ) (w : List ℕ) → n ≡ 0 → Comes (moment (items_after_head wire 12 one (c, n)) w) (moment (λ u. Ok ([], u)) w)
  unfolding items_at
  head-none c n w is = record { same = λ rest. rw is refl }

module _ {A P : Type 0} (one : Reading A) (res : P → Reading A) (items : List A) (left : ℕ) (p : ListHead) where
  pub head-faults : (w : List ℕ) (e : PieceError) → Refused (moment (list_head p) w) e
      → Faults (list_from one res (list_state items left p None)) w (fault_of e)
  head-faults w e g = faults-inside (λ h. items_after_head wire 12 one h.0 h.1) _ w (fault_of e) (faults-lift (list_head p) w e g)

  pub head-waits : (q : ListHead) (w v : List ℕ) → NeedsMore Truncated (moment (list_head p) w) (moment (list_head q) v)
      → NeedsMore (Wire Truncated) (moment (list_from one res (list_state items left p None)) w) (moment (list_from one res (list_state items left q None)) v)
  head-waits q w v g = list-waits one wire 12 p q w v g
