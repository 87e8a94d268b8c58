-- The steps of the values of a list that arrives in pieces.
use Rattle.std.proofs.Common.{◌≡◌, ℕ, ◌-◌, List, [], ◌∷◌, ◌++◌, Result, ap}
use Rattle.thrift_binary.specs.declared.fault.WireError.{WireError}
use Rattle.thrift_binary.specs.declared.fault.WireError.TheVariants.{Truncated}
use Rattle.thrift_binary.specs.Reading.{◌>>=◌, lift, list_at}
use Rattle.thrift_binary.specs.Lists.{items_at, list_of}
use Rattle.wire_pieces.specs.Pieces.{NeedsMore, Refuses, Reader, moment}
use Rattle.wire_pieces.specs.declared.heads.ListHead.{ListHead}
use Rattle.wire_pieces.specs.Heads.{list_head}
use Rattle.wire_pieces.specs.Lists.{items_from, with_beginning, items_after_head, list_head_from}
use Rattle.wire_pieces.proofs.Steps.{waits-inside, refuses-inside, waits-lift}

module _ {A E : Type 0} (one : Reader A E) where
  abbrev after_of : List A → ℕ → A × List ℕ → Result (List A × List ℕ) E
  after_of items n x = with_beginning (items ++ x.0 ∷ []) (items_at one n x.1)

  pub items-waits : (short : E) (items : List A) (n : ℕ) (now next : Reader A E) (w v : List ℕ) → NeedsMore short (moment now w) (moment next v)
      → NeedsMore short (moment (items_from one items n now) w) (moment (items_from one items n next) v)
  unfolding items_from
  items-waits short items n now next w v g = waits-inside (after_of items n) g

  pub items-refuses : (short : E) (items : List A) (n : ℕ) (now : Reader A E) (w : List ℕ) (e : E) → Refuses short (moment now w) e
      → Refuses short (moment (items_from one items n now) w) e
  unfolding items_from
  items-refuses short items n now w e g = refuses-inside (after_of items n) g

  module _ (wire : WireError → E) (c : ℕ) where
    pub list-fresh : (got : ListHead) → ((w : List ℕ) → list_head got w ≡ list_at w) → (w : List ℕ) → list_head_from wire c one got w ≡ list_of wire c one w
    unfolding list_of
    list-fresh got fresh w = ap (λ r. lift wire r >>= λ h. items_after_head wire c one h.0 h.1) (fresh w)

    pub list-waits : (got next : ListHead) (w v : List ℕ) → NeedsMore Truncated (moment (list_head got) w) (moment (list_head next) v)
        → NeedsMore (wire Truncated) (moment (list_head_from wire c one got) w) (moment (list_head_from wire c one next) v)
    list-waits got next w v g = waits-inside (λ h. items_after_head wire c one h.0 h.1) (waits-lift wire g)
