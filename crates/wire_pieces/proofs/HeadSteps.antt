-- The first byte of a head.
use Rattle.std.proofs.Common.{◌≡◌, ℕ, false, eqb, List, [], ◌∷◌, ◌++◌, ap, sym, w16}
use Rattle.std.proofs.lemmas.Bool.{ne_eqb}
use Rattle.thrift_binary.specs.Reading.{◌>>=◌, signed_at, size_at, typed, field_at, list_at}
use Rattle.wire_pieces.specs.declared.heads.HeadStep.TheVariants as field
use Rattle.wire_pieces.specs.declared.heads.TypedId.{TypedId}
use Rattle.wire_pieces.specs.declared.heads.FieldHead.{FieldHead}
use Rattle.wire_pieces.specs.declared.heads.ListStep.TheVariants as list
use Rattle.wire_pieces.specs.declared.heads.TypedSize.{TypedSize}
use Rattle.wire_pieces.specs.declared.heads.ListHead.{ListHead}
use Rattle.wire_pieces.specs.Pieces.{Comes, moment}
use Rattle.wire_pieces.specs.Numbers.{size_from}
use Rattle.wire_pieces.specs.Heads.{id_from, head_from, sized, typed_size_from, list_head}

pub head-typed : (h : FieldHead) (part : TypedId) (w v : List ℕ) → h.step ≡ field.First → w ≡ part.code ∷ v → (part.code ≡ 0 → ⊥) → part.id ≡ []
    → Comes (moment (head_from h) w) (moment (id_from part) v)
unfolding field_at
head-typed h part w v is e some fresh =
    record {
      same = λ rest. (let z : eqb part.code 0 ≡ false = ne_eqb part.code 0 some in
          rw (is, e, z) (ap (λ (g : List ℕ). signed_at w16 2 (g ++ (v ++ rest)) >>= typed part.code) (sym fresh)));
    }

pub list-typed : (h : ListHead) (part : TypedSize) (w v : List ℕ) → h.step ≡ list.First → w ≡ part.code ∷ v → ((u : List ℕ) → size_from part.size u ≡ size_at u)
    → Comes (moment (list_head h) w) (moment (typed_size_from part) v)
unfolding list_at
list-typed h part w v is e fresh = record { same = λ rest. rw (is, e) (ap (λ r. r >>= sized part.code) (sym (fresh (v ++ rest)))) }
