-- Two lists that give known deltas: reads and writes.
use Rattle.std.proofs.Common.{◌≡◌, ℕ, zero, suc, ℤ, pos, true, false, List, [], ◌∷◌, map, length, get_or, set, replicate, refl, sym, ap, ◌∙◌}
use Rattle.std.specs.Prelude.{Option, Some, None}
use Rattle.std.proofs.lemmas.List.{length-map, map-set}
use Rattle.trace_adjust.specs.declared.known_deltas.KnownDelta.{KnownDelta}
use Rattle.trace_adjust.specs.declared.known_deltas.Mark.{Mark}
use Rattle.trace_adjust.specs.declared.known_deltas.Mark.TheVariants.{Unknown}
use Rattle.trace_adjust.specs.KnownDeltas.{known_by, known_where, mark_of, mark_when, delta_of, delta_or_zero, deltas_in, AreParts}

-- ---- before any is known
pub none_where : (n : ℕ) → known_where (replicate n Unknown) (replicate n (pos 0)) ≡ replicate n None
none_where zero = refl
none_where (suc n) = ap (λ r. None ∷ r) (none_where n)

no_marks : (n : ℕ) (o : Option KnownDelta) → o ≡ None → replicate n Unknown ≡ map mark_of (replicate n o)
no_marks zero o e = refl
no_marks (suc n) o e = (λ j. mark_of (sym e j) ∷ no_marks n o e j)

no_deltas : (n : ℕ) → replicate n (pos 0) ≡ map delta_or_zero (replicate n None)
no_deltas zero = refl
no_deltas (suc n) = ap (λ r. pos 0 ∷ r) (no_deltas n)

pub none_parts : (n : ℕ) → AreParts (replicate n Unknown) (replicate n (pos 0))
none_parts n = record {
  marked = no_marks n None refl ∙ ap (map mark_of) (sym (none_where n));
  zero_else = no_deltas n ∙ ap (map delta_or_zero) (sym (none_where n));
}

pub no_deltas_in : (n : ℕ) (o : Option KnownDelta) → o ≡ None → deltas_in (replicate n o) ≡ replicate n None
no_deltas_in zero o e = refl
no_deltas_in (suc n) o e = (λ j. delta_of (e j) ∷ no_deltas_in n o e j)

-- ---- reads
mark_read : (os : List (Option KnownDelta)) (k : ℕ) → get_or (map mark_of os) k Unknown ≡ mark_of (get_or os k None)
mark_read [] k = refl
mark_read (o ∷ os) zero = refl
mark_read (o ∷ os) (suc k) = mark_read os k

delta_read : (os : List (Option KnownDelta)) (k : ℕ) → get_or (map delta_or_zero os) k (pos 0) ≡ delta_or_zero (get_or os k None)
delta_read [] k = refl
delta_read (o ∷ os) zero = refl
delta_read (o ∷ os) (suc k) = delta_read os k

pub known_read : (os : List (Option KnownDelta)) (k : ℕ) → get_or (deltas_in os) k None ≡ delta_of (get_or os k None)
known_read [] k = refl
known_read (o ∷ os) zero = refl
known_read (o ∷ os) (suc k) = known_read os k

-- a delta is what its mark and the number say
by_parts : (o : Option KnownDelta) → known_by (mark_of o) (delta_or_zero o) ≡ o
by_parts None = refl
by_parts (Some k) = elim k.moves as (λ b. known_by (mark_when b) k.delta ≡ Some (record { delta = k.delta; moves = b })) [
  | true ↦ refl
  | false ↦ refl
]

module _ (marks : List Mark) (ds : List ℤ) (parts : AreParts marks ds) where
  abbrev known : List (Option KnownDelta)
  known = known_where marks ds

  pub marks_many : length marks ≡ length known
  marks_many = ap length parts.marked ∙ length-map known mark_of

  pub deltas_many : length ds ≡ length known
  deltas_many = ap length parts.zero_else ∙ length-map known delta_or_zero

  mark_at : (k : ℕ) → get_or marks k Unknown ≡ mark_of (get_or known k None)
  mark_at k = ap (λ ms. get_or ms k Unknown) parts.marked ∙ mark_read known k

  delta_at : (k : ℕ) → get_or ds k (pos 0) ≡ delta_or_zero (get_or known k None)
  delta_at k = ap (λ xs. get_or xs k (pos 0)) parts.zero_else ∙ delta_read known k

  pub known_at : (k : ℕ) → known_by (get_or marks k Unknown) (get_or ds k (pos 0)) ≡ get_or known k None
  known_at k = (λ j. known_by (mark_at k j) (delta_at k j)) ∙ by_parts (get_or known k None)

-- ---- writes
marked_by : (k : KnownDelta) → known_by (mark_when k.moves) k.delta ≡ Some k
marked_by k = by_parts (Some k)

pub where_set : (marks : List Mark) (ds : List ℤ) (i : ℕ) (k : KnownDelta)
    → known_where (set marks i (mark_when k.moves)) (set ds i k.delta) ≡ set (known_where marks ds) i (Some k)
where_set [] ds i k = refl
where_set (m ∷ ms) [] zero k = refl
where_set (m ∷ ms) [] (suc i) k = refl
where_set (m ∷ ms) (x ∷ ds) zero k = ap (λ o. o ∷ known_where ms ds) (marked_by k)
where_set (m ∷ ms) (x ∷ ds) (suc i) k = ap (λ r. known_by m x ∷ r) (where_set ms ds i k)

pub set_parts : (marks : List Mark) (ds : List ℤ) (i : ℕ) (k : KnownDelta) → AreParts marks ds
    → AreParts (set marks i (mark_when k.moves)) (set ds i k.delta)
set_parts marks ds i k parts = record {
  marked =
      ap (λ ms. set ms i (mark_when k.moves)) parts.marked ∙ sym (map-set mark_of (known_where marks ds) i (Some k))
      ∙ ap (map mark_of) (sym (where_set marks ds i k));
  zero_else =
      ap (λ xs. set xs i k.delta) parts.zero_else ∙ sym (map-set delta_or_zero (known_where marks ds) i (Some k))
      ∙ ap (map delta_or_zero) (sym (where_set marks ds i k));
}
