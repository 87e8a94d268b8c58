-- A lemma of the laws in LiveLaws, which an impl of this crate names. A clause can't name its own crate's proofs/, so it
-- is in specs/. An entry at a place of a list has a list before it and one after it.
use Rattle.std.proofs.Common.{◌≡◌, ℕ, ◌+◌, ◌-◌, List, ◌∷◌, ◌++◌, length, arith}
use Rattle.trace_model.specs.declared.entry.Entry.{Entry}
use Rattle.trace_model.proofs.Lists.{split_at}
use Rattle.read_side.specs.Receipts.{StandsAt}

-- the list before the entry, and the list after it
pub stands-split : (list : List Entry) (place : ℕ) (e : Entry) → StandsAt list place e → (before : List Entry) × (after : List Entry)
    × (list ≡ before ++ e ∷ after) × (place ≡ length before + 1)
stands-split list place e h = let r = split_at list (place - 1) e h.1 in let len = r.3 in let some = h.0 in (r.0, r.1, r.2, omega (arith, len, some))
