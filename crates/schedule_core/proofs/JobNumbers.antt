-- Jobs that wait are numbered after what is accepted, whatever is submitted, taken or dropped.
use Rattle.std.proofs.Common.{◌≡◌, ℕ, ◌+◌, ◌<◌, ◌≤◌, List, [], ◌∷◌, ◌++◌, length, Some, inl, inr, sym, subst, append_assoc, arith}
use Rattle.std.specs.Prelude.{slice_get, slice_index, slice_set}
use Rattle.std.specs.List.{All}
use Rattle.std.proofs.lemmas.Bool.{cases_eq}
use Rattle.std.proofs.lemmas.List.{append-nil, get_or-set_same, get_or-set_other}
use Rattle.std.proofs.lemmas.List.Elements.{All-cons, All-head, All-tail, All-push, All-weaker}
use Rattle.std.proofs.lemmas.Option.{slice_get_within, get_or_from_slice_get}
use Rattle.trace_model.specs.declared.entry.Entry.{Entry}
use Rattle.trace_model.specs.Histories.{last_number, AboveEach, RisesAfter}
use Rattle.trace_model.proofs.Legality.{rises_push, above_last}
use Rattle.schedule_core.specs.JobNumbers.{IsNumbered}

-- the entry's number is at most its seat's
abbrev pub Within : List ℕ → Entry → Type 0
Within ns e = e.number ≤ slice_index ns e.seat

-- ---- the numbers of the seats

-- a number that is set higher lowers none
numbers_grow : (ns : List ℕ) (seat n k : ℕ) → seat < length ns → slice_index ns seat ≤ n
    → slice_index ns k ≤ slice_index (slice_set ns seat n) k
numbers_grow ns seat n k l le = elim (cases_eq k seat) [
  | inl same ↦ subst (λ j. slice_index ns j ≤ slice_index (slice_set ns seat n) j) (sym same) (omega (arith, get_or-set_same ns seat n 0 l))
  | inr other ↦ omega (arith, get_or-set_other ns seat k n 0 other)
]

within_grows : (ns : List ℕ) (seat n : ℕ) (h : List Entry) → seat < length ns → slice_index ns seat ≤ n → All (Within ns) h
    → All (Within (slice_set ns seat n)) h
within_grows ns seat n h l le =
    All-weaker (Within ns) (Within (slice_set ns seat n)) (λ e w. let g = numbers_grow ns seat n e.seat l le in omega (arith, g, w)) h

-- ---- numbers above others

above_within : (ns : List ℕ) (e : Entry) (h : List Entry) → slice_index ns e.seat < e.number → All (Within ns) h → AboveEach e h
above_within ns e [] l w = tt
above_within ns e (d ∷ h) l w = (
  λ same. let own = subst (λ s. d.number ≤ slice_index ns s) same (All-head (Within ns) d h w) in omega (arith, own),
  above_within ns e h l (All-tail (Within ns) d h w),
)

above_without : (e d : Entry) (a b : List Entry) → AboveEach e (a ++ d ∷ b) → AboveEach e (a ++ b)
above_without e d [] b above = above.1
above_without e d (c ∷ a) b above = (above.0, above_without e d a b above.1)

-- numbers are still ascending if there are fewer before them
rises_without : (d : Entry) (a b w : List Entry) → RisesAfter (a ++ d ∷ b) w → RisesAfter (a ++ b) w
rises_without d a b [] r = tt
rises_without d a b (e ∷ w) r =
    let later = rises_without d a (b ++ e ∷ []) w (subst (λ l. RisesAfter l w) (append_assoc a (d ∷ b) (e ∷ [])) r.2) in
    (r.0, above_without e d a b r.1, subst (λ l. RisesAfter l w) (sym (append_assoc a b (e ∷ []))) later)

within_without : (ns : List ℕ) (e : Entry) (a w : List Entry) → All (Within ns) (a ++ e ∷ w) → All (Within ns) (a ++ w)
within_without ns e [] w all = All-tail (Within ns) e w all
within_without ns e (c ∷ a) w all =
    All-cons (Within ns) c (a ++ w) (All-head (Within ns) c (a ++ e ∷ w) all) (within_without ns e a w (All-tail (Within ns) c (a ++ e ∷ w) all))

-- ---- what is submitted, taken and dropped

pub numbered_put : (a w : List Entry) (ns : List ℕ) (e : Entry) (last : ℕ) → IsNumbered a w ns → slice_get ns e.seat ≡ Some last
    → e.number ≡ last + 1
    → IsNumbered a (w ++ e ∷ []) (slice_set ns e.seat (last + 1))
numbered_put a w ns e last numbered has next =
    let seat = slice_get_within ns e.seat last has in
    let now = get_or_from_slice_get ns e.seat last 0 has in
    let set = get_or-set_same ns e.seat (last + 1) 0 seat in
    let more = slice_set ns e.seat (last + 1) in
    record {
      rising = rises_push a w e numbered.rising (omega arith) (above_within ns e (a ++ w) (omega arith) numbered.below);
      below = subst (All (Within more)) (append_assoc a w (e ∷ []))
          (All-push (Within more) (a ++ w) e (within_grows ns e.seat (last + 1) (a ++ w) seat (omega arith) numbered.below) (omega arith));
    }

pub numbered_taken : (a w : List Entry) (ns : List ℕ) (e : Entry) → IsNumbered a (e ∷ w) ns → IsNumbered (a ++ e ∷ []) w ns
numbered_taken a w ns e numbered = record {
  rising = numbered.rising.2;
  below = subst (All (Within ns)) (sym (append_assoc a (e ∷ []) w)) numbered.below;
}

pub numbered_dropped : (a w : List Entry) (ns : List ℕ) (e : Entry) → IsNumbered a (e ∷ w) ns → IsNumbered a w ns
numbered_dropped a w ns e numbered = record {
  rising = subst (λ l. RisesAfter l w) (append-nil a) (rises_without e a [] w numbered.rising.2);
  below = within_without ns e a w numbered.below;
}

pub numbered_above : (a w : List Entry) (ns : List ℕ) (e : Entry) → IsNumbered a (e ∷ w) ns → last_number e.seat a < e.number
numbered_above a w ns e numbered = above_last e a numbered.rising.0 numbered.rising.1
