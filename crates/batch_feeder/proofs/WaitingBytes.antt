-- The bytes that a feeder has still to read.
use Rattle.std.proofs.Common.{◌≡◌, ℕ, ℤ, zero, suc, ◌<◌, ◌≤◌, ◌+◌, eqb, ltb, cond, List, [], ◌∷◌, ◌++◌, length, drop, Option, Some, Result, Ok, Err, Bool, true}
use Rattle.std.proofs.Common.{false, refl, ap, sym, ◌∙◌, arith, append_assoc, append-nil}
use Rattle.std.proofs.lemmas.List.{length-drop}
use Rattle.std.proofs.lemmas.Bool.{lt-ltb, le-ltb, eqb-true, ne_eqb}
use Rattle.thrift_binary.specs.declared.fault.WireError.TheVariants.{Truncated, BadType}
use Rattle.thrift_binary.specs.Reading.{Read, ◌>>=◌, field_at, typed, is_code, size_at, string_at}
use Rattle.thrift_binary.specs.Skipping.{past, text}
use Rattle.jaeger_model.specs.declared.batch.Batch.{Batch}
use Rattle.batch_codec.specs.declared.fault.DecodeError.{DecodeError}
use Rattle.batch_codec.specs.declared.fault.DecodeError.TheVariants.{Wire, Memory}
use Rattle.batch_codec.specs.declared.batch.BatchSlots.{BatchSlots}
use Rattle.struct_pieces.specs.declared.batch.PartialBatchField.{PartialBatchField}
use Rattle.struct_pieces.specs.declared.fields.Step.{Step}
use Rattle.struct_pieces.specs.Fields.{struct_from}
use Rattle.struct_pieces.specs.Batches.{batch_struct}
use Rattle.batch_feeder.specs.declared.feeder.State.{State}
use Rattle.batch_feeder.specs.declared.feeder.State.TheVariants as state
use Rattle.value_pieces.specs.LeastBytes.{least, least_bytes, part_after_head, IsTooShort, AreQuiet}
use Rattle.batch_feeder.specs.FeederResults.{answers_of, HasNoFault, IsBetweenFields, Holds, FeederTakes, FeederFails, Feeds}
use Rattle.batch_feeder.proofs.FeederSteps.{short-sound, none-repeats}

abbrev Answer : Type 0
Answer = List ℕ → Result Batch DecodeError

-- ---- the waiting bytes

pub nothing-is-part : IsTooShort []
unfolding field_at
nothing-is-part = refl

pub nothing-quiet : (n : ℕ) → n ≤ 1 → AreQuiet [] n
nothing-quiet n le [] lt = nothing-is-part
nothing-quiet n le (b ∷ w) lt = absurd (omega arith)

pub empty-quiet : (w : List ℕ) → length w < 1 → AreQuiet w 1
empty-quiet [] lt = nothing-quiet 1 (omega arith)
empty-quiet (b ∷ w) lt = absurd (omega arith)

-- after what was read
pub holds-none : (s : State) (n : ℕ) (rest : 0 < n → IsBetweenFields s) → n ≤ 1 → Holds s [] n
holds-none s n rest le = record { none = λ z. refl; is_between_fields = rest; quiet = nothing-quiet n le }

module _ (s : State) (w : List ℕ) (n : ℕ) (h : Holds s w n) where
  -- the result of the waiting bytes
  pub byte-taken : (b : ℕ) (next : List ℕ) → 0 < n → IsBetweenFields s → IsTooShort next → next ≡ w ++ b ∷ []
      → FeederTakes (λ v. answers_of s (w ++ v)) (λ v. answers_of s (next ++ v)) (b ∷ [])
  byte-taken b next some rest part is = record {
    same = λ v. rw is (ap (answers_of s) (sym (append_assoc w (b ∷ []) v)));
    sound = short-sound _ (rw is at (rest next part));
  }

  pub byte-begun : (b m : ℕ) (next seen : List ℕ) → 0 < n → 0 < m → seen ≡ next → AreQuiet seen m → next ≡ w ++ b ∷ []
      → FeederTakes (λ v. answers_of s (w ++ v)) (λ v. answers_of s (next ++ v)) (b ∷ [])
  byte-begun b m next seen some more same quiet is =
      let part : IsTooShort seen = rw append-nil at (quiet [] more) in
      byte-taken b next some (h.is_between_fields some) (rw same at part) is

  pub ends-short : 0 < n → answers_of s (w ++ []) ≡ Err (Wire Truncated)
  ends-short some = rw append-nil (h.is_between_fields some w (rw append-nil at (h.quiet [] some)))

  -- the waiting bytes have no fault
  pub wanted-sound : 0 < n → HasNoFault (answers_of s (w ++ []))
  wanted-sound some = short-sound (answers_of s (w ++ [])) (ends-short some)

  pub whole-waits-not : (b : Batch) → s ≡ state.Whole b → w ≡ []
  unfolding answers_of
  whole-waits-not b is = by n refl
    where
      none : 0 < n → ⊥
      none some = absurd (let k : answers_of (state.Whole b) [] ≡ Err (Wire Truncated) = rw is at (h.is_between_fields some [] nothing-is-part) in cc)

      by : (m : ℕ) → n ≡ m → w ≡ []
      by zero z = h.none z
      by (suc m) z = absurd (none (omega (arith, z)))

-- the waiting bytes are read after a byte
pub feeds-behind : (old new : Answer) (w next p : List ℕ) (r : Result (Unit {0}) DecodeError) → HasNoFault (old (w ++ [])) → next ≡ w ++ p
    → Feeds old new next r → Feeds (λ v. old (w ++ v)) new p r
feeds-behind old new w next p (Ok x) sound is g =
    record { same = λ v. ap old (sym (append_assoc w p v)) ∙ ap (λ u. old (u ++ v)) (sym is) ∙ g.same v; sound = rw (← is) g.sound }
feeds-behind old new w next p (Err e) sound is g = record {
  faults =
      λ n. record { same = λ v. ap old (sym (append_assoc w p v)) ∙ ap (λ u. old (u ++ v)) (sym is) ∙ (g.faults n).same v; no_want = (g.faults n).no_want };
  repeats = none-repeats (λ v. old (w ++ v)) [] e sound;
  stays = g.stays;
}

-- the waiting bytes were read before
pub feeds-then : (old mid new : Answer) (p : List ℕ) (r : Result (Unit {0}) DecodeError) → ((rest : List ℕ) → old rest ≡ mid rest) → Feeds mid new p r
    → Feeds old new p r
feeds-then old mid new p (Ok x) same g = record { same = λ rest. same (p ++ rest) ∙ g.same rest; sound = rw (same p) g.sound }
feeds-then old mid new p (Err e) same g = record {
  faults = λ n. record { same = λ rest. same (p ++ rest) ∙ (g.faults n).same rest; no_want = (g.faults n).no_want };
  repeats = λ before h. g.repeats before (record { all = λ rest. sym (same rest) ∙ h.all rest; no_want = h.no_want });
  stays = g.stays;
}

-- nothing waits
pub feeds-plain : (old new : Answer) (w p : List ℕ) (r : Result (Unit {0}) DecodeError) → w ≡ [] → Feeds old new p r
    → Feeds (λ v. old (w ++ v)) (λ v. new (w ++ v)) p r
feeds-plain old new w p r none g = rw none g

-- ---- how many bytes are wanted

-- without a type there is never a value
no_type : (c : ℕ) → is_code c ≡ false → least c ≡ 0
no_type c none =
    rw (
      apart 2 refl,
      apart 3 refl,
      apart 4 refl,
      apart 6 refl,
      apart 8 refl,
      apart 10 refl,
      apart 11 refl,
      apart 12 refl,
      apart 13 refl,
      apart 14 refl,
      apart 15 refl,
    ) refl
  where
    apart : (k : ℕ) → is_code k ≡ true → eqb c k ≡ false
    apart k is = ne_eqb c k (λ e. absurd (let f : false ≡ true = sym none ∙ ap is_code e ∙ is in cc))

few-bytes : (c : ℕ) (w : List ℕ) → length w < least c → least_bytes c w ≡ Err Truncated
unfolding least_bytes text string_at size_at
few-bytes c w few = at (eqb c 11) refl
  where
    at : (b : Bool) → eqb c 11 ≡ b → cond b (text w) (past (least c) w) ≡ Err Truncated
    at true is =
        let k : c ≡ 11 = eqb-true c 11 is in
        let f : length w < 4 = rw k at few in
        let l : ltb (length w) 4 ≡ true = lt-ltb _ _ f in
        rw l refl
    at false isnt = let l : ltb (length w) (least c) ≡ true = lt-ltb _ _ few in rw l refl

behind-id : (c : ℕ) (z : ℤ) (v : List ℕ) → (b : Bool) → is_code c ≡ b → length v < 2 + least c → (length v < 2 → ⊥)
    → ◌≡◌ {A = Read (Unit {0})} (cond {A = Read (Option (ℕ × ℤ))} b (Ok (Some (c, z), drop 2 v)) (Err BadType) >>= λ h. part_after_head h.0 h.1) (Err Truncated)
behind-id c z v true is few some = few-bytes c (drop 2 v) (omega (arith, length-drop 2 v))
behind-id c z v false isnt few some = absurd (some (omega (arith, no_type c isnt)))

pub quiet-type : (c : ℕ) → (c ≡ 0 → ⊥) → AreQuiet (c ∷ []) (2 + least c)
unfolding field_at
quiet-type c some v few = let isnt : eqb c 0 ≡ false = ne_eqb c 0 some in rw isnt (at _ (ltb (length v) 2) refl)
  where
    at : (z : ℤ) (b : Bool) → ltb (length v) 2 ≡ b
        → ◌≡◌ {A = Read (Unit {0})} ((cond {A = Read ℤ} b (Err Truncated) (Ok (z, drop 2 v)) >>= typed c) >>= λ h. part_after_head h.0 h.1) (Err Truncated)
    at z true is = refl
    at z false isnt = behind-id c z v (is_code c) refl few (λ lt. absurd (let k : false ≡ true = sym isnt ∙ lt-ltb _ _ lt in cc))

pub quiet-string : (a b n : ℕ) (w : List ℕ) → ((v : List ℕ) → size_at (w ++ v) ≡ Ok (n, v)) → AreQuiet (11 ∷ a ∷ b ∷ w) n
unfolding field_at least_bytes text string_at
quiet-string a b n w size v few =
    let l : ltb (length v) n ≡ true = lt-ltb _ _ few in
    let two : ltb (length (a ∷ b ∷ (w ++ v))) 2 ≡ false = le-ltb _ _ (omega arith) in
    rw (two, size v, l) refl

-- ---- no more bytes

pub holds-ends : (s : State) (w : List ℕ) (n : ℕ) → Holds s w n → answers_of s [] ≡ Err (Wire Truncated) → answers_of s (w ++ []) ≡ Err (Wire Truncated)
holds-ends s w zero h here = rw (h.none refl) here
holds-ends s w (suc n) h here = ends-short s w (suc n) h (omega arith)

pub whole-holds : (s : State) (w : List ℕ) (n : ℕ) (b : Batch) → Holds s w n → s ≡ state.Whole b → answers_of s [] ≡ Ok b → answers_of s (w ++ []) ≡ Ok b
whole-holds s w n b h is here = rw (whole-waits-not s w n h b is) here

-- ---- one byte

-- memory ran out, and there was no error before
pub gave-up : (old new : Answer) (p : List ℕ) → HasNoFault (old []) → ((w : List ℕ) → new w ≡ Err Memory) → FeederFails old new p Memory
gave-up old new p sound stays = record {
  faults = λ n. absurd (n refl);
  repeats = none-repeats old [] Memory sound;
  stays = record { all = stays; no_want = λ h. absurd (let k : Memory ≡ Wire Truncated = h in cc) };
}

pub reading-between_fields : (now : State) (s : BatchSlots) (step : Step PartialBatchField) → now ≡ state.Reading (record { slots = s; step = step })
    → (w : List ℕ) → struct_from batch_struct s step w ≡ Err (Wire Truncated) → answers_of now w ≡ Err (Wire Truncated)
unfolding answers_of
reading-between_fields now s step is w h = rw is (rw h refl)

-- ---- bytes that waited

-- the waiting bytes were read with a byte after them
pub feeds-last : (old new : Answer) (w next spent : List ℕ) (b : ℕ) (r : Result (Unit {0}) DecodeError) → HasNoFault (old (w ++ [])) → next ≡ w ++ b ∷ []
    → spent ≡ [] → Feeds old new next r → Feeds (λ v. old (w ++ v)) (λ v. new (spent ++ v)) (b ∷ []) r
feeds-last old new w next spent b r sound is none g = rw none (feeds-behind old new w next (b ∷ []) r sound is g)
