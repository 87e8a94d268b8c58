-- The steps of a feeder.
use Rattle.std.proofs.Common.{◌≡◌, ◌≢◌, ℕ, List, [], ◌∷◌, ◌++◌, length, eqb, Result, Ok, Err, true, false, not, refl, ap, sym, ◌∙◌, arith, append-nil}
use Rattle.std.proofs.lemmas.Bool.{ne_eqb, false_from_ne_true}
use Rattle.thrift_binary.specs.declared.fault.WireError.TheVariants.{Truncated, BadLength, BadType, TooDeep, BadBool, BadText}
use Rattle.thrift_binary.specs.Reading.{◌>>=◌}
use Rattle.thrift_binary.specs.Fields.{fields_in, fields_at}
use Rattle.wire_pieces.specs.Pieces.{Comes, NeedsMore, moment}
use Rattle.wire_pieces.proofs.Steps.{comes-inside, waits-inside}
use Rattle.jaeger_model.specs.declared.batch.Batch.{Batch}
use Rattle.batch_codec.specs.declared.batch.BatchSlots.{BatchSlots}
use Rattle.batch_codec.specs.declared.fault.DecodeError.{DecodeError}
use Rattle.batch_codec.specs.declared.fault.DecodeError.TheVariants.{Wire, Missing, BadEnum, Trailing, Memory}
use Rattle.batch_codec.specs.Decoding.{Reading, Fails, Gives}
use Rattle.batch_codec.specs.EmptySlots.{no_batch}
use Rattle.batch_codec.specs.BatchReading.{take_batch, batch_from, batch_at, at_end, decoded}
use Rattle.struct_pieces.specs.declared.fields.Step.{Step}
use Rattle.struct_pieces.specs.declared.batch.PartialBatchField.{PartialBatchField}
use Rattle.batch_feeder.specs.declared.feeder.State.{State}
use Rattle.batch_feeder.specs.declared.feeder.State.TheVariants as state
use Rattle.value_pieces.specs.ContinuedCalls.{Faults}
use Rattle.struct_pieces.specs.Fields.{struct_at, struct_from}
use Rattle.struct_pieces.specs.Batches.{batch_struct}
use Rattle.batch_feeder.specs.FeederResults.{answers_of, is_truncated, is_short, settled, IsSettled, HasNoFault, HasRefused, Repeats, FeederTakes}
use Rattle.batch_feeder.specs.FeederResults.{Ends, Advances}
use Rattle.value_pieces.proofs.CallSteps.{faults-inside}
use Rattle.thrift_binary.proofs.ReadBytesSpell.{err_is}

-- a state of a struct as a reading
abbrev pub reads : BatchSlots → Step PartialBatchField → Reading Batch
reads s step = struct_from batch_struct s step

-- ---- faults

pub faults-apart : {X : Type 0} (a : List ℕ → Result X DecodeError) (p : List ℕ) (e : DecodeError) → Faults a p e → e ≡ Wire Truncated → ⊥
faults-apart a p e g h = (g (λ m. absurd (let k : Wire Truncated ≡ Memory = sym h ∙ m in cc))).no_want h

want_is : (e : DecodeError) → is_truncated e ≡ true → e ≡ Wire Truncated
want_is (Wire Truncated) h = refl
want_is (Wire BadLength) h = absurd cc
want_is (Wire BadType) h = absurd cc
want_is (Wire TooDeep) h = absurd cc
want_is (Wire BadBool) h = absurd cc
want_is (Wire BadText) h = absurd cc
want_is (Missing p i) h = absurd cc
want_is BadEnum h = absurd cc
want_is Trailing h = absurd cc
want_is Memory h = absurd cc

no_want : (e : DecodeError) → (e ≡ Wire Truncated → ⊥) → not (is_truncated e) ≡ true
no_want e n = ap not (false_from_ne_true (is_truncated e) (λ y. n (want_is e y)))

short-is : {A : Type 0} (r : Result A DecodeError) → is_short r ≡ true → r ≡ Err (Wire Truncated)
short-is (Ok x) h = absurd cc
short-is (Err e) h = ap (λ d. Err d) (want_is e h)

-- ---- the same error again

-- an error now is the error of before
pub failed-repeats : (a : List ℕ → Result Batch DecodeError) (w : List ℕ) (e : DecodeError) → a w ≡ Err e → Repeats a e
failed-repeats a w e h before failed = err_is before e (sym (failed.all w) ∙ h)

-- there was no error before
pub none-failed : (a : List ℕ → Result Batch DecodeError) (w : List ℕ) → HasNoFault (a w) → (e : DecodeError) → HasRefused a e → ⊥
none-failed a w sound e failed = failed.no_want (rw (failed.all w) at sound)

pub none-repeats : (a : List ℕ → Result Batch DecodeError) (w : List ℕ) (e : DecodeError) → HasNoFault (a w) → Repeats a e
none-repeats a w e sound before failed = absurd (none-failed a w sound before failed)

pub short-sound : (r : Result Batch DecodeError) → r ≡ Err (Wire Truncated) → HasNoFault r
short-sound (Ok b) h = tt
short-sound (Err e) h = err_is e (Wire Truncated) h

-- ---- the start

module _ (s : BatchSlots) (step : Step PartialBatchField) (fresh : (w : List ℕ) → reads s step w ≡ struct_at take_batch no_batch batch_from w) where
  pub start-decodes : (w : List ℕ) → answers_of (state.Reading (record { slots = s; step = step })) w ≡ decoded w
  unfolding answers_of decoded batch_at
  start-decodes w = ap (λ r. r >>= at_end) (fresh w)

  pub start-settled : IsSettled (state.Reading (record { slots = s; step = step }))
  unfolding settled fields_at fields_in
  start-settled = ap is_short (fresh [])

-- ---- a piece

module _ (now : State) (s : BatchSlots) (step : Step PartialBatchField) (is : now ≡ state.Reading (record { slots = s; step = step })) where
  reading-inside : (p : List ℕ) (e : DecodeError) → Faults (reads s step) p e → Faults (answers_of now) p e
  unfolding answers_of
  reading-inside p e g = rw is (faults-inside at_end (reads s step) p e g)

  pub reading-ends : IsSettled now → answers_of now [] ≡ Err (Wire Truncated)
  unfolding answers_of settled
  reading-ends h =
      let k : is_short (reads s step []) ≡ true = rw is at h in
      rw (is, short-is (reads s step []) k) refl

  pub reading-faults : IsSettled now → (p : List ℕ) (e : DecodeError) → Faults (reads s step) p e → Faults (answers_of now) p e × (e ≢ Wire Truncated)
      × Repeats (answers_of now) e
  reading-faults h p e g =
      (reading-inside p e g, faults-apart (reads s step) p e g, none-repeats (answers_of now) [] e (short-sound (answers_of now []) (reading-ends h)))

  pub reading-waits : (t : BatchSlots) (next : Step PartialBatchField) (p v : List ℕ)
      → NeedsMore (Wire Truncated) (moment (reads s step) p) (moment (reads t next) v)
      → FeederTakes (answers_of now) (answers_of (state.Reading (record { slots = t; step = next }))) p
      × IsSettled (state.Reading (record { slots = t; step = next }))
  unfolding answers_of settled
  reading-waits t next p v g =
      let k : NeedsMore (Wire Truncated) (moment (λ w. reads s step w >>= at_end) p) (moment (λ w. reads t next w >>= at_end) v) = waits-inside at_end g in
      let each : (rest : List ℕ) → (reads s step (p ++ rest) >>= at_end) ≡ (reads t next rest >>= at_end) = λ rest. rw k.spent at (k.comes.same rest) in
      let here : (reads s step p >>= at_end) ≡ Err (Wire Truncated) = (rw append-nil at (each [])) ∙ k.want in
      rw is (record { same = each; sound = rw here refl }, ap is_short g.want)

  pub reading-whole : (b : Batch) (p v : List ℕ) → Comes (moment (reads s step) p) (moment (λ w. Ok (b, w)) v)
      → Comes (moment (answers_of now) p) (moment (λ w. at_end (b, w)) v)
  unfolding answers_of
  reading-whole b p v g = rw is (comes-inside at_end g)

pub whole-comes : (now : State) (b : Batch) (p : List ℕ) → now ≡ state.Whole b → Comes (moment (answers_of now) p) (moment (λ w. at_end (b, w)) p)
unfolding answers_of
whole-comes now b p is = rw is (record { same = λ rest. refl })

some_left : (w : List ℕ) → (w ≡ [] → ⊥) → (rest : List ℕ) → (b : Batch) → at_end (b, w ++ rest) ≡ Err Trailing
some_left [] n rest b = absurd (n refl)
some_left (c ∷ w) n rest b =
    let some : eqb (length (c ∷ (w ++ rest))) 0 ≡ false = ne_eqb (length (c ∷ (w ++ rest))) 0 (λ e. absurd (omega arith)) in
    rw some refl

-- after the batch
pub ends : (now next : State) (b : Batch) (p v : List ℕ) (r : Result (Unit {0}) DecodeError) → next ≡ state.Whole b
    → Comes (moment (answers_of now) p) (moment (λ w. at_end (b, w)) v) → Ends v r → Advances now next p r
unfolding answers_of settled
ends now next b p v (Ok x) is g none =
    rw is (record { same = λ rest. rw none at (g.same rest); sound = whole (rw append-nil at (rw none at (g.same []))) }, refl)
  where
    whole : answers_of now p ≡ Ok b → HasNoFault (answers_of now p)
    whole h = rw h tt
ends now next b p v (Err e) is g (trailing, some) = rw trailing (
  λ n. record { same = λ rest. g.same rest ∙ some_left v some rest b; no_want = λ h. absurd (let k : Trailing ≡ Wire Truncated = h in cc) },
  λ h. absurd (let k : Trailing ≡ Wire Truncated = h in cc),
  failed-repeats (answers_of now) (p ++ []) Trailing (g.same [] ∙ some_left v some [] b),
)

-- ---- an error

pub failed-settled : (now : State) (e : DecodeError) → now ≡ state.Failed e → (e ≡ Wire Truncated → ⊥) → IsSettled now
unfolding settled
failed-settled now e is n = rw is (no_want e n)

pub failed-answers : (now : State) (e : DecodeError) (rest : List ℕ) → now ≡ state.Failed e → answers_of now rest ≡ Err e
unfolding answers_of
failed-answers now e rest is = rw is refl

pub failed-faults : (now : State) (e : DecodeError) (p : List ℕ) → now ≡ state.Failed e → IsSettled now → Faults (answers_of now) p e × (e ≢ Wire Truncated)
    × Repeats (answers_of now) e
unfolding answers_of settled
failed-faults now e p is h =
    rw is (λ n. record { same = λ rest. refl; no_want = apart (rw is at h) }, apart (rw is at h), failed-repeats (answers_of (state.Failed e)) [] e refl)
  where
    apart : not (is_truncated e) ≡ true → e ≡ Wire Truncated → ⊥
    apart k t = let q : false ≡ true = rw t at k in absurd cc

-- ---- no more bytes

pub whole-ends : (now : State) (b : Batch) → now ≡ state.Whole b → answers_of now [] ≡ Ok b
unfolding answers_of
whole-ends now b is = rw is refl

pub fails-unless : (r : Result Batch DecodeError) (e : DecodeError) → ((e ≡ Memory → ⊥) → r ≡ Err e) → Fails e r
fails-unless r Memory h = tt
fails-unless r (Wire x) h = h (λ m. absurd cc)
fails-unless r (Missing p i) h = h (λ m. absurd cc)
fails-unless r BadEnum h = h (λ m. absurd cc)
fails-unless r Trailing h = h (λ m. absurd cc)

pub gives-err : (r : Result Batch DecodeError) (e : DecodeError) → r ≡ Err e → Fails e r
gives-err r e h = fails-unless r e (λ n. h)

pub gives-same : (r s : Result Batch DecodeError) → r ≡ s → Gives r s
gives-same (Ok x) s h = sym h
gives-same (Err e) s h = gives-err s e (sym h)
