-- What a feeder returns.
use Rattle.std.specs.Prelude.{◌≡◌, ◌≢◌, ◌<◌, ℕ, List, [], ◌++◌, Result, Ok, Err, Bool, true, false, not}
use Rattle.thrift_binary.specs.declared.fault.WireError.TheVariants.{Truncated, BadLength, BadType, TooDeep, BadBool, BadText}
use Rattle.thrift_binary.specs.Reading.{◌>>=◌}
use Rattle.jaeger_model.specs.declared.batch.Batch.{Batch}
use Rattle.batch_codec.specs.declared.fault.DecodeError.{DecodeError}
use Rattle.batch_codec.specs.declared.fault.DecodeError.TheVariants.{Wire, Missing, BadEnum, Trailing, Memory}
use Rattle.batch_codec.specs.BatchReading.{at_end}
use Rattle.batch_feeder.specs.declared.feeder.State.{State}
use Rattle.batch_feeder.specs.declared.feeder.State.TheVariants as state
use Rattle.value_pieces.specs.ContinuedCalls.{Faults}
use Rattle.struct_pieces.specs.Fields.{struct_from}
use Rattle.value_pieces.specs.LeastBytes.{IsTooShort, AreQuiet}
use Rattle.struct_pieces.specs.Batches.{batch_struct}

-- what it returns if exactly these bytes are still to come
unfoldable pub answers_of : State → List ℕ → Result Batch DecodeError
answers_of (state.Reading r) w = struct_from batch_struct r.slots r.step w >>= at_end
answers_of (state.Whole b) w = at_end (b, w)
answers_of (state.Failed e) w = Err e

-- the fault is too few bytes
abbrev pub is_truncated : DecodeError → Bool
is_truncated (Wire Truncated) = true
is_truncated (Wire BadLength) = false
is_truncated (Wire BadType) = false
is_truncated (Wire TooDeep) = false
is_truncated (Wire BadBool) = false
is_truncated (Wire BadText) = false
is_truncated (Missing p i) = false
is_truncated BadEnum = false
is_truncated Trailing = false
is_truncated Memory = false

abbrev pub is_short : {A : Type 0} → Result A DecodeError → Bool
is_short (Ok x) = false
is_short (Err e) = is_truncated e

-- while it reads, no bytes are too few bytes, and its error is never too few bytes
unfoldable pub settled : State → Bool
settled (state.Reading r) = is_short (struct_from batch_struct r.slots r.step [])
settled (state.Whole b) = true
settled (state.Failed e) = not (is_truncated e)

abbrev pub IsSettled : State → Type 0
IsSettled s = settled s ≡ true

-- it is between two fields, and a part of a field is too few bytes
abbrev pub IsBetweenFields : State → Type 0
IsBetweenFields s = (w : List ℕ) → IsTooShort w → answers_of s w ≡ Err (Wire Truncated)

-- Bytes that a state has still to read, and how many more are wanted before they can show a fault: none where they
-- are read as they come.
pub record Holds (s : State) (w : List ℕ) (n : ℕ) : Type 0 where
  pub none : n ≡ 0 → w ≡ []
  pub is_between_fields : 0 < n → IsBetweenFields s
  pub quiet : AreQuiet w n

-- complete, or too few bytes
abbrev pub HasNoFault : Result Batch DecodeError → Type 0
HasNoFault (Ok b) = Unit {0}
HasNoFault (Err e) = e ≡ Wire Truncated

-- It took the piece: whatever follows is answered as it was before, and the bytes so far have no fault but that
-- they may be too few.
pub record FeederTakes (old new : List ℕ → Result Batch DecodeError) (piece : List ℕ) : Type 0 where
  pub same : (rest : List ℕ) → old (piece ++ rest) ≡ new rest
  pub sound : HasNoFault (old piece)

-- it has failed: whatever follows, this fault is the result, and it isn't too few bytes
pub record HasRefused (answers : List ℕ → Result Batch DecodeError) (e : DecodeError) : Type 0 where
  pub all : (rest : List ℕ) → answers rest ≡ Err e
  pub no_want : e ≢ Wire Truncated

-- if it has failed before, this is the same error
abbrev pub Repeats : (List ℕ → Result Batch DecodeError) → DecodeError → Type 0
Repeats old e = (before : DecodeError) → HasRefused old before → before ≡ e

-- There is this fault, whatever follows, which isn't too few bytes; for running out of memory this says that nothing
-- had failed before. From now on it is the result.
pub record FeederFails (old new : List ℕ → Result Batch DecodeError) (piece : List ℕ) (e : DecodeError) : Type 0 where
  pub faults : Faults old piece e
  pub repeats : Repeats old e
  pub stays : HasRefused new e

abbrev pub Feeds : (List ℕ → Result Batch DecodeError) → (List ℕ → Result Batch DecodeError) → List ℕ → Result (Unit {0}) DecodeError → Type 0
Feeds old new piece (Ok x) = FeederTakes old new piece
Feeds old new piece (Err e) = FeederFails old new piece e

-- like `Feeds`, for a call that reads bytes that were taken before
abbrev pub Keeps : (List ℕ → Result Batch DecodeError) → (List ℕ → Result Batch DecodeError) → Result (Unit {0}) DecodeError → Type 0
Keeps old new (Ok x) = (rest : List ℕ) → old rest ≡ new rest
Keeps old new (Err e) = FeederFails old new [] e

-- nothing follows the batch
abbrev pub Ends : List ℕ → Result (Unit {0}) DecodeError → Type 0
Ends w (Ok x) = w ≡ []
Ends w (Err e) = (e ≡ Trailing) × (w ≡ [] → ⊥)

-- like `Feeds`, for the state before an error is stored
abbrev pub Advances : State → State → List ℕ → Result (Unit {0}) DecodeError → Type 0
Advances old new piece (Ok x) = FeederTakes (answers_of old) (answers_of new) piece × IsSettled new
Advances old new piece (Err e) = Faults (answers_of old) piece e × (e ≢ Wire Truncated) × Repeats (answers_of old) e
