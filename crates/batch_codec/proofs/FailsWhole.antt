-- A call that fails by a part of its reading.
use Rattle.std.proofs.Common.{◌≡◌, Result, Err}
use Rattle.batch_codec.specs.declared.fault.DecodeError.{DecodeError}
use Rattle.batch_codec.specs.declared.fault.DecodeError.TheVariants.{Wire, Missing, BadEnum, Trailing, Memory}
use Rattle.batch_codec.specs.Decoding.{Fails}

-- if each fault of a part is the fault of the whole reading, a call that fails by the part fails by the whole
pub Fails-whole : {A B : Type 0} (e : DecodeError) (part : Result A DecodeError) (whole : Result B DecodeError)
    → ((f : DecodeError) → part ≡ Err f → whole ≡ Err f) → Fails e part → Fails e whole
Fails-whole Memory part whole same h = tt
Fails-whole (Wire x) part whole same h = same (Wire x) h
Fails-whole (Missing p i) part whole same h = same (Missing p i) h
Fails-whole BadEnum part whole same h = same BadEnum h
Fails-whole Trailing part whole same h = same Trailing h
