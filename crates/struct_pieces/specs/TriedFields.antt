-- The result of a call that tries to read a field's value where it is in the piece.
use Rattle.std.specs.Prelude.{◌≡◌, ℕ, List, Result, Ok, Err}
use Rattle.batch_codec.specs.declared.fault.DecodeError.{DecodeError}
use Rattle.batch_codec.specs.Changes.{Change}
use Rattle.batch_codec.specs.Decoding.{Reading, Fails}
use Rattle.struct_pieces.specs.declared.fields.InPlace.{InPlace}
use Rattle.struct_pieces.specs.declared.fields.InPlace.TheVariants.{Read, Deferred}

-- A call that reads a complete value from the bytes, or defers it and takes nothing; only a complete value changes the fields so far.
abbrev pub Tries : {X : Type 0} → Reading X → Change X → Change (List ℕ) → Result InPlace DecodeError → Type 0
Tries reads fields cursor (Ok Read) = reads cursor.before ≡ Ok (fields.after, cursor.after)
Tries reads fields cursor (Ok Deferred) = fields.after ≡ fields.before
Tries reads fields cursor (Err e) = Fails e (reads cursor.before) × (fields.after ≡ fields.before)
