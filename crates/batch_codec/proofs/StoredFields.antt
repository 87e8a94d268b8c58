-- A field whose value was read and stored in its slot.
use Rattle.std.proofs.Common.{◌≡◌, ℕ, ℤ, List, Result, Ok, Err, IsOk, OnOk, false, true, refl}
use Rattle.thrift_binary.specs.Reading.{◌>>=◌}
use Rattle.thrift_binary.specs.Fields.{Take}
use Rattle.batch_codec.specs.declared.fault.DecodeError.{DecodeError}
use Rattle.batch_codec.specs.Changes.{change}
use Rattle.batch_codec.specs.Decoding.{Reading, Decodes, Takes}
use Rattle.batch_codec.proofs.FailsWhole.{Fails-whole}

-- The slot of the field has the value that the field reads.
pub takes-kept : {A S : Type 0} (take : Take S DecodeError) (s : S) (c : ℕ) (i : ℤ) (w left : List ℕ) (reads : Reading A) (into : A → S)
    (read : Result A DecodeError) (result : Result (Unit {0}) DecodeError) (slot : A) → take s c i w ≡ (reads w >>= λ x. Ok (into x.0, x.1))
    → Decodes (λ x. x) reads (change w left) read → ((x : A) → read ≡ Ok x → slot ≡ x) → ((x : A) → read ≡ Ok x → IsOk result)
    → ((e : DecodeError) → read ≡ Err e → result ≡ Err e)
    → Takes take (record { code = c; id = i; slots = change s (into slot); cursor = change w left }) result
takes-kept take s c i w left reads into (Ok x) (Ok u) slot is d kept same refused = rw (is, d, kept x refl) refl
takes-kept take s c i w left reads into (Ok x) (Err f) slot is d kept same refused = let bad : false ≡ true = same x refl in absurd cc
takes-kept take s c i w left reads into (Err f) (Ok u) slot is d kept same refused = let bad : Ok u ≡ Err f = refused f refl in absurd cc
takes-kept take s c i w left reads into (Err f) (Err g) slot is d kept same refused =
    let fault : g ≡ f = cc (refused f refl) in
    rw fault (Fails-whole f (reads w) (take s c i w) (λ e h. rw (is, h) refl) d)

pub kept-no_longer : {A : Type 0} (P : Type 0) (read : Result A DecodeError) (result : Result (Unit {0}) DecodeError) → OnOk read P
    → ((e : DecodeError) → read ≡ Err e → result ≡ Err e) → OnOk result P
kept-no_longer P (Ok x) (Ok u) h refused = h
kept-no_longer P (Ok x) (Err f) h refused = tt
kept-no_longer P (Err f) (Ok u) h refused = let bad : Ok u ≡ Err f = refused f refl in absurd cc
kept-no_longer P (Err f) (Err g) h refused = tt
