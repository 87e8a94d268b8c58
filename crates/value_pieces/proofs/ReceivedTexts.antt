-- A text whose last byte has arrived.
use Rattle.std.proofs.Common.{◌≡◌, ℕ, List, true, false, Ok, refl}
use Rattle.std.specs.Str.{is_utf8, IsUtf8}
use Rattle.std.proofs.lemmas.Str.{IsUtf8-from_is_utf8}
use Rattle.std.proofs.lemmas.Bool.{false_from_ne_true}
use Rattle.thrift_binary.specs.declared.fault.WireError.TheVariants.{Truncated, BadText}
use Rattle.thrift_binary.specs.Reading.{◌>>=◌, Read, lift}
use Rattle.wire_pieces.specs.Pieces.{Comes, moment}
use Rattle.wire_pieces.proofs.Steps.{comes-lift}
use Rattle.batch_codec.specs.declared.fault.DecodeError.TheVariants.{Wire}
use Rattle.batch_codec.specs.Decoding.{wire}
use Rattle.value_pieces.specs.ContinuedCalls.{Faults}
use Rattle.value_pieces.specs.Values.{checked_text}
use Rattle.value_pieces.proofs.CallSteps.{ends-comes, ends-faults}

pub text-whole : (a : List ℕ → Read (List ℕ)) (t p q : List ℕ) → is_utf8 t ≡ true → Comes (moment a p) (moment (λ w. Ok (t, w)) q)
    → Comes (moment (λ w. lift wire (a w) >>= checked_text) p) (moment (λ w. Ok (t, w)) q)
text-whole a t p q is g = ends-comes (λ w. lift wire (a w)) checked_text t t p q (λ rest. rw is refl) (comes-lift wire g)

pub text-bad : (a : List ℕ → Read (List ℕ)) (t p q : List ℕ) → is_utf8 t ≡ false → Comes (moment a p) (moment (λ w. Ok (t, w)) q)
    → Faults (λ w. lift wire (a w) >>= checked_text) p (Wire BadText)
text-bad a t p q isnt g =
    ends-faults (λ w. lift wire (a w)) checked_text t p q (Wire BadText) (λ h. absurd (let k : Wire BadText ≡ Wire Truncated = h in cc))
    (λ rest. rw isnt refl) (comes-lift wire g)

pub not_text : (t : List ℕ) → ¬ IsUtf8 t → is_utf8 t ≡ false
not_text t n = false_from_ne_true (is_utf8 t) (λ y. n (IsUtf8-from_is_utf8 t y))
