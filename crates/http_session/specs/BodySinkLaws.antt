-- Laws that the impls of this crate name, and their lemmas. A clause can't name its own crate's proofs/, so they are in
-- specs/. A sink doesn't change by no bytes, and takes two pieces like the bytes of both.
use Rattle.std.specs.Prelude.{ℕ, List, [], ◌++◌, Result, refl}
use Rattle.std.proofs.Common.{append_assoc, sym, ◌∙◌, ap, inl, inr}
use Rattle.jaeger_model.specs.declared.batch.Batch.{Batch}
use Rattle.batch_codec.specs.declared.fault.DecodeError.{DecodeError}
use Rattle.http_session.specs.declared.receiving.Discard.{Discard}
use Rattle.http_session.specs.BodySinks.{Passes, Follows}

pub passes_nothing : (s : Discard) → Passes s [] s
passes_nothing s = tt

pub passes_joined : (s t u : Discard) (front back : List ℕ) → Passes s front t → Passes t back u → Passes s (front ++ back) u
passes_joined s t u front back one two = tt

pub follows_nothing : (f : List ℕ → Result Batch DecodeError) → Follows f [] f
follows_nothing f = inl (λ rest. refl)

pub follows_joined : (f g h : List ℕ → Result Batch DecodeError) (front back : List ℕ) → Follows f front g → Follows g back h → Follows f (front ++ back) h
follows_joined f g h front back (inr none) (inr again) = inr (again.0, none.1)
follows_joined f g h front back (inl one) (inr none) =
    inr (none.0, λ before refused. none.1 before (record { all = λ rest. sym (one rest) ∙ refused.all (front ++ rest); no_want = refused.no_want }))
follows_joined f g h front back (inl one) (inl two) = inl (λ rest. ap f (append_assoc front back rest) ∙ one (back ++ rest) ∙ two rest)
follows_joined f g h front back (inr none) (inl two) =
    inr (record { all = λ rest. sym (two rest) ∙ none.0.all (back ++ rest); no_want = none.0.no_want }, none.1)
