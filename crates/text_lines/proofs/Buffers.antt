-- Text that waits in a buffer.
use Rattle.std.proofs.Common.{◌≡◌, ℕ, ◌+◌, ◌-◌, List, [], ◌++◌, length, take, drop, Bool, true, false, Option, Result, Ok, Err, IfErr, OnOk, refl, sym, ap}
use Rattle.std.proofs.Common.{subst, ◌∙◌, arith, append-nil, append_assoc, length-drop}
use Rattle.std.proofs.lemmas.List.{take-append-drop, take_all, drop-drop}
use Rattle.std.specs.Io.KnownBytes.{Appends}
use Rattle.std.proofs.KnownBytes.{Appends-nil, Appends-trans}
use Rattle.std.specs.Result.{IsErrAnd}
use Rattle.text_lines.specs.declared.run_error.RunError.{RunError}
use Rattle.text_lines.specs.declared.run_error.RunError.TheVariants.{Device, Memory}
use Rattle.text_lines.specs.RunErrors.{Moves, WritesText, WritesSome}

front : (at count : ℕ) (xs : List ℕ) → drop at xs ≡ take count (take (length xs - at) (drop at xs)) ++ drop (at + count) xs
front at count xs =
    let all : take (length xs - at) (drop at xs) ≡ drop at xs = take_all (length xs - at) (drop at xs) (omega (arith, length-drop at xs)) in
    sym (take-append-drop count (drop at xs))
    ∙ ap (λ l. take count l ++ drop count (drop at xs)) (sym all)
    ∙ ap (λ l. take count (take (length xs - at) (drop at xs)) ++ l) (drop-drop count at xs)

pub moves_on : (a b c : Option (List ℕ)) (waited xs : List ℕ) (at count : ℕ) → Moves a b waited (drop at xs)
    → Appends b c (take count (take (length xs - at) (drop at xs))) → Moves a c waited (drop (at + count) xs)
moves_on a b c waited xs at count m wrote =
    let part = take count (take (length xs - at) (drop at xs)) in
    (m.0 ++ part, Appends-trans a b c m.0 part m.1 wrote, m.2 ∙ ap (λ l. m.0 ++ l) (front at count xs) ∙ sym (append_assoc m.0 part (drop (at + count) xs)))

pub moves_nothing : (a : Option (List ℕ)) (waits : List ℕ) → Moves a a waits waits
moves_nothing a waits = ([], Appends-nil a, refl)

pub moves_then : (a b c : Option (List ℕ)) (w0 w1 w2 : List ℕ) → Moves a b w0 w1 → Moves b c w1 w2 → Moves a c w0 w2
moves_then a b c w0 w1 w2 p q =
    (p.0 ++ q.0, Appends-trans a b c p.0 q.0 p.1 q.1, p.2 ∙ ap (λ l. p.0 ++ l) q.2 ∙ sym (append_assoc p.0 q.0 w2))

pub moves_more : (a b : Option (List ℕ)) (w0 w1 more : List ℕ) → Moves a b w0 w1 → Moves a b (w0 ++ more) (w1 ++ more)
moves_more a b w0 w1 more p = (p.0, p.1, ap (λ l. l ++ more) p.2 ∙ append_assoc p.0 w1 more)

-- what was written is a prefix of what waited
pub some_written : (a b : Option (List ℕ)) (text waits : List ℕ) → Moves a b text waits → WritesSome a b text
some_written a b text waits p = (p.0, p.1, (waits, sym p.2))

-- ---- a buffer that holds a text and is flushed

pub flushed : (a b : Option (List ℕ)) (w0 w1 text : List ℕ) (failed : Bool) (r : Result (Unit {0}) RunError) → w0 ≡ text → Moves a b w0 w1 → OnOk r (w1 ≡ [])
    → OnOk r (failed ≡ false) → IfErr r (λ h. (h ≡ Device) × (failed ≡ true)) → WritesText (record { before = a; after = b; failed = failed }) text r
flushed a b w0 w1 text failed (Ok u) is m none works err =
    (subst (Appends a b) (sym (append-nil m.0) ∙ ap (λ l. m.0 ++ l) (sym none) ∙ sym m.2 ∙ is) m.1, works)
flushed a b w0 w1 text failed (Err h) is m none works err =
    (subst (WritesSome a b) is (some_written a b w0 w1 m), rw err.0 err.1)

-- memory ran out before anything was written
pub nothing_said : (a : Option (List ℕ)) (failed : Bool) (text : List ℕ) (r : Result (Unit {0}) RunError) → IsErrAnd r (λ h. h ≡ Memory) → failed ≡ false
    → WritesText (record { before = a; after = a; failed = failed }) text r
nothing_said a failed text (Ok u) e works = absurd e
nothing_said a failed text (Err h) e works = (([], Appends-nil a, (text, refl)), rw e works)
