-- Reads that were made while something was awaited, one after the other.
use Rattle.std.proofs.Common.{◌≡◌, ℕ, ◌+◌, List, [], ◌∷◌, ◌++◌, length, Result, Ok, Err, OnErr, refl, sym, ap, subst, arith, append_assoc}
use Rattle.session_devices.specs.ByteTransfers.{ByteTransfer}
use Rattle.http_requests.specs.AwaitedReads.{counted, GivesWhile, ReadsWhile, input_moment, read_rule}

module _ {R : Type 0} (gives : ByteTransfer R) where
  pub no_read : (Awaits : List ℕ → Type 0) (s : R) (bytes : List ℕ) → ReadsWhile (read_rule gives Awaits) (input_moment s bytes) (input_moment s bytes)
  no_read Awaits s bytes = record { pieces = []; each = (refl, refl) }

  pub one_read : (Awaits : List ℕ → Type 0) (s t : R) (old new piece : List ℕ) → Awaits old → gives s piece t → new ≡ old ++ piece
      → ReadsWhile (read_rule gives Awaits) (input_moment s old) (input_moment t new)
  one_read Awaits s t old new piece awaits given is = record { pieces = piece ∷ []; each = (awaits, t, given, (refl, sym is)) }

  each_join : (Awaits : List ℕ → Type 0) (ps qs : List (List ℕ)) (s m t : R) (a b c : List ℕ)
      → GivesWhile (read_rule gives Awaits) (input_moment s a) (input_moment m b) ps
      → GivesWhile (read_rule gives Awaits) (input_moment m b) (input_moment t c) qs
      → GivesWhile (read_rule gives Awaits) (input_moment s a) (input_moment t c) (ps ++ qs)
  each_join Awaits [] qs s m t a b c first second =
      subst (λ (l : List ℕ). GivesWhile (read_rule gives Awaits) (input_moment s l) (input_moment t c) qs) (sym first.1)
      (subst (λ (x : R). GivesWhile (read_rule gives Awaits) (input_moment x b) (input_moment t c) qs) (sym first.0) second)
  each_join Awaits (p ∷ ps) qs s m t a b c first second = (first.0, first.1, first.2, each_join Awaits ps qs first.1 m t (a ++ p) b c first.3 second)

  pub reads_in_turn : (Awaits : List ℕ → Type 0) (s m t : R) (a b c : List ℕ)
      → ReadsWhile (read_rule gives Awaits) (input_moment s a) (input_moment m b) → ReadsWhile (read_rule gives Awaits) (input_moment m b) (input_moment t c)
      → ReadsWhile (read_rule gives Awaits) (input_moment s a) (input_moment t c)
  reads_in_turn Awaits s m t a b c first second = record {
    pieces = first.pieces ++ second.pieces;
    each = each_join Awaits first.pieces second.pieces s m t a b c first.each second.each;
  }

  each_after : (Awaits More : List ℕ → Type 0) (front : List ℕ) → ((h : List ℕ) → Awaits h → More (front ++ h)) → (ps : List (List ℕ)) (s t : R) (a b : List ℕ)
      → GivesWhile (read_rule gives Awaits) (input_moment s a) (input_moment t b) ps
      → GivesWhile (read_rule gives More) (input_moment s (front ++ a)) (input_moment t (front ++ b)) ps
  each_after Awaits More front more [] s t a b each = (each.0, ap (λ l. front ++ l) each.1)
  each_after Awaits More front more (p ∷ ps) s t a b each = (
    more a each.0,
    each.1,
    each.2,
    subst (λ (l : List ℕ). GivesWhile (read_rule gives More) (input_moment each.1 l) (input_moment t (front ++ b)) ps) (sym (append_assoc front a p))
        (each_after Awaits More front more ps each.1 t (a ++ p) b each.3),
  )

  -- what is awaited after a text, seen from the start of the text
  pub reads_after : (Awaits More : List ℕ → Type 0) (front : List ℕ) → ((h : List ℕ) → Awaits h → More (front ++ h)) → (s t : R) (a b : List ℕ)
      → ReadsWhile (read_rule gives Awaits) (input_moment s a) (input_moment t b)
      → ReadsWhile (read_rule gives More) (input_moment s (front ++ a)) (input_moment t (front ++ b))
  reads_after Awaits More front more s t a b reads = record { pieces = reads.pieces; each = each_after Awaits More front more reads.pieces s t a b reads.each }

-- ---- with the reads that may still be made

module _ {R : Type 0} (gives : ByteTransfer R) (Awaits : List ℕ → Type 0) where
  uncounted_each : (ps : List (List ℕ)) (s t : R × ℕ) (old new : List ℕ)
      → GivesWhile (read_rule (counted gives) Awaits) (input_moment s old) (input_moment t new) ps
      → GivesWhile (read_rule gives Awaits) (input_moment s.0 old) (input_moment t.0 new) ps × (t.1 + length ps ≡ s.1)
  uncounted_each [] s t old new each = ((ap (λ (p : R × ℕ). p.0) each.0, each.1), omega (arith, ap (λ (p : R × ℕ). p.1) each.0))
  uncounted_each (p ∷ ps) s t old new each =
      let rest = uncounted_each ps each.1 t (old ++ p) new each.3 in
      ((each.0, each.1.0, each.2.0, rest.0), omega (arith, rest.1, each.2.1))

  -- the reads alone, and how many there were
  pub uncounted : (s t : R) (n m : ℕ) (old new : List ℕ) → ReadsWhile (read_rule (counted gives) Awaits) (input_moment (s, n) old) (input_moment (t, m) new)
      → (reads : ReadsWhile (read_rule gives Awaits) (input_moment s old) (input_moment t new)) × (m + length reads.pieces ≡ n)
  uncounted s t n m old new reads =
      let all = uncounted_each reads.pieces (s, n) (t, m) old new reads.each in
      (record { pieces = reads.pieces; each = all.0 }, all.1)

-- ---- calls that ended in an error

-- what holds anyway holds where there is an error
pub any_err : {T E P : Type 0} (r : Result T E) → P → OnErr r P
any_err (Ok x) p = tt
any_err (Err e) p = p
