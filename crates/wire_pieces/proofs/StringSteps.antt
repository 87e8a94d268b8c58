-- Bytes that arrive in pieces, after a length.
use Rattle.std.proofs.Common.{◌≡◌, ℕ, ◌≤◌, ◌<◌, ◌+◌, ◌-◌, min, Bool, true, false, ltb, List, [], ◌∷◌, ◌++◌, length, Ok, Err, refl, ap, ◌∙◌, arith, append_assoc}
use Rattle.std.proofs.Common.{length-append, append-nil}
use Rattle.std.proofs.Math.Seq.{take-append-add, drop-append-add}
use Rattle.std.proofs.lemmas.Bool.{lt-ltb}
use Rattle.thrift_binary.specs.declared.fault.WireError.TheVariants.{Truncated}
use Rattle.thrift_binary.specs.Reading.{◌>>=◌, Read, bytes_at, size_at, string_at}
use Rattle.thrift_binary.specs.Skipping.{past, text}
use Rattle.thrift_binary.proofs.SpellingsAreRead.{bytes_again}
use Rattle.wire_pieces.specs.Pieces.{Comes, NeedsMore, moment}
use Rattle.wire_pieces.specs.Strings.{bytes_end}
use Rattle.wire_pieces.proofs.Steps.{comes-trans, comes-inside}

pub nothing : {A : Type 0} (w : List A) → length w ≡ 0 → w ≡ []
nothing [] h = refl
nothing (b ∷ w) h = absurd (omega arith)

lt-part : (a b n : ℕ) → ltb (a + b) (a + n) ≡ ltb b n
lt-part a b n = grind arith

lt-whole : (b : ℕ) → ltb b 0 ≡ false
lt-whole b = grind arith

test-part : (beginning w : List ℕ) (k : ℕ) → ltb (length (beginning ++ w)) (length beginning + k) ≡ ltb (length w) k
test-part beginning w k = ap (λ n. ltb n (length beginning + k)) (length-append beginning w) ∙ lt-part (length beginning) (length w) k

bytes_end-part : (got beginning w : List ℕ) (k : ℕ) → bytes_end got (length beginning + k) (beginning ++ w) ≡ bytes_end (got ++ beginning) k w
unfolding bytes_end
bytes_end-part got beginning w k = by (ltb (length w) k) refl
  where
    by : (b : Bool) → ltb (length w) k ≡ b → bytes_end got (length beginning + k) (beginning ++ w) ≡ bytes_end (got ++ beginning) k w
    by true e = rw (test-part beginning w k, e) refl
    by false e = rw (test-part beginning w k, e, take-append-add, drop-append-add, append_assoc) refl

-- while some bytes are still to come: after the prefix, f continues as g
waits : {A : Type 0} (f g : ℕ → List ℕ → Read A) (beginning piece left : List ℕ) (n : ℕ)
    → ((w : List ℕ) (k : ℕ) → f (length beginning + k) (beginning ++ w) ≡ g k w) → ((k : ℕ) → ltb 0 k ≡ true → g k [] ≡ Err Truncated)
    → piece ≡ beginning ++ left → length beginning ≡ min n (length piece) → 0 < n - length beginning
    → NeedsMore Truncated (moment (f n) piece) (moment (g (n - length beginning)) left)
waits f g beginning piece left n goes_on short parts size more =
    let sizes : length piece ≡ length beginning + length left = rw parts (length-append beginning left) in
    let none : length left ≡ 0 = omega arith in
    let k : n ≡ length beginning + (n - length beginning) = omega arith in
    record {
      comes =
          record { same = λ rest. rw (parts, append_assoc) (ap (λ m. f m (beginning ++ (left ++ rest))) k ∙ goes_on (left ++ rest) (n - length beginning)) };
      want = short (n - length beginning) (lt-ltb _ _ more);
      spent = nothing left none;
    }

pub body-waits : (got new beginning piece left : List ℕ) (n : ℕ) → new ≡ got ++ beginning → piece ≡ beginning ++ left → length beginning ≡ min n (length piece)
    → 0 < n - length beginning
    → NeedsMore Truncated (moment (bytes_end got n) piece) (moment (bytes_end new (n - length beginning)) left)
unfolding bytes_end
body-waits got new beginning piece left n is parts size more =
    rw is (waits (bytes_end got) (bytes_end (got ++ beginning)) beginning piece left n (bytes_end-part got beginning) (λ k few. rw few refl) parts size more)

-- once all bytes have arrived
pub body-whole : (got new beginning piece left : List ℕ) (n : ℕ) → new ≡ got ++ beginning → piece ≡ beginning ++ left → length beginning ≡ min n (length piece)
    → n - length beginning ≤ 0
    → Comes (moment (bytes_end got n) piece) (moment (λ w. Ok (new, w)) left)
unfolding bytes_end
body-whole got new beginning piece left n is parts size done =
    let k : n ≡ length beginning + 0 = omega arith in
    record {
      same = λ rest. rw (parts, is, append_assoc)
          (ap (λ m. bytes_end got m (beginning ++ (left ++ rest))) k ∙ bytes_end-part got beginning (left ++ rest) 0 ∙ last (left ++ rest));
    }
  where
    last : (w : List ℕ) → bytes_end (got ++ beginning) 0 w ≡ Ok (got ++ beginning, w)
    last w = rw (lt-whole (length w), append-nil) refl

past-part : (beginning w : List ℕ) (k : ℕ) → past (length beginning + k) (beginning ++ w) ≡ past k w
past-part beginning w k = rw (test-part beginning w k, drop-append-add) refl

pub past-waits : (beginning piece left : List ℕ) (n : ℕ) → piece ≡ beginning ++ left → length beginning ≡ min n (length piece) → 0 < n - length beginning
    → NeedsMore Truncated (moment (past n) piece) (moment (past (n - length beginning)) left)
past-waits beginning piece left n parts size more = waits past past beginning piece left n (past-part beginning) (λ k few. rw few refl) parts size more

no_front : (r : Read (List ℕ)) → (r >>= λ t. Ok ([] ++ t.0, t.1)) ≡ r
no_front (Ok t) = refl
no_front (Err e) = refl

pub bytes_end-fresh : (n : ℕ) (w : List ℕ) → bytes_end [] n w ≡ bytes_at n w
unfolding bytes_end
bytes_end-fresh n w = no_front (bytes_at n w)

pub string-fresh : (w : List ℕ) → (size_at w >>= λ n. bytes_end [] n.0 n.1) ≡ string_at w
unfolding string_at
string-fresh w = by (size_at w)
  where
    by : (r : Read ℕ) → (r >>= λ n. bytes_end [] n.0 n.1) ≡ (r >>= λ n. bytes_at n.0 n.1)
    by (Ok n) = bytes_end-fresh n.0 n.1
    by (Err e) = refl

-- a skipped string
pub text-is : (w : List ℕ) → text w ≡ (size_at w >>= λ n. past n.0 n.1)
unfolding text string_at
text-is w = by (size_at w)
  where
    inner : (n : ℕ) (v : List ℕ) (b : Bool) → ltb (length v) n ≡ b → (bytes_at n v >>= λ x. Ok (tt, x.1)) ≡ past n v
    inner n v true e = rw e refl
    inner n v false e = rw e refl

    by : (r : Read ℕ) → ((r >>= λ n. bytes_at n.0 n.1) >>= λ x. Ok (tt, x.1)) ≡ (r >>= λ n. past n.0 n.1)
    by (Ok n) = inner n.0 n.1 (ltb (length n.1) n.0) refl
    by (Err e) = refl

-- all of the bytes after a length, at once
pub string-at-once : (a : List ℕ → Read ℕ) (p v left beginning got : List ℕ) (n m : ℕ) → m ≡ n → Comes (moment a p) (moment (λ w. Ok (n, w)) v)
    → v ≡ beginning ++ left
    → length beginning ≡ m → got ≡ beginning
    → Comes (moment (λ w. a w >>= λ x. bytes_end [] x.0 x.1) p) (moment (λ w. Ok (got, w)) left)
string-at-once a p v left beginning got n m same g parts size is =
    comes-trans (comes-inside (λ x. bytes_end [] x.0 x.1) g)
    (record { same = λ rest. bytes_end-fresh n (v ++ rest) ∙ rw (parts, is, append_assoc) (bytes_again n beginning (left ++ rest) (size ∙ same)) })
