-- How reads join.
use Rattle.std.proofs.Common.{◌≡◌, ℕ, ◌+◌, ◌≤◌, Bool, List, [], ◌++◌, length, take, Option, refl, sym, ap, ◌∙◌, subst, arith, append_assoc, append-nil}
use Rattle.std.proofs.Common.{length-append}
use Rattle.std.proofs.Math.Seq.{take-append_seam}
use Rattle.std.proofs.KnownBytes.{Consumes-trans, Consumes-nil}
use Rattle.http_requests.specs.AwaitedReads.{Source, counted, ReadsWhile, input_moment, read_rule}
use Rattle.http_requests.specs.ReceivedBytes.{ReadBuffer, ReadsOn, ReadsOnWhile, IsRead, ReadFails, StopsWhile, put_back, read_moment, failed_call}
use Rattle.http_requests.proofs.AwaitedReads.{no_read, one_read, reads_in_turn, reads_after}
use Rattle.http_requests.specs.declared.read_buffer.ReadError.{ReadError}
use Rattle.http_requests.specs.declared.read_buffer.ReadError.TheVariants.{Reading, Memory}

pub nothing_read : (input : Option (List ℕ)) (r : ReadBuffer) → ReadsOn input input r r
nothing_read input r = record {
  more = [];
  read = Consumes-nil input;
  held = sym (append-nil r.held);
  least = omega arith;
  most = omega arith;
  end = λ knows. knows;
}

-- ---- with what was taken before

-- a text was taken, and then more was read
takes_then_reads : (in0 in1 in2 : Option (List ℕ)) (a b c : ReadBuffer) (text : List ℕ) → ReadsOn in0 in1 a (put_back text b) → ReadsOn in1 in2 b c
    → ReadsOn in0 in2 a (put_back text c)
takes_then_reads in0 in1 in2 a b c text first second =
    let long : length (first.more ++ second.more) ≡ length first.more + length second.more = length-append first.more second.more in
    record {
      more = first.more ++ second.more;
      read = Consumes-trans in0 in1 in2 first.more second.more first.read second.read;
      held =
          ap (λ l. text ++ l) second.held ∙ sym (append_assoc text b.held second.more) ∙ ap (λ l. l ++ second.more) first.held
          ∙ append_assoc a.held first.more second.more;
      least = omega (arith, first.least, second.least, long);
      most = omega (arith, first.most, second.most, long);
      end = λ knows. second.end (first.end knows);
    }

-- and one more from the start of what is there
takes_more : (in0 in1 : Option (List ℕ)) (a b : ReadBuffer) (text more rest : List ℕ) → ReadsOn in0 in1 a (put_back text b) → b.held ≡ more ++ rest
    → ReadsOn in0 in1 a (put_back (text ++ more) (record b { held = rest }))
takes_more in0 in1 a b text more rest reads cut = record {
  more = reads.more;
  read = reads.read;
  held = append_assoc text more rest ∙ ap (λ l. text ++ l) (sym cut) ∙ reads.held;
  least = reads.least;
  most = reads.most;
  end = reads.end;
}

-- ---- the same, each read made while more was awaited

module _ {R : Type 0} (source : Source R) where
  pub nothing_yet : (Awaits : List ℕ → Type 0) (s : R) (r : ReadBuffer) → ReadsOnWhile source Awaits (read_moment s r) (read_moment s r)
  nothing_yet Awaits s r = record { on = nothing_read (source.remaining s) r; waits = no_read (counted source.gives) Awaits (s, r.reads_left) r.held }

  pub once : (Awaits : List ℕ → Type 0) (s t : R) (a b : ReadBuffer) → Awaits a.held → ReadsOn (source.remaining s) (source.remaining t) a b
      → IsRead source.gives (read_moment s a) (read_moment t b)
      → ReadsOnWhile source Awaits (read_moment s a) (read_moment t b)
  once Awaits s t a b awaits on read =
      record { on = on; waits = one_read (counted source.gives) Awaits (s, a.reads_left) (t, b.reads_left) a.held b.held read.0 awaits (read.1, read.3) read.2 }

  -- seen from the start of what was taken before
  pub prefix_then : (Awaits More : List ℕ → Type 0) (s m t : R) (a b c : ReadBuffer) (text : List ℕ) → ((h : List ℕ) → More h → Awaits (text ++ h))
      → ReadsOnWhile source Awaits (read_moment s a) (read_moment m (put_back text b)) → ReadsOnWhile source More (read_moment m b) (read_moment t c)
      → ReadsOnWhile source Awaits (read_moment s a) (read_moment t (put_back text c))
  prefix_then Awaits More s m t a b c text more first second = record {
    on = takes_then_reads (source.remaining s) (source.remaining m) (source.remaining t) a b c text first.on second.on;
    waits = reads_in_turn (counted source.gives) Awaits (s, a.reads_left) (m, b.reads_left) (t, c.reads_left) a.held (text ++ b.held) (text ++ c.held)
        first.waits
        (reads_after (counted source.gives) More Awaits text more (m, b.reads_left) (t, c.reads_left) b.held c.held second.waits);
  }

  pub then_on : (Awaits : List ℕ → Type 0) (s m t : R) (a b c : ReadBuffer) → ReadsOnWhile source Awaits (read_moment s a) (read_moment m b)
      → ReadsOnWhile source Awaits (read_moment m b) (read_moment t c)
      → ReadsOnWhile source Awaits (read_moment s a) (read_moment t c)
  then_on Awaits s m t a b c first second = prefix_then Awaits Awaits s m t a b c [] (λ h awaits. awaits) first second

  -- one more text from the start of what is there
  pub prefix_more : (Awaits : List ℕ → Type 0) (s t : R) (a b : ReadBuffer) (text more rest : List ℕ)
      → ReadsOnWhile source Awaits (read_moment s a) (read_moment t (put_back text b))
      → b.held ≡ more ++ rest
      → ReadsOnWhile source Awaits (read_moment s a) (read_moment t (put_back (text ++ more) (record b { held = rest })))
  prefix_more Awaits s t a b text more rest reads cut = record {
    on = takes_more (source.remaining s) (source.remaining t) a b text more rest reads.on cut;
    waits =
        subst (λ (l : List ℕ). ReadsWhile (read_rule (counted source.gives) Awaits) (input_moment (s, a.reads_left) a.held) (input_moment (t, b.reads_left) l))
        (ap (λ l. text ++ l) cut ∙ sym (append_assoc text more rest)) reads.waits;
  }

  pub prefixes_join : (Awaits More : List ℕ → Type 0) (s m t : R) (a b c : ReadBuffer) (text more : List ℕ) → ((h : List ℕ) → More h → Awaits (text ++ h))
      → ReadsOnWhile source Awaits (read_moment s a) (read_moment m (put_back text b))
      → ReadsOnWhile source More (read_moment m b) (read_moment t (put_back more c))
      → ReadsOnWhile source Awaits (read_moment s a) (read_moment t (put_back (text ++ more) c))
  prefixes_join Awaits More s m t a b c text more behind first second =
      let all = prefix_then Awaits More s m t a b (put_back more c) text behind first second in
      prefix_more Awaits s t a (put_back more c) text more c.held all refl

  -- ---- calls that ended in an error

  -- more was awaited of what is there, and one more read gave nothing
  pub stops_there : (Awaits : List ℕ → Type 0) (s m t : R) (failed : Bool) (a b : ReadBuffer) (bytes : List ℕ) (why : ReadError)
      → ReadsOnWhile source Awaits (read_moment s a) (read_moment m b) → bytes ≡ b.held → Awaits bytes
      → ReadFails source (read_moment m b) (failed_call t failed why) → StopsWhile source Awaits (read_moment s a) (failed_call t failed why)
  stops_there Awaits s m t failed a b bytes why reads are awaits last =
      record { here = read_moment m b; reads = reads; awaits = subst Awaits are awaits; last = last }

  pub fails_put_back : (s t : R) (failed : Bool) (r : ReadBuffer) (text : List ℕ) (why : ReadError)
      → ReadFails source (read_moment s r) (failed_call t failed why)
      → ReadFails source (read_moment s (put_back text r)) (failed_call t failed why)
  fails_put_back s t failed r text Reading last = last
  fails_put_back s t failed r text Memory last = last

-- ---- what was seen, among more

-- what held of the bytes seen holds of them among more
pub seen_stays : (P : List ℕ → Type 0) (bytes old new more : List ℕ) → bytes ≡ old → new ≡ old ++ more → P bytes → P (take (length bytes) new)
seen_stays P bytes old new more are is p = subst P (sym (ap (take (length bytes)) (is ∙ ap (λ l. l ++ more) (sym are)) ∙ take-append_seam bytes more)) p

pub fits_still : (bytes old new more : List ℕ) → bytes ≡ old → new ≡ old ++ more → length bytes ≤ length new
fits_still bytes old new more are is = omega (arith, ap length are, ap length is, length-append old more)

module _ {R : Type 0} (source : Source R) where
  -- one more read, where more was awaited of what is there
  pub reads_more : (Awaits : List ℕ → Type 0) (s m t : R) (old here new : ReadBuffer) (bytes : List ℕ)
      → ReadsOnWhile source Awaits (read_moment s old) (read_moment m here)
      → bytes ≡ here.held
      → Awaits bytes → ReadsOn (source.remaining m) (source.remaining t) here new → IsRead source.gives (read_moment m here) (read_moment t new)
      → ReadsOnWhile source Awaits (read_moment s old) (read_moment t new)
  reads_more Awaits s m t old here new bytes so are awaits on read =
      then_on source Awaits s m t old here new so (once source Awaits m t here new (subst Awaits are awaits) on read)

  -- a text was taken from what is there
  pub with_text : (Awaits : List ℕ → Type 0) (s t : R) (old here new : ReadBuffer) (front text : List ℕ)
      → ReadsOnWhile source Awaits (read_moment s old) (read_moment t (put_back front here)) → here ≡ put_back text new
      → ReadsOnWhile source Awaits (read_moment s old) (read_moment t (put_back (front ++ text) new))
  with_text Awaits s t old here new front text reads cut =
      let More : List ℕ → Type 0 = λ h. Awaits (front ++ h) in
      prefixes_join source Awaits More s t t old here new front text (λ h awaits. awaits) reads
      (subst (λ (b : ReadBuffer). ReadsOnWhile source More (read_moment t here) (read_moment t b)) cut (nothing_yet source More t here))

  -- one more read, seen from the start of a text that was taken
  pub read_after : (Awaits : List ℕ → Type 0) (s m t : R) (old here new : ReadBuffer) (front : List ℕ)
      → ReadsOnWhile source Awaits (read_moment s old) (read_moment m (put_back front here)) → Awaits (front ++ here.held)
      → ReadsOn (source.remaining m) (source.remaining t) here new → IsRead source.gives (read_moment m here) (read_moment t new)
      → ReadsOnWhile source Awaits (read_moment s old) (read_moment t (put_back front new))
  read_after Awaits s m t old here new front reads awaits on read =
      let More : List ℕ → Type 0 = λ h. Awaits (front ++ h) in
      prefix_then source Awaits More s m t old here new front (λ h more. more) reads (once source More m t here new awaits on read)

  -- and one that gave nothing
  pub stops_reading : (Awaits : List ℕ → Type 0) (s m t : R) (failed : Bool) (old here : ReadBuffer) (front : List ℕ) (why : ReadError)
      → ReadsOnWhile source Awaits (read_moment s old) (read_moment m (put_back front here))
      → Awaits (front ++ here.held) → ReadFails source (read_moment m here) (failed_call t failed why)
      → StopsWhile source Awaits (read_moment s old) (failed_call t failed why)
  stops_reading Awaits s m t failed old here front why reads awaits last =
      stops_there source Awaits s m t failed old (put_back front here) (front ++ here.held) why reads refl awaits
      (fails_put_back source m t failed here front why last)
