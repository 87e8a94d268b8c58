-- Removing a line from the bytes that were read.
use Rattle.std.proofs.Common.{◌≡◌, ℕ, suc, zero, ◌+◌, ◌≤◌, ◌<◌, ◌==◌, true, false, not, MatchBool, List, [], ◌∷◌, ◌++◌, length, take, drop, Option, refl, sym}
use Rattle.std.proofs.Common.{ap, ◌∙◌, subst, arith, slice_index, append_assoc, append-nil, length-append, length-drop, add-one}
use Rattle.std.proofs.Math.Seq.{take-length}
use Rattle.std.proofs.lemmas.Bool.{false_from_ne_true}
use Rattle.std.proofs.KnownBytes.{Consumes-nil, Consumes-trans}
use Rattle.text_lines.specs.Lines.{lines_of, without_return, HasNoFeed}
use Rattle.text_lines.specs.LineReads.{Feed, Fills, Gathers, TakesLine, TakesNone, feed_moment}
use Rattle.text_lines.proofs.LineEnds.{HasNoFeed-append, line_first, line_last}

pub no_feed_below : (hay : List ℕ) (k : ℕ) → ((j : ℕ) → 0 ≤ j → j < k → (slice_index hay j == 10) ≡ true → ⊥) → HasNoFeed (take k hay)
no_feed_below hay zero none = tt
no_feed_below [] (suc k) none = tt
no_feed_below (c ∷ hay) (suc k) none =
    (false_from_ne_true (c == 10) (none 0 (omega arith) (omega arith)), no_feed_below hay k (λ j low below. none (suc j) (omega arith) (omega arith)))

pub no_feed : (hay : List ℕ) → ((j : ℕ) → 0 ≤ j → j < length hay → (slice_index hay j == 10) ≡ true → ⊥) → HasNoFeed hay
no_feed hay none = subst HasNoFeed (take-length hay) (no_feed_below hay (length hay) none)

feed_at : (hay : List ℕ) (k : ℕ) → k < length hay → (slice_index hay k == 10) ≡ true → hay ≡ take k hay ++ 10 ∷ drop (suc k) hay
feed_at [] k below is = absurd (omega arith)
feed_at (c ∷ hay) zero below is = let e : c ≡ 10 = search arith in ap (λ x. x ∷ hay) e
feed_at (c ∷ hay) (suc k) below is = ap (λ l. c ∷ l) (feed_at hay k (omega arith) is)

pub starts : (in0 : Option (List ℕ)) (old : Feed) → Gathers (feed_moment in0 old) (feed_moment in0 old) []
starts in0 old = record {
  taken = [];
  read = Consumes-nil in0;
  joined = append-nil old.waiting;
  plain = tt;
  end = λ h. h;
  stays = λ e. (refl, e);
  shorter = omega arith;
  least = λ goes. omega arith;
}

pub gathers_more : (in0 in1 in2 : Option (List ℕ)) (old now new : Feed) (line : List ℕ) → Gathers (feed_moment in0 old) (feed_moment in1 now) line
    → HasNoFeed now.waiting → now.ended ≡ false → Fills (feed_moment in1 (record now { waiting = [] })) (feed_moment in2 new)
    → Gathers (feed_moment in0 old) (feed_moment in2 new) (line ++ now.waiting)
gathers_more in0 in1 in2 old now new line g plain goes f = record {
  taken = g.taken ++ new.waiting;
  read = Consumes-trans in0 in1 in2 g.taken new.waiting g.read f.read;
  joined = sym (append_assoc old.waiting g.taken new.waiting) ∙ ap (λ l. l ++ new.waiting) g.joined;
  plain = HasNoFeed-append line now.waiting g.plain plain;
  end = λ h. f.end;
  stays = λ e. let s = g.stays e in absurd cc;
  shorter = omega (arith, g.shorter, f.fewer, f.few, length-append line now.waiting);
  least = λ on. omega (arith, g.least goes, f.least on, length-append g.taken new.waiting);
}

pub takes_line : (in0 in1 : Option (List ℕ)) (old now : Feed) (line : List ℕ) (k : ℕ) → Gathers (feed_moment in0 old) (feed_moment in1 now) line
    → k < length now.waiting → (slice_index now.waiting k == 10) ≡ true
    → ((j : ℕ) → 0 ≤ j → j < k → (slice_index now.waiting j == 10) ≡ true → ⊥)
    → TakesLine (feed_moment in0 old) (feed_moment in1 (record now { waiting = drop (k + 1) now.waiting })) (without_return (line ++ take k now.waiting))
takes_line in0 in1 old now line k g below is none =
    let w = take k now.waiting in
    let rest = drop (suc k) now.waiting in
    let split : now.waiting ≡ w ++ 10 ∷ rest = feed_at now.waiting k below is in
    let joined : old.waiting ++ g.taken ≡ (line ++ w) ++ 10 ∷ rest = g.joined ∙ ap (λ l. line ++ l) split ∙ sym (append_assoc line w (10 ∷ rest)) in
    let plain : HasNoFeed (line ++ w) = HasNoFeed-append line w g.plain (no_feed_below now.waiting k none) in
    rw add-one record {
      taken = g.taken;
      read = g.read;
      end = g.end;
      first =
          λ more come. ap (λ l. lines_of (l ++ more)) joined ∙ ap lines_of (append_assoc (line ++ w) (10 ∷ rest) more)
          ∙ line_first (line ++ w) (rest ++ more) plain;
      stays = g.stays;
      shorter = omega (arith, length-drop (suc k) now.waiting, g.shorter);
      least = g.least;
    }

ends_line : (in0 in1 : Option (List ℕ)) (old now : Feed) (line all : List ℕ) → line ++ now.waiting ≡ all
    → Gathers (feed_moment in0 old) (feed_moment in1 now) line → HasNoFeed now.waiting → now.ended ≡ true
    → MatchBool (not (length all == 0)) (TakesLine (feed_moment in0 old) (feed_moment in1 (record now { waiting = [] })) all)
    (TakesNone (feed_moment in0 old) (feed_moment in1 (record now { waiting = [] })))
ends_line in0 in1 old now line [] e g plain done = record {
  taken = g.taken;
  read = g.read;
  end = λ h. g.end h done;
  nothing = g.joined ∙ e;
}
ends_line in0 in1 old now line (c ∷ all) e g plain done =
    let some : (length (c ∷ all) == 0) ≡ false = search arith in
    let size : length line + length now.waiting ≡ length (c ∷ all) = sym (length-append line now.waiting) ∙ ap length e in
    rw some record {
      taken = g.taken;
      read = g.read;
      end = g.end;
      first =
          λ more come. ap (λ l. lines_of (l ++ more)) (g.joined ∙ e)
          ∙ rw (come done) (ap lines_of (append-nil (c ∷ all)) ∙ line_last c all (subst HasNoFeed e (HasNoFeed-append line now.waiting g.plain plain)));
      stays = g.stays;
      shorter = omega (arith, size, g.shorter);
      least = g.least;
    }

pub ends : (in0 in1 : Option (List ℕ)) (old now : Feed) (line : List ℕ) → Gathers (feed_moment in0 old) (feed_moment in1 now) line → HasNoFeed now.waiting
    → now.ended ≡ true
    → MatchBool (not (length (line ++ now.waiting) == 0)) (TakesLine (feed_moment in0 old)
    (feed_moment in1 (record now { waiting = [] })) (line ++ now.waiting))
    (TakesNone (feed_moment in0 old) (feed_moment in1 (record now { waiting = [] })))
ends in0 in1 old now line g plain done = ends_line in0 in1 old now line (line ++ now.waiting) refl g plain done
