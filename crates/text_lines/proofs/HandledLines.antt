-- Lines that are handled one after the other.
use Rattle.std.proofs.Common.{◌≡◌, ℕ, ◌+◌, ◌≤◌, Bool, true, false, ◌||◌, inl, inr, List, [], ◌∷◌, ◌++◌, length, Option, Some, None, refl, sym, ap, ◌∙◌, subst}
use Rattle.std.proofs.Common.{arith, append-nil, append_assoc, length-append}
use Rattle.std.specs.Io.KnownBytes.{Appends, Consumes, IsAtEnd}
use Rattle.std.proofs.KnownBytes.{Consumes-nil, Consumes-trans}
use Rattle.std.proofs.Math.Bool.{or-false, or_assoc}
use Rattle.text_lines.specs.declared.run_error.RunError.{RunError}
use Rattle.text_lines.specs.declared.run_error.RunError.TheVariants.{Device, Memory}
use Rattle.session_devices.specs.declared.limits.TheConstants.{MAX_READS}
use Rattle.text_lines.specs.Lines.{lines_of}
use Rattle.text_lines.specs.LineReads.{Feed, StopsReading, TakesLine, TakesNone, feed_moment}
use Rattle.text_lines.specs.RunErrors.{Holds, IsWhy, Moves}
use Rattle.session_devices.specs.Traffic.{Traffic}
use Rattle.text_lines.specs.HandledLines.{Handling, HandlesLine, LineReply, LineResult, LineRun, NumberedLine}
use Rattle.text_lines.specs.HandledLines.{handling_of, joined, nothing_said, numbered, run_of}
use Rattle.text_lines.specs.HandledLines.{AnswersAll, AnswersSome, SoFar, TakesEach, TookAll, TookSome}
use Rattle.text_lines.proofs.Buffers.{moves_nothing, moves_more, moves_then, some_written}

abbrev said_of : List ℕ → Bool → LineReply
said_of text faulty = record { text = text; faulty = faulty }

abbrev result_at : {S : Type 0} → S → LineReply → LineResult S
result_at held reply = record { reply = reply; held = held }

abbrev moved : Option (List ℕ) → Option (List ℕ) → Bool → Traffic
moved before after failed = record { before = before; after = after; failed = failed }

said_is : (a b : List ℕ) (f g : Bool) → a ≡ b → f ≡ g → said_of a f ≡ said_of b g
said_is a b f g e h = ap (λ t. said_of t f) e ∙ ap (said_of b) h

joined_last : (x : LineReply) → joined nothing_said x ≡ joined x nothing_said
joined_last x = said_is x.text (x.text ++ []) x.faulty (x.faulty || false) (sym (append-nil x.text)) (sym (or-false x.faulty))

joined_assoc : (a b c : LineReply) → joined (joined a b) c ≡ joined a (joined b c)
joined_assoc a b c = said_is _ _ _ _ (append_assoc a.text b.text c.text) (or_assoc a.faulty b.faulty c.faulty)

-- the line after these has the next number
numbered_snoc : (n : ℕ) (lines : List (List ℕ)) (line : List ℕ)
    → numbered n (lines ++ line ∷ []) ≡ numbered n lines ++ record { number = n + length lines; line = line } ∷ []
numbered_snoc n [] line = let same : n ≡ n + 0 = omega arith in ap (λ i. record { number = i; line = line } ∷ []) same
numbered_snoc n (l ∷ lines) line =
    let same : (n + 1) + length lines ≡ n + length (l ∷ lines) = omega arith in
    let first : NumberedLine = record { number = n; line = l } in
    ap (λ ls. first ∷ ls) (numbered_snoc (n + 1) lines line ∙ ap (λ i. numbered (n + 1) lines ++ record { number = i; line = line } ∷ []) same)

-- one more line was handled
each_more : {S : Type 0} (takes : HandlesLine S) (s u : S) (lines : List NumberedLine) (here : NumberedLine) (result : LineResult S) (reply : LineReply)
    → TakesEach takes s lines result → takes result.held here.number here.line reply u
    → TakesEach takes s (lines ++ here ∷ []) (record { reply = joined result.reply reply; held = u })
each_more {S = S} takes s u [] here result reply e k =
    let first : LineResult S = record { reply = reply; held = u } in
    let others : LineResult S = record { reply = nothing_said; held = u } in
    let none : result.reply ≡ nothing_said = ap (λ (r : LineResult S). r.reply) e in
    let whole : joined result.reply reply ≡ joined reply nothing_said = ap (λ a. joined a reply) none ∙ joined_last reply in
    (first, others, subst (λ a. takes a here.number here.line reply u) (ap (λ (r : LineResult S). r.held) e) k, refl, ap (result_at u) whole)
each_more {S = S} takes s u (l ∷ lines) here result reply e k =
    let last : takes e.1.held here.number here.line reply u =
    subst (λ a. takes a here.number here.line reply u) (ap (λ (r : LineResult S). r.held) e.4) k in
    let said : joined result.reply reply ≡ joined e.0.reply (joined e.1.reply reply) =
    ap (λ (r : LineResult S). joined r.reply reply) e.4 ∙ joined_assoc e.0.reply e.1.reply reply in
    (e.0, result_at u (joined e.1.reply reply), e.2, each_more takes e.0.held u lines here e.1 reply e.3 last, ap (result_at u) said)

pub begins : {S : Type 0} (takes : HandlesLine S) (in0 out0 : Option (List ℕ)) (i o : Bool) (s : S) (feed : Feed) (buffer : List ℕ)
    → feed ≡ record { waiting = []; reads_left = MAX_READS; ended = false } → buffer ≡ []
    → SoFar (run_of (handling_of takes s s) (moved in0 in0 i) (moved out0 out0 o)) (record { feed = feed; waits = buffer; number = 0; faulty = false })
begins takes in0 out0 i o s feed buffer is none = rw (is, none) record {
  taken = [];
  lines = [];
  reply = nothing_said;
  read = Consumes-nil in0;
  end = λ e. absurd cc;
  split = λ more come. refl;
  count = refl;
  few = omega arith;
  least = λ goes. omega arith;
  each = refl;
  wrote = moves_nothing out0 [];
  faulty_is = refl;
}

module _ {S : Type 0} (takes : HandlesLine S) (in0 in1 in2 out0 out1 out2 out3 : Option (List ℕ)) (i1 i2 o1 o3 : Bool) (s t u : S) (feed feed2 : Feed)
    (w1 w2 w3 w4 : List ℕ) (n : ℕ) (faulty here : Bool) (line text : List ℕ) where
  pub goes_on : SoFar (run_of (handling_of takes s t) (moved in0 in1 i1) (moved out0 out1 o1)) (record { feed = feed; waits = w1; number = n; faulty = faulty })
      → TakesLine (feed_moment in1 feed) (feed_moment in2 feed2) line → Moves out1 out2 w1 w2
      → takes t (n + 1) line (record { text = text; faulty = here }) u → w3 ≡ w2 ++ text → Moves out2 out3 w3 w4
      → SoFar (run_of (handling_of takes s u) (moved in0 in2 i2) (moved out0 out3 o3))
      (record { feed = feed2; waits = w4; number = n + 1; faulty = faulty || here })
  goes_on f l first k says last =
      let x : LineReply = record { text = text; faulty = here } in
      let next : NumberedLine = record { number = 1 + length f.lines; line = line } in
      let size : n + 1 ≡ 1 + length f.lines = omega (arith, f.count) in
      let before : Moves out0 out2 f.reply.text w2 = moves_then out0 out1 out2 f.reply.text w1 w2 f.wrote first in
      let more : Moves out0 out2 (f.reply.text ++ text) w3 =
      subst (Moves out0 out2 (f.reply.text ++ text)) (sym says) (moves_more out0 out2 f.reply.text w2 text before) in
      let each : TakesEach takes s (numbered 1 f.lines ++ next ∷ []) (result_at u (joined f.reply x)) =
      each_more takes s u (numbered 1 f.lines) next (result_at t f.reply) x f.each (subst (λ i. takes t i line x u) size k) in
      record {
        taken = f.taken ++ l.taken;
        lines = f.lines ++ line ∷ [];
        reply = joined f.reply x;
        read = Consumes-trans in0 in1 in2 f.taken l.taken f.read l.read;
        end = l.end f.end;
        split = λ more come. ap lines_of (append_assoc f.taken l.taken more)
            ∙ f.split (l.taken ++ more) (λ e. let g = l.stays e in let c = come g.1 in cc)
            ∙ ap (λ ls. f.lines ++ lines_of ls) (sym (append_assoc feed.waiting l.taken more))
            ∙ ap (λ ls. f.lines ++ ls) (l.first more come) ∙ sym (append_assoc f.lines (line ∷ []) (lines_of (feed2.waiting ++ more)));
        count = rw (length-append f.lines (line ∷ [])) (omega (arith, f.count));
        few = omega (arith, f.few, l.shorter);
        least = λ goes. at_least goes (goes_before goes);
        each = subst (λ ls. TakesEach takes s ls (result_at u (joined f.reply x))) (sym (numbered_snoc 1 f.lines line)) each;
        wrote = moves_then out0 out2 out3 (f.reply.text ++ text) w3 w4 more last;
        faulty_is = ap (λ b. b || here) f.faulty_is;
      }
    where
      flag : (b : Bool) → (b ≡ true → feed2.ended ≡ true) → feed2.ended ≡ false → b ≡ false
      flag true h e = absurd (let both : true ≡ false = sym (h refl) ∙ e in cc)
      flag false h e = refl

      goes_before : feed2.ended ≡ false → feed.ended ≡ false
      goes_before e = flag feed.ended (λ b. (l.stays b).1) e

      at_least : feed2.ended ≡ false → feed.ended ≡ false → MAX_READS ≤ length (f.taken ++ l.taken) + feed2.reads_left
      at_least e b = omega (arith, f.least b, l.least e, length-append f.taken l.taken)

none_after : (xs ys : List ℕ) → xs ++ ys ≡ [] → ys ≡ []
none_after [] ys e = e
none_after (x ∷ xs) ys e = absurd cc

pub ends : {S : Type 0} (takes : HandlesLine S) (in0 in1 in2 out0 out1 out2 : Option (List ℕ)) (i1 i2 o1 o2 : Bool) (s t : S) (feed feed2 : Feed)
    (w1 w2 : List ℕ) (n : ℕ) (faulty : Bool)
    → SoFar (run_of (handling_of takes s t) (moved in0 in1 i1) (moved out0 out1 o1)) (record { feed = feed; waits = w1; number = n; faulty = faulty })
    → TakesNone (feed_moment in1 feed) (feed_moment in2 feed2) → Moves out1 out2 w1 w2
    → TookAll (run_of (handling_of takes s t) (moved in0 in2 i2) (moved out0 out2 o2)) w2 faulty
ends takes in0 in1 in2 out0 out1 out2 i1 i2 o1 o2 s t feed feed2 w1 w2 n faulty f l last =
    let none : l.taken ≡ [] = none_after feed.waiting l.taken l.nothing in
    let all : lines_of (f.taken ++ l.taken) ≡ f.lines = f.split l.taken (λ e. none) ∙ ap (λ x. f.lines ++ lines_of x) l.nothing ∙ append-nil f.lines in
    record {
      all = record {
        bytes = f.taken ++ l.taken;
        reply = f.reply;
        read = Consumes-trans in0 in1 in2 f.taken l.taken f.read l.read;
        whole = l.end f.end;
        each = subst (λ ls. TakesEach takes s (numbered 1 ls) (result_at t f.reply)) (sym all) f.each;
        faulty_is = f.faulty_is;
      };
      wrote = moves_then out0 out1 out2 f.reply.text w1 w2 f.wrote last;
    }

-- ---- a run that stops

-- what the input holds after the bytes that were read, if it is known
abbrev rest_after : Option (List ℕ) → Option (List ℕ) → List ℕ
rest_after None in1 = []
rest_after (Some x) None = []
rest_after (Some x) (Some y) = y

holds_both : (in0 in1 : Option (List ℕ)) (taken : List ℕ) → Consumes in0 in1 taken → Holds in0 (taken ++ rest_after in0 in1)
holds_both None in1 taken c = tt
holds_both (Some x) None taken c = absurd c
holds_both (Some x) (Some y) taken c = c

-- all that the input holds, if it is known
abbrev pub nothing_read : Option (List ℕ) → List ℕ
nothing_read None = []
nothing_read (Some x) = x

pub holds_nothing_read : (in0 : Option (List ℕ)) → Holds in0 ([] ++ nothing_read in0)
holds_nothing_read None = tt
holds_nothing_read (Some x) = refl

none_at_end : (in0 in1 in2 : Option (List ℕ)) (a b : List ℕ) → Consumes in0 in1 a → Consumes in1 in2 b → IsAtEnd in1 → rest_after in0 in2 ≡ []
none_at_end None in1 in2 a b c d e = refl
none_at_end (Some x) None in2 a b c d e = absurd c
none_at_end (Some x) (Some y) None a b c d e = refl
none_at_end (Some x) (Some y) (Some z) a b c d e = none_after b z (sym d ∙ e)

why_weaker : (h : RunError) (i o : Bool) (A B : Type 0) → (A → B) → IsWhy h i o A → IsWhy h i o B
why_weaker Device i o A B f (inl e) = inl e
why_weaker Device i o A B f (inr (inl e)) = inr (inl e)
why_weaker Device i o A B f (inr (inr a)) = inr (inr (f a))
why_weaker Memory i o A B f e = e

pub stops : {S : Type 0} (takes : HandlesLine S) (in0 in1 in2 out0 out1 out2 : Option (List ℕ)) (i1 i2 o1 o2 : Bool) (s t u : S) (feed : Feed)
    (w1 w2 : List ℕ) (n : ℕ) (faulty : Bool) (h : RunError)
    → SoFar (run_of (handling_of takes s t) (moved in0 in1 i1) (moved out0 out1 o1)) (record { feed = feed; waits = w1; number = n; faulty = faulty })
    → StopsReading feed (moved in1 in2 i2) o2 h → Moves out1 out2 w1 w2
    → TookSome (run_of (handling_of takes s u) (moved in0 in2 i2) (moved out0 out2 o2)) w2 h
stops takes in0 in1 in2 out0 out1 out2 i1 i2 o1 o2 s t u feed w1 w2 n faulty h f l last =
    let rest = rest_after in0 in2 in
    let read = Consumes-trans in0 in1 in2 f.taken l.taken f.read l.read in
    record {
      first = record {
        taken = f.taken ++ l.taken;
        rest = rest;
        lines = f.lines;
        others = lines_of (feed.waiting ++ (l.taken ++ rest));
        reply = f.reply;
        last = t;
        read = read;
        held = holds_both in0 in2 (f.taken ++ l.taken) read;
        split = ap lines_of (append_assoc f.taken l.taken rest) ∙ f.split (l.taken ++ rest)
            (λ e. ap (λ x. x ++ rest) (l.stays e) ∙ none_at_end in0 in1 in2 f.taken l.taken f.read l.read (f.end e));
        each = f.each;
        why = why_weaker h i2 o2 _ _ (λ met. omega (arith, f.least met.0, met.1, length-append f.taken l.taken)) l.why;
      };
      wrote = moves_then out0 out1 out2 f.reply.text w1 w2 f.wrote last;
    }

-- nothing was read any more
pub stays : (in1 : Option (List ℕ)) (feed : Feed) (i o : Bool) (h : RunError) → IsWhy h i o ⊥ → StopsReading feed (moved in1 in1 i) o h
stays in1 feed i o h why = record {
  taken = [];
  read = Consumes-nil in1;
  stays = λ e. refl;
  why = why_weaker h i o ⊥ _ (λ b. absurd b) why;
}

-- a line was read and not handled because memory ran out
pub line_lost : (in1 in2 : Option (List ℕ)) (feed feed2 : Feed) (line : List ℕ) (i o : Bool)
    → TakesLine (feed_moment in1 feed) (feed_moment in2 feed2) line → i ≡ false → o ≡ false
    → StopsReading feed (moved in1 in2 i) o Memory
line_lost in1 in2 feed feed2 line i o l ie oe = record {
  taken = l.taken;
  read = l.read;
  stays = λ e. (l.stays e).0;
  why = (ie, oe);
}

-- ---- the whole

pub all_answered : {S : Type 0} (handling : Handling S) (input : Traffic) (out0 out1 out2 : Option (List ℕ)) (o1 o2 : Bool) (w : List ℕ) (faulty : Bool)
    → TookAll (run_of handling input (moved out0 out1 o1)) w faulty → Moves out1 out2 w []
    → AnswersAll (run_of handling input (moved out0 out2 o2)) faulty
all_answered handling input out0 out1 out2 o1 o2 w faulty a last =
    let whole = moves_then out0 out1 out2 a.all.reply.text w [] a.wrote last in
    record {
      all = a.all;
      written = subst (Appends out0 out2) (sym (whole.2 ∙ append-nil whole.0)) whole.1;
    }

pub holds_all : (in0 in1 : Option (List ℕ)) (taken : List ℕ) → Consumes in0 in1 taken → IsAtEnd in1 → Holds in0 (taken ++ [])
holds_all None in1 taken c e = tt
holds_all (Some x) None taken c e = absurd c
holds_all (Some x) (Some y) taken c e = c ∙ ap (λ z. taken ++ z) e

pub all_lost : {S : Type 0} (handling : Handling S) (input : Traffic) (out0 out1 out2 : Option (List ℕ)) (o1 o2 : Bool) (w w2 : List ℕ) (faulty : Bool)
    (h : RunError)
    → TookAll (run_of handling input (moved out0 out1 o1)) w faulty → Moves out1 out2 w w2 → h ≡ Device → o2 ≡ true
    → AnswersSome (run_of handling input (moved out0 out2 o2)) h
all_lost handling input out0 out1 out2 o1 o2 w w2 faulty h a last is failed = rw is record {
  first = record {
    taken = a.all.bytes;
    rest = [];
    lines = lines_of a.all.bytes;
    others = [];
    reply = a.all.reply;
    last = handling.after;
    read = a.all.read;
    held = holds_all input.before input.after a.all.bytes a.all.read a.all.whole;
    split = ap lines_of (append-nil a.all.bytes) ∙ sym (append-nil (lines_of a.all.bytes));
    each = a.all.each;
    why = inr (inl failed);
  };
  written = some_written out0 out2 a.all.reply.text w2 (moves_then out0 out1 out2 a.all.reply.text w w2 a.wrote last);
}

pub some_answered : {S : Type 0} (handling : Handling S) (input : Traffic) (out0 out1 out2 : Option (List ℕ)) (o1 o2 : Bool) (w w2 : List ℕ) (h h2 : RunError)
    → (a : TookSome (run_of handling input (moved out0 out1 o1)) w h) → Moves out1 out2 w w2
    → (IsWhy h input.failed o1 (MAX_READS ≤ length a.first.taken) → IsWhy h2 input.failed o2 (MAX_READS ≤ length a.first.taken))
    → AnswersSome (run_of handling input (moved out0 out2 o2)) h2
some_answered handling input out0 out1 out2 o1 o2 w w2 h h2 a last why = record {
  first = record {
    taken = a.first.taken;
    rest = a.first.rest;
    lines = a.first.lines;
    others = a.first.others;
    reply = a.first.reply;
    last = a.first.last;
    read = a.first.read;
    held = a.first.held;
    split = a.first.split;
    each = a.first.each;
    why = why a.first.why;
  };
  written = some_written out0 out2 a.first.reply.text w2 (moves_then out0 out1 out2 a.first.reply.text w w2 a.wrote last);
}

-- what waits to be written is left
pub some_left : {S : Type 0} (run : LineRun S) (w : List ℕ) (h h2 : RunError) → h ≡ h2 → TookSome run w h → AnswersSome run h2
some_left run w h h2 is a = rw (sym is) record {
  first = a.first;
  written = some_written run.output.before run.output.after a.first.reply.text w a.wrote;
}
