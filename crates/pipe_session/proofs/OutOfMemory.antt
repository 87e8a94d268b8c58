-- What a session wrote before memory ran out.
use Rattle.std.proofs.Common.{◌≡◌, ℕ, ◌+◌, ◌≤◌, Bool, true, false, List, [], ◌∷◌, ◌++◌, length, refl, inl, sym, ap, ◌∙◌, subst, arith, append_assoc, append-nil}
use Rattle.std.proofs.Common.{length-append, Option, Some, None, All}
use Rattle.std.specs.Io.KnownBytes.{Consumes, Appends}
use Rattle.std.proofs.lemmas.Bool.{false≢true}
use Rattle.std.proofs.lemmas.List.Elements.{All-head, All-tail, All-cons, All-nil}
use Rattle.std.proofs.lemmas.Grind.{flat_map-append}
use Rattle.trace_model.specs.LimitedHistories.{LimitedHistory}
use Rattle.pipe_session.specs.DirectCalls.{direct_store}
use Rattle.http_session.specs.Sessions.{Exchange, StaysOpen, texts, Store, moment, Run, EndsAs, FailsAs, last_of}
use Rattle.http_session.specs.Sessions.{Ending, Ending.{end_of_input, closing, malformed}}
use Rattle.http_session.specs.Sessions.{malformed_response, response_to, responses, Due, Due.{none_yet, due, due_malformed}, exchange_due, bytes_due}
use Rattle.http_requests.specs.LineLaws.{no_bytes_await}
use Rattle.http_session.specs.declared.whole_session.SessionErrorKind.TheVariants.{Reading}
use Rattle.http_session.specs.declared.whole_session.EndReason.{EndReason}
use Rattle.http_session.specs.declared.whole_session.SessionError.{SessionError}
use Rattle.pipe_session.specs.OneFunction.{NeverWants, Failed, WroteFirst}
use Rattle.std.specs.Prelude.{take}

-- a run in two parts
run_parts : {S : Type 0} (store : Store S) (s : S) (xs ys : List Exchange) (t : S) → Run store s (xs ++ ys) t → (m : S)
    × Run store s xs m × Run store m ys t
run_parts store s [] ys t run = (s, refl, run)
run_parts store s (x ∷ xs) ys t run =
    let later = run_parts store run.0 xs ys t run.2 in
    (later.0, (run.0, run.1, later.1), later.2)

all_front : {X : Type 0} (P : X → Type 0) (xs ys : List X) → All P (xs ++ ys) → All P xs
all_front P [] ys all = All-nil P
all_front P (x ∷ xs) ys all = All-cons P x xs (All-head P x (xs ++ ys) all) (all_front P xs ys (All-tail P x (xs ++ ys) all))

-- the exchanges that left the session open, and at most one more: what stands before some other one left it open
front : (opens last ys zs : List Exchange) (z : Exchange) → length last ≤ 1 → opens ++ last ≡ ys ++ z ∷ zs → (mid : List Exchange) × (opens ≡ ys ++ mid)
front opens last [] zs z few e = (opens, refl)
front [] last (y ∷ ys) zs z few e =
    let long : length last ≡ length (y ∷ (ys ++ z ∷ zs)) = ap length e in
    let more : length (ys ++ z ∷ zs) ≡ length ys + length (z ∷ zs) = length-append ys (z ∷ zs) in
    absurd (omega arith)
front (o ∷ os) last (y ∷ ys) zs z few e =
    let first : o ≡ y = cc e in
    let rest = front os last ys zs z few (cc e) in
    (rest.0, λ i. first i ∷ rest.1 i)

last_few : (e : Ending) → length (last_of e) ≤ 1
last_few end_of_input = omega arith
last_few (closing x) = omega arith
last_few (malformed b) = omega arith

due_few : (d : Due) → length (exchange_due d) ≤ 1
due_few none_yet = omega arith
due_few (due x) = omega arith
due_few (due_malformed b) = omega arith

responses_parts : (xs ys : List Exchange) → responses (xs ++ ys) ≡ responses xs ++ responses ys
responses_parts xs ys = flat_map-append response_to xs ys

-- where nothing more was taken, all of it is left
left_after : (bytes front behind taken : List ℕ) (left : Option (List ℕ)) → Consumes (Some bytes) left taken → taken ≡ front ++ behind → (more : List ℕ)
    × (bytes ≡ front ++ more)
left_after bytes front behind taken None read split = absurd read
left_after bytes front behind taken (Some left) read split = (behind ++ left, read ∙ ap (λ (l : List ℕ). l ++ left) split ∙ append_assoc front behind left)

-- a session up to some exchange is one whose input failed there, and had written the responses before
stopped_there : (bytes before taken rest : List ℕ) (left : Option (List ℕ)) (s t : LimitedHistory) (ys zs : List Exchange) → Consumes (Some bytes) left taken
    → taken ≡ texts (ys ++ zs) ++ rest → All StaysOpen ys
    → Run direct_store s (ys ++ zs) t → NeverWants ys → Failed bytes s (responses ys)
stopped_there bytes before taken rest left s t ys zs read split opens run memory =
    let parts = run_parts direct_store s ys zs t run in
    let alone : ys ≡ ys ++ [] = sym (append-nil ys) in
    let cut : taken ≡ texts ys ++ (texts zs ++ rest) =
    split ∙ ap (λ (l : List ℕ). l ++ rest) (flat_map-append (λ (x : Exchange). x.text) ys zs) ∙ append_assoc (texts ys) (texts zs) rest in
    let behind = left_after bytes (texts ys) (texts zs ++ rest) taken left read cut in
    record {
      before = before;
      left = Some behind.0;
      held = parts.0;
      in_failed = true;
      out_failed = false;
      error = record { answered = length ys; written = 0; cause = Reading };
      fails = record {
        taken = texts ys;
        opens = ys;
        next = none_yet;
        rest = [];
        read = behind.1;
        split = ap texts alone ∙ sym (append-nil (texts (ys ++ [])));
        each = opens;
        next_is = inl no_bytes_await;
        run = subst (λ (l : List Exchange). Run direct_store s l parts.0) alone parts.1;
        within = λ e. absurd (cc e);
        written = ap (λ (l : List ℕ). before ++ l) (sym (append-nil (responses ys)));
        count = refl;
        made = 0;
        cause = (inl refl, refl);
        unwritten = λ _. refl;
        spared = λ e. absurd (false≢true e);
      };
      memory = subst NeverWants alone memory;
    }

-- what was answered before some exchange was written first, whatever was written after
written_first : (bytes before taken rest tail : List ℕ) (left out : Option (List ℕ)) (s t : LimitedHistory) (opens last ys zs : List Exchange) (z : Exchange)
    → length last ≤ 1 → All StaysOpen opens → opens ++ last ≡ ys ++ z ∷ zs → NeverWants ys
    → Consumes (Some bytes) left taken → taken ≡ texts (opens ++ last) ++ rest → Run direct_store s (opens ++ last) t
    → Appends (Some before) out (responses opens ++ tail) → WroteFirst bytes before out s (responses ys)
written_first bytes before taken rest tail left None s t opens last ys zs z few each e memory read split run written = absurd written
written_first bytes before taken rest tail left (Some o) s t opens last ys zs z few each e memory read split run written =
    let mid = front opens last ys zs z few e in
    record {
      more = responses mid.0 ++ tail;
      written = ap Some (written ∙ ap (λ (l : List ℕ). before ++ l) (
          ap (λ (l : List Exchange). responses l ++ tail) mid.1
          ∙ ap (λ (l : List ℕ). l ++ tail) (responses_parts ys mid.0)
          ∙ append_assoc (responses ys) (responses mid.0) tail));
      failed = stopped_there bytes before taken rest left s t ys (z ∷ zs) read (split ∙ ap (λ (l : List Exchange). texts l ++ rest) e)
          (all_front StaysOpen ys mid.0 (subst (All StaysOpen) mid.1 each)) (subst (λ (l : List Exchange). Run direct_store s l t) e run) memory;
    }

pub ended_before : (bytes before : List ℕ) (left out : Option (List ℕ)) (s t : LimitedHistory) (n : ℕ) (c : EndReason)
    (ends : EndsAs direct_store (moment (Some bytes) (Some before) s) (moment left out t) (record { answered = n; reason = c }))
    (ys zs : List Exchange) (z : Exchange) → ends.opens ++ last_of ends.ending ≡ ys ++ z ∷ zs → NeverWants ys → WroteFirst bytes before out s (responses ys)
ended_before bytes before left out s t n c ends ys zs z e memory =
    let last = last_of ends.ending in
    let parts = ap (λ (l : List ℕ). l ++ malformed_response ends.ending) (responses_parts ends.opens last)
    ∙ append_assoc (responses ends.opens) (responses last) (malformed_response ends.ending) in
    written_first bytes before ends.taken ends.rest (responses last ++ malformed_response ends.ending) left out s t ends.opens last ys zs z
    (last_few ends.ending) ends.each e memory ends.read ends.split ends.run
    (subst (λ (w : List ℕ). Appends (Some before) out w) parts ends.written)

pub failed_before : (bytes before : List ℕ) (left out : Option (List ℕ)) (s t : LimitedHistory) (i o : Bool) (error : SessionError)
    (fails : FailsAs direct_store (moment (Some bytes) (Some before) s) (moment left out t)
    (record { error = error; input_failed = i; output_failed = o }))
    (ys zs : List Exchange) (z : Exchange) → fails.opens ++ exchange_due fails.next ≡ ys ++ z ∷ zs → NeverWants ys
    → WroteFirst bytes before out s (responses ys)
failed_before bytes before left out s t i o error fails ys zs z e memory =
    written_first bytes before fails.taken fails.rest (take error.written (bytes_due fails.next)) left out s t fails.opens (exchange_due fails.next) ys zs z
    (due_few fails.next) fails.each e memory fails.read fails.split fails.run fails.written
