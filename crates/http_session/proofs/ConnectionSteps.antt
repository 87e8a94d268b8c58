-- How what is done with a connection goes on.
use Rattle.std.proofs.Common.{◌≡◌, ℕ, ◌+◌, Bool, List, [], ◌∷◌, ◌++◌, length, map, Option, refl, sym, ap, ap₂, ◌∙◌, subst, subst₂, append_assoc, append-nil}
use Rattle.std.proofs.Common.{length-append}
use Rattle.session_devices.specs.ByteTransfers.{ByteTransfer, KeepsOther}
use Rattle.http_requests.specs.Requests.{AwaitsRequest}
use Rattle.http_requests.specs.AwaitedReads.{GivesWhile, ReadsWhile, input_moment, read_rule}
use Rattle.http_session.specs.Sessions.{Exchange, texts, responses}
use Rattle.http_session.specs.ReadTurns.{AwaitsNext, ReadsInTurn}
use Rattle.http_session.specs.ResponseOrder.{ConnectionModel, Act, got, put, reads_of, Transcript, transcript, ActsLead, AwaitsAnswered, AnswersInTurn}

-- after all of them, when all are answered
after_all : (opens : List Exchange) (held : List ℕ) → AwaitsRequest held → AwaitsAnswered opens (texts opens ++ held) (responses opens)
after_all opens held awaits = record {
  next = record { before = opens; later = []; rest = held; opens_are = sym (append-nil opens); bytes_are = refl; awaits = awaits };
  answered = refl;
}

with_more : (opens more : List Exchange) (bytes : List ℕ) → AwaitsNext opens bytes → AwaitsNext (opens ++ more) bytes
with_more opens more bytes next = record {
  before = next.before;
  later = next.later ++ more;
  rest = next.rest;
  opens_are = ap (λ (l : List Exchange). l ++ more) next.opens_are ∙ append_assoc next.before next.later more;
  bytes_are = next.bytes_are;
  awaits = next.awaits;
}

answered_with_more : (opens more : List Exchange) (bytes written : List ℕ) → AwaitsAnswered opens bytes written → AwaitsAnswered (opens ++ more) bytes written
unfolding with_more
answered_with_more opens more bytes written a = record { next = with_more opens more bytes a.next; answered = a.answered }

reads_of_join : (xs ys : List Act) → reads_of (xs ++ ys) ≡ reads_of xs ++ reads_of ys
reads_of_join [] ys = refl
reads_of_join (got p ∷ xs) ys = ap (λ (l : List (List ℕ)). p ∷ l) (reads_of_join xs ys)
reads_of_join (put w ∷ xs) ys = reads_of_join xs ys

reads_of_got : (ps : List (List ℕ)) → reads_of (map got ps) ≡ ps
reads_of_got [] = refl
reads_of_got (p ∷ ps) = ap (λ (l : List (List ℕ)). p ∷ l) (reads_of_got ps)

module _ {C : Type 0} (model : ConnectionModel C) where
  acts_join : (Awaits : List ℕ → List ℕ → Type 0) (xs ys : List Act) (s m t : Transcript C) → ActsLead model Awaits s m xs
      → ActsLead model Awaits m t ys
      → ActsLead model Awaits s t (xs ++ ys)
  acts_join Awaits [] ys s m t first second = subst (λ (x : Transcript C). ActsLead model Awaits x t ys) (sym first) second
  acts_join Awaits (got p ∷ xs) ys s m t first second = (first.0, first.1, first.2, acts_join Awaits xs ys _ m t first.3 second)
  acts_join Awaits (put w ∷ xs) ys s m t first second = (first.0, first.1, acts_join Awaits xs ys _ m t first.2 second)

  acts_weaker : (A B : List ℕ → List ℕ → Type 0) → ((h w : List ℕ) → A h w → B h w) → (xs : List Act) (s t : Transcript C) → ActsLead model A s t xs
      → ActsLead model B s t xs
  acts_weaker A B weaker [] s t acts = acts
  acts_weaker A B weaker (got p ∷ xs) s t acts = (weaker s.received s.written acts.0, acts.1, acts.2, acts_weaker A B weaker xs _ t acts.3)
  acts_weaker A B weaker (put w ∷ xs) s t acts = (acts.0, acts.1, acts_weaker A B weaker xs _ t acts.2)

  -- reads alone, after a text and while so much was written
  acts_of_reads : (A : List ℕ → List ℕ → Type 0) (front written : List ℕ) → ((h : List ℕ) → AwaitsRequest h → A (front ++ h) written)
      → (ps : List (List ℕ)) (s t : C) (old new : List ℕ)
      → GivesWhile (read_rule model.source.gives AwaitsRequest) (input_moment s old) (input_moment t new) ps
      → ActsLead model A (transcript s (front ++ old) written)
      (transcript t (front ++ new) written) (map got ps)
  acts_of_reads A front written more [] s t old new each =
      ap₂ (λ (x : C) (y : List ℕ). transcript x (front ++ y) written) each.0 each.1
  acts_of_reads A front written more (p ∷ ps) s t old new each = (
    more old each.0,
    each.1,
    each.2,
    subst (λ (l : List ℕ). ActsLead model A (transcript each.1 l written)
        (transcript t (front ++ new) written) (map got ps))
        (sym (append_assoc front old p)) (acts_of_reads A front written more ps each.1 t (old ++ p) new each.3),
  )

  -- more was read for the request after them, when all were answered
  pub read_more : (s m t : C) (opens : List Exchange) (taken held here after : List ℕ)
      (first : AnswersInTurn model s opens (transcript m taken (responses opens)))
      → taken ≡ texts opens ++ held
      → (second : ReadsWhile (read_rule model.source.gives AwaitsRequest) (input_moment m held) (input_moment t here)) → after ≡ texts opens ++ here
      → (all : AnswersInTurn model s opens (transcript t after (responses opens)))
      × (length (reads_of all.acts) ≡ length (reads_of first.acts) + length second.pieces)
  read_more s m t opens taken held here after first split second after_is =
      let said = responses opens in
      let acts = map got second.pieces in
      let more : ActsLead model (AwaitsAnswered opens) (transcript m (texts opens ++ held) said)
      (transcript t (texts opens ++ here) said) acts =
      acts_of_reads (AwaitsAnswered opens) (texts opens) said (after_all opens) second.pieces m t held here second.each in
      let moved : ActsLead model (AwaitsAnswered opens) (transcript m taken said)
      (transcript t after said) acts =
      subst₂ (λ (l r : List ℕ). ActsLead model (AwaitsAnswered opens) (transcript m l said)
      (transcript t r said) acts)
      (sym split) (sym after_is) more in
      let long : length (reads_of (first.acts ++ acts)) ≡ length (reads_of first.acts) + length second.pieces =
      ap length (reads_of_join first.acts acts) ∙ length-append (reads_of first.acts) (reads_of acts)
      ∙ ap (λ (l : List (List ℕ)). length (reads_of first.acts) + length l) (reads_of_got second.pieces) in
      (record { acts = first.acts ++ acts; each = acts_join (AwaitsAnswered opens) first.acts acts _ _ _ first.each moved }, long)

  -- some more requests are answered later
  pub said_before : (s t : C) (opens more : List Exchange) (taken written : List ℕ) (first : AnswersInTurn model s opens (transcript t taken written))
      → (all : AnswersInTurn model s (opens ++ more) (transcript t taken written)) × (all.acts ≡ first.acts)
  said_before s t opens more taken written first = (
    record {
      acts = first.acts;
      each =
          acts_weaker (AwaitsAnswered opens) (AwaitsAnswered (opens ++ more)) (answered_with_more opens more) first.acts _ _ first.each;
    },
    refl,
  )

  -- a response was written, or a part of one
  pub said_on : (s m t : C) (opens : List Exchange) (taken written bytes after : List ℕ) (first : AnswersInTurn model s opens (transcript m taken written))
      → model.takes m bytes t → after ≡ written ++ bytes
      → (all : AnswersInTurn model s opens (transcript t taken after)) × (length (reads_of all.acts) ≡ length (reads_of first.acts))
  said_on s m t opens taken written bytes after first wrote after_is =
      let last : ActsLead model (AwaitsAnswered opens) (transcript m taken written)
      (transcript t taken after) (put bytes ∷ []) =
      (t, wrote, ap (λ (l : List ℕ). transcript t taken l) (sym after_is)) in
      let long : length (reads_of (first.acts ++ put bytes ∷ [])) ≡ length (reads_of first.acts) =
      ap length (reads_of_join first.acts (put bytes ∷ []) ∙ append-nil (reads_of first.acts)) in
      (record { acts = first.acts ++ put bytes ∷ []; each = acts_join (AwaitsAnswered opens) first.acts (put bytes ∷ []) _ _ _ first.each last }, long)

  -- the bytes written, as another term
  abbrev pub said_as : (s t : C) (opens : List Exchange) (taken written same : List ℕ) → AnswersInTurn model s opens (transcript t taken written)
      → same ≡ written
      → AnswersInTurn model s opens (transcript t taken same)
  said_as s t opens taken written same first e = record {
    acts = first.acts;
    each =
        subst (λ (l : List ℕ). ActsLead model (AwaitsAnswered opens) (transcript s [] [])
        (transcript t taken l) first.acts) (sym e) first.each;
  }

-- reads change nothing of what was written
pub reads_keep : {C : Type 0} (gives : ByteTransfer C) (contents : C → Option (List ℕ)) (failed : C → Bool) → KeepsOther C gives contents failed
    → (A : List ℕ → Type 0) (ps : List (List ℕ)) (s t : C) (old new : List ℕ)
    → GivesWhile (read_rule gives A) (input_moment s old) (input_moment t new) ps → (contents t ≡ contents s) × (failed t ≡ failed s)
reads_keep gives contents failed leave A [] s t old new each = (ap contents (sym each.0), ap failed (sym each.0))
reads_keep gives contents failed leave A (p ∷ ps) s t old new each =
    let rest = reads_keep gives contents failed leave A ps each.1 t (old ++ p) new each.3 in
    let one = leave s each.1 p each.2 in
    (rest.0 ∙ one.0, rest.1 ∙ one.1)

-- ---- what all acts leave

module _ {C N : Type 0} (model : ConnectionModel C) (name : C → N) (reads : (s t : C) (p : List ℕ) → model.source.gives s p t → name t ≡ name s)
    (writes : (s t : C) (w : List ℕ) → model.takes s w t → name t ≡ name s) where
  left_each : (A : List ℕ → List ℕ → Type 0) (xs : List Act) (s t : Transcript C) → ActsLead model A s t xs → name t.state ≡ name s.state
  left_each A [] s t acts = ap (λ (x : Transcript C). name x.state) (sym acts)
  left_each A (got p ∷ xs) s t acts = left_each A xs _ t acts.3 ∙ reads s.state acts.1 p acts.2
  left_each A (put w ∷ xs) s t acts = left_each A xs _ t acts.2 ∙ writes s.state acts.0 w acts.1

  pub acts_left : (s t : C) (opens : List Exchange) (taken written : List ℕ) → AnswersInTurn model s opens (transcript t taken written) → name t ≡ name s
  acts_left s t opens taken written answers = left_each (AwaitsAnswered opens) answers.acts _ _ answers.each

-- ---- the input of a connection that was joined

module _ {C R : Type 0} (model : ConnectionModel C) (given : ByteTransfer R) (input : C → R)
    (reads : (s t : C) (p : List ℕ) → model.source.gives s p t → given (input s) p (input t))
    (writes : (s t : C) (w : List ℕ) → model.takes s w t → input t ≡ input s) where
  read_each : (opens : List Exchange) (xs : List Act) (s t : Transcript C) → ActsLead model (AwaitsAnswered opens) s t xs
      → GivesWhile (read_rule given (AwaitsNext opens)) (input_moment (input s.state) s.received) (input_moment (input t.state) t.received) (reads_of xs)
  read_each opens [] s t acts = (ap (λ (x : Transcript C). input x.state) acts, ap (λ (x : Transcript C). x.received) acts)
  read_each opens (got p ∷ xs) s t acts = (acts.0.next, input acts.1, reads s.state acts.1 p acts.2, read_each opens xs _ t acts.3)
  read_each opens (put w ∷ xs) s t acts =
      subst (λ (x : R). GivesWhile (read_rule given (AwaitsNext opens)) (input_moment x s.received) (input_moment (input t.state) t.received) (reads_of xs))
      (writes s.state acts.0 w acts.1)
      (read_each opens xs _ t acts.2)

  -- the reads alone
  pub reads_alone : (s t : C) (opens : List Exchange) (taken written : List ℕ) (answers : AnswersInTurn model s opens (transcript t taken written))
      → (turn : ReadsInTurn given (input s) (input t) opens taken) × (length turn.pieces ≡ length (reads_of answers.acts))
  reads_alone s t opens taken written answers = (record { pieces = reads_of answers.acts; each = read_each opens answers.acts _ _ answers.each }, refl)
