-- A run over a store that keeps its promise is related to one growing history.
use Rattle.std.proofs.Common.{◌≡◌, ℕ, List, [], ◌∷◌, ◌++◌, All, Option, Some, None, IfSome, MatchOption, Result, Ok, Err, refl, sym, ap, ◌∙◌, subst}
use Rattle.std.proofs.Common.{append_assoc}
use Rattle.std.proofs.lemmas.List.Elements.{All-weaker, All-cons, All-nil}
use Rattle.jaeger_model.specs.declared.batch.Batch.{Batch}
use Rattle.trace_model.specs.declared.limits.Limits.{Limits}
use Rattle.trace_model.specs.declared.query.Query.{Query}
use Rattle.trace_model.specs.declared.answer.Answer.{Answer}
use Rattle.trace_model.specs.declared.refusal.Refusal.{Refusal}
use Rattle.trace_model.specs.Histories.{IsLegal}
use Rattle.trace_model.specs.Answers.{answer}
use Rattle.trace_model.specs.StoreKnowledge.{History, IsPrefixOf, HasAt, reached, lists_of, ForgetsNothing, Places, AnswersAt, SubmitKnows}
use Rattle.trace_model.specs.StoreKnowledge.{ReadKnows}
use Rattle.http_session.specs.Sessions.{Exchange, Store, Step, Run}
use Rattle.http_session.specs.HistoryPoints.{KnownAtStart, known_at, PointsSoFar, IsPoint, Gets, Related, no_points}
use Rattle.http_session.specs.declared.verdict.Verdict.{Verdict}
use Rattle.http_session.specs.declared.verdict.Verdict.TheVariants.{Submit, Ask, Reject}
use Rattle.http_session.specs.declared.reply.Reply.{Reply}
use Rattle.http_session.specs.declared.reply.Reply.TheVariants.{Accepted, Answered, Refused, Error}

-- a list that goes on from one that has the batch has it too
still_has : (h long : History) (place : ℕ) (b : Batch) → HasAt h place b → IsPrefixOf h long → HasAt long place b
still_has h long place b has goes = record {
  before = has.before;
  entry = has.entry;
  after = has.after ++ goes.0;
  work_is = has.work_is;
  place_is = has.place_is;
  whole = goes.1 ∙ ap (λ l. l ++ goes.0) has.whole ∙ append_assoc has.before (has.entry ∷ has.after) goes.0;
}

module _ {S : Type 0} (store : Store S)
    (submit_knows : (s : S) (b : Batch) (r : Result ℕ Refusal) (t : S) → store.submits s b r t → SubmitKnows store.limits store.knows s b r t)
    (read_knows : (s : S) (q : Query) (r : Result Answer Refusal) (t : S) → store.reads s q r t → ReadKnows store.limits store.knows s q r t) where
  abbrev pub Placed : S → Batch × ℕ → Type 0
  Placed s pair = (h : History) × HasAt h pair.1 pair.0 × store.knows s (reached h)

  pub record Holds (start : KnownAtStart) (s : S) (points : PointsSoFar) : Type 0 where
    pub same : store.limits s ≡ start.limits
    pub old : (h : History) → start.knew h → store.knows s (reached h)
    pub last : IfSome points.point (lists_of store.knows s)
    pub placed : All (Placed s) points.accepted

  last_kept : (s t : S) → ForgetsNothing store.limits store.knows s t → (o : Option History)
      → IfSome o (lists_of store.knows s) → IfSome o (lists_of store.knows t)
  last_kept s t keeps None k = tt
  last_kept s t keeps (Some h) k = keeps.knowledge (reached h) k

  kept : (start : KnownAtStart) (s t : S) (points : PointsSoFar) → Holds start s points → ForgetsNothing store.limits store.knows s t
      → Holds start t points
  kept start s t points holds keeps = record {
    same = keeps.same_limits ∙ holds.same;
    old = λ h k. keeps.knowledge (reached h) (holds.old h k);
    last = last_kept s t keeps points.point holds.last;
    placed = All-weaker (Placed s) (Placed t) (λ pair p. (p.0, p.1, keeps.knowledge (reached p.0) p.2)) points.accepted holds.placed;
  }

  behind : (knew : History → Type 0) (s : S) (o : Option History) (h : History) → ((l : History) → knew l → store.knows s (reached l))
      → IfSome o (lists_of store.knows s)
      → ((l : History) → store.knows s (reached l) → IsPrefixOf l h)
      → MatchOption o ((l : History) → knew l → IsPrefixOf l h) (λ before. IsPrefixOf before h)
  behind knew s None h old last all = λ l k. all l (old l k)
  behind knew s (Some before) h old last all = all before last

  accepted : (start : KnownAtStart) (s t : S) (points : PointsSoFar) (b : Batch) (place : ℕ) → Holds start s points
      → ForgetsNothing store.limits store.knows s t
      → Places store.limits store.knows b place t
      → Holds start t (record points { accepted = (b, place) ∷ points.accepted })
  accepted start s t points b place holds keeps places =
      let now = kept start s t points holds keeps in
      record {
        same = now.same;
        old = now.old;
        last = now.last;
        placed = All-cons (Placed t) (b, place) points.accepted (places.history, places.has, places.known) now.placed;
      }

  pointed : (start : KnownAtStart) (s t : S) (points : PointsSoFar) (q : Query) (a : Answer) → Holds start s points
      → ForgetsNothing store.limits store.knows s t
      → AnswersAt store.limits store.knows s q a t
      → (next : PointsSoFar) × Gets start points (Ask q) (Answered a) next × Holds start t next
  pointed start s t points q a holds keeps at =
      let now = kept start s t points holds keeps in
      let h = at.history in
      let next : PointsSoFar = record points { point = Some h } in
      let point : IsPoint start points h = record {
        legal = subst (λ (l : Limits). IsLegal l h) now.same at.legal;
        behind = behind start.knew s points.point h holds.old holds.last at.behind;
        has =
            All-weaker (Placed s) (λ (pair : Batch × ℕ). HasAt h pair.1 pair.0)
            (λ pair p. still_has p.0 h pair.1 pair.0 p.1 (at.behind p.0 p.2)) points.accepted holds.placed;
      } in
      let determined : a ≡ answer start.limits h q = at.answer_is ∙ ap (λ (l : Limits). answer l h q) now.same in
      (next, (h, point, determined, refl), record { same = now.same; old = now.old; last = at.known; placed = now.placed })

  goes : (start : KnownAtStart) (s t : S) (points : PointsSoFar) (verdict : Verdict) (reply : Reply) → Holds start s points
      → Step store s verdict reply t
      → (next : PointsSoFar) × Gets start points verdict reply next × Holds start t next
  goes start s t points (Submit b) Accepted holds step =
      let (keeps, places) = submit_knows s b (Ok step.0) t step.1 in
      (record points { accepted = (b, step.0) ∷ points.accepted }, (step.0, refl), accepted start s t points b step.0 holds keeps places)
  goes start s t points (Submit b) (Refused r) holds step = (points, refl, kept start s t points holds (submit_knows s b (Err r) t step).0)
  goes start s t points (Ask q) (Answered a) holds step =
      let (keeps, at) = read_knows s q (Ok a) t step in
      pointed start s t points q a holds keeps at
  goes start s t points (Ask q) (Refused r) holds step = (points, refl, kept start s t points holds (read_knows s q (Err r) t step))
  goes start s t points (Reject error) (Error said) holds step = (points, (step.0, refl), subst (λ (x : S). Holds start x points) (sym step.1) holds)
  goes start s t points _ _ holds step = absurd step

  related : (start : KnownAtStart) (s t : S) (points : PointsSoFar) (xs : List Exchange) → Holds start s points → Run store s xs t
      → Related start points xs
  related start s t points [] holds run = tt
  related start s t points (x ∷ xs) holds run =
      let on = goes start s run.0 points x.verdict x.reply holds run.1 in
      (on.0, on.1, related start run.0 t on.0 xs on.2 run.2)

  begin : (s : S) → Holds (known_at store s) s no_points
  begin s = record { same = refl; old = λ h k. k; last = tt; placed = All-nil (Placed s) }

  -- from the start, when there were no points
  pub related_all : (s t : S) (xs : List Exchange) → Run store s xs t → Related (known_at store s) no_points xs
  related_all s t xs run = related (known_at store s) s t no_points xs (begin s) run
