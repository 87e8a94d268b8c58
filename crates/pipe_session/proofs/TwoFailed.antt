-- Of two sessions that failed over one input, one wrote a prefix of what the other wrote.
use Rattle.std.proofs.Common.{◌≡◌, ℕ, List, [], ◌∷◌, ◌++◌, inl, inr, refl, sym, ◌∙◌, subst, append_assoc, length, arith}
use mathlib.Core.List.{IsPrefix}
use Rattle.std.proofs.lemmas.Bool.{cases_lt}
use Rattle.trace_model.specs.LimitedHistories.{LimitedHistory}
use Rattle.trace_model.proofs.Prefixes.{prefix_self, prefix_trans, prefix_shorter}
use Rattle.http_requests.proofs.OneRequest.{one_fault}
use Rattle.http_session.specs.Sessions.{Exchange, responses, response_to, Due, Due.{none_yet, due, due_malformed}, bytes_due}
use Rattle.pipe_session.specs.ExactAnswers.{held_after}
use Rattle.pipe_session.specs.OneFunction.{Failed, OneTextBegins}
use Rattle.pipe_session.proofs.Courses.{same_exchange, not_malformed}
use Rattle.pipe_session.proofs.Prefixes.{Stops, meant, longer}
use Rattle.pipe_session.proofs.OneFunction.{failed_course, wrote}

-- two prefixes of one list
both_begin : (w v all : List ℕ) → IsPrefix w all → IsPrefix v all → OneTextBegins w v
both_begin w v all p q = elim (cases_lt (length w) (length v)) [
  | inl less ↦ inl (prefix_shorter w v all p q (omega arith))
  | inr more ↦ inr (prefix_shorter v w all q p (omega arith))
]

stops_after : (s : LimitedHistory) (x y : Exchange) (rest more : List ℕ) (ys : List Exchange) (d : Due) → x ≡ y → rest ≡ more
    → Stops more (held_after s y.verdict) ys d → Stops rest (held_after s x.verdict) ys d
stops_after s x y rest more ys d same behind stops =
    subst (λ (z : Exchange). Stops rest (held_after s z.verdict) ys d) (sym same)
    (subst (λ (l : List ℕ). Stops l (held_after s y.verdict) ys d) (sym behind) stops)

-- what is due at the first exchange, beside a session that went on
due_begins : (bytes : List ℕ) (s : LimitedHistory) (d : Due) (x : Exchange) (xs : List Exchange) (e : Due) → Stops bytes s [] d → Stops bytes s (x ∷ xs) e
    → IsPrefix (meant [] d) (meant (x ∷ xs) e)
due_begins bytes s none_yet x xs e stops other = (meant (x ∷ xs) e, refl)
due_begins bytes s (due y) x xs e stops other =
    let same = (same_exchange bytes s y x stops.0 other.0 stops.1 other.1).0 in (
      responses xs ++ bytes_due e,
      (λ i. response_to (same i) ++ (responses xs ++ bytes_due e))
          ∙ sym (append_assoc (response_to x) (responses xs) (bytes_due e)),
    )
due_begins bytes s (due_malformed b) x xs e stops other = absurd (not_malformed bytes s x other.0 b other.1 stops)

-- what is due at one place is one thing, if it is anything
one_due : (bytes : List ℕ) (s : LimitedHistory) (d e : Due) → Stops bytes s [] d → Stops bytes s [] e → OneTextBegins (meant [] d) (meant [] e)
one_due bytes s none_yet e stops other = inl (meant [] e, refl)
one_due bytes s (due y) none_yet stops other = inr (meant [] (due y), refl)
one_due bytes s (due y) (due x) stops other =
    let same = (same_exchange bytes s y x stops.0 other.0 stops.1 other.1).0 in
    inl (subst (λ (z : Exchange). IsPrefix (meant [] (due y)) (meant [] (due z))) same (prefix_self (meant [] (due y))))
one_due bytes s (due y) (due_malformed b) stops other = absurd (not_malformed bytes s y stops.0 b stops.1 other)
one_due bytes s (due_malformed b) none_yet stops other = inr (meant [] (due_malformed b), refl)
one_due bytes s (due_malformed b) (due x) stops other = absurd (not_malformed bytes s x other.0 b other.1 stops)
one_due bytes s (due_malformed b) (due_malformed a) stops other =
    inl (subst (λ c. IsPrefix (meant [] (due_malformed b)) (meant [] (due_malformed c))) (one_fault bytes b a stops other)
    (prefix_self (meant [] (due_malformed b))))

one_meant : (bytes : List ℕ) (s : LimitedHistory) (ys : List Exchange) (d : Due) (xs : List Exchange) (e : Due) → Stops bytes s ys d → Stops bytes s xs e
    → OneTextBegins (meant ys d) (meant xs e)
one_meant bytes s [] d [] e stops other = one_due bytes s d e stops other
one_meant bytes s [] d (x ∷ xs) e stops other = inl (due_begins bytes s d x xs e stops other)
one_meant bytes s (y ∷ ys) d [] e stops other = inr (due_begins bytes s e y ys d other stops)
one_meant bytes s (y ∷ ys) d (x ∷ xs) e stops other =
    let now = same_exchange bytes s y x stops.0 other.0 stops.1 other.1 in
    let later = one_meant stops.0 (held_after s y.verdict) ys d xs e stops.3 (stops_after s y x stops.0 other.0 xs e now.0 now.1 other.3) in
    elim later [
      | inl p ↦ inl (longer y x (responses ys) (responses xs) (bytes_due d) (bytes_due e) now.0 p)
      | inr p ↦ inr (longer x y (responses xs) (responses ys) (bytes_due e) (bytes_due d) (sym now.0) p)
    ]

pub two_failed : (bytes : List ℕ) (s : LimitedHistory) (w v : List ℕ) → Failed bytes s w → Failed bytes s v → OneTextBegins w v
two_failed bytes s w v one other =
    let mine = wrote bytes s w one in
    let theirs = wrote bytes s v other in
    elim (one_meant bytes s one.fails.opens one.fails.next other.fails.opens other.fails.next (failed_course bytes s w one) (failed_course bytes s v other)) [
      | inl p ↦ both_begin w v (meant other.fails.opens other.fails.next)
          (prefix_trans w (meant one.fails.opens one.fails.next) (meant other.fails.opens other.fails.next) mine p) theirs
      | inr p ↦ both_begin w v (meant one.fails.opens one.fails.next) mine
          (prefix_trans v (meant other.fails.opens other.fails.next) (meant one.fails.opens one.fails.next) theirs p)
    ]
