-- A session that failed wrote a prefix of what one that ended writes.
use Rattle.std.proofs.Common.{◌≡◌, ℕ, false, List, [], ◌∷◌, ◌++◌, take, drop, refl, sym, ap, ◌∙◌, subst, append_assoc, append-nil, take-append-drop, All}
use Rattle.std.proofs.lemmas.List.Elements.{All-head, All-tail}
use mathlib.Core.List.{IsPrefix}
use Rattle.trace_model.specs.LimitedHistories.{LimitedHistory}
use Rattle.trace_model.proofs.Prefixes.{prefix_trans}
use Rattle.http_requests.proofs.OneRequest.{Breaks, breaks_all}
use Rattle.http_session.specs.declared.whole_session.SessionErrorKind.{SessionErrorKind}
use Rattle.http_session.specs.Sessions.{Exchange, IsExchange, StaysOpen, texts, response_to, responses, Ending, Ending.{closing, malformed}, last_of}
use Rattle.http_session.specs.Sessions.{malformed_response, Due, Due.{none_yet, due, due_malformed}, exchange_due, IsDue, bytes_due}
use Rattle.pipe_session.specs.ExactAnswers.{held_after}
use Rattle.pipe_session.proofs.Courses.{Asks, same_exchange, ComesNext, one_next, RunsTo, goes_on, goes_after, Stand, first_asks, rest_stands}

-- all that is written on a course
abbrev pub spoken : List Exchange → Ending → List ℕ
spoken xs e = responses (xs ++ last_of e) ++ malformed_response e

-- ---- the first response of a course

-- what comes first on it
abbrev first : List Exchange → Ending → Ending
first [] e = e
first (x ∷ xs) e = closing x

first_comes : (bytes : List ℕ) (s : LimitedHistory) (xs : List Exchange) (e : Ending) (t : LimitedHistory) → RunsTo bytes s xs e t → (rest : List ℕ)
    × ComesNext bytes s (first xs e) rest
first_comes bytes s [] e t runs_to = (runs_to.0, runs_to.1)
first_comes bytes s (x ∷ xs) e t runs_to = (runs_to.0, runs_to.1)

spoken_first : (xs : List Exchange) (e : Ending) → IsPrefix (spoken [] (first xs e)) (spoken xs e)
spoken_first [] e = ([], append-nil (spoken [] e))
spoken_first (x ∷ xs) e = (
  spoken xs e,
  ap (λ (l : List ℕ). l ++ spoken xs e) (append-nil (response_to x ++ []) ∙ append-nil (response_to x))
      ∙ sym (append_assoc (response_to x) (responses (xs ++ last_of e)) (malformed_response e)),
)

-- what is first said at these bytes begins all that is said
says_first : (bytes : List ℕ) (s : LimitedHistory) (n : Ending) (rest : List ℕ) (xs : List Exchange) (e : Ending) (t : LimitedHistory)
    → ComesNext bytes s n rest
    → RunsTo bytes s xs e t
    → IsPrefix (spoken [] n) (spoken xs e)
says_first bytes s n rest xs e t next runs_to =
    let comes = first_comes bytes s xs e t runs_to in
    subst (λ (m : Ending). IsPrefix (spoken [] m) (spoken xs e)) (sym (one_next bytes s n (first xs e) rest comes.0 next comes.1).0) (spoken_first xs e)

-- ---- up to where a session failed

-- the exchanges came in turn and left the session open, and then this was due
abbrev pub Stops : List ℕ → LimitedHistory → List Exchange → Due → Type 0
Stops bytes s [] none_yet = Unit {0}
Stops bytes s [] (due x) = (rest : List ℕ) × Asks bytes s x rest
Stops bytes s [] (due_malformed b) = Breaks bytes b
Stops bytes s (x ∷ xs) d = (rest : List ℕ) × Asks bytes s x rest × (x.close ≡ false) × Stops rest (held_after s x.verdict) xs d

-- all that would have been written
abbrev pub meant : List Exchange → Due → List ℕ
meant ys d = responses ys ++ bytes_due d

pub longer : (y x : Exchange) (some all more behind : List ℕ) → y ≡ x → IsPrefix (some ++ more) (all ++ behind)
    → IsPrefix ((response_to y ++ some) ++ more) ((response_to x ++ all) ++ behind)
longer y x some all more behind same begins = (
  begins.0,
  ap (λ (l : List ℕ). l ++ begins.0) (append_assoc (response_to y) some more)
      ∙ append_assoc (response_to y) (some ++ more) begins.0
      ∙ (λ i. response_to (same i) ++ begins.1 i)
      ∙ sym (append_assoc (response_to x) all behind),
)

pub meant_begins : (bytes : List ℕ) (s : LimitedHistory) (ys : List Exchange) (d : Due) (xs : List Exchange) (e : Ending) (t : LimitedHistory)
    → Stops bytes s ys d
    → RunsTo bytes s xs e t
    → IsPrefix (meant ys d) (spoken xs e)
meant_begins bytes s [] none_yet xs e t stops runs_to = (spoken xs e, refl)
meant_begins bytes s [] (due y) xs e t stops runs_to =
    subst (λ (l : List ℕ). IsPrefix l (spoken xs e)) (append-nil (response_to y ++ []) ∙ append-nil (response_to y))
    (says_first bytes s (closing y) stops.0 xs e t stops.1 runs_to)
meant_begins bytes s [] (due_malformed b) xs e t stops runs_to = says_first bytes s (malformed b) [] xs e t (stops, refl) runs_to
meant_begins bytes s (y ∷ ys) d [] e t stops runs_to = absurd (goes_on bytes s y e stops.0 runs_to.0 stops.1 stops.2 runs_to.1 runs_to.2)
meant_begins bytes s (y ∷ ys) d (x ∷ xs) e t stops runs_to =
    let now = same_exchange bytes s y x stops.0 runs_to.0 stops.1 runs_to.1 in
    longer y x (responses ys) (responses (xs ++ last_of e)) (bytes_due d) (malformed_response e) now.0
    (meant_begins stops.0 (held_after s y.verdict) ys d xs e t stops.3 (goes_after s y x stops.0 runs_to.0 xs e t now.0 now.1 runs_to.3))

-- ---- the course up to there

abbrev pub DueAt : List ℕ → Due → Type 0
DueAt behind none_yet = Unit {0}
DueAt behind (due x) = IsExchange x
DueAt behind (due_malformed b) = Breaks behind b

pub due_at : (cause : SessionErrorKind) (rest left : List ℕ) (d : Due) → IsDue (left ≡ []) cause rest d → DueAt (rest ++ left) d
due_at cause rest left none_yet is = tt
due_at cause rest left (due x) is = is.0
due_at cause rest left (due_malformed b) is = breaks_all rest left b is.0

last_stops : (bytes : List ℕ) (s : LimitedHistory) (d : Due) (behind : List ℕ) (t : LimitedHistory) → Stand bytes s (exchange_due d) behind t
    → DueAt behind d → Stops bytes s [] d
last_stops bytes s none_yet behind t stand is = tt
last_stops bytes s (due x) behind t stand is = (behind, first_asks bytes s x [] behind t is stand)
last_stops bytes s (due_malformed b) behind t stand is = subst (λ (l : List ℕ). Breaks l b) (sym stand.front) is

pub stops : (bytes : List ℕ) (s : LimitedHistory) (ys : List Exchange) (d : Due) (behind : List ℕ) (t : LimitedHistory) → All StaysOpen ys
    → Stand bytes s (ys ++ exchange_due d) behind t → DueAt behind d → Stops bytes s ys d
stops bytes s [] d behind t opens stand is = last_stops bytes s d behind t stand is
stops bytes s (y ∷ ys) d behind t opens stand is =
    let now = All-head StaysOpen y ys opens in
    let later = stops (texts (ys ++ exchange_due d) ++ behind) (held_after s y.verdict) ys d behind t (All-tail StaysOpen y ys opens)
    (rest_stands bytes s y (ys ++ exchange_due d) behind t stand) is in
    (texts (ys ++ exchange_due d) ++ behind, first_asks bytes s y (ys ++ exchange_due d) behind t now.exchange stand, now.open_is, later)

-- what was written is a prefix of what was meant
pub part_begins : (before more all : List ℕ) (n : ℕ) → IsPrefix (before ++ more) all → IsPrefix (before ++ take n more) all
part_begins before more all n begins =
    prefix_trans (before ++ take n more) (before ++ more) all
    (drop n more, append_assoc before (take n more) (drop n more) ∙ ap (λ (l : List ℕ). before ++ l) (take-append-drop n more)) begins
