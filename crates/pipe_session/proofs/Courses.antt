-- A session over a store with one owner takes one course: at each place of the bytes there is one next exchange.
use Rattle.std.proofs.Common.{◌≡◌, ◌≢◌, ℕ, ◌||◌, true, false, List, [], ◌∷◌, ◌++◌, map, All, length, refl, sym, ap, ◌∙◌, subst, arith, append_assoc}
use Rattle.std.proofs.Common.{length-append}
use Rattle.std.proofs.lemmas.List.Elements.{All-head, All-tail}
use Rattle.trace_model.specs.LimitedHistories.{LimitedHistory}
use Rattle.http_requests.specs.HeadContents.{asked_by}
use Rattle.http_requests.specs.declared.request.RequestFault.{RequestFault}
use Rattle.http_requests.proofs.OneRequest.{Breaks, breaks_all, request_is_some, request_once, no_request, one_fault, nothing_is_no_fault}
use Rattle.http_session.specs.Sessions.{Exchange, IsExchange, StaysOpen, texts, Ending, Ending.{end_of_input, closing, malformed}, last_of, IsEnding}
use Rattle.http_session.specs.Replies.{closes}
use Rattle.http_session.specs.Verdicts.{Judges}
use Rattle.http_session.specs.declared.verdict.ErrorReply.TheVariants.{NoMemory}
use Rattle.http_session.specs.declared.verdict.Verdict.TheVariants.{Reject}
use Rattle.pipe_session.specs.ExactAnswers.{reply_at, held_after, replies_at, held_at_last, verdicts}
use Rattle.pipe_session.proofs.OneVerdict.{one_verdict}

-- ---- the next exchange

-- the bytes start with a request, and this is its exchange over the store s
pub record Asks (bytes : List ℕ) (s : LimitedHistory) (x : Exchange) (rest : List ℕ) : Type 0 where
  pub exchange : IsExchange x
  pub front : bytes ≡ x.text ++ rest
  pub answered : x.reply ≡ reply_at s x.verdict
  pub memory : x.verdict ≢ Reject NoMemory

same_verdict : (x y : Exchange) → IsExchange x → IsExchange y → x.verdict ≢ Reject NoMemory → y.verdict ≢ Reject NoMemory → x.head ≡ y.head → x.body ≡ y.body
    → x.verdict ≡ y.verdict
same_verdict x y one other m n heads bodies =
    let follows : Judges (asked_by x.head) x.body y.verdict =
    subst (λ (b : List ℕ). Judges (asked_by x.head) b y.verdict) (sym bodies)
    (subst (λ h. Judges (asked_by h) y.body y.verdict) (sym heads) other.verdict_follows) in
    one_verdict (asked_by x.head) x.body x.verdict y.verdict m n one.verdict_follows follows

pub same_exchange : (bytes : List ℕ) (s : LimitedHistory) (x y : Exchange) (rest more : List ℕ) → Asks bytes s x rest → Asks bytes s y more
    → (x ≡ y) × (rest ≡ more)
same_exchange bytes s x y rest more one other =
    let same = request_once x.text y.text x.head y.head x.body y.body rest more one.exchange.spells other.exchange.spells (sym one.front ∙ other.front) in
    let verdict : x.verdict ≡ y.verdict = same_verdict x y one.exchange other.exchange one.memory other.memory same.1 same.2 in
    let reply : x.reply ≡ y.reply = one.answered ∙ ap (reply_at s) verdict ∙ sym other.answered in
    let close : x.close ≡ y.close =
    one.exchange.close_is ∙ (λ i. (asked_by (same.1 i)).closes || closes (reply i)) ∙ sym other.exchange.close_is in
    (λ i. record { text = same.0 i; head = same.1 i; body = same.2 i; verdict = verdict i; reply = reply i; close = close i }, same.3)

-- ---- what comes next: nothing, an exchange, or a malformed request

abbrev pub ComesNext : List ℕ → LimitedHistory → Ending → List ℕ → Type 0
ComesNext bytes s end_of_input rest = (bytes ≡ []) × (rest ≡ [])
ComesNext bytes s (closing x) rest = Asks bytes s x rest
ComesNext bytes s (malformed b) rest = Breaks bytes b × (rest ≡ [])

not_empty : (s : LimitedHistory) (x : Exchange) (rest : List ℕ) → Asks [] s x rest → ⊥
not_empty s x rest asks =
    let some = request_is_some x.text x.head x.body asks.exchange.spells in
    absurd (omega (arith, some, simp length-append at (ap length asks.front)))

not_empty_at : (bytes : List ℕ) (s : LimitedHistory) (x : Exchange) (rest : List ℕ) → bytes ≡ [] → Asks bytes s x rest → ⊥
not_empty_at bytes s x rest none asks = not_empty s x rest (subst (λ (l : List ℕ). Asks l s x rest) none asks)

pub not_malformed : (bytes : List ℕ) (s : LimitedHistory) (x : Exchange) (rest : List ℕ) (b : RequestFault) → Asks bytes s x rest → Breaks bytes b → ⊥
not_malformed bytes s x rest b asks breaks = no_request x.text rest x.head x.body b asks.exchange.spells (subst (λ (l : List ℕ). Breaks l b) asks.front breaks)

not_nothing : (bytes : List ℕ) (b : RequestFault) → bytes ≡ [] → Breaks bytes b → ⊥
not_nothing bytes b none breaks = nothing_is_no_fault b (subst (λ (l : List ℕ). Breaks l b) none breaks)

pub one_next : (bytes : List ℕ) (s : LimitedHistory) (m n : Ending) (rest more : List ℕ) → ComesNext bytes s m rest → ComesNext bytes s n more
    → (m ≡ n) × (rest ≡ more)
one_next bytes s end_of_input end_of_input rest more one other = (refl, one.1 ∙ sym other.1)
one_next bytes s end_of_input (closing y) rest more one other = absurd (not_empty_at bytes s y more one.0 other)
one_next bytes s end_of_input (malformed b) rest more one other = absurd (not_nothing bytes b one.0 other.0)
one_next bytes s (closing x) end_of_input rest more one other = absurd (not_empty_at bytes s x rest other.0 one)
one_next bytes s (closing x) (closing y) rest more one other = let same = same_exchange bytes s x y rest more one other in (ap closing same.0, same.1)
one_next bytes s (closing x) (malformed b) rest more one other = absurd (not_malformed bytes s x rest b one other.0)
one_next bytes s (malformed a) end_of_input rest more one other = absurd (not_nothing bytes a other.0 one.0)
one_next bytes s (malformed a) (closing y) rest more one other = absurd (not_malformed bytes s y more a other one.0)
one_next bytes s (malformed a) (malformed b) rest more one other = (ap malformed (one_fault bytes a b one.0 other.0), one.1 ∙ sym other.1)

-- ---- whole courses

-- a session ends by nothing more, a malformed request, or an exchange that closes it
abbrev pub Shuts : Ending → Type 0
Shuts end_of_input = Unit {0}
Shuts (closing x) = x.close ≡ true
Shuts (malformed b) = Unit {0}

-- the exchanges come in turn and leave the session open, then comes the end, and t is held
abbrev pub RunsTo : List ℕ → LimitedHistory → List Exchange → Ending → LimitedHistory → Type 0
RunsTo bytes s [] e t = (rest : List ℕ) × ComesNext bytes s e rest × Shuts e × (t ≡ held_at_last s (verdicts (last_of e)))
RunsTo bytes s (x ∷ xs) e t = (rest : List ℕ) × Asks bytes s x rest × (x.close ≡ false) × RunsTo rest (held_after s x.verdict) xs e t

-- where the next exchange leaves the session open, the session doesn't end
pub goes_on : (bytes : List ℕ) (s : LimitedHistory) (x : Exchange) (e : Ending) (rest more : List ℕ) → Asks bytes s x rest → x.close ≡ false
    → ComesNext bytes s e more
    → Shuts e → ⊥
goes_on bytes s x e rest more asks is_open next shuts =
    let shut : x.close ≡ true = subst Shuts (sym (one_next bytes s (closing x) e rest more asks next).0) shuts in
    absurd (cc (is_open, shut))

-- a course after the same exchange
pub goes_after : (s : LimitedHistory) (x y : Exchange) (rest more : List ℕ) (ys : List Exchange) (e : Ending) (t : LimitedHistory) → x ≡ y → rest ≡ more
    → RunsTo more (held_after s y.verdict) ys e t → RunsTo rest (held_after s x.verdict) ys e t
goes_after s x y rest more ys e t same behind runs_to =
    subst (λ (z : Exchange). RunsTo rest (held_after s z.verdict) ys e t) (sym same)
    (subst (λ (l : List ℕ). RunsTo l (held_after s y.verdict) ys e t) (sym behind) runs_to)

pub one_course : (bytes : List ℕ) (s : LimitedHistory) (xs ys : List Exchange) (e f : Ending) (t u : LimitedHistory) → RunsTo bytes s xs e t
    → RunsTo bytes s ys f u → (xs ≡ ys)
    × (e ≡ f) × (t ≡ u)
one_course bytes s [] [] e f t u one other =
    let same = (one_next bytes s e f one.0 other.0 one.1 other.1).0 in
    (refl, same, one.3 ∙ ap (λ (g : Ending). held_at_last s (verdicts (last_of g))) same ∙ sym other.3)
one_course bytes s [] (y ∷ ys) e f t u one other = absurd (goes_on bytes s y e other.0 one.0 other.1 other.2 one.1 one.2)
one_course bytes s (x ∷ xs) [] e f t u one other = absurd (goes_on bytes s x f one.0 other.0 one.1 one.2 other.1 other.2)
one_course bytes s (x ∷ xs) (y ∷ ys) e f t u one other =
    let now = same_exchange bytes s x y one.0 other.0 one.1 other.1 in
    let later = one_course one.0 (held_after s x.verdict) xs ys e f t u one.3 (goes_after s x y one.0 other.0 ys f u now.0 now.1 other.3) in
    (λ i. now.0 i ∷ later.0 i, later.1, later.2)

-- ---- the course that a session took

-- the exchanges stand at the start of the bytes one after the other, and are what the entries answer
pub record Stand (bytes : List ℕ) (s : LimitedHistory) (xs : List Exchange) (behind : List ℕ) (t : LimitedHistory) : Type 0 where
  pub front : bytes ≡ texts xs ++ behind
  pub memory : All (λ (x : Exchange). x.verdict ≢ Reject NoMemory) xs
  pub replies : map (λ (x : Exchange). x.reply) xs ≡ replies_at s (verdicts xs)
  pub held : t ≡ held_at_last s (verdicts xs)

pub first_asks : (bytes : List ℕ) (s : LimitedHistory) (x : Exchange) (xs : List Exchange) (behind : List ℕ) (t : LimitedHistory) → IsExchange x
    → Stand bytes s (x ∷ xs) behind t
    → Asks bytes s x (texts xs ++ behind)
first_asks bytes s x xs behind t is stand = record {
  exchange = is;
  front = stand.front ∙ append_assoc x.text (texts xs) behind;
  answered = cc (stand.replies);
  memory = All-head (λ (y : Exchange). y.verdict ≢ Reject NoMemory) x xs stand.memory;
}

pub rest_stands : (bytes : List ℕ) (s : LimitedHistory) (x : Exchange) (xs : List Exchange) (behind : List ℕ) (t : LimitedHistory)
    → Stand bytes s (x ∷ xs) behind t
    → Stand (texts xs ++ behind) (held_after s x.verdict) xs behind t
rest_stands bytes s x xs behind t stand = record {
  front = refl;
  memory = All-tail (λ (y : Exchange). y.verdict ≢ Reject NoMemory) x xs stand.memory;
  replies = cc (stand.replies);
  held = stand.held;
}

-- what ends the session, at the bytes after the exchanges that leave it open
abbrev pub EndsAt : List ℕ → Ending → Type 0
EndsAt behind end_of_input = behind ≡ []
EndsAt behind (closing x) = IsExchange x × (x.close ≡ true)
EndsAt behind (malformed b) = Breaks behind b

pub ends_at : (rest left : List ℕ) (e : Ending) → IsEnding (left ≡ []) rest e → EndsAt (rest ++ left) e
ends_at rest left end_of_input ends = (λ i. ends.1 i ++ ends.0 i)
ends_at rest left (closing x) ends = ends
ends_at rest left (malformed b) ends = breaks_all rest left b ends

last_goes : (bytes : List ℕ) (s : LimitedHistory) (e : Ending) (behind : List ℕ) (t : LimitedHistory) → Stand bytes s (last_of e) behind t → EndsAt behind e
    → RunsTo bytes s [] e t
last_goes bytes s end_of_input behind t stand ends = ([], (stand.front ∙ ends, refl), tt, stand.held)
last_goes bytes s (closing x) behind t stand ends = (behind, first_asks bytes s x [] behind t ends.0 stand, ends.1, stand.held)
last_goes bytes s (malformed b) behind t stand ends = ([], (subst (λ (l : List ℕ). Breaks l b) (sym stand.front) ends, refl), tt, stand.held)

pub runs_to : (bytes : List ℕ) (s : LimitedHistory) (xs : List Exchange) (e : Ending) (behind : List ℕ) (t : LimitedHistory) → All StaysOpen xs
    → Stand bytes s (xs ++ last_of e) behind t → EndsAt behind e → RunsTo bytes s xs e t
runs_to bytes s [] e behind t opens stand ends = last_goes bytes s e behind t stand ends
runs_to bytes s (x ∷ xs) e behind t opens stand ends =
    let is = All-head StaysOpen x xs opens in
    let later = runs_to (texts (xs ++ last_of e) ++ behind) (held_after s x.verdict) xs e behind t (All-tail StaysOpen x xs opens)
    (rest_stands bytes s x (xs ++ last_of e) behind t stand) ends in
    (texts (xs ++ last_of e) ++ behind, first_asks bytes s x (xs ++ last_of e) behind t is.exchange stand, is.open_is, later)
