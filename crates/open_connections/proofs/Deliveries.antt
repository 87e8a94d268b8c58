-- What a connection took of what waits.
use Rattle.std.specs.Prelude.{is_some}
use Rattle.std.proofs.Common.{Bool, true, false, ◌≡◌, ℕ, ◌+◌, ◌-◌, ◌≤◌, ◌<◌, List, [], ◌∷◌, ◌++◌, length, take, drop, Option, Some, None, refl, sym, ap, ◌∙◌}
use Rattle.std.proofs.Common.{append_assoc, append-nil, arith, subst}
use Rattle.std.proofs.lemmas.List.{take-append-drop, take-append-le, drop-append-le, drop-drop, drop_all, length-drop, length-append}
use Rattle.std.specs.Io.KnownBytes.{Appends, Keeps, append_known}
use Rattle.std.proofs.KnownBytes.{Appends-nil, Appends-trans, Appends-kept, append_known-moved}
use Rattle.std.proofs.Math.Seq.{take-append_seam}
use Rattle.query_json.specs.Parts.{Parted}
use Rattle.open_connections.specs.BufferedConnections.{bytes_waiting}
use Rattle.open_connections.specs.UnsentResponses.{TakesFirst}

pub takes_none : (a : Option (List ℕ)) (waits : List ℕ) → TakesFirst a a waits waits
takes_none a waits = ([], Appends-nil a, refl)

-- one more write
pub takes_more : (a b c : Option (List ℕ)) (all part rest later : List ℕ) (n : ℕ) → TakesFirst a b all (part ++ rest) → Appends b c (take n part)
    → n ≤ length part → later ≡ drop n (part ++ rest) → TakesFirst a c all later
takes_more a b c all part rest later n took wrote le is = (
  took.0 ++ take n part,
  Appends-trans a b c took.0 (take n part) took.1 wrote,
  took.2 ∙ ap (λ l. took.0 ++ l) cut ∙ sym (append_assoc took.0 (take n part) later),
)
  where
    cut : part ++ rest ≡ take n part ++ later
    cut = sym (take-append-drop n (part ++ rest)) ∙ ap (λ l. l ++ drop n (part ++ rest)) (take-append-le n part rest le) ∙ ap (λ l. take n part ++ l) (sym is)

-- a write that failed
pub takes_no_more : (a b c : Option (List ℕ)) (all waits : List ℕ) → TakesFirst a b all waits → Keeps b c → TakesFirst a c all waits
takes_no_more a b c all waits took kept = (took.0, Appends-kept a b c took.0 took.1 kept, took.2)

-- what was handed over stays
pub handed_stays : (a b : Option (List ℕ)) (waited waits : List ℕ) → TakesFirst a b waited waits → Keeps (append_known a waited) (append_known b waits)
handed_stays a b waited waits took = append_known-moved a b took.0 waits waited took.1 took.2

-- bytes are handed over after which nothing waited
pub handed_grows : (a b : Option (List ℕ)) (all waits : List ℕ) → TakesFirst a b all waits → Appends (append_known a []) (append_known b waits) all
handed_grows None b all waits took = tt
handed_grows (Some x) None all waits took = absurd took.1
handed_grows (Some x) (Some y) all waits took =
    ap (λ l. l ++ waits) took.1 ∙ append_assoc x took.0 waits ∙ ap (λ l. x ++ l) (sym took.2) ∙ ap (λ l. l ++ all) (sym (append-nil x))

-- the first of them, where the connection failed after these
pub handed_part : (a b : Option (List ℕ)) (all waits : List ℕ) (n : ℕ) → TakesFirst a b all waits → n ≡ length all - length waits
    → Appends (append_known a []) (append_known b []) (take n all)
handed_part None b all waits n took is = tt
handed_part (Some x) None all waits n took is = absurd took.1
handed_part (Some x) (Some y) all waits n took is =
    append-nil y ∙ took.1 ∙ ap (λ l. x ++ l) (sym first) ∙ ap (λ l. l ++ take n all) (sym (append-nil x))
  where
    long : length all ≡ length took.0 + length waits
    long = ap length took.2 ∙ length-append took.0 waits

    count : n ≡ length took.0
    count = is ∙ omega (arith, long)

    first : take n all ≡ took.0
    first = ap (λ k. take k all) count ∙ ap (take (length took.0)) took.2 ∙ take-append_seam took.0 waits

-- bytes of a write that the connection took
pub handed_written : (a b : Option (List ℕ)) (bytes : List ℕ) → Appends a b bytes → Appends (append_known a []) (append_known b []) bytes
handed_written None b bytes wrote = tt
handed_written (Some x) None bytes wrote = absurd wrote
handed_written (Some x) (Some y) bytes wrote = append-nil y ∙ wrote ∙ ap (λ l. l ++ bytes) (sym (append-nil x))

-- bytes that are kept
pub handed_kept : (a b : Option (List ℕ)) (bytes : List ℕ) → Keeps a b → Appends (append_known a []) (append_known b bytes) bytes
handed_kept None b bytes kept = tt
handed_kept (Some x) None bytes kept = absurd kept
handed_kept (Some x) (Some y) bytes kept = ap (λ l. l ++ bytes) (kept ∙ sym (append-nil x))

-- so many of the next bytes were written, and some of them are left
pub passed : (part rest : List ℕ) (sent count : ℕ) → count ≤ length (drop sent part) → drop (sent + count) part ++ rest ≡ drop count (drop sent part ++ rest)
passed part rest sent count le = ap (λ l. l ++ rest) (sym (drop-drop count sent part)) ∙ sym (drop-append-le count (drop sent part) rest le)

-- and none of them is left
pub passed_all : (part rest : List ℕ) (sent count : ℕ) → count ≤ length (drop sent part) → length part ≤ sent + count
    → rest ≡ drop count (drop sent part ++ rest)
passed_all part rest sent count le most = ap (λ l. l ++ rest) (sym (drop_all (sent + count) part most)) ∙ passed part rest sent count le

-- ---- what was handed over, after which nothing waited

none_waits : (before : Option Parted) → is_some before ≡ false → bytes_waiting before ≡ []
none_waits None none = refl
none_waits (Some w) none = absurd (cc none)

-- a response was taken, and some of it may wait
pub responded : (a b : Option (List ℕ)) (before after : Option Parted) (all response waits : List ℕ) → is_some before ≡ false → bytes_waiting after ≡ waits
    → all ≡ response → TakesFirst a b all waits
    → Appends (append_known a (bytes_waiting before)) (append_known b (bytes_waiting after)) response
responded a b before after all response waits none left same took =
    subst (λ (l : List ℕ). Appends (append_known a l) (append_known b (bytes_waiting after)) response) (sym (none_waits before none))
    (subst (λ (l : List ℕ). Appends (append_known a []) (append_known b l) response) (sym left)
    (subst (λ (l : List ℕ). Appends (append_known a []) (append_known b waits) l) same (handed_grows a b all waits took)))

-- the connection failed after the first bytes of it
pub responded_part : (a b : Option (List ℕ)) (before : Option Parted) (all response waits : List ℕ) (n : ℕ) → is_some before ≡ false → all ≡ response
    → TakesFirst a b all waits → n ≡ length all - length waits
    → Appends (append_known a (bytes_waiting before)) (append_known b (bytes_waiting before)) (take n response)
responded_part a b before all response waits n none same took is =
    subst (λ (l : List ℕ). Appends (append_known a l) (append_known b l) (take n response)) (sym (none_waits before none))
    (subst (λ (l : List ℕ). Appends (append_known a []) (append_known b []) (take n l)) same (handed_part a b all waits n took is))

-- what waited was written as far as the connection took it
pub flushed : (a b : Option (List ℕ)) (before after : Option Parted) (waited waits : List ℕ) → bytes_waiting before ≡ waited → bytes_waiting after ≡ waits
    → TakesFirst a b waited waits
    → Keeps (append_known a (bytes_waiting before)) (append_known b (bytes_waiting after))
flushed a b before after waited waits was left took =
    subst (λ (l : List ℕ). Keeps (append_known a l) (append_known b (bytes_waiting after))) (sym was)
    (subst (λ (l : List ℕ). Keeps (append_known a waited) (append_known b l)) (sym left) (handed_stays a b waited waits took))

pub none_left : (xs : List ℕ) → length xs ≡ 0 → xs ≡ []
none_left [] e = refl
none_left (x ∷ xs) e = absurd (omega (arith, e))
