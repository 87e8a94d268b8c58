-- Batches with a number in a list of entries.
use Rattle.std.proofs.Common.{◌≡◌, ℕ, zero, suc, ◌+◌, ◌-◌, ◌^◌, ◌<◌, ◌≤◌, Bool, true, false, List, [], ◌∷◌, ◌++◌, map, length, get_or, Option, Some, None, refl}
use Rattle.std.proofs.Common.{sym, ap, ◌∙◌, subst, arith, length-append, append_assoc, ℤ, pos, cond, nat_lt}
use Rattle.std.specs.Prelude.{slice_get, if◌then◌else◌}
use Rattle.std.specs.Arc.{arc_value}
use Rattle.std.specs.declared.sync.Arc.{Arc}
use Rattle.std.specs.Global.{Global}
use Rattle.std.specs.Option.{is_some, option_map_or, unwrap_or}
use Rattle.std.specs.List.{list_any, position_or_len}
use Rattle.std.proofs.lemmas.Bool.{false≢true, false_from_ne_true, lt-ltb}
use Rattle.std.proofs.lemmas.List.Sums.{position_or_len_is}
use Rattle.std.proofs.lemmas.List.Elements.{All-from_get_or}
use Rattle.std.proofs.lemmas.List.Folds.{list_any_at, list_any_none}
use Rattle.std.proofs.lemmas.List.{get_or_append_left, append-nil, length-map, map_push}
use Rattle.std.proofs.lemmas.Option.{slice_get-get_or}
use Rattle.sent_batches.specs.declared.keys.BatchKeys.{BatchKeys}
use Rattle.jaeger_model.specs.declared.batch.Batch.{Batch}
use Rattle.jaeger_model.specs.declared.batch.Process.{Process}
use Rattle.trace_model.specs.declared.entry.Entry.{Entry}
use Rattle.trace_model.specs.declared.entry.Work.{Work}
use Rattle.trace_model.specs.declared.entry.Work.TheVariants as brings
use Rattle.trace_model.specs.Histories.{before_last}
use Rattle.trace_model.specs.EntryWork.{batch_brought}
use Rattle.trace_model.specs.ResentBatches.{resends, sent_before, SentOnceAfter}
use Rattle.trace_model.proofs.Admissions.{sent_nowhere}
use Rattle.trace_model.proofs.LastEntries.{last_entry}
use Rattle.trace_model.proofs.Lists.{map_agree}
use Rattle.trace_model.proofs.ResentBatches.{sent_as, limit_not_sent, alike}
use Rattle.sent_batches.specs.BatchHashes.{hash_of, batch_hash}
use Rattle.sent_batches.specs.SentIndex.{has_seq_no, numbered_from, work_hash, hash_after, is_sent_after, Sent, IsSentKept}
use Rattle.hash_tables.specs.RowPlaces.{LeadsTo}

-- ---- batches that were sent as one another
-- two works that a work resends resend one another
pub resend_each_other : (w u v : Work) → resends w u ≡ true → resends w v ≡ true → resends u v ≡ true
resend_each_other w u v e f = sym (alike w u e v) ∙ f

-- what a work resends has a number
pub resent_has : (w u : Work) → resends w u ≡ true → has_seq_no u ≡ true
resent_has (brings.Batch a) (brings.Batch b) e = let s = sent_as a b e in ap is_some (sym s.number) ∙ s.numbered
resent_has (brings.Batch a) (brings.TraceLimit n) e = absurd (false≢true e)
resent_has (brings.TraceLimit m) u e = absurd (false≢true e)

-- and they have the same hash
same_work_hash : (keys : BatchKeys) (b : Batch) (w : Work) → resends (brings.Batch b) w ≡ true → work_hash keys w ≡ batch_hash keys b
same_work_hash keys b (brings.Batch a) e =
    let s = sent_as b a e in
    ap (λ (n : Option ℤ). hash_of keys (unwrap_or n (pos 0)) a.process) (sym s.number)
    ∙ ap (λ (p : Process). hash_of keys (unwrap_or b.seq_no (pos 0)) p) (sym s.process)
same_work_hash keys b (brings.TraceLimit n) e = absurd (false≢true e)

-- the hash of the work is that of its batch
pub hash_is : (keys : BatchKeys) (w : Work) (b : Batch) → batch_brought w ≡ Some b → work_hash keys w ≡ batch_hash keys b
hash_is keys w b brought = ap (λ (o : Option Batch). option_map_or (batch_hash keys) o 0) brought

pub same_hash : (keys : BatchKeys) (b : Batch) (h : List Entry) (before : ℕ) → is_sent_after b h before ≡ true → hash_after keys h before ≡ batch_hash keys b
same_hash keys b [] before e = absurd (false≢true e)
same_hash keys b (d ∷ h) zero e = same_work_hash keys b d.work e
same_hash keys b (d ∷ h) (suc before) e = same_hash keys b h before e

-- ---- the entries with a number
pub numbered_push : (n : ℕ) (h : List Entry) (e : Entry)
    → numbered_from n (h ++ e ∷ []) ≡ numbered_from n h ++ (if has_seq_no e.work then (n + length h) ∷ [] else [])
numbered_push n [] e = elim (has_seq_no e.work) as (λ b. (if b then n ∷ [] else []) ≡ (if b then (n + 0) ∷ [] else [])) [
  | true ↦ ap (λ m. m ∷ []) (omega arith)
  | false ↦ refl
]
numbered_push n (d ∷ h) e =
    let rest = numbered_push (n + 1) h e in
    let last : (if has_seq_no e.work then (n + 1 + length h) ∷ [] else []) ≡ (if has_seq_no e.work then (n + suc (length h)) ∷ [] else []) =
    ap (λ m. if has_seq_no e.work then m ∷ [] else []) (omega arith) in
    elim (has_seq_no d.work) as (λ b. (if b then n ∷ numbered_from (n + 1) (h ++ e ∷ []) else numbered_from (n + 1) (h ++ e ∷ []))
    ≡ (if b then n ∷ numbered_from (n + 1) h else numbered_from (n + 1) h) ++ (if has_seq_no e.work then (n + suc (length h)) ∷ [] else [])) [
      | true ↦ ap (λ ks. n ∷ ks) (rest ∙ ap (λ ks. numbered_from (n + 1) h ++ ks) last)
      | false ↦ rest ∙ ap (λ ks. numbered_from (n + 1) h ++ ks) last
    ]

-- each has only entries of the list before it
pub numbered_below : (n : ℕ) (h : List Entry) (row : ℕ) → row < length (numbered_from n h) → get_or (numbered_from n h) row 0 < n + length h
numbered_below n [] row l = absurd (omega arith)
numbered_below n (d ∷ h) row l =
    elim (has_seq_no d.work) as (λ b. row < length (if b then n ∷ numbered_from (n + 1) h else numbered_from (n + 1) h)
    → get_or (if b then n ∷ numbered_from (n + 1) h else numbered_from (n + 1) h) row 0 < n + suc (length h)) [
      | true ↦ λ m. first (λ r below. numbered_below (n + 1) h r below) row m
      | false ↦ λ m. let r = numbered_below (n + 1) h row m in omega arith
    ] l
  where
    first : ((r : ℕ) → r < length (numbered_from (n + 1) h) → get_or (numbered_from (n + 1) h) r 0 < n + 1 + length h) → (row : ℕ)
        → row < suc (length (numbered_from (n + 1) h)) → get_or (n ∷ numbered_from (n + 1) h) row 0 < n + suc (length h)
    first rest zero m = omega arith
    first rest (suc r) m = let below = rest r (omega arith) in omega arith

pub numbered_within : (h : List Entry) (row : ℕ) → row < length (numbered_from 0 h) → get_or (numbered_from 0 h) row 0 < length h
numbered_within h row l = let below = numbered_below 0 h row l in omega arith

pub numbered_few : (n : ℕ) (h : List Entry) → length (numbered_from n h) ≤ length h
numbered_few n [] = omega arith
numbered_few n (d ∷ h) =
    let rest = numbered_few (n + 1) h in
    elim (has_seq_no d.work) as (λ b. length (if b then n ∷ numbered_from (n + 1) h else numbered_from (n + 1) h) ≤ suc (length h)) [
      | true ↦ omega arith
      | false ↦ omega arith
    ]

-- a row for each entry that has a number
pub record IsRow (befores : List ℕ) (before : ℕ) : Type 0 where
  pub row : ℕ
  pub within : row < length befores
  pub is : get_or befores row 0 ≡ before

pub row_there : (n : ℕ) (h : List Entry) (i : ℕ) (e : Entry) → slice_get h i ≡ Some e → has_seq_no e.work ≡ true → IsRow (numbered_from n h) (n + i)
row_there n [] i e at num = absurd (cc at)
row_there n (d ∷ h) zero e at num =
    let same : d ≡ e = cc at in
    elim (has_seq_no d.work) as (λ b. has_seq_no d.work ≡ b → IsRow (if b then n ∷ numbered_from (n + 1) h else numbered_from (n + 1) h) (n + zero)) [
      | true ↦ λ t. record { row = 0; within = omega arith; is = omega arith }
      | false ↦ λ f. absurd (false≢true (sym f ∙ ap (λ (x : Entry). has_seq_no x.work) same ∙ num))
    ] refl
row_there n (d ∷ h) (suc i) e at num =
    let r = row_there (n + 1) h i e at num in
    let is : get_or (numbered_from (n + 1) h) r.row 0 ≡ n + suc i = r.is ∙ omega arith in
    elim (has_seq_no d.work) as (λ b. IsRow (if b then n ∷ numbered_from (n + 1) h else numbered_from (n + 1) h) (n + suc i)) [
      | true ↦ record { row = suc r.row; within = omega (arith, r.within); is = is }
      | false ↦ record { row = r.row; within = r.within; is = is }
    ]

-- ---- hashes
pub behind_same : (keys : BatchKeys) (h : List Entry) (e : Entry) (before : ℕ) → before < length h
    → hash_after keys (h ++ e ∷ []) before ≡ hash_after keys h before
behind_same keys [] e before l = absurd (omega arith)
behind_same keys (d ∷ h) e zero l = refl
behind_same keys (d ∷ h) e (suc before) l = behind_same keys h e before (omega arith)

pub behind_last : (keys : BatchKeys) (h : List Entry) (e : Entry) → hash_after keys (h ++ e ∷ []) (length h) ≡ work_hash keys e.work
behind_last keys [] e = refl
behind_last keys (d ∷ h) e = behind_last keys h e

pub hashes_same : (keys : BatchKeys) (h : List Entry) (e : Entry)
    → map (hash_after keys (h ++ e ∷ [])) (numbered_from 0 h) ≡ map (hash_after keys h) (numbered_from 0 h)
hashes_same keys h e =
    map_agree (hash_after keys (h ++ e ∷ [])) (hash_after keys h) (numbered_from 0 h)
    (All-from_get_or (λ k. hash_after keys (h ++ e ∷ []) k ≡ hash_after keys h k) (numbered_from 0 h) 0
    (λ r l. behind_same keys h e (get_or (numbered_from 0 h) r 0) (numbered_within h r l)))

-- ---- no two were sent as one another
any_false_at : {A : Type 0} (p : A → Bool) (xs : List A) (k : ℕ) (d : A) → list_any p xs ≡ false → k < length xs → p (get_or xs k d) ≡ false
any_false_at p xs k d none l = false_from_ne_true (p (get_or xs k d)) (λ t. false≢true (sym none ∙ list_any_at p xs k d l t))

once_pairs : (before h : List Entry) → SentOnceAfter before h → (i k : ℕ) (d : Entry) → i < length h → k < length before + i
    → resends (get_or h i d).work (get_or (before ++ h) k d).work ≡ false
once_pairs before [] once i k d il kl = absurd (omega arith)
once_pairs before (e ∷ h) once zero k d il kl =
    let within : k < length before = omega arith in
    ap (λ (x : Entry). resends e.work x.work) (get_or_append_left before (e ∷ h) d k within)
    ∙ any_false_at (λ (x : Entry). resends e.work x.work) before k d once.0 within
once_pairs before (e ∷ h) once (suc i) k d il kl =
    let long = length-append before (e ∷ []) in
    ap (λ (xs : List Entry). resends (get_or h i d).work (get_or xs k d).work) (sym (append_assoc before (e ∷ []) h))
    ∙ once_pairs (before ++ e ∷ []) h once.1 i k d (omega arith) (omega (arith, long))

-- ---- what is found
pub brought_is : (w : Work) (b : Batch) → batch_brought w ≡ Some b → w ≡ brings.Batch b
brought_is (brings.Batch a) b e = ap (λ x. brings.Batch x) (cc e)
brought_is (brings.TraceLimit n) b e = absurd (cc e)

pub nothing_resent : (w : Work) → batch_brought w ≡ None → (u : Work) → resends w u ≡ false
nothing_resent (brings.Batch b) e u = absurd (cc e)
nothing_resent (brings.TraceLimit n) e u = limit_not_sent n u

behind_is : (b : Batch) (h : List Entry) (i : ℕ) (d : Entry) → i < length h → is_sent_after b h i ≡ resends (brings.Batch b) (get_or h i d).work
behind_is b [] i d l = absurd (omega arith)
behind_is b (e ∷ h) zero d l = refl
behind_is b (e ∷ h) (suc i) d l = behind_is b h i d (omega arith)

pub found_some : (h : List Entry) (e : Entry) (b : Batch) (i : ℕ) → e.work ≡ brings.Batch b → SentOnceAfter [] h → i < length h → is_sent_after b h i ≡ true
    → Some i ≡ sent_before h e
found_some h e b i brought once l sought =
    let p : Entry → Bool = λ d. resends e.work d.work in
    let at : p (get_or h i e) ≡ true = ap (λ w. resends w (get_or h i e).work) brought ∙ sym (behind_is b h i e l) ∙ sought in
    let earlier : (k : ℕ) → k < i → p (get_or h k e) ≡ false = λ k below.
    false_from_ne_true (p (get_or h k e))
    (λ t. false≢true (sym (once_pairs [] h once i k e l (omega arith)) ∙ resend_each_other e.work (get_or h i e).work (get_or h k e).work at t)) in
    let is : position_or_len p h ≡ i = position_or_len_is p h i e (omega arith) earlier (λ _. at) in
    sym (ap (λ n. cond (nat_lt n (length h)) (Some n) None) is ∙ ap (λ x. cond x (Some i) None) (lt-ltb i (length h) l))

none_more : (k : ℕ) → 0 + k ≡ k
none_more k = omega arith

pub found_none : (h : List Entry) (e : Entry) (b : Batch) → e.work ≡ brings.Batch b
    → ((row : ℕ) → row < length (numbered_from 0 h) → is_sent_after b h (get_or (numbered_from 0 h) row 0) ≡ false) → None ≡ sent_before h e
found_none h e b brought none =
    let p : Entry → Bool = λ d. resends e.work d.work in
    sym (sent_nowhere h e (list_any_none p h (λ k d l. false_from_ne_true (p (get_or h k d)) (λ t.
    let u = (get_or h k d).work in
    let r = row_there 0 h k (get_or h k d) (slice_get-get_or h k d l) (resent_has e.work u t) in
    let behind : is_sent_after b h k ≡ true = behind_is b h k d l ∙ ap (λ w. resends w u) (sym brought) ∙ t in
    false≢true (sym (none r.row r.within) ∙ ap (λ n. is_sent_after b h n) (r.is ∙ none_more k) ∙ behind)))))

-- ---- one more entry
-- a list that is longer by an entry with a number has one row more, and is else unchanged
pub more_rows : (h : List Entry) (e : Entry) → has_seq_no e.work ≡ true → numbered_from 0 (h ++ e ∷ []) ≡ numbered_from 0 h ++ length h ∷ []
more_rows h e num =
    numbered_push 0 h e ∙ ap (λ b. numbered_from 0 h ++ (if b then (0 + length h) ∷ [] else [])) num
    ∙ ap (λ n. numbered_from 0 h ++ n ∷ []) (none_more (length h))

pub same_rows : (h : List Entry) (e : Entry) → has_seq_no e.work ≡ false → numbered_from 0 (h ++ e ∷ []) ≡ numbered_from 0 h
same_rows h e none = numbered_push 0 h e ∙ ap (λ b. numbered_from 0 h ++ (if b then (0 + length h) ∷ [] else [])) none ∙ append-nil (numbered_from 0 h)

-- there is room for the last entry of a list, and for a row of it
pub record OneMore (h : List Entry) (e : Entry) (sent : Sent) : Type 0 where
  pub last : before_last h ++ e ∷ [] ≡ h
  pub within : length (before_last h ++ e ∷ []) ≤ sent.room
  pub befores : length sent.befores < sent.room
  pub hashes : length sent.hashes < sent.room

pub one_more : (entries : List (Arc Entry Global)) (a : Arc Entry Global) (e : Entry) (sent : Sent) → 0 < length entries
    → a ≡ get_or entries (length entries - 1) a → e ≡ arc_value a
    → IsSentKept (before_last (map arc_value entries)) sent → length entries ≤ sent.room → OneMore (map arc_value entries) e sent
one_more entries a e sent some is value kept room =
    let h = before_last (map arc_value entries) in
    let last : h ++ e ∷ [] ≡ map arc_value entries = last_entry entries a e some is value in
    let within : length (h ++ e ∷ []) ≤ sent.room = omega (arith, ap length last, length-map entries arc_value) in
    let few : length sent.befores < sent.room = omega (arith, numbered_few 0 h, ap length kept.befores, length-append h (e ∷ [])) in
    record { last = last; within = within; befores = few; hashes = omega (arith, ap length kept.hashes, length-map sent.befores (hash_after sent.keys h)) }

pub kept_same : (h : List Entry) (e : Entry) (sent : Sent) → IsSentKept (before_last h) sent → has_seq_no e.work ≡ false → OneMore h e sent → IsSentKept h sent
kept_same h e sent kept none more =
    let before = before_last h in
    subst (λ (l : List Entry). IsSentKept l sent) more.last record {
      fits = kept.fits;
      within = more.within;
      befores = kept.befores ∙ sym (same_rows before e none);
      hashes =
          kept.hashes ∙ ap (map (hash_after sent.keys before)) kept.befores ∙ sym (hashes_same sent.keys before e)
          ∙ ap (map (hash_after sent.keys (before ++ e ∷ []))) (sym kept.befores);
      leads = kept.leads;
    }

pub kept_more : (h : List Entry) (e : Entry) (b : Batch) (sent more : Sent) → IsSentKept h sent → e.work ≡ brings.Batch b → is_some b.seq_no ≡ true
    → length (h ++ e ∷ []) ≤ sent.room
    → more.keys ≡ sent.keys → more.room ≡ sent.room → more.befores ≡ sent.befores ++ length h ∷ [] → more.hashes ≡ sent.hashes ++ batch_hash sent.keys b ∷ []
    → LeadsTo (sent.hashes ++ batch_hash sent.keys b ∷ []) more.slots → IsSentKept (h ++ e ∷ []) more
kept_more h e b sent more kept brought num room keys rooms befores hashes leads =
    let has : has_seq_no e.work ≡ true = ap has_seq_no brought ∙ num in
    let rows : more.befores ≡ numbered_from 0 (h ++ e ∷ []) = befores ∙ ap (λ ks. ks ++ length h ∷ []) kept.befores ∙ sym (more_rows h e has) in
    let last : hash_after sent.keys (h ++ e ∷ []) (length h) ≡ batch_hash sent.keys b = behind_last sent.keys h e ∙ ap (work_hash sent.keys) brought in
    let old : map (hash_after sent.keys (h ++ e ∷ [])) (numbered_from 0 h) ≡ sent.hashes =
    hashes_same sent.keys h e ∙ ap (map (hash_after sent.keys h)) (sym kept.befores) ∙ sym kept.hashes in
    let all : map (hash_after sent.keys (h ++ e ∷ [])) (numbered_from 0 h ++ length h ∷ []) ≡ sent.hashes ++ batch_hash sent.keys b ∷ [] =
    map_push (hash_after sent.keys (h ++ e ∷ [])) (numbered_from 0 h) (length h) ∙ ap (λ ks. ks ++ hash_after sent.keys (h ++ e ∷ []) (length h) ∷ []) old
    ∙ ap (λ k. sent.hashes ++ k ∷ []) last in
    record {
      fits = subst (λ n. n < 2 ^ 32) (sym rooms) kept.fits;
      within = subst (λ n. length (h ++ e ∷ []) ≤ n) (sym rooms) room;
      befores = rows;
      hashes =
          hashes ∙ sym all ∙ ap (map (hash_after sent.keys (h ++ e ∷ []))) (sym (more_rows h e has))
          ∙ ap (λ (k : BatchKeys). map (hash_after k (h ++ e ∷ [])) (numbered_from 0 (h ++ e ∷ []))) (sym keys)
          ∙ ap (map (hash_after more.keys (h ++ e ∷ []))) (sym rows);
      leads = subst (λ hs. LeadsTo hs more.slots) (sym hashes) leads;
    }

pub limit_has_none : (w : Work) → batch_brought w ≡ None → has_seq_no w ≡ false
limit_has_none (brings.Batch b) e = absurd (cc e)
limit_has_none (brings.TraceLimit n) e = refl

pub batch_has : (w : Work) (b : Batch) → batch_brought w ≡ Some b → has_seq_no w ≡ is_some b.seq_no
batch_has (brings.Batch a) b e = let same : a ≡ b = cc e in ap (λ (x : Batch). is_some x.seq_no) same
batch_has (brings.TraceLimit n) b e = absurd (cc e)
