-- Numbers tell hosts apart, and deltas by numbers are those of the spans' clocks.
use Rattle.std.proofs.Common.{Bor, eqb-true, ◌≡◌, ℕ, zero, suc, ℤ, ◌+◌, ◌<◌, Bool, true, false, List, [], ◌∷◌, ◌++◌, map, take, drop, length, get_or}
use Rattle.std.proofs.Common.{refl, sym, ap, ◌∙◌, arith, subst}
use Rattle.std.specs.Prelude.{Option, Some, None, IfSome, option_map, is_some, option_and_then, slice_get, not, ◌||◌, ◌==◌, cond, unwrap_or, codes}
use Rattle.std.specs.Prelude.{if◌then◌else◌}
use Rattle.std.specs.Option.{option_or, option_copied}
use Rattle.std.specs.Slice.{IsItemAt}
use Rattle.std.specs.Ordering.{is_eq}
use Rattle.std.specs.Cmp.Lexicographic.{texts_ties, bytes_decides}
use Rattle.std.proofs.lemmas.Bool.{false≢true}
use Rattle.std.proofs.lemmas.Map.Made.{IfSome-find_same}
use Rattle.std.proofs.lemmas.Option.{get_or_from_slice_get, slice_get_within, slice_get_past, slice_get-get_or}
use Rattle.std.proofs.lemmas.List.{map-append, map_more, map_push, get_or-map, length-map, length-take-le, take-append-drop}
use Rattle.jaeger_model.specs.declared.placed.Placed.{Placed}
use Rattle.jaeger_model.specs.Texts.{same_text, text_cmp}
use Rattle.jaeger_model.specs.Tags.{first_text}
use Rattle.trace_model.specs.Adjusting.{host_of, new_delta, delta_between, clock_at, clock_below}
use Rattle.trace_adjust.specs.KnownClocks.{clock_near, clock_with, clocks_with, IsMarked}
use Rattle.trace_adjust.specs.KnownDeltas.{delta_of, deltas_in}
use Rattle.trace_model.specs.SharedProcesses.{ShareProcesses}
use Rattle.trace_adjust.specs.Hosts.{hosts_of, number_in, IsHostKept, AreKept, AreHostNumbers, delta_by}
use Rattle.trace_model.specs.KeyedPlaces.{stored_under}
use Rattle.trace_adjust.specs.declared.clock.HostedSpan.{HostedSpan}
use Rattle.trace_adjust.specs.declared.known_deltas.KnownDelta.{KnownDelta}
use Rattle.trace_adjust.proofs.FirstPlaceTables.{place_push, place_found}
use Rattle.trace_adjust.proofs.KnownClocks.{with_at}
use Rattle.trace_adjust.proofs.KnownParts.{known_read}
use Rattle.trace_adjust.proofs.Marks.{start_is, count_known}
use Rattle.trace_model.proofs.NameLaws.{same_where, text_is, text_self, text_turned}
use Rattle.trace_model.proofs.Tables.{entered, kept}

-- ---- numbers
-- the host with the number
pub number_there : (hosts : List (List ℕ)) (t : List ℕ) (n : ℕ) → number_in hosts t ≡ Some n → get_or hosts n [] ≡ t
number_there hosts t n e =
    subst (λ o. IfSome o (λ h. h ≡ t)) (sym (place_found (same_text t) hosts []) ∙ ap (option_map (λ j. get_or hosts j [])) e)
    (IfSome-find_same bytes_decides t hosts)

-- two hosts have the same number if they are equal
pub same_number : (hosts : List (List ℕ)) (t u : List ℕ) (n k : ℕ) → number_in hosts t ≡ Some n → number_in hosts u ≡ Some k → (n == k) ≡ same_text t u
same_number hosts t u n k e f =
    same_where n k t u (λ one. sym (number_there hosts t n e) ∙ ap (λ j. get_or hosts j []) one ∙ number_there hosts u k f)
    (λ one. let both : Some n ≡ Some k = sym e ∙ ap (number_in hosts) one ∙ f in cc both)

-- ---- deltas by numbers are those of the clocks
module _ (m : ℕ) (hosts : List (List ℕ)) (a b : HostedSpan) (known : KnownDelta) where
  abbrev d : ℤ
  d = known.delta

  abbrev q : Placed
  q = a.placed.now

  abbrev p : Placed
  p = b.placed.now

  by_tests : (empty same : Bool) → (same ≡ true → host_of p ≡ host_of q)
      → clock_with m p (if empty || not same then new_delta (clock_with m q d) p.span else d)
      ≡ (if empty || not same then clock_at m (host_of p) (new_delta (clock_with m q d) p.span) p.span else clock_at m (host_of q) d p.span)
  by_tests true same is = refl
  by_tests false true is = ap (λ h. clock_at m h d p.span) (is refl)
  by_tests false false is = refl

  below_is : IsMarked m q.span known → number_in hosts [] ≡ Some 0 → number_in hosts (host_of q) ≡ Some a.host_number
      → number_in hosts (host_of p) ≡ Some b.host_number
      → clock_with m p (delta_by a known b) ≡ clock_below m (clock_with m q d) p
  below_is mark none above number =
      let n = b.host_number in
      let nq = a.host_number in
      let empty : (n == 0) ≡ same_text (host_of p) [] = same_number hosts (host_of p) [] n 0 number none in
      let other : (n == nq) ≡ same_text (host_of p) (host_of q) = same_number hosts (host_of p) (host_of q) n nq number above in
      ap (λ s. clock_with m p (if (n == 0) || not (n == nq) then delta_between s q.span.duration p.span.start p.span.duration else d))
      (start_is m known q.span mark)
      ∙ by_tests (n == 0) (n == nq)
      (λ e. sym (number_there hosts (host_of p) n number) ∙ ap (λ j. get_or hosts j []) (eqb-true n nq e) ∙ number_there hosts (host_of q) nq above)
      ∙ (λ i. if empty i || not (other i) then clock_at m (host_of p) (new_delta (clock_with m q d) p.span) p.span else clock_at m (host_of q) d p.span)

-- ---- the table of numbers, with one more host
-- a host that is there already changes nothing
pub number_again : (hosts : List (List ℕ)) (h : List ℕ) (n : ℕ) → number_in hosts h ≡ Some n → (t : List ℕ) → number_in (hosts ++ h ∷ []) t ≡ number_in hosts t
number_again hosts h n e t =
    place_push (same_text t) hosts h ∙ sym (kept (number_in hosts) h t (length hosts) (same_text t h) (λ s. sym (text_is t h s)) (ap is_some e))

pub number_stays : (hosts more : List (List ℕ)) (t : List ℕ) (n : ℕ) → number_in hosts t ≡ Some n → number_in (hosts ++ more) t ≡ Some n
number_stays [] more t n e = absurd (false≢true (ap is_some e))
number_stays (h ∷ hosts) more t n e =
    elim (same_text t h) as (λ b. (if b then Some 0 else option_map suc (number_in hosts t)) ≡ Some n
    → (if b then Some 0 else option_map suc (number_in (hosts ++ more) t)) ≡ Some n) [
      | true ↦ λ q. q
      | false ↦ λ q. later (λ k. number_stays hosts more t k) (number_in hosts t) refl q
    ] e
  where
    later : ((k : ℕ) → number_in hosts t ≡ Some k → number_in (hosts ++ more) t ≡ Some k) → (o : Option ℕ) → number_in hosts t ≡ o → option_map suc o ≡ Some n
        → option_map suc (number_in (hosts ++ more) t) ≡ Some n
    later stays None r q = absurd (false≢true (ap is_some q))
    later stays (Some k) r q = ap (option_map suc) (stays k r) ∙ q

-- the number at a place
pub number_read : (hosts : List (List ℕ)) (trace : List Placed) (ns : List ℕ) (i : ℕ) (d : Placed) (e : ℕ) → i < length trace → AreHostNumbers hosts trace ns
    → number_in hosts (host_of (get_or trace i d)) ≡ Some (get_or ns i e)
number_read hosts [] ns i d e l are = absurd (omega arith)
number_read hosts (p ∷ trace) [] i d e l are = absurd (cc are)
number_read hosts (p ∷ trace) (n ∷ ns) zero d e l are = let first : Some n ≡ number_in hosts (host_of p) = cc are in sym first
number_read hosts (p ∷ trace) (n ∷ ns) (suc i) d e l are =
    let rest : AreHostNumbers hosts trace ns = cc are in number_read hosts trace ns i d e (omega arith) rest

-- the clock with the delta is the one below the parent's
pub near_some : (m : ℕ) (trace : List Placed) (ks : List (Option KnownDelta)) (i j : ℕ) (a b : HostedSpan) (e : Placed) (k : KnownDelta) (r : ℤ)
    → ((x : Placed) → b.placed.now ≡ get_or trace i x) → ((x : Placed) → a.placed.now ≡ get_or trace j x)
    → number_in (hosts_of trace) (host_of b.placed.now) ≡ Some b.host_number → number_in (hosts_of trace) (host_of a.placed.now) ≡ Some a.host_number
    → length ks ≡ length trace → get_or ks j None ≡ Some k → IsMarked m a.placed.now.span k → r ≡ delta_by a k b
    → option_map (clock_with m (get_or trace i e)) (Some r) ≡ clock_near m (clocks_with m trace (deltas_in ks)) (get_or trace i e) (Some j)
near_some m trace ks i j a b e k r here there own above many known mark is =
    let ds : List (Option ℤ) = deltas_in ks in
    let d : ℤ = k.delta in
    let p : Placed = b.placed.now in
    let q : Placed = a.placed.now in
    let clock : get_or (clocks_with m trace ds) j None ≡ Some (clock_with m q d) =
    with_at m trace ds j q (count_known ks ∙ many) ∙ ap (option_map (clock_with m (get_or trace j q))) (known_read ks j ∙ ap delta_of known)
    ∙ ap (λ x. Some (clock_with m x d)) (sym (there q)) in
    subst (λ x. option_map (clock_with m x) (Some r) ≡ clock_near m (clocks_with m trace ds) x (Some j)) (here e)
    (ap (λ z. Some (clock_with m p z)) is
    ∙ ap Some (below_is m (hosts_of trace) a b k mark refl above own)
    ∙ ap (option_map (λ c. clock_below m c p)) (sym clock))

pub near_none : (m : ℕ) (trace : List Placed) (ks : List (Option KnownDelta)) (j : ℕ) (p : Placed) → length ks ≡ length trace → get_or ks j None ≡ None
    → None ≡ clock_near m (clocks_with m trace (deltas_in ks)) p (Some j)
near_none m trace ks j p many none =
    ap (option_map (λ a. clock_below m a p))
    (sym (with_at m trace (deltas_in ks) j p (count_known ks ∙ many)
    ∙ ap (option_map (clock_with m (get_or trace j p))) (known_read ks j ∙ ap delta_of none)))

-- ---- one more span's host
module _ (ps : List Placed) (i : ℕ) (p : Placed) (l : i < length ps) (e : p ≡ get_or ps i p) where
  abbrev all : List (List ℕ)
  all = hosts_of ps

  abbrev before : List (List ℕ)
  before = hosts_of (take i ps)

  hosts_more : map host_of (take (i + 1) ps) ≡ map host_of (take i ps) ++ host_of p ∷ []
  hosts_more = map_more host_of ps i p l ∙ ap (λ x. map host_of (take i ps) ++ host_of x ∷ []) (sym e)

  before_more : hosts_of (take (i + 1) ps) ≡ before ++ host_of p ∷ []
  before_more = ap (λ hs. [] ∷ hs) hosts_more

  all_is : all ≡ hosts_of (take (i + 1) ps) ++ map host_of (drop (i + 1) ps)
  all_is = ap hosts_of (sym (take-append-drop (i + 1) ps)) ∙ ap (λ hs. [] ∷ hs) (map-append host_of (take (i + 1) ps) (drop (i + 1) ps))

  host_at : get_or all (i + 1) [] ≡ host_of p
  host_at = ap (λ k. get_or all k []) (add_one i) ∙ get_or-map host_of ps i p [] l ∙ ap host_of (sym e)
    where
      add_one : (k : ℕ) → k + 1 ≡ suc k
      add_one k = omega arith

  pub table_more : (g : List ℕ → Option ℕ) → ((t : List ℕ) → g t ≡ number_in (before ++ host_of p ∷ []) t) → (t : List ℕ)
      → g t ≡ number_in (hosts_of (take (i + 1) ps)) t
  table_more g is t = is t ∙ ap (λ hs. number_in hs t) (sym before_more)

  pub numbers_more : (ns new : List ℕ) (n : ℕ) → AreHostNumbers all (take i ps) ns → new ≡ ns ++ n ∷ []
      → number_in (before ++ host_of p ∷ []) (host_of p) ≡ Some n
      → AreHostNumbers all (take (i + 1) ps) new
  numbers_more ns new n are put is =
      let known : number_in all (host_of p) ≡ Some n =
      ap (λ hs. number_in hs (host_of p)) (all_is ∙ ap (λ hs. hs ++ map host_of (drop (i + 1) ps)) before_more)
      ∙ number_stays (before ++ host_of p ∷ []) _ (host_of p) n is in
      ap (map Some) put ∙ map_push Some ns n ∙ (λ j. are j ++ (sym known) j ∷ [])
      ∙ sym (map_more (λ q. number_in all (host_of q)) ps i p l
      ∙ ap (λ x. map (λ q. number_in all (host_of q)) (take i ps) ++ number_in all (host_of x) ∷ []) (sym e))

  pub fresh_is : length before ≡ i + 1
  fresh_is = let a = length-map (take i ps) host_of in let c = length-take-le i ps (omega (arith, l)) in omega (arith, a, c)

  -- ---- what is stored for keys
  known_more : (t : List ℕ) (n : ℕ) → number_in before t ≡ Some n → number_in (hosts_of (take (i + 1) ps)) t ≡ Some n
  known_more t n is = ap (λ hs. number_in hs t) before_more ∙ number_stays before (host_of p ∷ []) t n is

  pub kept_on : (keys : List ℕ) (key n : ℕ) → IsHostKept ps keys i key n → IsHostKept ps keys (i + 1) key n
  kept_on keys key n k = record {
    index = k.index;
    before = let b = k.before in omega arith;
    stands = k.stands;
    host = known_more (get_or all (k.index + 1) []) n k.host;
  }

  pub kept_more : (keys : List ℕ) (m : ℕ → Option ℕ) → AreKept ps keys i m → AreKept ps keys (i + 1) m
  kept_more keys m known key n e = kept_on keys key n (known key n e)

  -- one more number, that of this span's host
  pub kept_put : (keys : List ℕ) (own : Option ℕ) (n : ℕ) (old new : ℕ → Option ℕ) → own ≡ slice_get keys i → ((q : ℕ) → new q ≡ stored_under own n old q)
      → number_in (before ++ host_of p ∷ []) (host_of p) ≡ Some n → AreKept ps keys i old → AreKept ps keys (i + 1) new
  kept_put keys None n old new at put number known key k e = kept_more keys old known key k (sym (put key) ∙ e)
  kept_put keys (Some own) n old new at put number known key k e = by_test (own == key) refl (sym (put key) ∙ e)
    where
      by_test : (b : Bool) → (own == key) ≡ b → (if b then Some n else old key) ≡ Some k → IsHostKept ps keys (i + 1) key k
      by_test false t q = kept_more keys old known key k q
      by_test true t q = record {
        index = i;
        before = omega arith;
        stands = sym at ∙ ap Some (eqb-true own key t);
        host = (λ j. number_in (before_more j) (host_at j)) ∙ number ∙ q;
      }

  -- a span has the host of each span with its key
  pub same_host : (keys : List ℕ) (j key : ℕ) → ShareProcesses ps keys → j < i → slice_get keys j ≡ Some key → slice_get keys i ≡ Some key
      → get_or all (j + 1) [] ≡ host_of p
  same_host keys j key share above there own =
      let one : get_or keys j 0 ≡ get_or keys i 0 = get_or_from_slice_get keys j key 0 there ∙ sym (get_or_from_slice_get keys i key 0 own) in
      let next : j + 1 ≡ suc j = omega arith in
      let within : j < length ps = omega (arith, above, l) in
      ap (λ k. get_or all k []) next ∙ get_or-map host_of ps j p [] within
      ∙ ap (λ q. first_text (codes "ip") q.tags) (share j i p (slice_get_within keys j key there, slice_get_within keys i key own, one))
      ∙ ap host_of (sym e)

  -- the number that is stored for a span's key is its host's
  pub own_number : (keys : List ℕ) (own : Option ℕ) (m : ℕ → Option ℕ) (n : ℕ) → ShareProcesses ps keys → own ≡ slice_get keys i → AreKept ps keys i m
      → option_and_then m own ≡ Some n
      → number_in before (host_of p) ≡ Some n
  own_number keys None m n share at known found = absurd (cc found)
  own_number keys (Some key) m n share at known found =
      let k = known key n found in
      ap (number_in before) (sym (same_host keys k.index key share k.before k.stands (sym at))) ∙ k.host

-- the key of a span's process, as a look-up borrows it
pub key_read : (keys : List ℕ) (i : ℕ) (r : Option (Bor ℕ)) → IsItemAt keys i r → option_copied r ≡ slice_get keys i
key_read keys i None h = sym (slice_get_past keys i h.3)
key_read keys i (Some x) h = ap Some (h.3.1 x.now) ∙ sym (slice_get-get_or keys i x.now h.3.0)

-- the number that a host gets
pub number_given : (hosts : List (List ℕ)) (h : List ℕ) (o : Option ℕ) (n fresh : ℕ) → o ≡ number_in hosts h → n ≡ unwrap_or o fresh → length hosts ≡ fresh
    → number_in (hosts ++ h ∷ []) h ≡ Some n
number_given hosts h o n fresh is given long =
    place_push (same_text h) hosts h ∙ (λ i. option_or ((sym is) i) (cond (text_self h i) (Some (long i)) None)) ∙ by_cases o ∙ ap Some (sym given)
  where
    by_cases : (o : Option ℕ) → option_or o (cond true (Some fresh) None) ≡ Some (unwrap_or o fresh)
    by_cases None = refl
    by_cases (Some k) = refl

-- the table after that
pub table_given : (hosts : List (List ℕ)) (h : List ℕ) (old new : List ℕ → Option ℕ) (fresh : ℕ) → ((t : List ℕ) → old t ≡ number_in hosts t)
    → length hosts ≡ fresh
    → ((t : List ℕ) → new t ≡ option_or (old t) (cond (same_text t h) (Some fresh) None)) → (t : List ℕ) → new t ≡ number_in (hosts ++ h ∷ []) t
table_given hosts h old new fresh is long put t =
    put t ∙ (λ i. option_or (is t i) (cond (same_text t h) (Some ((sym long) i)) None)) ∙ sym (place_push (same_text t) hosts h)

-- ---- one entry of the table of numbers
pub entry_made : (g : List ℕ → Option ℕ) (h : List ℕ) (o : Option ℕ) (fresh : ℕ) (t : List ℕ) → g h ≡ None → o ≡ cond (is_eq (text_cmp h t)) (Some fresh) (g t)
    → o ≡ option_or (g t) (cond (same_text t h) (Some fresh) None)
entry_made g h o fresh t none put =
    put ∙ ap (λ b. cond b (Some fresh) (g t)) (sym (texts_ties h t) ∙ text_turned h t)
    ∙ entered g h t fresh (same_text t h) (λ s. sym (text_is t h s)) (ap is_some none)
