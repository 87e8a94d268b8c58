-- Processes by first appearance, with one more at the end.
use Rattle.std.proofs.Common.{◌≡◌, ◌<◌, ◌+◌, ℕ, suc, arith, length, length-append, map, Bool, true, false, cond, not, ◌||◌, List, [], ◌∷◌, ◌++◌, Some, None}
use Rattle.std.proofs.Common.{refl, sym, ap, ◌∙◌, append-nil, append_assoc, true≢false}
use Rattle.std.specs.Prelude.{if◌then◌else◌}
use Rattle.std.proofs.lemmas.List.{map-append}
use Rattle.std.proofs.lemmas.List.Elements.{filter-append}
use Rattle.std.proofs.lemmas.List.Folds.{list_any-append}
use Rattle.jaeger_model.specs.declared.batch.Process.{Process}
use Rattle.jaeger_model.specs.Sameness.{same_process}
use Rattle.jaeger_model.specs.SameLaws.{same_process-decides}
use Rattle.trace_model.specs.declared.answer.Shown.{Shown}
use Rattle.answer_trees.specs.ProcessNames.{added, among, distinct, others, place}
use Rattle.answer_trees.specs.ProcessNumbers.{place_among}
use Rattle.answer_trees.specs.Trees.{process_of, processes_of}

equal : (a b : Process) → same_process a b ≡ true → a ≡ b
equal a b = (same_process-decides a b).0

alike : (a b : Process) → a ≡ b → same_process a b ≡ true
alike a b = (same_process-decides a b).1

pub itself : (p : Process) → same_process p p ≡ true
itself p = alike p p refl

unlike_back : (a b : Process) → same_process a b ≡ false → same_process b a ≡ false
unlike_back a b e = by (same_process b a) refl
  where
    by : (t : Bool) → same_process b a ≡ t → t ≡ false
    by true f = absurd (true≢false (sym (alike a b (sym (equal b a f))) ∙ e))
    by false f = refl

-- leaving out those equal to x leaves out none equal to p
among_others : (p x : Process) (ds : List Process) → same_process p x ≡ false → among p (others x ds) ≡ among p ds
among_others p x [] e = refl
among_others p x (d ∷ ds) e = by (same_process x d) refl (among_others p x ds e)
  where
    by : (t : Bool) → same_process x d ≡ t → among p (others x ds) ≡ among p ds
        → among p (if not t then d ∷ others x ds else others x ds) ≡ (same_process p d || among p ds)
    by true f h =
        let away : same_process p d ≡ false = ap (λ (y : Process). same_process p y) (sym (equal x d f)) ∙ e in
        rw away h
    by false f h = ap (λ (t : Bool). same_process p d || t) h

others_one : (x p : Process) (t : Bool) → same_process x p ≡ t → others x (p ∷ []) ≡ (if t then [] else p ∷ [])
others_one x p true e = rw e refl
others_one x p false e = rw e refl

pub distinct_push : (xs : List Process) (p : Process) → distinct (xs ++ p ∷ []) ≡ (if among p (distinct xs) then distinct xs else distinct xs ++ p ∷ [])
distinct_push [] p = refl
distinct_push (x ∷ xs) p = by (same_process p x) (among p (distinct xs)) refl refl (distinct_push xs p)
  where
    split : others x (distinct xs ++ p ∷ []) ≡ others x (distinct xs) ++ others x (p ∷ [])
    split = filter-append (λ q. not (same_process x q)) (distinct xs) (p ∷ [])

    by : (same seen : Bool) → same_process p x ≡ same → among p (distinct xs) ≡ seen
        → distinct (xs ++ p ∷ []) ≡ (if seen then distinct xs else distinct xs ++ p ∷ [])
        → x ∷ others x (distinct (xs ++ p ∷ []))
        ≡ (if same_process p x || among p (others x (distinct xs)) then x ∷ others x (distinct xs) else x ∷ (others x (distinct xs) ++ p ∷ []))
    by true true e f h = rw (h, e) refl
    by true false e f h =
        rw (h, e, split, others_one x p true (alike x p (sym (equal p x e)))) (ap (λ (ds : List Process). x ∷ ds) (append-nil (others x (distinct xs))))
    by false true e f h = rw (h, e, among_others p x (distinct xs) e, f) refl
    by false false e f h = rw (h, e, among_others p x (distinct xs) e, f, split, others_one x p false (unlike_back p x e)) refl

-- one more span
pub processes_more : (known : List Process) (front : List Shown) (s : Shown) → known ≡ processes_of front
    → processes_of (front ++ s ∷ []) ≡ added s.placed.process known
processes_more known front s e =
    ap distinct (map-append process_of front (s ∷ [])) ∙ distinct_push (map process_of front) s.placed.process ∙ ap (added s.placed.process) (sym e)

-- ---- places

-- what follows changes no place
place_front : (p : Process) (ps rest : List Process) → among p ps ≡ true → place p (ps ++ rest) ≡ place p ps
place_front p [] rest e = absurd (true≢false (sym e))
place_front p (q ∷ qs) rest e = by (same_process p q) e (place_front p qs rest)
  where
    by : (t : Bool) → (t || among p qs) ≡ true → (among p qs ≡ true → place p (qs ++ rest) ≡ place p qs)
        → (if t then 0 else suc (place p (qs ++ rest))) ≡ (if t then 0 else suc (place p qs))
    by true h later = refl
    by false h later = ap suc (later h)

among_added : (p : Process) (ps : List Process) → among p (added p ps) ≡ true
among_added p ps = by (among p ps) refl
  where
    by : (t : Bool) → among p ps ≡ t → among p (if t then ps else ps ++ p ∷ []) ≡ true
    by true e = e
    by false e = list_any-append (same_process p) ps (p ∷ []) ∙ rw (e, itself p) refl

-- and so is one that was among them
pub among_stays : (p q : Process) (ps : List Process) → among p ps ≡ true → among p (added q ps) ≡ true
among_stays p q ps e = by (among q ps) refl
  where
    by : (t : Bool) → among q ps ≡ t → among p (if t then ps else ps ++ q ∷ []) ≡ true
    by true seen = e
    by false seen = list_any-append (same_process p) ps (q ∷ []) ∙ rw e refl

-- the process of the last span is among them
pub among_itself : (front : List Shown) (s : Shown) → among s.placed.process (processes_of (front ++ s ∷ [])) ≡ true
among_itself front s = ap (among s.placed.process) (processes_more (processes_of front) front s refl) ∙ among_added s.placed.process (processes_of front)

-- later spans don't change the places of earlier processes
processes_grow : (front rest : List Shown) → (more : List Process) × (processes_of (front ++ rest) ≡ processes_of front ++ more)
processes_grow front [] = ([], ap processes_of (append-nil front) ∙ sym (append-nil (processes_of front)))
processes_grow front (s ∷ rest) =
    let later = processes_grow (front ++ s ∷ []) rest in
    let known : List Process = processes_of front in
    let whole : processes_of (front ++ s ∷ rest) ≡ added s.placed.process known ++ later.0 =
    ap processes_of (sym (append_assoc front (s ∷ []) rest)) ∙ later.1 ∙ ap (λ ps. ps ++ later.0) (processes_more known front s refl) in
    by (among s.placed.process known) later.0 whole
  where
    by : (t : Bool) (later : List Process)
        → processes_of (front ++ s ∷ rest) ≡ (if t then processes_of front else processes_of front ++ s.placed.process ∷ []) ++ later → (more : List Process)
        × (processes_of (front ++ s ∷ rest) ≡ processes_of front ++ more)
    by true later e = (later, e)
    by false later e = (s.placed.process ∷ later, e ∙ append_assoc (processes_of front) (s.placed.process ∷ []) later)

-- a process keeps its place
pub place_stays : (front rest : List Shown) (s : Shown)
    → place s.placed.process (processes_of ((front ++ s ∷ []) ++ rest)) ≡ place s.placed.process (processes_of (front ++ s ∷ []))
place_stays front rest s =
    let grown = processes_grow (front ++ s ∷ []) rest in
    let there = among_itself front s in
    ap (place s.placed.process) grown.1 ∙ place_front s.placed.process (processes_of (front ++ s ∷ [])) grown.0 there

-- ---- numbers

-- one that has a number is among them, at that place
pub found_place : (p : Process) (ps : List Process) (k : ℕ) → Some k ≡ place_among p ps → (among p ps ≡ true) × (k ≡ place p ps)
found_place p ps k e = by (among p ps) e
  where
    by : (t : Bool) → Some k ≡ (if t then Some (place p ps) else None) → (t ≡ true) × (k ≡ place p ps)
    by true h = (refl, cc (h))
    by false h = absurd (cc (h))

place_below : (p : Process) (ps : List Process) → among p ps ≡ true → place p ps < length ps
place_below p [] e = absurd (true≢false (sym e))
place_below p (q ∷ qs) e = by (same_process p q) e (place_below p qs)
  where
    by : (t : Bool) → (t || among p qs) ≡ true → (among p qs ≡ true → place p qs < length qs) → (if t then 0 else suc (place p qs)) < suc (length qs)
    by true h later = omega arith
    by false h later = let below = later h in omega (arith, below)

pub found_below : (p : Process) (ps : List Process) (k : ℕ) → Some k ≡ place_among p ps → k < length ps
found_below p ps k e = let found = found_place p ps k e in let below = place_below p ps found.0 in omega (arith, found.1, below)

pub not_found : (p : Process) (ps : List Process) → None ≡ place_among p ps → among p ps ≡ false
not_found p ps e = by (among p ps) e
  where
    by : (t : Bool) → None ≡ (if t then Some (place p ps) else None) → t ≡ false
    by true h = absurd (cc (h))
    by false h = refl

pub added_known : (p : Process) (ps : List Process) → among p ps ≡ true → added p ps ≡ ps
added_known p ps e = rw e refl

pub added_new : (p : Process) (ps : List Process) → among p ps ≡ false → added p ps ≡ ps ++ p ∷ []
added_new p ps e = rw e refl

-- a new one is the last
pub place_new : (p q : Process) (ps : List Process) → same_process q p ≡ true → among q ps ≡ false → place q (ps ++ p ∷ []) ≡ length ps
place_new p q [] same e = rw same refl
place_new p q (x ∷ xs) same e = by (same_process q x) e (place_new p q xs same)
  where
    by : (t : Bool) → (t || among q xs) ≡ false → (among q xs ≡ false → place q (xs ++ p ∷ []) ≡ length xs)
        → (if t then 0 else suc (place q (xs ++ p ∷ []))) ≡ suc (length xs)
    by true h later = absurd (true≢false h)
    by false h later = ap suc (later h)

-- the places after one more, which is new
pub place_more : (p : Process) (ps : List Process) → among p ps ≡ false → (q : Process)
    → cond (same_process p q) (Some (length ps)) (place_among q ps) ≡ place_among q (ps ++ p ∷ [])
place_more p ps e q = by (same_process p q) refl
  where
    anywhere : among q (ps ++ p ∷ []) ≡ (among q ps || (same_process q p || false))
    anywhere = list_any-append (same_process q) ps (p ∷ [])

    other : (t : Bool) → among q ps ≡ t → same_process q p ≡ false
        → (if t then Some (place q ps) else None) ≡ (if t || (same_process q p || false) then Some (place q (ps ++ p ∷ [])) else None)
    other true there unlike = ap Some (sym (place_front q ps (p ∷ []) there))
    other false there unlike = rw unlike refl

    by : (t : Bool) → same_process p q ≡ t → cond t (Some (length ps)) (place_among q ps) ≡ place_among q (ps ++ p ∷ [])
    by true same =
        let back : same_process q p ≡ true = alike q p (sym (equal p q same)) in
        let absent : among q ps ≡ false = ap (λ x. among x ps) (sym (equal p q same)) ∙ e in
        sym (rw (anywhere, absent, back) (ap Some (place_new p q ps back absent)))
    by false unlike = other (among q ps) refl (unlike_back p q unlike) ∙ sym (ap (λ t. if t then Some (place q (ps ++ p ∷ [])) else None) anywhere)

-- a span's process has a place among them
pub place_within : (front rest : List Shown) (s : Shown)
    → place s.placed.process (processes_of ((front ++ s ∷ []) ++ rest)) < length (processes_of ((front ++ s ∷ []) ++ rest))
place_within front rest s =
    let p = s.placed.process in
    let grown = processes_grow (front ++ s ∷ []) rest in
    let known = processes_of (front ++ s ∷ []) in
    let there : among p known ≡ true = ap (among p) (processes_more (processes_of front) front s refl) ∙ among_added p (processes_of front) in
    let below = place_below p known there in
    let long : length (processes_of ((front ++ s ∷ []) ++ rest)) ≡ length known + length grown.0 = ap length grown.1 ∙ length-append known grown.0 in
    rw (place_stays front rest s, long) (omega (arith, below))
