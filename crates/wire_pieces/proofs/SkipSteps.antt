-- The steps of a value that is skipped in pieces.
use Rattle.std.proofs.Common.{◌≡◌, ℕ, ℤ, suc, ◌≤◌, ◌<◌, ◌+◌, ◌-◌, Bool, true, false, eqb, ltb, ◌||◌, List, [], ◌∷◌, ◌++◌, length, Some, None, Result}
use Rattle.std.proofs.Common.{Ok, Err, refl, ap, sym, ◌∙◌, arith, length-append, ◌&&◌}
use Rattle.std.proofs.lemmas.Bool.{ne_eqb}
use Rattle.thrift_binary.specs.declared.fault.WireError.{WireError}
use Rattle.thrift_binary.specs.declared.fault.WireError.TheVariants.{Truncated, BadType, TooDeep}
use Rattle.thrift_binary.specs.Reading.{◌>>=◌, Read, field_at, string_at, size_at, list_at, map_at, is_code}
use Rattle.thrift_binary.specs.Fields.{fields_in, fields_at}
use Rattle.thrift_binary.specs.Skipping.{Skip, past, times, text, width, struct, items, pairs, container, leaf, is_container, value_at, skip_at}
use Rattle.thrift_binary.proofs.SkippedByLevel.{value_at-leaf, value_at-deep, value_at-inside}
use Rattle.thrift_binary.proofs.CutSkip.{value_cut}
use Rattle.wire_pieces.specs.declared.heads.FieldHead.{FieldHead}
use Rattle.wire_pieces.specs.declared.skip.Frame.{Frame}
use Rattle.wire_pieces.specs.declared.skip.Frame.TheVariants.{Fields, Elements, Pairs, PairValue}
use Rattle.wire_pieces.specs.declared.skip.SkipProgress.{SkipProgress}
use Rattle.wire_pieces.specs.declared.skip.SkipProgress.TheVariants as progress
use Rattle.wire_pieces.specs.declared.skip.Current.{Current}
use Rattle.wire_pieces.specs.declared.skip.Current.TheVariants as now
use Rattle.wire_pieces.specs.declared.fault.PieceError.{PieceError}
use Rattle.wire_pieces.specs.declared.fault.PieceError.TheVariants.{Wire, Memory}
use Rattle.wire_pieces.specs.Pieces.{Comes, NeedsMore, Refuses, Refused, moment}
use Rattle.wire_pieces.specs.declared.heads.ListHead.{ListHead}
use Rattle.wire_pieces.specs.declared.maps.MapHead.{MapHead}
use Rattle.wire_pieces.specs.declared.numbers.Size.{Size}
use Rattle.wire_pieces.specs.Numbers.{size_from}
use Rattle.wire_pieces.specs.Heads.{list_head, map_head, head_from}
use Rattle.wire_pieces.specs.Frames.{passes, pair_at, frame_at, frames_at, now_at, state_at, begun, Progresses}
use Rattle.wire_pieces.proofs.Steps.{comes-is, comes-trans, comes-waits, comes-refused, comes-inside, waits-inside, refused-inside, refused-at}
use Rattle.wire_pieces.proofs.FieldSteps.{head-waits, head-refuses, head-stop, head-value, head-fresh}

assoc : {A B C : Type 0} (r : Result A WireError) (f : A → Result B WireError) (g : B → Result C WireError) → ((r >>= f) >>= g) ≡ (r >>= λ x. f x >>= g)
assoc (Ok x) f g = refl
assoc (Err e) f g = refl

same_end : (r : Read (Unit {0})) → (r >>= λ x. Ok (tt, x.1)) ≡ r
same_end (Ok x) = refl
same_end (Err f) = refl

-- ---- containers around

-- the innermost container is read first
frames_at-push : (levels : ℕ) (fs : List Frame) (f : Frame) (w : List ℕ)
    → frames_at levels (fs ++ f ∷ []) w ≡ (frame_at (levels - length fs) f w >>= λ x. frames_at levels fs x.1)
frames_at-push levels [] f w =
    let k : levels - 0 ≡ levels = omega arith in
    rw k (sym (same_end (frame_at levels f w)))
frames_at-push levels (g ∷ fs) f w =
    let k : levels - length (g ∷ fs) ≡ (levels - 1) - length fs = omega arith in
    ap (λ r. r >>= λ x. frame_at levels g x.1) (frames_at-push (levels - 1) fs f w)
    ∙ assoc (frame_at ((levels - 1) - length fs) f w) (λ x. frames_at (levels - 1) fs x.1) (λ x. frame_at levels g x.1)
    ∙ ap (λ m. frame_at m f w >>= λ x. frames_at (levels - 1) fs x.1 >>= λ y. frame_at levels g y.1) (sym k)

-- what follows the part that is being read
abbrev outside : List Frame → Unit {0} × List ℕ → Read (Unit {0})
outside around x = frames_at 64 around x.1

-- no container is left
pub all-skipped : (piece : List ℕ) → Comes (moment (state_at now.Nothing []) piece) (moment (λ w. Ok (tt, w)) piece)
unfolding state_at
all-skipped piece = comes-is _ _ piece (λ w. refl)

module _ (around : List Frame) where
  pub now-waits : (n next : Current) (w v : List ℕ)
      → NeedsMore Truncated (moment (now_at (64 - length around) n) w) (moment (now_at (64 - length around) next) v)
      → NeedsMore Truncated (moment (state_at n around) w) (moment (state_at next around) v)
  unfolding state_at
  now-waits n next w v g = waits-inside (outside around) g

  pub now-refused : (n : Current) (w : List ℕ) (e : PieceError) → Refused (moment (now_at (64 - length around) n) w) e
      → Refused (moment (state_at n around) w) e
  unfolding state_at
  now-refused n w e g = refused-inside (outside around) (now_at (64 - length around) n) w e g

  pub now-next : (n next : Current) (w v : List ℕ) → Comes (moment (now_at (64 - length around) n) w) (moment (now_at (64 - length around) next) v)
      → Comes (moment (state_at n around) w) (moment (state_at next around) v)
  unfolding state_at
  now-next n next w v g = comes-inside (outside around) g

  pub now-done : (n : Current) (w v : List ℕ) → Comes (moment (now_at (64 - length around) n) w) (moment (λ u. Ok (tt, u)) v)
      → Comes (moment (state_at n around) w) (moment (state_at now.Nothing around) v)
  now-done n w v g = now-next n now.Nothing w v g

  -- a container after its head
  frame-next : (n : Current) (f : Frame) (w v : List ℕ) → Comes (moment (now_at (64 - length around) n) w) (moment (frame_at (64 - length around) f) v)
      → Comes (moment (state_at n around) w) (moment (state_at now.Nothing (around ++ f ∷ [])) v)
  unfolding state_at
  frame-next n f w v g =
      comes-trans (comes-inside (outside around) g)
      (comes-is _ (state_at now.Nothing (around ++ f ∷ [])) v (λ u. sym (frames_at-push 64 around f u)))

  -- what is left of the innermost container
  frame-now : (f : Frame) (n : Current) (piece : List ℕ) → ((w : List ℕ) → frame_at (64 - length around) f w ≡ now_at (64 - length around) n w)
      → Comes (moment (state_at now.Nothing (around ++ f ∷ [])) piece) (moment (state_at n around) piece)
  unfolding state_at
  frame-now f n piece same =
      comes-is _ (state_at n around) piece (λ w. frames_at-push 64 around f w ∙ ap (λ r. r >>= outside around) (same w))

  -- a value, and what is left of its container after it
  value-inside : (c : ℕ) (f : Frame) (w : List ℕ)
      → ((value_at (64 - length around) c w >>= λ x. frame_at (64 - length around) f x.1) >>= outside around) ≡ begun c (around ++ f ∷ []) w
  unfolding begun
  value-inside c f w =
      let k : 65 - length (around ++ f ∷ []) ≡ 64 - length around = omega (arith, length-append around (f ∷ [])) in
      by (value_at (64 - length around) c w) ∙ ap (λ m. value_at m c w >>= outside (around ++ f ∷ [])) (sym k)
    where
      by : (r : Read (Unit {0})) → ((r >>= λ x. frame_at (64 - length around) f x.1) >>= outside around) ≡ (r >>= outside (around ++ f ∷ []))
      by (Ok x) = sym (frames_at-push 64 around f x.1)
      by (Err e) = refl

  value-next : (f rest : Frame) (c : ℕ) (piece : List ℕ)
      → ((w : List ℕ) → frame_at (64 - length around) f w ≡ (value_at (64 - length around) c w >>= λ x. frame_at (64 - length around) rest x.1))
      → Comes (moment (state_at now.Nothing (around ++ f ∷ [])) piece) (moment (begun c (around ++ rest ∷ [])) piece)
  unfolding state_at
  value-next f rest c piece same =
      comes-is _ (begun c (around ++ rest ∷ [])) piece
      (λ w. frames_at-push 64 around f w ∙ ap (λ r. r >>= outside around) (same w) ∙ value-inside c rest w)

  -- ---- between values

  pub element-next : (c n : ℕ) (piece : List ℕ)
      → Comes (moment (state_at now.Nothing (around ++ Elements c (suc n) ∷ [])) piece) (moment (begun c (around ++ Elements c n ∷ [])) piece)
  unfolding times
  element-next c n piece = value-next (Elements c (suc n)) (Elements c n) c piece (λ w. refl)

  pub key-next : (k v n : ℕ) (piece : List ℕ)
      → Comes (moment (state_at now.Nothing (around ++ Pairs k v (suc n) ∷ [])) piece) (moment (begun k (around ++ PairValue k v n ∷ [])) piece)
  unfolding times
  key-next k v n piece =
      value-next (Pairs k v (suc n)) (PairValue k v n) k piece
      (λ w. assoc (value_at (64 - length around) k w) (λ x. value_at (64 - length around) v x.1) (λ x. times n (pair_at (64 - length around) k v) x.1))

  pub pair_value-next : (k v n : ℕ) (piece : List ℕ)
      → Comes (moment (state_at now.Nothing (around ++ PairValue k v n ∷ [])) piece) (moment (begun v (around ++ Pairs k v n ∷ [])) piece)
  pair_value-next k v n piece = value-next (PairValue k v n) (Pairs k v n) v piece (λ w. refl)

  pub elements-end : (c : ℕ) (piece : List ℕ)
      → Comes (moment (state_at now.Nothing (around ++ Elements c 0 ∷ [])) piece) (moment (state_at now.Nothing around) piece)
  unfolding times
  elements-end c piece = frame-now (Elements c 0) now.Nothing piece (λ w. refl)

  pub pairs-end : (k v : ℕ) (piece : List ℕ)
      → Comes (moment (state_at now.Nothing (around ++ Pairs k v 0 ∷ [])) piece) (moment (state_at now.Nothing around) piece)
  unfolding times
  pairs-end k v piece = frame-now (Pairs k v 0) now.Nothing piece (λ w. refl)

  pub field-begins : (h : FieldHead) (piece : List ℕ) → ((w : List ℕ) → head_from h w ≡ field_at w)
      → Comes (moment (state_at now.Nothing (around ++ Fields ∷ [])) piece) (moment (state_at (now.Field h) around) piece)
  field-begins h piece fresh =
      frame-now Fields (now.Field h) piece
      (λ w. sym (head-fresh (λ e. e) (passes (64 - length around)) (λ s c i. value_cut (64 - length around) c) tt h fresh w))

  -- ---- the head of a field, a string, a list or a map

  pub field-waits : (h k : FieldHead) (w v : List ℕ) → NeedsMore Truncated (moment (head_from h) w) (moment (head_from k) v)
      → NeedsMore Truncated (moment (state_at (now.Field h) around) w) (moment (state_at (now.Field k) around) v)
  field-waits h k w v g = now-waits (now.Field h) (now.Field k) w v (head-waits (λ e. e) (passes (64 - length around)) tt h k w v g)

  pub field-refused : (h : FieldHead) (w : List ℕ) (e : PieceError) → Refused (moment (head_from h) w) e → Refused (moment (state_at (now.Field h) around) w) e
  field-refused h w (Wire e) g = now-refused (now.Field h) w (Wire e) (head-refuses (λ e. e) (passes (64 - length around)) tt h w e (λ same. same) g)
  field-refused h w Memory g = tt

  pub field-stop : (h : FieldHead) (w v : List ℕ) → Comes (moment (head_from h) w) (moment (λ u. Ok (None, u)) v)
      → Comes (moment (state_at (now.Field h) around) w) (moment (state_at now.Nothing around) v)
  field-stop h w v g = now-done (now.Field h) w v (head-stop (λ e. e) (passes (64 - length around)) tt h w v g)

  pub field-value : (h : FieldHead) (c : ℕ) (i : ℤ) (w v : List ℕ) → Comes (moment (head_from h) w) (moment (λ u. Ok (Some (c, i), u)) v)
      → Comes (moment (state_at (now.Field h) around) w) (moment (begun c (around ++ Fields ∷ [])) v)
  unfolding state_at
  field-value h c i w v g =
      comes-trans
      (comes-inside (outside around) (head-value (λ e. e) (passes (64 - length around)) tt h w v c i (value_at (64 - length around) c) g (λ u. refl)))
      (comes-is _ (begun c (around ++ Fields ∷ [])) v (λ u. value-inside c Fields u))

  pub size-next : (p : Size) (next : Current) (n : ℕ) (w v : List ℕ) → ((levels : ℕ) (u : List ℕ) → now_at levels next u ≡ past n u)
      → Comes (moment (size_from p) w) (moment (λ u. Ok (n, u)) v) → Comes (moment (state_at (now.Size p) around) w) (moment (state_at next around) v)
  size-next p next n w v same g =
      now-next (now.Size p) next w v
      (comes-trans (comes-inside (λ m. past m.0 m.1) g) (comes-is _ (now_at (64 - length around) next) v (λ u. sym (same (64 - length around) u))))

  pub list-next : (p : ListHead) (c k : ℕ) (w v : List ℕ) → Comes (moment (list_head p) w) (moment (λ u. Ok ((c, k), u)) v)
      → Comes (moment (state_at (now.List p) around) w) (moment (state_at now.Nothing (around ++ Elements c k ∷ [])) v)
  list-next p c k w v g = frame-next (now.List p) (Elements c k) w v (comes-inside (λ h. times h.0.1 (value_at (64 - length around) h.0.0) h.1) g)

  pub map-next : (p : MapHead) (a b k : ℕ) (w v : List ℕ) → Comes (moment (map_head p) w) (moment (λ u. Ok (((a, b), k), u)) v)
      → Comes (moment (state_at (now.Map p) around) w) (moment (state_at now.Nothing (around ++ Pairs a b k ∷ [])) v)
  map-next p a b k w v g =
      frame-next (now.Map p) (Pairs a b k) w v (comes-inside (λ h. times h.0.1 (pair_at (64 - length around) h.0.0.0 h.0.0.1) h.1) g)

  -- ---- what is begun

  pub begun-leaf : (c : ℕ) (n : Current) (piece : List ℕ) → is_container c ≡ false → ((levels : ℕ) (w : List ℕ) → now_at levels n w ≡ leaf c w)
      → Comes (moment (begun c around) piece) (moment (state_at n around) piece)
  unfolding state_at begun
  begun-leaf c n piece isnt same =
      comes-is _ _ piece (λ w. ap (λ r. r >>= outside around) (value_at-leaf (65 - length around) c w isnt ∙ sym (same (64 - length around) w)))

  pub begun-bad : (c : ℕ) (piece : List ℕ) → is_container c ≡ false → ((w : List ℕ) → leaf c w ≡ Err BadType)
      → Refuses Truncated (moment (begun c around) piece) BadType
  unfolding begun
  begun-bad c piece isnt bad =
      record {
        same = λ rest. ap (λ r. r >>= outside around) (value_at-leaf (65 - length around) c (piece ++ rest) isnt ∙ bad (piece ++ rest));
        no_want = λ h. absurd (let k : BadType ≡ Truncated = h in cc);
      }

  pub begun-deep : (c : ℕ) (piece : List ℕ) → is_container c ≡ true → 65 ≤ length around → Refuses Truncated (moment (begun c around) piece) TooDeep
  unfolding begun
  begun-deep c piece holds deep =
      record {
        same = λ rest. ap (λ r. r >>= outside around) (value_at-deep (65 - length around) c (piece ++ rest) holds (omega arith));
        no_want = λ h. absurd (let k : TooDeep ≡ Truncated = h in cc);
      }

  module _ (c : ℕ) (piece : List ℕ) (holds : is_container c ≡ true) (room : length around < 65) where
    begun-is : (n : Current) → ((w : List ℕ) → container (value_at (64 - length around)) c w ≡ now_at (64 - length around) n w)
        → Comes (moment (begun c around) piece) (moment (state_at n around) piece)
    unfolding state_at begun
    begun-is n same =
        comes-is _ _ piece (λ w. ap (λ r. r >>= outside around)
        (value_at-inside (65 - length around) (64 - length around) c w holds (omega arith) ∙ same w))

    pub begun-struct : (h : FieldHead) → c ≡ 12 → ((w : List ℕ) → head_from h w ≡ field_at w)
        → Comes (moment (begun c around) piece) (moment (state_at (now.Field h) around) piece)
    unfolding struct
    begun-struct h is fresh =
        begun-is (now.Field h)
        (λ w. rw is (sym (head-fresh (λ e. e) (passes (64 - length around)) (λ s d i. value_cut (64 - length around) d) tt h fresh w)))

    pub begun-map : (p : MapHead) → c ≡ 13 → ((w : List ℕ) → map_head p w ≡ map_at w)
        → Comes (moment (begun c around) piece) (moment (state_at (now.Map p) around) piece)
    unfolding pairs
    begun-map p is fresh =
        begun-is (now.Map p) (λ w. rw is (ap (λ r. r >>= λ h. times h.0.1 (pair_at (64 - length around) h.0.0.0 h.0.0.1) h.1) (sym (fresh w))))

    pub begun-list : (p : ListHead) → (c ≡ 12 → ⊥) → (c ≡ 13 → ⊥) → ((w : List ℕ) → list_head p w ≡ list_at w)
        → Comes (moment (begun c around) piece) (moment (state_at (now.List p) around) piece)
    unfolding items
    begun-list p other another fresh =
        let no12 : eqb c 12 ≡ false = ne_eqb c 12 other in
        let no13 : eqb c 13 ≡ false = ne_eqb c 13 another in
        begun-is (now.List p) (λ w. rw (no12, no13) (ap (λ r. r >>= λ h. times h.0.1 (value_at (64 - length around) h.0.0) h.1) (sym (fresh w))))

-- ---- the same state by other names

module _ (n m : Current) (fs gs : List Frame) (same : n ≡ m) (all : fs ≡ gs) where
  pub progresses-state : (new : Skip) (p q : List ℕ) (r : Result SkipProgress PieceError)
      → Progresses (moment (state_at m gs) p) (moment new q) r → Progresses (moment (state_at n fs) p) (moment new q) r
  progresses-state new p q r g = rw (same, all) g

  pub refused-state : (p : List ℕ) (e : PieceError) → Refused (moment (state_at m gs) p) e → Refused (moment (state_at n fs) p) e
  refused-state p e g = rw (same, all) g

  pub comes-to-state : (old : Skip) (p q : List ℕ) → Comes (moment old p) (moment (state_at m gs) q) → Comes (moment old p) (moment (state_at n fs) q)
  comes-to-state old p q g = rw (same, all) g

-- a step after what a step without bytes came to
pub comes-progress : (old mid new : Skip) (w v left : List ℕ) (r : Result SkipProgress PieceError) → Comes (moment old w) (moment mid v)
    → Progresses (moment mid v) (moment new left) r
    → Progresses (moment old w) (moment new left) r
comes-progress old mid new w v left (Ok progress.Continue) f g = comes-trans f g
comes-progress old mid new w v left (Ok progress.NeedsMore) f g = comes-waits f g
comes-progress old mid new w v left (Ok progress.Complete) f g = comes-trans f g
comes-progress old mid new w v left (Err e) f g = comes-refused old mid w v e f g

-- ---- the first byte

-- no bytes are too few for a value of a type of the table
coded : (a b d e f g h : Bool) → (a || b || d || e || f || g || h) ≡ true → a ≡ false → b ≡ false → d ≡ false → e ≡ false → f ≡ false → g ≡ false → h ≡ true
coded false false false false false false true k p2 p3 p4 p6 p8 p10 = refl
coded false false false false false false false k p2 p3 p4 p6 p8 p10 = absurd cc
coded true b d e f g h k p2 p3 p4 p6 p8 p10 = absurd cc
coded a true d e f g h k p2 p3 p4 p6 p8 p10 = absurd cc
coded a b true e f g h k p2 p3 p4 p6 p8 p10 = absurd cc
coded a b d true f g h k p2 p3 p4 p6 p8 p10 = absurd cc
coded a b d e true g h k p2 p3 p4 p6 p8 p10 = absurd cc
coded a b d e f true h k p2 p3 p4 p6 p8 p10 = absurd cc

-- a type of the table that is no container and no string has a width
wide : (c : ℕ) → is_code c ≡ true → is_container c ≡ false → eqb c 11 ≡ false → ltb 0 (width c) ≡ true
wide c code isnt other = two (eqb c 2) refl
  where
    last : eqb c 2 ≡ false → eqb c 3 ≡ false → eqb c 4 ≡ false → eqb c 6 ≡ false → eqb c 8 ≡ false → eqb c 10 ≡ false → ltb 0 (width c) ≡ true
    last p2 p3 p4 p6 p8 p10 =
        let many : (ltb 10 c && ltb c 16) ≡ true =
        coded (eqb c 2) (eqb c 3) (eqb c 4) (eqb c 6) (eqb c 8) (eqb c 10) (ltb 10 c && ltb c 16) code p2 p3 p4 p6 p8 p10 in
        absurd (grind (arith, many, isnt, other))

    ten : eqb c 2 ≡ false → eqb c 3 ≡ false → eqb c 4 ≡ false → eqb c 6 ≡ false → eqb c 8 ≡ false → (b : Bool) → eqb c 10 ≡ b → ltb 0 (width c) ≡ true
    ten p2 p3 p4 p6 p8 true e = rw (p2, p3, p4, p6, p8, e) refl
    ten p2 p3 p4 p6 p8 false e = last p2 p3 p4 p6 p8 e

    eight : eqb c 2 ≡ false → eqb c 3 ≡ false → eqb c 4 ≡ false → eqb c 6 ≡ false → (b : Bool) → eqb c 8 ≡ b → ltb 0 (width c) ≡ true
    eight p2 p3 p4 p6 true e = rw (p2, p3, p4, p6, e) refl
    eight p2 p3 p4 p6 false e = ten p2 p3 p4 p6 e (eqb c 10) refl

    six : eqb c 2 ≡ false → eqb c 3 ≡ false → eqb c 4 ≡ false → (b : Bool) → eqb c 6 ≡ b → ltb 0 (width c) ≡ true
    six p2 p3 p4 true e = rw (p2, p3, p4, e) refl
    six p2 p3 p4 false e = eight p2 p3 p4 e (eqb c 8) refl

    four : eqb c 2 ≡ false → eqb c 3 ≡ false → (b : Bool) → eqb c 4 ≡ b → ltb 0 (width c) ≡ true
    four p2 p3 true e = by (eqb c 6) (eqb c 8)
      where
        by : (x y : Bool) → ltb 0 (width c) ≡ true
        by x y = grind (arith, e)
    four p2 p3 false e = six p2 p3 e (eqb c 6) refl

    three : eqb c 2 ≡ false → (b : Bool) → eqb c 3 ≡ b → ltb 0 (width c) ≡ true
    three p2 true e = rw (p2, e) refl
    three p2 false e = four p2 e (eqb c 4) refl

    two : (b : Bool) → eqb c 2 ≡ b → ltb 0 (width c) ≡ true
    two true e = rw e refl
    two false e = three e (eqb c 3) refl

pub begins-short : (c : ℕ) → is_code c ≡ true → value_at 64 c [] ≡ Err Truncated
unfolding value_at text string_at size_at struct fields_at fields_in pairs items map_at list_at
begins-short c code = by (is_container c) refl
  where
    narrow : is_container c ≡ false → (b : Bool) → eqb c 11 ≡ b → leaf c [] ≡ Err Truncated
    narrow isnt true e = rw e refl
    narrow isnt false e = rw (e, wide c code isnt e) refl

    third : (b : Bool) → eqb c 13 ≡ b → eqb c 12 ≡ false → container (value_at 63) c [] ≡ Err Truncated
    third true e d = rw (d, e) refl
    third false e d = rw (d, e) refl

    second : (b : Bool) → eqb c 12 ≡ b → container (value_at 63) c [] ≡ Err Truncated
    second true e = rw e refl
    second false e = third (eqb c 13) refl e

    by : (b : Bool) → is_container c ≡ b → value_at 64 c [] ≡ Err Truncated
    by true e = rw e (second (eqb c 12) refl)
    by false e = rw e (narrow e (eqb c 11) refl)

pub skip-fresh : (c : ℕ) (w : List ℕ) → is_code c ≡ true → skip_at c w ≡ value_at 64 c w
unfolding skip_at
skip-fresh c [] code = sym (begins-short c code)
skip-fresh c (b ∷ w) code = let some : eqb (length (b ∷ w)) 0 ≡ false = ne_eqb (length (b ∷ w)) 0 (λ e. absurd (omega arith)) in rw some refl

pub skipping-fresh : (c : ℕ) (w : List ℕ) → is_code c ≡ true → state_at now.Nothing (Elements c 1 ∷ []) w ≡ skip_at c w
unfolding state_at times
skipping-fresh c w code = same_end (value_at 64 c w) ∙ sym (skip-fresh c w code)
