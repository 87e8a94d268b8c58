use Rattle.std.proofs.Common.{◌≡◌, ℤ, pos, false, get_or, ◌+◌, ◌/◌, ◌∙◌, ◌<◌, sym, ap, subst, List, length, drop, arith, length-drop, w64, to_z, of_z}
use Rattle.std.specs.Prelude.{int_lt, if◌then◌else◌, ◌==◌}
use Rattle.std.proofs.lemmas.Int.{to_z-of_z}
use Rattle.trace_ring.specs.FirstStarts.{Starts, IsBounded}
use Rattle.trace_ring.specs.StartRanges.{IsIn, IsWider, no_range, range_at}
use Rattle.trace_ring.proofs.BlockBounds.{bounded_more}
use Rattle.trace_ring.proofs.BlockRanges.{block_known, blocks_more}
use Rattle.trace_ring.proofs.first_starts.starts.FirstStarts.push.Goals as goal

pub raise-requires-clause-room : goal.raise-requires-clause-room
raise-requires-clause-room c =
    let b = c.self.invariant.2 in
    let within = b.within in
    let blocks = b.blocks in
    omega (arith, c.self.invariant.1)

pub widen-requires-clause-room : goal.widen-requires-clause-room
widen-requires-clause-room c =
    let b = c.self.invariant.2 in
    let within = b.within in
    omega (arith, c.self.invariant.3, c.self.invariant.4)

pub invariant_of-self : goal.invariant_of-self
invariant_of-self c =
    let s = c.self.inside in
    let b = c.self.invariant.2 in
    let at : c.len-block.result ≡ length s.opened.items = omega arith in
    let space : length s.opened.items < s.room = subst (λ (v : Starts). v.used < v.room) (sym c.self.view_is) c.requires in
    let time : ℤ = to_z w64 (of_z w64 c.args.start) in
    let own : int_lt (get_or c.raise.new.bounds.items (length s.opened.items / 256) (pos 0)) time ≡ false =
    ap (λ n. int_lt (get_or c.raise.new.bounds.items (n / 256) (pos 0)) time) (sym at) ∙ c.raise.ensures.own in
    let count = c.raise.ensures.count ∙ ap (λ n. if n / 256 == length s.bounds.items then length s.bounds.items + 1 else length s.bounds.items) at in
    let ranges = c.widen.ensures.count ∙ ap (λ n. if n / 256 == length s.ranges.items then length s.ranges.items + 1 else length s.ranges.items) at in (
      omega (arith, c.self.invariant.0, c.push_reserved.ensures.capacity),
      omega (arith, c.self.invariant.1, c.raise.ensures.capacity),
      subst (λ (xs : List ℤ). IsBounded s.room s.evicted xs c.raise.new.bounds.items) (sym c.push_reserved.ensures.items)
          (bounded_more s.room s.evicted s.opened.items s.bounds.items c.raise.new.bounds.items time b space count own c.raise.ensures.none_falls),
      omega (arith, c.self.invariant.3, c.widen.ensures.capacity),
      blocks_more s.opened.items time (length s.ranges.items) (length c.widen.new.ranges.items) c.self.invariant.4 ranges
          ∙ ap (λ (xs : List ℤ). (length xs + 255) / 256) (sym c.push_reserved.ensures.items),
    )

pub returns-clause-none_narrows : goal.returns-clause-none_narrows
returns-clause-none_narrows c = λ k below.
    let s = c.self.inside in
    let here : k < length (drop s.evicted s.opened.items) = subst (λ (v : Starts). k < length v.starts) (sym c.self.view_is) below in
    let known = block_known s.opened.items s.evicted (length s.ranges.items) k c.self.invariant.4 here in
    subst (λ (v : Starts). IsWider (range_at v k) (get_or c.widen.new.ranges.items ((s.evicted + k) / 256) no_range)) c.self.view_is
    (c.widen.ensures.none_narrows ((s.evicted + k) / 256) known)

pub returns-clause-own : goal.returns-clause-own
returns-clause-own c =
    let s = c.self.inside in
    let time : ℤ = to_z w64 (of_z w64 c.args.start) in
    let b = c.self.invariant.2 in
    let few = b.few in
    let last : c.len-block.result ≡ s.evicted + length (drop s.evicted s.opened.items) = omega (arith, length-drop s.evicted s.opened.items) in
    let own : IsIn (get_or c.widen.new.ranges.items ((s.evicted + length (drop s.evicted s.opened.items)) / 256) no_range) time =
    subst (λ n. IsIn (get_or c.widen.new.ranges.items (n / 256) no_range) time) last c.widen.ensures.own in
    rw (to_z-of_z w64 c.args.start c.ranges.start) at
    (subst (λ (v : Starts). IsIn (get_or c.widen.new.ranges.items ((s.evicted + length v.starts) / 256) no_range) time) c.self.view_is own)
