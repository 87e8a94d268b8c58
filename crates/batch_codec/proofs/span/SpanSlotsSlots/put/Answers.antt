use Rattle.std.proofs.Common.{rules, ◌≡◌, pos, refl, sym, w16}
use Rattle.std.proofs.lemmas.Int.{to_z-of_z}
use mir.Val.{SFits}
use Rattle.thrift_binary.specs.Lists.{list_of}
use Rattle.batch_codec.specs.Decoding.{wire}
use Rattle.batch_codec.specs.TagReading.{tag_at}
use Rattle.batch_codec.specs.LogReading.{log_at}
use Rattle.batch_codec.specs.ReferenceReading.{reference_at}
use Rattle.batch_codec.specs.SpanReading.{take_span}
use Rattle.batch_codec.proofs.StoredFields.{takes-kept, kept-no_longer}
use Rattle.batch_codec.proofs.span.SpanSlotsSlots.put.Goals as goal

pub returns-in-15-eq6 : goal.returns-in-15-eq6
unfolding take_span
returns-in-15-eq6 c =
    let i : c.args.id ≡ pos 6 = rw c.in-15-eq6.is-1 at (sym (to_z-of_z w16 c.args.id c.ranges.id)) in
    rw (c.in-15-eq6.is-0, i) (record {
      exact =
          takes-kept take_span c.args.self.now 15 (pos 6) _ _ (list_of wire 12 reference_at)
          (λ slot. record c.args.self.now { references = slot })
          c.read_list.result c.keep.result c.keep.new.slot refl c.read_list.ensures.exact c.keep.ensures.kept c.keep.ensures.same c.keep.ensures.refused;
      no_longer = kept-no_longer _ c.read_list.result c.keep.result c.read_list.ensures.no_longer c.keep.ensures.refused;
    })

pub returns-in-15-eq10 : goal.returns-in-15-eq10
unfolding take_span
returns-in-15-eq10 c =
    let i : c.args.id ≡ pos 10 = rw c.in-15-eq10.is-1 at (sym (to_z-of_z w16 c.args.id c.ranges.id)) in
    rw (c.in-15-eq10.is-0, i) (record {
      exact =
          takes-kept take_span c.args.self.now 15 (pos 10) _ _ (list_of wire 12 tag_at)
          (λ slot. record c.args.self.now { tags = slot })
          c.read_list-in-15-eq10.result c.keep-in-15-eq10.result c.keep-in-15-eq10.new.slot refl c.read_list-in-15-eq10.ensures.exact
          c.keep-in-15-eq10.ensures.kept c.keep-in-15-eq10.ensures.same c.keep-in-15-eq10.ensures.refused;
      no_longer =
          kept-no_longer _ c.read_list-in-15-eq10.result c.keep-in-15-eq10.result c.read_list-in-15-eq10.ensures.no_longer c.keep-in-15-eq10.ensures.refused;
    })

pub returns-in-15-eq11 : goal.returns-in-15-eq11
unfolding take_span
returns-in-15-eq11 c =
    let i : c.args.id ≡ pos 11 = rw c.in-15-eq11.is-1 at (sym (to_z-of_z w16 c.args.id c.ranges.id)) in
    rw (c.in-15-eq11.is-0, i) (record {
      exact =
          takes-kept take_span c.args.self.now 15 (pos 11) _ _ (list_of wire 12 log_at)
          (λ slot. record c.args.self.now { logs = slot })
          c.read_list-in-15-eq11.result c.keep-in-15-eq11.result c.keep-in-15-eq11.new.slot refl c.read_list-in-15-eq11.ensures.exact
          c.keep-in-15-eq11.ensures.kept c.keep-in-15-eq11.ensures.same c.keep-in-15-eq11.ensures.refused;
      no_longer =
          kept-no_longer _ c.read_list-in-15-eq11.result c.keep-in-15-eq11.result c.read_list-in-15-eq11.ensures.no_longer c.keep-in-15-eq11.ensures.refused;
    })

pub returns-in_default : goal.returns-in_default
returns-in_default c =
    let f : SFits w16 c.args.id = search rules in
    record { exact = simp to_z-of_z at c.put_value.ensures.exact; no_longer = c.put_value.ensures.no_longer }
