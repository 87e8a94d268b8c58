use Rattle.batch_codec.specs.CanonicalTexts.{front_text, span_fields, span_fits, canon_span}
use Rattle.batch_codec.proofs.TextParts.{span_stop, ends}
use Rattle.batch_codec.proofs.writer.SpanSpelled.write.Goals as goal

pub returns-clause-writes : goal.returns-clause-writes
unfolding canon_span
returns-clause-writes c =
    let s = c.args.self.now in
    ends (front_text (span_fields s)) (canon_span s) (span_fits s)
    c.args.out.now c.write_fields.new.out c.stop.new.self c.stop.result c.in_ok-write_fields.ensures.writes.0 c.in_ok-write_fields.ensures.writes.1
    (span_stop s) c.stop.ensures.appends
