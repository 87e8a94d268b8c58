use Rattle.std.proofs.Common.{◌++◌, ◌∷◌, ◌∙◌, [], ap, map, subst, sym}
use Rattle.std.specs.Prelude.{All}
use Rattle.std.proofs.lemmas.List.{map_push}
use Rattle.std.proofs.lemmas.List.Elements.{All-push}
use Rattle.query_json.specs.LentTraces.{IsWritable}
use Rattle.query_json.specs.TracePieces.{item_spans}
use Rattle.query_json.proofs.items.trace_items.Goals as goal

pub loop-trace-preserved : goal.loop-trace-preserved
loop-trace-preserved c =
    let l = c.loop-trace in
    let x = c.in_ok-new.field-0 in
    let put = c.in_ok-push.ensures.items in
    record {
      spans = ap (map item_spans) put ∙ map_push item_spans l.items.items x ∙ (λ i. l.invariant.spans i ++ c.in_ok-new.ensures.spans i ∷ []);
      writable = subst (All IsWritable) (sym put) (All-push IsWritable l.items.items x l.invariant.writable c.in_ok-new.ensures.writable);
    }
