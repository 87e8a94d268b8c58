use Rattle.std.proofs.Common.{◌+◌, ◌++◌, ◌∷◌, ◌∙◌, [], ap, ap₂, sym, arith, length, length-append, map, string_bytes}
use Rattle.std.proofs.lemmas.List.{map_push}
use Rattle.std.proofs.lemmas.List.FromFn.{map-range_with_len_more}
use Rattle.answer_trees.specs.ProcessNames.{process_name}
use Rattle.answer_trees.proofs.naming.names.Goals as goal

pub loop-place-preserved : goal.loop-place-preserved
loop-place-preserved c =
    let l = c.loop-place in
    let name = c.in_ok-process_name.field-0 in
    record {
      names =
          ap (map string_bytes) c.in_ok-push.ensures.items ∙ map_push string_bytes l.names.items name
          ∙ ap₂ (λ ns n. ns ++ n ∷ []) l.invariant.names c.in_ok-process_name.ensures
          ∙ sym (map-range_with_len_more process_name 0 l.place l.place (omega arith));
      count = ap length c.in_ok-push.ensures.items ∙ length-append l.names.items (name ∷ []) ∙ ap (λ n. n + 1) l.invariant.count;
    }
