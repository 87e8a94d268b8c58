use Rattle.std.proofs.Common.{◌∙◌, ◌&&◌, ap, sym}
use Rattle.std.specs.List.{list_any}
use Rattle.std.proofs.lemmas.Bool.{OnTrue_at}
use Rattle.find_traces.specs.RequestedPairs.{same_pair, is_in, has_pair, pairs_lent}
use Rattle.find_traces.proofs.judged_process.process_pairs.Goals as goal

pub returns-then-has_no_pairs : goal.returns-then-has_no_pairs
returns-then-has_no_pairs c = λ a.
    ap (λ ks. is_in (pairs_lent ks) a) c.new-met.ensures.empty
    ∙ ap (λ ts. list_any (same_pair a) ts && has_pair c.args.process.now.tags a) (sym (OnTrue_at c.if-has_no_pairs.true c.has_no_pairs.ensures))
