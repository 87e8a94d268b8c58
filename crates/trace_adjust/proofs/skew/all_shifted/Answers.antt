use Rattle.std.proofs.Common.{◌≡◌, ◌∙◌, length, ap, rules}
use Rattle.std.proofs.lemmas.List.{take_at}
use Rattle.trace_model.specs.Adjusting.{shown_adjusted}
use Rattle.trace_adjust.proofs.skew.all_shifted.Goals as goal

pub returns : goal.returns
returns c =
    let len : length c.shift_all.new.trace ≡ c.args.spans.len = search rules in
    take_at c.shift_all.new.trace _ _ len ∙ c.in_ok-shift_all.ensures ∙ ap (shown_adjusted c.args.max_skew) c.deref_mut.ensures.value
