use Rattle.std.proofs.Common.{◌∙◌, ◌++◌, ap, codes, subst}
use Rattle.std.specs.Io.KnownBytes.{Appends}
use Rattle.commands.proofs.arguments.read_words.Goals as goal

pub returns-clause-accepted : goal.returns-clause-accepted
returns-clause-accepted g c command accepts = c.answer.ensures.memory (c.in-Err.ensures.accepted command accepts)

pub returns-clause-bad_trace : goal.returns-clause-bad_trace
returns-clause-bad_trace g c limits takes usage =
    let t = c.answer.ensures.text usage in
    subst (Appends (g.W.Output.contents c.args.output.now) (g.W.Output.contents c.answer.new.output))
    (c.as_slice.ensures.value ∙ c.in-Err.ensures.bad_trace limits takes t.0 ∙ ap (λ x. x ++ codes "bad trace id\n") c.new-said.ensures.items) t.1
