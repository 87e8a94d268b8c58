use Rattle.std.proofs.Common.{◌∙◌, ap, sym}
use Rattle.collected_traces.proofs.TakenSpans.{process_seen}
use Rattle.collected_traces.proofs.taken_answer.key_of.Goals as goal

pub returns-then-alone-clause-key : goal.returns-then-alone-clause-key
returns-then-alone-clause-key c = λ process_of has leads. ap process_of c.process_key-key.ensures

pub returns-clause-key : goal.returns-clause-key
returns-clause-key c = λ process_of has leads.
    let own = process_seen process_of c.args.span.now c.reported.result c.process_key-key.result c.reported.ensures c.process_key-key.ensures has in
    c.in_ok-class.ensures.class process_of (sym own) leads ∙ ap process_of c.process_key-key.ensures

pub returns-clause-leads : goal.returns-clause-leads
returns-clause-leads c = λ process_of has leads.
    let own = process_seen process_of c.args.span.now c.reported.result c.process_key-key.result c.reported.ensures c.process_key-key.ensures has in
    c.in_ok-class.ensures.leads process_of (sym own) leads
