use Rattle.std.proofs.Common.{◌∙◌, ap, inl, inr}
use Rattle.http_session.proofs.ConnectionSteps.{reads_alone, acts_left}
use Rattle.http_session.proofs.whole_session.serve_joined.Goals as goal

pub returns-in-Ok-clause-ended : goal.returns-in-Ok-clause-ended
returns-in-Ok-clause-ended g c =
    let over = c.in-Ok.ensures.ended in
    let turn = reads_alone _ g.R.Input.gives (λ j. j.input.now) (λ s t p given. given.0) (λ s t w took. ap (λ i. i.now) took.2) _ _ _ _ _ over.0.1 in
    ((over.0.0, turn.0), over.1)

pub returns-in-Ok-clause-same_input : goal.returns-in-Ok-clause-same_input
returns-in-Ok-clause-same_input g c =
    acts_left _ (λ j. j.input.ghost_name) (λ s t p given. given.1) (λ s t w took. ap (λ i. i.ghost_name) took.2) _ _ _ _ _ c.in-Ok.ensures.ended.0.1

pub returns-in-Ok-clause-same_output : goal.returns-in-Ok-clause-same_output
returns-in-Ok-clause-same_output g c =
    acts_left _ (λ j. j.output.ghost_name) (λ s t p given. ap (λ o. o.ghost_name) given.2) (λ s t w took. took.1) _ _ _ _ _ c.in-Ok.ensures.ended.0.1

pub returns-in-Err-clause-error : goal.returns-in-Err-clause-error
returns-in-Err-clause-error g c =
    let over = c.in-Err.ensures.error in
    let upto = over.0.1 in
    let turn = reads_alone _ g.R.Input.gives (λ j. j.input.now) (λ s t p given. given.0) (λ s t w took. ap (λ i. i.now) took.2) _ _ _ _ _ upto.answers in (
      (
        over.0.0,
        record {
          before = upto.before.input.now;
          reads = turn.0;
          count = turn.1 ∙ upto.count;
          last = elim upto.last [ inl same ↦ inl (ap (λ j. j.input.now) same) | inr fails ↦ inr (fails.0, fails.1, fails.2.0) ];
        },
      ),
      over.1,
    )

pub returns-in-Err-clause-same_input : goal.returns-in-Err-clause-same_input
returns-in-Err-clause-same_input g c =
    let upto = c.in-Err.ensures.error.0.1 in
    elim upto.last [ inl same ↦ ap (λ j. j.input.ghost_name) same | inr fails ↦ fails.2.1 ]
    ∙ acts_left _ (λ j. j.input.ghost_name) (λ s t p given. given.1) (λ s t w took. ap (λ i. i.ghost_name) took.2) _ _ _ _ _ upto.answers

pub returns-in-Err-clause-same_output : goal.returns-in-Err-clause-same_output
returns-in-Err-clause-same_output g c =
    let upto = c.in-Err.ensures.error.0.1 in
    elim upto.last [ inl same ↦ ap (λ j. j.output.ghost_name) same | inr fails ↦ ap (λ o. o.ghost_name) fails.2.2 ]
    ∙ acts_left _ (λ j. j.output.ghost_name) (λ s t p given. ap (λ o. o.ghost_name) given.2) (λ s t w took. took.1) _ _ _ _ _ upto.answers
