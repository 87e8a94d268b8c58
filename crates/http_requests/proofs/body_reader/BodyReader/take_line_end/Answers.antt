use Rattle.http_requests.proofs.Parts.{text_taken, none_taken, at_stage, end_then_line, no_end_comes}
use Rattle.http_requests.proofs.body_reader.BodyReader.take_line_end.Goals as goal

pub returns-in-Complete-clause-took : goal.returns-in-Complete-clause-took
returns-in-Complete-clause-took c =
    let begins = rw c.as_slice.ensures at c.in-Complete.ensures in
    text_taken _ _ _ _ _ c.in-Complete.length c.take.ensures
    (λ of front fed part. end_then_line of front fed _ _ (at_stage of front fed c.args.self.now _ c.requires.stage part) begins.0)

pub returns-in-Invalid-clause-took : goal.returns-in-Invalid-clause-took
returns-in-Invalid-clause-took c =
    let never = rw c.as_slice.ensures at c.in-Invalid.ensures in
    none_taken _ _ _ _ (λ of front fed part. no_end_comes of front fed _ _ (at_stage of front fed c.args.self.now _ c.requires.stage part) never)
