use Rattle.http_requests.proofs.Parts.{text_taken, none_taken, at_stage, trailer_ends, no_trailer_then}
use Rattle.http_requests.proofs.body_reader.BodyReader.take_trailer.Goals as goal

pub returns-in-Complete-clause-took : goal.returns-in-Complete-clause-took
returns-in-Complete-clause-took c =
    let ends = rw c.as_slice-bytes.ensures at c.in-Complete.ensures in
    text_taken _ _ _ _ _ c.in-Complete.length c.take.ensures
    (λ of front fed part. trailer_ends of front fed _ _ _ (at_stage of front fed c.args.self.now _ c.requires.stage part) ends.0)

pub returns-in-Invalid-clause-took : goal.returns-in-Invalid-clause-took
returns-in-Invalid-clause-took c =
    let never = rw c.as_slice-bytes.ensures at c.in-Invalid.ensures in
    none_taken _ _ _ _ (λ of front fed part. no_trailer_then of front fed _ _ _ (at_stage of front fed c.args.self.now _ c.requires.stage part) never)
