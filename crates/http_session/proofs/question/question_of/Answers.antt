use Rattle.http_session.proofs.HeadQuestions.{asks_query}
use Rattle.http_session.proofs.question.question_of.Goals as goal

pub returns-in-Ok-clause-asks : goal.returns-in-Ok-clause-asks
returns-in-Ok-clause-asks c =
    asks_query _ _ _ c.split_target.ensures.path c.target_of.ensures c.in-Some.endpoint c.in-Some.part.now c.in-Some.ensures _ c.in-Ok.verdict
    c.split_target.ensures.query_string c.in-Get.is
    c.in-Ok.ensures
