use Rattle.std.proofs.Common.{◌≡◌, []}
use Rattle.json_page.proofs.Pages.{finished, finished_utf8}
use Rattle.query_json.proofs.answer.error_bytes.Goals as goal

pub returns-clause-text : goal.returns-clause-text
returns-clause-text c =
    let none : c.in_ok-out.out.bytes.items ≡ [] = c.in_ok-out.ensures.items in
    finished c.finish.result none (c.write_error.ensures) c.finish.ensures.ok

pub returns-clause-utf8 : goal.returns-clause-utf8
returns-clause-utf8 c =
    let none : c.in_ok-out.out.bytes.items ≡ [] = c.in_ok-out.ensures.items in
    finished_utf8 c.finish.result none (c.write_error.ensures) c.finish.ensures.ok
