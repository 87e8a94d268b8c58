use Rattle.std.proofs.Common.{◌∷◌, ◌++◌, [], ℕ, List, ap}
use Rattle.json.specs.Print.{escape}
use Rattle.json.proofs.Printed.Utf8.{IsUtf8-quoted}
use Rattle.json_page.proofs.Pages.{Adds-is, Adds-then}
use Rattle.json_page.proofs.page.Page.push_quoted.Goals as goal

pub returns : goal.returns
returns c = record {
  adds =
      Adds-is (Adds-then (Adds-then c.add.ensures c.add_escaped.ensures) c.add-2.ensures)
      (ap (λ (t : List ℕ). 34 ∷ (escape t ++ 34 ∷ [])) c.as_bytes.ensures.value);
  utf8 = IsUtf8-quoted c.args.text.now c.utf8.text;
}
