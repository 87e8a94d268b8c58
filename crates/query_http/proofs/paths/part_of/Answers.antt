use Rattle.std.proofs.Common.{◌≡◌, ◌++◌, List, ℕ, drop, sym, ap, ◌∙◌, subst}
use Rattle.std.specs.Prelude.{codes}
use Rattle.query_http.specs.Paths.{IsSegment}
use Rattle.std.proofs.lemmas.List.{append_cancel_right}
use Rattle.query_http.proofs.paths.part_of.Goals as goal

pub strip_prefix-requires-in-OperationNames : goal.strip_prefix-requires-in-OperationNames
strip_prefix-requires-in-OperationNames c =
    let p = rw c.in-OperationNames.is at c.requires in
    (p.0 ++ codes "/operations", p.1.1)

pub returns-in-OperationNames : goal.returns-in-OperationNames
returns-in-OperationNames c =
    let p = rw c.in-OperationNames.is at c.requires in
    let whole : c.args.path.now ≡ codes "/api/services/" ++ (c.strip_suffix.result.now ++ codes "/operations") =
    c.strip_prefix-in-OperationNames.ensures ∙ ap (λ (x : List ℕ). codes "/api/services/" ++ x) c.strip_suffix.ensures in
    let rest : p.0 ++ codes "/operations" ≡ c.strip_suffix.result.now ++ codes "/operations" = ap (λ (x : List ℕ). drop 14 x) (sym p.1.1 ∙ whole) in
    let same : p.0 ≡ c.strip_suffix.result.now = append_cancel_right p.0 c.strip_suffix.result.now (codes "/operations") rest in
    rw c.in-OperationNames.is (subst (λ (x : List ℕ). IsSegment x) same p.1.0, whole)
