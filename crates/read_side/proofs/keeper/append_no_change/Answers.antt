use Rattle.std.proofs.Common.{◌≡◌, ◌++◌, ◌∷◌, [], ap, sym, subst, ◌∙◌, drop, List, Option, ⊎_elim}
use Rattle.read_side.specs.Copies.{AddedEntry, Follow, entries_of}
use Rattle.read_side.proofs.CopyChanges.{either-way, entries-nothing, follow-nothing}
use Rattle.read_side.proofs.keeper.append_no_change.Goals as goal

pub returns-clause-entries : goal.returns-clause-entries
returns-clause-entries g c unsent =
    let ws = drop c.args.writer.now.behind c.args.writer.now.log.items in
    let ws' = drop c.append.new.self.behind c.append.new.self.log.items in
    ⊎_elim
    (λ a. entries-nothing ws ws' unsent (a ∙ ap (λ o. ws ++ o ∷ []) c.nothing.ensures))
    (λ b. ap (λ z. entries_of (z ++ unsent)) b)
    (either-way c.append.result (ws' ≡ ws ++ c.nothing.result ∷ []) (ws' ≡ ws) _ c.append.ensures.pending)

pub returns-clause-follow : goal.returns-clause-follow
returns-clause-follow g c b xs unsent f =
    let ws = drop c.args.writer.now.behind c.args.writer.now.log.items in
    let ws' = drop c.append.new.self.behind c.append.new.self.log.items in
    ⊎_elim
    (λ a. follow-nothing b xs ws ws' unsent (a ∙ ap (λ o. ws ++ o ∷ []) c.nothing.ensures) f)
    (λ e. let P : List (Option AddedEntry) → Type 0 = λ z. Follow b xs (z ++ unsent) in subst P (sym e) f)
    (either-way c.append.result (ws' ≡ ws ++ c.nothing.result ∷ []) (ws' ≡ ws) _ c.append.ensures.pending)
