use Rattle.std.proofs.Common.{◌≡◌, ◌<◌, ◌+◌, ◌-◌, ◌∙◌, ◌∷◌, ℕ, [], List, ap, arith, get_or, length, refl, suc, sym, zero}
use Rattle.query_json.specs.Pieces.{item_pieces, runs_of}
use Rattle.query_json.specs.Runs.{separator}
use Rattle.json_page.proofs.Pages.{Puts-is}
use Rattle.query_json.proofs.Runs.{length_runs, run_at, run_end}
use Rattle.query_json.proofs.paging.write_piece.Goals as goal

within : (rs : List (List (List ℕ))) (run count total : ℕ) → run < total → total ≡ length rs + 1 → count ≡ length rs → (run ≡ count → ⊥) → run < length rs
within rs run count total h long is differs = omega (arith, h, long, is, differs)

-- the piece after the text before an item
behind : (s : List ℕ) (r : List (List ℕ)) (k : ℕ) → (k ≡ 0 → ⊥) → get_or (s ∷ r) k [] ≡ get_or r (k - 1) []
behind s r zero differs = absurd (differs refl)
behind s r (suc k) differs =
    let before : k ≡ suc k - 1 = omega arith in
    ap (λ n. get_or r n []) before

pub write_piece-requires-clause-item : goal.write_piece-requires-clause-item
write_piece-requires-clause-item c =
    let rs = item_pieces c.args.items.now in
    within rs c.args.at.run c.count.result (length (runs_of c.args.items.now)) c.requires.run (length_runs rs) c.count.ensures.count c.if-at-count.false

pub write_piece-requires-clause-piece : goal.write_piece-requires-clause-piece
write_piece-requires-clause-piece c =
    let rs = item_pieces c.args.items.now in
    let long = ap length (run_at rs c.args.at.run (write_piece-requires-clause-item c)) in
    omega (arith, c.requires.piece, long, c.if-at-eq0.false)

pub returns-then-at-count : goal.returns-then-at-count
returns-then-at-count c =
    let rs = item_pieces c.args.items.now in
    let last : c.args.at.run ≡ length rs = omega (arith, c.if-at-count.true, c.count.ensures.count) in
    let here = run_end rs c.args.at.run last in
    let only : c.args.at.piece ≡ 0 = omega (arith, c.requires.piece, ap length here) in
    Puts-is c.write_end.ensures (sym
    (ap (λ n. get_or (get_or (runs_of c.args.items.now) c.args.at.run []) n []) only ∙ ap (λ (r : List (List ℕ)). get_or r 0 []) here))

pub returns-then-at-eq0 : goal.returns-then-at-eq0
returns-then-at-eq0 c =
    let rs = item_pieces c.args.items.now in
    let inside = within rs c.args.at.run c.count.result (length (runs_of c.args.items.now)) c.requires.run (length_runs rs)
    c.count.ensures.count c.if-at-count.false in
    let here = run_at rs c.args.at.run inside in
    Puts-is c.write_separator.ensures
    (sym (ap (λ n. get_or (get_or (runs_of c.args.items.now) c.args.at.run []) n []) c.if-at-eq0.true ∙ ap (λ (r : List (List ℕ)). get_or r 0 []) here))

pub returns-else-at-eq0 : goal.returns-else-at-eq0
returns-else-at-eq0 c =
    let rs = item_pieces c.args.items.now in
    let inside = within rs c.args.at.run c.count.result (length (runs_of c.args.items.now)) c.requires.run (length_runs rs)
    c.count.ensures.count c.if-at-count.false in
    let here = run_at rs c.args.at.run inside in
    Puts-is c.write_piece.ensures (sym
    (ap (λ (r : List (List ℕ)). get_or r c.args.at.piece []) here
    ∙ behind (separator c.args.at.run) (get_or rs c.args.at.run []) c.args.at.piece c.if-at-eq0.false))
