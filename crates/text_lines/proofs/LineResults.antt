-- Lines that are handled one after the other have the result of their function.
use Rattle.std.proofs.Common.{◌≡◌, ℕ, ◌+◌, List, [], ◌∷◌, ◌++◌, refl, sym, ap, ◌∙◌, subst, append_assoc}
use Rattle.text_lines.specs.HandledLines.{LineReply, LineResult, HandlesLine, TakesEach, joined, numbered}
use Rattle.text_lines.specs.LineResults.{result_of_lines}

module _ {S : Type 0} (of_line : ℕ → S → List ℕ → LineResult S) where
  -- the reply to lines starts with the reply to the first of them
  pub said_append : (n : ℕ) (s : S) (xs ys : List (List ℕ)) → (more : List ℕ)
      × ((result_of_lines of_line n s (xs ++ ys)).reply.text ≡ (result_of_lines of_line n s xs).reply.text ++ more)
  said_append n s [] ys = ((result_of_lines of_line n s ys).reply.text, refl)
  said_append n s (x ∷ xs) ys =
      let here : LineResult S = of_line n s x in
      let r = said_append (n + 1) here.held xs ys in
      (r.0, ap (λ t. here.reply.text ++ t) r.1 ∙ sym (append_assoc here.reply.text (result_of_lines of_line (n + 1) here.held xs).reply.text r.0))

  -- if each line that is handled has the result of the function, however the state is represented
  module _ {W : Type 0} (StandsFor : W → S → Type 0) (takes : HandlesLine W)
      (each : (w : W) (n : ℕ) (line : List ℕ) (reply : LineReply) (v : W) → takes w n line reply v → (s : S) → StandsFor w s
      → StandsFor v (of_line n s line).held × (reply ≡ (of_line n s line).reply)) where
    pub lines_come_to : (w : W) (s : S) (n : ℕ) (lines : List (List ℕ)) (result : LineResult W) → StandsFor w s → TakesEach takes w (numbered n lines) result
        → StandsFor result.held (result_of_lines of_line n s lines).held × (result.reply ≡ (result_of_lines of_line n s lines).reply)
    lines_come_to w s n [] result stands e =
        (subst (λ x. StandsFor x s) (sym (ap (λ (r : LineResult W). r.held) e)) stands, ap (λ (r : LineResult W). r.reply) e)
    lines_come_to w s n (line ∷ lines) result stands e =
        let here = each w n line e.0.reply e.0.held e.2 s stands in
        let others = lines_come_to e.0.held (of_line n s line).held (n + 1) lines e.1 here.0 e.3 in
        let last : S = (result_of_lines of_line n s (line ∷ lines)).held in (
          subst (λ x. StandsFor x last) (sym (ap (λ (r : LineResult W). r.held) e.4)) others.0,
          ap (λ (r : LineResult W). r.reply) e.4 ∙ (λ i. joined (here.1 i) (others.1 i)),
        )
