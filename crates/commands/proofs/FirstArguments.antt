-- What the arguments after the program's name say of all of them.
use Rattle.std.proofs.Common.{◌≡◌, List, [], ◌∷◌, Some, map, sym, ap, subst, ◌∙◌}
use Rattle.std.specs.Prelude.{slice_get}
use Rattle.clap.specs.Words.{App, Text}
use Rattle.commands.specs.Arguments.{AsksFor}

module _ {S : Type 0} (text : S → Text) (arguments rest : List S) (program name : S) (all : arguments ≡ program ∷ rest) (first : Some name ≡ slice_get rest 0)
    (app : App) (Holds : List Text → Type 0) where
  pub asks_for : text name ≡ app.top.name → Holds (map text rest) → AsksFor app Holds (map text arguments)
  asks_for is holds = by rest all first holds
    where
      by : (ws : List S) → arguments ≡ program ∷ ws → Some name ≡ slice_get ws 0 → Holds (map text ws) → AsksFor app Holds (map text arguments)
      by [] all first holds = absurd cc
      by (y ∷ ys) all first holds =
          let same : name ≡ y = cc in
          let named : text y ≡ app.top.name = ap text (sym same) ∙ is in
          record {
            program = text program;
            others = map text ys;
            arguments_are = ap (map text) all ∙ ap (λ t. text program ∷ t ∷ map text ys) named;
            holds = subst (λ t. Holds (t ∷ map text ys)) named holds;
          }

  -- the subcommand's name, and what holds after the program's
  pub asked_for : AsksFor app Holds (map text arguments) → (app.top.name ≡ text name) × Holds (map text rest)
  asked_for asks = (by rest first are, subst Holds (sym are) asks.holds)
    where
      are : map text rest ≡ app.top.name ∷ asks.others
      are = let both : text program ∷ map text rest ≡ asks.program ∷ app.top.name ∷ asks.others = sym (ap (map text) all) ∙ asks.arguments_are in cc

      by : (ws : List S) → Some name ≡ slice_get ws 0 → map text ws ≡ app.top.name ∷ asks.others → app.top.name ≡ text name
      by [] first are = absurd cc
      by (y ∷ ys) first are = let same : name ≡ y = cc in let named : text y ≡ app.top.name = cc in sym named ∙ ap text (sym same)
