-- The exchanges of a session as points of one growing history.
use Rattle.std.specs.Prelude.{◌≡◌, ℕ, List, [], ◌∷◌, All, Option, Some, None, MatchOption}
use Rattle.jaeger_model.specs.declared.batch.Batch.{Batch}
use Rattle.trace_model.specs.declared.limits.Limits.{Limits}
use Rattle.trace_model.specs.Histories.{IsLegal}
use Rattle.trace_model.specs.Answers.{answer}
use Rattle.trace_model.specs.StoreKnowledge.{History, IsPrefixOf, HasAt, lists_of}
use Rattle.http_session.specs.Sessions.{Exchange, Store}
use Rattle.http_session.specs.declared.verdict.Verdict.{Verdict}
use Rattle.http_session.specs.declared.verdict.Verdict.TheVariants.{Submit, Ask, Reject}
use Rattle.http_session.specs.declared.reply.Reply.{Reply}
use Rattle.http_session.specs.declared.reply.Reply.TheVariants.{Accepted, Answered, Refused, Error}

-- the lists that a store knew when the session began, and its limits
pub record KnownAtStart : Type 1 where
  pub knew : History → Type 0
  pub limits : Limits

abbrev pub known_at : {S : Type 0} → Store S → S → KnownAtStart
known_at store s = record { knew = lists_of store.knows s; limits = store.limits s }

-- the last point, and the batches accepted so far with their places
pub record PointsSoFar : Type 0 where
  pub point : Option History
  pub accepted : List (Batch × ℕ)

abbrev pub no_points : PointsSoFar
no_points = record { point = None; accepted = [] }

-- A list from which a query may be answered: it is legal, it starts with the previous point (the first one with every
-- list that the store knew), and it has each accepted batch at its place.
pub record IsPoint (start : KnownAtStart) (points : PointsSoFar) (h : History) : Type 0 where
  pub legal : IsLegal start.limits h
  pub behind : MatchOption points.point ((l : History) → start.knew l → IsPrefixOf l h) (λ before. IsPrefixOf before h)
  pub has : All (λ (pair : Batch × ℕ). HasAt h pair.1 pair.0) points.accepted

-- the reply that a verdict may get, and the point and batches after it
abbrev pub Gets : KnownAtStart → PointsSoFar → Verdict → Reply → PointsSoFar → Type 0
Gets start points (Submit b) Accepted next = (place : ℕ) × (next ≡ record points { accepted = (b, place) ∷ points.accepted })
Gets start points (Submit b) (Refused r) next = next ≡ points
Gets start points (Ask q) (Answered a) next =
    (h : History) × IsPoint start points h × (a ≡ answer start.limits h q) × (next ≡ record points { point = Some h })
Gets start points (Ask q) (Refused r) next = next ≡ points
Gets start points (Reject error) (Error said) next = (said ≡ error) × (next ≡ points)
Gets start points _ _ next = ⊥

-- each exchange in turn
abbrev pub Related : KnownAtStart → PointsSoFar → List Exchange → Type 0
Related start points [] = Unit {0}
Related start points (x ∷ xs) = (next : PointsSoFar) × Gets start points x.verdict x.reply next × Related start next xs
