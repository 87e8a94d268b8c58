-- Calls on a store that threads share, and the one history that explains them.
use Rattle.std.specs.Prelude.{◌≡◌, ℕ, ◌⊎◌, List, [], ◌∷◌, Some, All}
use mathlib.Core.List.{IsPrefix}
use Rattle.trace_model.specs.declared.answer.Answer.{Answer}
use Rattle.trace_model.specs.declared.entry.Entry.{Entry}
use Rattle.trace_model.specs.declared.limits.Limits.{Limits}
use Rattle.trace_model.specs.declared.query.Query.{Query}
use Rattle.trace_model.specs.declared.refusal.Refusal.{Refusal}
use Rattle.trace_model.specs.Answers.{answer}
use Rattle.trace_model.specs.Histories.{IsLegal}
use Rattle.trace_model.specs.Refusals.{refusal_of}
use Rattle.read_side.specs.Receipts.{AnsweredAt}
use Rattle.read_side.specs.OneHistory.{IsAnswered, IsAcknowledged, IsRefused}

-- what a call said: the answer to a query, the place of an acknowledged entry, why an entry is refused, or only what it
-- knows, as a call that learns or settles
pub data Saying : Type 0 where
  answered : Query → Answer → Saying
  acknowledged : ℕ → Entry → Saying
  refused : Entry → Refusal → Saying
  known : Saying

-- a call: its list, and what it said
pub record Call : Type 0 where
  pub list : List Entry
  pub saying : Saying

-- what the contracts of the calls say of a saying and the call's list
abbrev pub IsTrueOf : Limits → List Entry → Saying → Type 0
IsTrueOf limits list (answered q a) = a ≡ answer limits list q
IsTrueOf limits list (acknowledged place e) = AnsweredAt list place e
IsTrueOf limits list (refused e why) = refusal_of limits list e ≡ Some why
IsTrueOf limits list known = Unit {0}

-- the call's list is legal, and what it said is true of that list
pub record IsTrueCall (limits : Limits) (call : Call) : Type 0 where
  pub legal : IsLegal limits call.list
  pub saying : IsTrueOf limits call.list call.saying

-- one of the two lists begins with the other
abbrev pub AreComparable : List Entry → List Entry → Type 0
AreComparable list other = IsPrefix list other ⊎ IsPrefix other list

-- so it is of any two of the calls
abbrev pub AllComparable : List Call → Type 0
AllComparable [] = Unit {0}
AllComparable (call ∷ calls) = All (λ (c : Call). AreComparable call.list c.list) calls × AllComparable calls

-- the saying in terms of a history
abbrev pub IsExplained : Limits → List Entry → Saying → Type 0
IsExplained limits history (answered q a) = IsAnswered limits history q a
IsExplained limits history (acknowledged place e) = IsAcknowledged history place e
IsExplained limits history (refused e why) = IsRefused limits history e why
IsExplained limits history known = Unit {0}

-- the call's list begins the history, and its saying is explained by it
pub record IsCallOf (limits : Limits) (history : List Entry) (call : Call) : Type 0 where
  pub begins : IsPrefix call.list history
  pub saying : IsExplained limits history call.saying

-- one legal list explains all of the calls
pub record HaveOneHistory (limits : Limits) (calls : List Call) : Type 0 where
  pub history : List Entry
  pub legal : IsLegal limits history
  pub each : All (IsCallOf limits history) calls
