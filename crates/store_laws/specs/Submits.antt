-- What a history has of the submitted entries.
use Rattle.std.specs.Prelude.{◌≡◌, false, List, ◌∷◌, ◌++◌}
use Rattle.trace_model.specs.declared.entry.Entry.{Entry}
use Rattle.trace_model.specs.ResentBatches.{is_sent, AnswersFor}

-- one entry of the list answers for this one, and no other has its batch
pub record IsThereOnce (h : List Entry) (e : Entry) : Type 0 where
  pub front : List Entry
  pub by : Entry
  pub rest : List Entry
  pub whole : h ≡ front ++ by ∷ rest
  pub answers : AnswersFor by e
  pub none_before : is_sent front e ≡ false
  pub none_behind : is_sent rest e ≡ false
