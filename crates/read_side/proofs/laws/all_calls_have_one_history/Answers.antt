use Rattle.std.proofs.Common.{◌∙◌, ap, sym, length, List}
use Rattle.trace_model.specs.declared.entry.Entry.{Entry}
use Rattle.trace_model.specs.Answers.{answer}
use Rattle.trace_model.specs.Refusals.{refusal_of}
use Rattle.trace_model.proofs.Prefixes.{prefix_length, take_whole}
use Rattle.read_side.proofs.DistinctEntries.{acknowledged_once}
use Rattle.read_side.proofs.laws.all_calls_have_one_history.Goals as goal

pub returns-clause-answers : goal.returns-clause-answers
returns-clause-answers c limits list whole q a begins is =
    record {
      front = length list;
      within = prefix_length list whole begins;
      answer_is = is ∙ ap (λ (l : List Entry). answer limits l q) (sym (take_whole list whole begins));
    }

pub returns-clause-acknowledged : goal.returns-clause-acknowledged
returns-clause-acknowledged c = acknowledged_once

pub returns-clause-refused : goal.returns-clause-refused
returns-clause-refused c limits list whole e why begins is =
    record {
      front = length list;
      within = prefix_length list whole begins;
      reason = ap (λ (l : List Entry). refusal_of limits l e) (take_whole list whole begins) ∙ is;
    }
