-- The answers to queries, by what they have collected.
use Rattle.std.specs.Prelude.{filter}
use Rattle.jaeger_model.specs.Texts.{text_cmp, sorted_set}
use Rattle.trace_model.specs.declared.answer.Answer.{Answer}
use Rattle.trace_model.specs.declared.answer.Answer.TheVariants as say
use Rattle.trace_model.specs.Names.{operation_cmp, is_asked_kind}
use Rattle.service_index.specs.ListedNames.{names_of}
use Rattle.span_store.specs.declared.collected.Form.{Form}
use Rattle.span_store.specs.declared.collected.Form.TheVariants as collected

abbrev pub form_answer : Form → Answer
form_answer (collected.Ready answer) = answer
form_answer (collected.Services found) = say.Names (sorted_set text_cmp found.items)
form_answer (collected.OperationNames found) = say.Names (names_of found.items)
form_answer (collected.Search search) = search
form_answer (collected.Found traces) = traces
form_answer (collected.Links links) = links
form_answer (collected.Operations found kind) = say.Operations (filter (is_asked_kind kind.now) (sorted_set operation_cmp found.items))
