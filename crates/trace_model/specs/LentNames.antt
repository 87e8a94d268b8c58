-- The names of services and operations in answers.
use Rattle.std.specs.Prelude.{ℕ, List}
use Rattle.std.specs.Arc.{arc_value}
use Rattle.trace_model.specs.declared.name.NameForm.{NameForm}
use Rattle.trace_model.specs.declared.name.NameForm.TheVariants as name
use Rattle.trace_model.specs.EntryWork.{service_brought, operation_brought}

-- the bytes of a name
abbrev pub name_value : NameForm → List ℕ
name_value (name.Own text) = text.value
name_value (name.Service entry) = service_brought (arc_value entry).work
name_value (name.Operation index entry) = operation_brought (arc_value entry).work index
