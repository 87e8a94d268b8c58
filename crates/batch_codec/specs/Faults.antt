-- The number and the name of each fault, and the text that they make.
use Rattle.std.specs.Prelude.{ℕ, List, [], ◌++◌, codes}
use Rattle.std.specs.Fmt.{decimal}
use Rattle.thrift_binary.specs.Faults.{fault_number, fault_name}
use Rattle.batch_codec.specs.declared.fault.DecodeError.{DecodeError}
use Rattle.batch_codec.specs.declared.fault.DecodeError.TheVariants.{Wire, Missing, BadEnum, Trailing, Memory}
use Rattle.batch_codec.specs.declared.fault.StructName.{StructName}
use Rattle.batch_codec.specs.declared.fault.StructName.TheVariants.{Batch, Process, Span, SpanRef, Log, Tag}

abbrev pub number_of : DecodeError → ℕ
number_of (Wire e) = fault_number e
number_of (Missing name id) = 7
number_of BadEnum = 8
number_of Trailing = 9
number_of Memory = 22

abbrev pub name_of : DecodeError → List ℕ
name_of (Wire e) = fault_name e
name_of (Missing name id) = codes "Missing"
name_of BadEnum = codes "BadEnum"
name_of Trailing = codes "Trailing"
name_of Memory = codes "NoMemory"

abbrev pub struct_name : StructName → List ℕ
struct_name Batch = codes "Batch"
struct_name Process = codes "Process"
struct_name Span = codes "Span"
struct_name SpanRef = codes "SpanRef"
struct_name Log = codes "Log"
struct_name Tag = codes "Tag"

-- what follows the name: a missing field's struct and id
abbrev pub missing_field : DecodeError → List ℕ
missing_field (Missing name id) = codes " " ++ struct_name name ++ codes " " ++ decimal id
missing_field e = []

-- the number, a space and the name, and with a missing field its struct and id
abbrev pub fault_text : DecodeError → List ℕ
fault_text e = decimal (number_of e) ++ codes " " ++ name_of e ++ missing_field e
