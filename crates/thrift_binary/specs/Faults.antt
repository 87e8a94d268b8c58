-- The errors of reading, with their numbers and names.
use Rattle.std.specs.Prelude.{ℕ, List, codes}
use Rattle.thrift_binary.specs.declared.fault.WireError.{WireError}
use Rattle.thrift_binary.specs.declared.fault.WireError.TheVariants.{Truncated, BadLength, BadType, TooDeep, BadBool, BadText}

abbrev pub fault_number : WireError → ℕ
fault_number Truncated = 1
fault_number BadLength = 2
fault_number BadType = 3
fault_number TooDeep = 4
fault_number BadBool = 5
fault_number BadText = 6

abbrev pub fault_name : WireError → List ℕ
fault_name Truncated = codes "Truncated"
fault_name BadLength = codes "BadLength"
fault_name BadType = codes "BadType"
fault_name TooDeep = codes "TooDeep"
fault_name BadBool = codes "BadBool"
fault_name BadText = codes "BadText"
