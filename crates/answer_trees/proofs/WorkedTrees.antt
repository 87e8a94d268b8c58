-- Worked rows, computed.
use Rattle.std.proofs.Common.{◌≡◌, ℕ, negsuc, List, [], ◌∷◌, refl}
use Rattle.std.specs.Prelude.{codes}
use Rattle.std.specs.Fmt.{digits}
use Rattle.serde_json.specs.Data.{null, number, negative, string, member, no_members, put}
use Rattle.jaeger_model.specs.declared.batch.Process.{Process}
use Rattle.jaeger_model.specs.declared.tag.Value.TheVariants as tagged
use Rattle.answer_trees.specs.ProcessNames.{distinct, place, process_name}
use Rattle.answer_trees.specs.Trees.{flags_number, value_tree, warnings_tree}

abbrev service : List ℕ → Process
service name = record { service = name; tags = [] }

abbrev a : Process
a = service (codes "a")

abbrev b : Process
b = service (codes "b")

by_first_appearance : distinct (b ∷ a ∷ b ∷ []) ≡ b ∷ a ∷ []
by_first_appearance = refl

second : place a (b ∷ a ∷ []) ≡ 1
second = refl

tenth : process_name 9 ≡ codes "p10"
unfolding digits
tenth = refl

-- keys ascend by bytes
ten_before_two : put (codes "p10") null (put (codes "p2") null no_members) ≡ member (codes "p10") null (member (codes "p2") null no_members)
ten_before_two = refl

all_flags : flags_number (negsuc 0) ≡ 4294967295
all_flags = refl

double_as_text : value_tree (tagged.Double (127 ∷ 248 ∷ 0 ∷ 0 ∷ 0 ∷ 0 ∷ 0 ∷ 1 ∷ [])) ≡ string (codes "7ff8000000000001")
double_as_text = refl

binary_as_text : value_tree (tagged.Bytes (0 ∷ 171 ∷ [])) ≡ string (codes "00ab")
binary_as_text = refl

least_integer : value_tree (tagged.Long (negsuc 9223372036854775807)) ≡ number (negative (negsuc 9223372036854775807))
least_integer = refl

no_warnings : warnings_tree [] ≡ null
no_warnings = refl
