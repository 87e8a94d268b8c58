-- The text of a tag after its key.
use Rattle.std.specs.Prelude.{ℕ, true, List, [], ◌∷◌, ◌++◌, codes}
use Rattle.serde_json.specs.Data.{string, member, no_members}
use Rattle.serde_json.specs.Written.{members_text}
use Rattle.json.specs.Print.{escape}
use Rattle.jaeger_model.specs.declared.tag.Tag.{Tag}
use Rattle.jaeger_model.specs.declared.tag.Value.{Value}
use Rattle.query_json.specs.declared.writing.values.AfterTag.{AfterTag}
use Rattle.query_json.specs.declared.writing.values.AfterTag.TheVariants as after
use Rattle.answer_trees.specs.Trees.{type_name, value_tree}

-- the quote after the key, and the other members
abbrev pub behind_key : Value → List ℕ
behind_key v = 34 ∷ members_text true (member (codes "type") (string (type_name v)) (member (codes "value") (value_tree v) no_members))

-- a tag after the quote in front of its key
abbrev pub from_key : Tag → List ℕ
from_key t = escape t.key ++ behind_key t.value

-- the separator and the next tag up to its key, or the end of the list
abbrev pub after_tag : AfterTag → List ℕ
after_tag after.Next = 44 ∷ codes "{\"key\":\""
after_tag after.End = 93 ∷ []
