-- A tag's value, whether its text is stored inline or not, and its borrowed form.
use Rattle.std.specs.Prelude.{string_bytes}
use Rattle.jaeger_model.specs.declared.tag_value.StoredValue.{StoredValue}
use Rattle.jaeger_model.specs.declared.tag_value.StoredValue.TheVariants as held
use Rattle.jaeger_model.specs.declared.tag_value.ValueRef.{ValueRef}
use Rattle.jaeger_model.specs.declared.tag_value.ValueRef.TheVariants as shown
use Rattle.jaeger_model.specs.declared.tag.Value.{Value}
use Rattle.jaeger_model.specs.declared.tag.Value.TheVariants as value

abbrev pub stored_value : StoredValue → Value
stored_value (held.Inline t) = value.Text t
stored_value (held.Heap t) = value.Text (string_bytes t)
stored_value (held.Double bytes) = value.Double bytes
stored_value (held.Bool flag) = value.Bool flag
stored_value (held.Long z) = value.Long z
stored_value (held.Bytes bytes) = value.Bytes bytes

abbrev pub borrowed_value : ValueRef → Value
borrowed_value (shown.Text t) = value.Text t.now
borrowed_value (shown.Double bytes) = value.Double bytes.now
borrowed_value (shown.Bool flag) = value.Bool flag
borrowed_value (shown.Long z) = value.Long z
borrowed_value (shown.Bytes bytes) = value.Bytes bytes.now
