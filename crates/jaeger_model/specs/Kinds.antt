-- The kinds of spans as texts.
use Rattle.std.specs.Prelude.{ℕ, List, [], codes}
use Rattle.jaeger_model.specs.declared.kind.Kind.{Kind}
use Rattle.jaeger_model.specs.declared.kind.Kind.TheVariants.{Unset, Client, Server, Producer, Consumer, Internal}

abbrev pub kind_text : Kind → List ℕ
kind_text Unset = []
kind_text Client = codes "client"
kind_text Server = codes "server"
kind_text Producer = codes "producer"
kind_text Consumer = codes "consumer"
kind_text Internal = codes "internal"
