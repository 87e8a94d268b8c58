-- A sequence of pairs that is read.
use Rattle.std.proofs.Common.{◌≡◌, ℕ, List, [], ◌∷◌, ◌++◌, Result, Ok, Option, Some, None, refl, sym, ap, ◌∙◌, append_assoc}
use Rattle.std.specs.Prelude.{String, string_bytes}
use Rattle.std.specs.declared.alloc.Global.{Global}
use Rattle.serde_json.specs.Data.{Data, null, boolean, number, string, array, object, Members, member}
use Rattle.serde_json.specs.View.{view, members_view}
use Rattle.serde_json.specs.Find.{as_str}
use Rattle.serde_json.specs.declared.value.Value.{Value}
use Rattle.query_http.specs.declared.fault.Parameter.{Parameter}
use Rattle.jaeger_model.specs.Texts.{Pairs}
use Rattle.query_http.specs.Queries.{◌>>=◌, texts_in}

-- the pairs read so far, before those still to be read
abbrev pub with_front : Pairs → Result Pairs Parameter → Result Pairs Parameter
with_front xs r = r >>= λ ys. Ok (xs ++ ys)

-- the texts so far, before those of the other members
abbrev pub in_front : Pairs → Option Pairs → Option Pairs
in_front xs None = None
in_front xs (Some ys) = Some (xs ++ ys)

texts_case : (front : Pairs) (k t : List ℕ) (d : Data) (ms : Members) → as_str d ≡ Some t
    → in_front front (texts_in (member k d ms)) ≡ in_front (front ++ (k, t) ∷ []) (texts_in ms)
texts_case front k t null ms e = absurd cc
texts_case front k t (boolean b) ms e = absurd cc
texts_case front k t (number n) ms e = absurd cc
texts_case front k t (array ds) ms e = absurd cc
texts_case front k t (object ns) ms e = absurd cc
texts_case front k t (string s) ms e = let same : s ≡ t = cc in rw same (by (texts_in ms))
  where
    by : (o : Option Pairs) → in_front front (elim o as (λ (p : Option Pairs). Option Pairs) [ None ↦ None | Some ps ↦ Some ((k, t) ∷ ps) ])
        ≡ in_front (front ++ (k, t) ∷ []) o
    by None = refl
    by (Some ps) = ap (λ (ys : Pairs). Some ys) (sym (append_assoc front ((k, t) ∷ []) ps))

-- one more member that is a text
pub texts_more : (front : Pairs) (k : String Global) (v : Value) (rest : List (String Global × Value)) (t : List ℕ) (total : Option Pairs)
    → as_str (view v) ≡ Some t → in_front front (texts_in (members_view ((k, v) ∷ rest))) ≡ total
    → in_front (front ++ (string_bytes k, t) ∷ []) (texts_in (members_view rest)) ≡ total
texts_more front k v rest t total e so_far = sym (texts_case front (string_bytes k) t (view v) (members_view rest) e) ∙ so_far
