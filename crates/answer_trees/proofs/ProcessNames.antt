-- The names of processes, looked up by a span's index.
use Rattle.std.proofs.Common.{◌≡◌, ◌<◌, ◌+◌, ℕ, List, [], ◌∷◌, ◌++◌, map, take, drop, length, get_or, String, Global, string_bytes, ap, sym, subst, ◌∙◌, arith}
use Rattle.std.proofs.lemmas.List.{get_or-map, length-map, take_more, take-append-drop}
use Rattle.std.proofs.lemmas.List.FromFn.{get_or-map-range_with_len, length-map-range_with_len}
use Rattle.trace_model.specs.declared.answer.Shown.{Shown}
use Rattle.answer_trees.specs.ProcessNames.{process_name}
use Rattle.answer_trees.specs.Trees.{processes_of}
use Rattle.answer_trees.specs.TraceProcesses.{process_names, process_place}
use Rattle.answer_trees.proofs.DistinctProcesses.{place_within}

length_names : (n : ℕ) (names : List (String Global)) → map string_bytes names ≡ process_names n → length names ≡ n
length_names n names e = sym (length-map names string_bytes) ∙ ap length e ∙ length-map-range_with_len process_name 0 n

pub name_at : (n k : ℕ) (names : List (String Global)) (name : String Global) → map string_bytes names ≡ process_names n → k < n → name ≡ get_or names k name
    → string_bytes name ≡ process_name k
name_at n k names name e below is =
    let within : k < length names = let long = length_names n names e in omega arith in
    ap string_bytes is ∙ sym (get_or-map string_bytes names k name [] within) ∙ ap (λ ns. get_or ns k []) e
    ∙ get_or-map-range_with_len process_name 0 n k k [] below (omega arith)

pub place_at : (spans : List Shown) (places : List ℕ) (i : ℕ) (s : Shown) → places ≡ map (process_place (processes_of spans)) spans → i < length spans
    → s ≡ get_or spans i s → get_or places i 0 ≡ process_place (processes_of spans) s
place_at spans places i s e below is =
    let place_of = process_place (processes_of spans) in
    ap (λ l. get_or l i 0) e ∙ get_or-map place_of spans i s 0 below ∙ ap place_of (sym is)

pub place_below_all : (spans : List Shown) (i : ℕ) (s : Shown) → i < length spans → s ≡ get_or spans i s
    → process_place (processes_of spans) s < length (processes_of spans)
place_below_all spans i s below is =
    let front : List Shown = take i spans in
    let rest : List Shown = drop (i + 1) spans in
    let more : take (i + 1) spans ≡ front ++ s ∷ [] = take_more spans i s below ∙ ap (λ y. front ++ y ∷ []) (sym is) in
    let whole : (front ++ s ∷ []) ++ rest ≡ spans = ap (λ (l : List Shown). l ++ rest) (sym more) ∙ take-append-drop (i + 1) spans in
    subst (λ (l : List Shown). process_place (processes_of l) s < length (processes_of l)) whole (place_within front rest s)
