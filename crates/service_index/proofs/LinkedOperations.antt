-- How the operations of a service are linked, and what the index answers from them.
use Rattle.std.proofs.Common.{◌≡◌, ℕ, suc, zero, ◌+◌, ◌-◌, ◌<◌, ◌≤◌, Bool, true, false, ◌||◌, ◌&&◌, not, cond, nat_lt, List, [], ◌∷◌, ◌++◌, map, length, get_or}
use Rattle.std.proofs.Common.{drop, refl, sym, ap, subst, ◌∙◌, inl, inr, arith, length-append}
use Rattle.std.specs.Prelude.{◌==◌, filter, Some, None, if◌then◌else◌}
use Rattle.std.specs.List.{list_any, position_or_len}
use Rattle.std.proofs.Math.Bool.{and-true}
use Rattle.std.proofs.Math.ListN.{set}
use Rattle.std.proofs.Math.Path.{transport}
use Rattle.std.proofs.Math.Seq.{drop-cons}
use Rattle.std.proofs.lemmas.Bool.{false≢true, lt-ltb, le-ltb, cases_eq, cases_lt}
use Rattle.std.proofs.lemmas.List.{length-set, length-map, map_push, drop_all, get_or-map, get_or-set_same, get_or-set_other, get_or_append_left, get_or_push}
use Rattle.std.proofs.lemmas.List.{get_or_past}
use Rattle.std.proofs.lemmas.List.Sums.{fold_push, passes_at_first, fails_before_first, position_or_len_is, prefix_len-le-length}
use Rattle.std.proofs.lemmas.List.Folds.{list_any-append, list_any_at, list_any_none}
use Rattle.jaeger_model.specs.Texts.{same_text, text_cmp, sorted_set, insert_once}
use Rattle.trace_model.specs.declared.answer.Operation.{Operation}
use Rattle.trace_model.specs.Names.{operation_cmp, same_operation}
use Rattle.trace_model.proofs.SortedSets.{any_set, sorted_set-rises}
use Rattle.trace_model.proofs.NameLaws.{text_total, text_exact, operation_total, operation_exact, any_map, any_filter, text_is, text_self, text_apart}
use Rattle.hash_tables.specs.RowPlaces.{AreOnce}
use Rattle.hash_tables.proofs.DistinctRows.{one_row}
use Rattle.service_index.specs.ListedNames.{Listed, listed_cmp, same_listed, services_in, operations_of, names_of}
use Rattle.service_index.specs.Labels.{Names, IsNumberedByService, IsServiceNumberOf, service_alone, LabelValue}
use Rattle.service_index.specs.Labels.{same_label, Labelling, service_number_alone, operation_labels}
use Rattle.service_index.specs.Labels.{service_number_labels}
use Rattle.service_index.specs.Probes.{Table, no_label, label_at, AreNumbersBelow, IsLabelTable, row_of, with_number}
use Rattle.service_index.specs.LinkedRows.{newest_with}
use Rattle.service_index.specs.Indexes.{Index, listing_by, service_row, has_service, owners, IsNewest, IsChain, LeadsBack, IsLinked, IsIndexed}
use Rattle.service_index.proofs.KnownNames.{known_again}
use Rattle.service_index.proofs.ListedSets.{same_set, set_more, listed_total, listed_exact}
use Rattle.service_index.proofs.LabelProbes.{same_is, label_of}
use Rattle.trace_model.proofs.Lists.{is_position}

-- ---- rows and tests
-- a test of the numbers' keys passes if the label is the one to find
abbrev pub FindsLabel : {X : Type 0} → Labelling → LabelValue → (ℕ → X) → (X → Bool) → Type 0
FindsLabel labels l key test = (n : ℕ) → n < labels.count → same_label l (labels.at n) ≡ test (key n)

-- the row of a label is that of its key
pub row_by_key : {X : Type 0} (labels : Labelling) (l : LabelValue) (key : ℕ → X) (test : X → Bool) (numbers : List ℕ) (d : X) → FindsLabel labels l key test
    → AreNumbersBelow labels.count numbers
    → row_of labels numbers l ≡ position_or_len test (map key numbers)
row_by_key labels l key test numbers d finds held =
    let known = map labels.at numbers in
    let r = row_of labels numbers l in
    let m = length-map numbers labels.at in
    let o = length-map numbers key in
    let w = prefix_len-le-length (λ x. not (same_label l x)) known in
    let at : (k : ℕ) → k < length numbers → same_label l (label_at known k) ≡ test (get_or (map key numbers) k d) = λ k below.
    ap (same_label l) (label_of labels numbers k below) ∙ finds (get_or numbers k 0) (held.held k below) ∙ ap test (sym (get_or-map key numbers k 0 d below)) in
    sym (position_or_len_is test (map key numbers) r d (omega arith)
    (λ k below. sym (at k (omega arith)) ∙ fails_before_first (same_label l) known k no_label below)
    (λ below. sym (at r (omega arith)) ∙ passes_at_first (same_label l) known no_label (omega arith)))

pub known_by_key : {X : Type 0} (labels : Labelling) (l : LabelValue) (key : ℕ → X) (test : X → Bool) (numbers : List ℕ) (d : X) → FindsLabel labels l key test
    → AreNumbersBelow labels.count numbers
    → nat_lt (row_of labels numbers l) (length numbers) ≡ list_any test (map key numbers)
known_by_key labels l key test numbers d finds held =
    ap (λ r. nat_lt r (length numbers)) (row_by_key labels l key test numbers d finds held)
    ∙ ap (nat_lt (position_or_len test (map key numbers))) (sym (length-map numbers key)) ∙ is_position test (map key numbers) d

-- a number of a known label is not kept, another is
pub number_known : (labels : Labelling) (numbers : List ℕ) (n : ℕ) → row_of labels numbers (labels.at n) < length numbers
    → with_number labels numbers n ≡ numbers
number_known labels numbers n below = ap (λ b. cond b numbers (numbers ++ n ∷ [])) (lt-ltb (row_of labels numbers (labels.at n)) (length numbers) below)

pub number_new : (labels : Labelling) (numbers : List ℕ) (n : ℕ) → length numbers ≤ row_of labels numbers (labels.at n)
    → with_number labels numbers n ≡ numbers ++ n ∷ []
number_new labels numbers n past = ap (λ b. cond b numbers (numbers ++ n ∷ [])) (le-ltb (row_of labels numbers (labels.at n)) (length numbers) past)

-- ---- services
pub service_own : (services : List (List ℕ)) (s : List ℕ) (r : ℕ) → r ≡ position_or_len (same_text s) services → r < length services → get_or services r [] ≡ s
service_own services s r is below =
    ap (λ k. get_or services k []) is
    ∙ sym (text_is s (get_or services (position_or_len (same_text s) services) []) (passes_at_first (same_text s) services [] (omega arith)))

pub service_new : (services : List (List ℕ)) (s : List ℕ) (r : ℕ) → r ≡ position_or_len (same_text s) services → length services ≤ r
    → list_any (same_text s) services ≡ false
service_new services s r is past = sym (is_position (same_text s) services []) ∙ le-ltb (position_or_len (same_text s) services) (length services) (omega arith)

-- numbers have the same label exactly if they have the same key
abbrev pub AreKeys : Labelling → (ℕ → List ℕ) → Type 0
AreKeys labels key = (m : ℕ) → m < labels.count → FindsLabel labels (labels.at m) key (same_text (key m))

distinct : (labels : Labelling) (key : ℕ → List ℕ) (t : Table) → AreKeys labels key → IsLabelTable labels t → AreOnce [] (map key t.numbers)
distinct labels key t are h i j below within same =
    let l = length-map t.numbers labels.at in
    let m = length-map t.numbers key in
    let a = get_or t.numbers i 0 in
    let b = get_or t.numbers j 0 in
    let held = h.numbers.held in
    let texts : key a ≡ key b = sym (get_or-map key t.numbers i 0 [] (omega arith)) ∙ same ∙ get_or-map key t.numbers j 0 [] (omega arith) in
    let tied : same_label (labels.at a) (labels.at b) ≡ true =
    are a (held i (omega arith)) b (held j (omega arith)) ∙ ap (same_text (key a)) (sym texts) ∙ text_self (key a) in
    h.once i j below (omega arith)
    (label_of labels t.numbers i (omega arith) ∙ same_is (labels.at a) (labels.at b) tied ∙ sym (label_of labels t.numbers j (omega arith)))

-- ---- the labels of an index
abbrev alone : Names → ℕ → List ℕ
alone names n = (names.at n).service

pub service_numbers_keyed : (names : Names) → IsNumberedByService names → AreKeys (service_number_labels names) (λ n. (names.at n).service)
service_numbers_keyed names g m below n within = and-true (names.service_number m == names.service_number n) ∙ g.same m n below within

operations_keyed : (names : Names) → IsNumberedByService names → (m : ℕ) → m < names.count
    → FindsLabel (operation_labels names) ((operation_labels names).at m) names.at (same_listed (names.at m))
operations_keyed names g m below n within = ap (λ b. b && same_operation (names.at m).operation (names.at n).operation) (g.same m n below within)

-- the requested group
service_number_asked : (names : Names) (s : List ℕ) (service_number : ℕ) → IsServiceNumberOf names s (Some service_number)
    → FindsLabel (service_number_labels names) (service_number_alone service_number) (alone names) (same_text s)
service_number_asked names s service_number is n within = and-true (service_number == names.service_number n) ∙ is n within

operation_asked : (names : Names) (l : Listed) (service_number : ℕ) → IsServiceNumberOf names l.service (Some service_number)
    → FindsLabel (operation_labels names) (record { service_number = service_number; name = l.operation.name; kind = l.operation.kind }) names.at
    (same_listed l)
operation_asked names l service_number is n within = ap (λ b. b && same_operation l.operation (names.at n).operation) (is n within)

-- ---- one more row
newest_more : (rows : List (List ℕ)) (new service : List ℕ) (at below : ℕ) → below ≤ length rows → IsNewest rows service at below
    → IsNewest (rows ++ new ∷ []) service at below
newest_more rows new service at below within h = record {
  within = h.within;
  own = λ pos. let w = h.within in get_or_append_left rows (new ∷ []) [] (at - 1) (omega arith) ∙ h.own pos;
  none = λ k low under is. h.none k low under (sym (get_or_append_left rows (new ∷ []) [] k (omega arith)) ∙ is);
}

newest_past : (rows : List (List ℕ)) (new service : List ℕ) (at : ℕ) → (new ≡ service → ⊥) → IsNewest rows service at (length rows)
    → IsNewest (rows ++ new ∷ []) service at (length (rows ++ new ∷ []))
newest_past rows new service at other h =
    let l : length (rows ++ new ∷ []) ≡ length rows + 1 = length-append rows (new ∷ []) in
    let m = newest_more rows new service at (length rows) (omega arith) h in
    record {
      within = let w = h.within in omega arith;
      own = m.own;
      none = λ k low under is. elim (cases_eq k (length rows)) [
        | inl e ↦ other (sym (get_or_push rows new [] k (sym e)) ∙ is)
        | inr old ↦ m.none k low (omega arith) is
      ];
    }

newest_new : (rows : List (List ℕ)) (new : List ℕ) → IsNewest (rows ++ new ∷ []) new (length rows + 1) (length (rows ++ new ∷ []))
newest_new rows new =
    let l : length (rows ++ new ∷ []) ≡ length rows + 1 = length-append rows (new ∷ []) in
    record {
      within = omega arith;
      own = λ pos. get_or_push rows new [] (length rows + 1 - 1) (omega arith);
      none = λ k low under is. absurd (omega arith);
    }

chain_more : (rows : List (List ℕ)) (earlier : List ℕ) (new : List ℕ) (at : ℕ) → IsChain rows earlier → IsNewest rows new at (length rows)
    → IsChain (rows ++ new ∷ []) (earlier ++ at ∷ [])
chain_more rows earlier new at h n =
    let a = h.as_many in
    let l : length (rows ++ new ∷ []) ≡ length rows + 1 = length-append rows (new ∷ []) in
    let m : length (earlier ++ at ∷ []) ≡ length earlier + 1 = length-append earlier (at ∷ []) in
    record {
      as_many = omega arith;
      before = λ k below. elim (cases_eq k (length rows)) [
        | inl e ↦
            subst (λ (x : ℕ). IsNewest (rows ++ new ∷ []) (get_or (rows ++ new ∷ []) k []) x k) (sym (get_or_push earlier at 0 k (omega arith)))
            (subst (λ (s : List ℕ). IsNewest (rows ++ new ∷ []) s at k) (sym (get_or_push rows new [] k (sym e)))
            (subst (λ (j : ℕ). IsNewest (rows ++ new ∷ []) new at j) (sym e) (newest_more rows new new at (length rows) (omega arith) n)))
        | inr other ↦ let old : k < length rows = omega arith in
            subst (λ (x : ℕ). IsNewest (rows ++ new ∷ []) (get_or (rows ++ new ∷ []) k []) x k) (sym (get_or_append_left earlier (at ∷ []) 0 k (omega arith)))
            (subst (λ (s : List ℕ). IsNewest (rows ++ new ∷ []) s (get_or earlier k 0) k) (sym (get_or_append_left rows (new ∷ []) [] k old))
            (newest_more rows new (get_or rows k []) (get_or earlier k 0) k (omega arith) (h.before k old)))
      ];
    }

or_known : (a b : Bool) → (b ≡ true → a ≡ true) → a ≡ (a || (b || false))
or_known true b h = refl
or_known false true h = h refl
or_known false false h = refl

linked_known : (rows services : List (List ℕ)) (newest earlier : List ℕ) (s : ℕ) (new : List ℕ) → IsLinked rows services newest earlier → AreOnce [] services
    → s < length services → get_or services s [] ≡ new
    → IsLinked (rows ++ new ∷ []) services (set newest s (length rows + 1)) (earlier ++ get_or newest s 0 ∷ [])
linked_known rows services newest earlier s new h apart within own =
    let a = h.as_many in
    record {
      as_many = length-set newest s (length rows + 1) ∙ a;
      chain =
          chain_more rows earlier new (get_or newest s 0) h.chain
          (subst (λ (x : List ℕ). IsNewest rows x (get_or newest s 0) (length rows)) own (h.last s within));
      same = λ p.
          or_known (list_any p services) (p new) (λ t. list_any_at p services s [] within (ap p own ∙ t))
          ∙ ap (λ b. b || (p new || false)) (h.same p) ∙ sym (list_any-append p rows (new ∷ []));
      last = λ r below. elim (cases_eq r s) [
        | inl e ↦
            subst (λ (x : ℕ). IsNewest (rows ++ new ∷ []) (get_or services x []) (get_or (set newest s (length rows + 1)) x 0) (length (rows ++ new ∷ [])))
            (sym e)
            (subst (λ (x : ℕ). IsNewest (rows ++ new ∷ []) (get_or services s []) x (length (rows ++ new ∷ [])))
            (sym (get_or-set_same newest s (length rows + 1) 0 (omega arith)))
            (subst (λ (x : List ℕ). IsNewest (rows ++ new ∷ []) x (length rows + 1) (length (rows ++ new ∷ []))) (sym own) (newest_new rows new)))
        | inr other ↦
            subst (λ (x : ℕ). IsNewest (rows ++ new ∷ []) (get_or services r []) x (length (rows ++ new ∷ [])))
            (sym (get_or-set_other newest s r (length rows + 1) 0 other))
            (newest_past rows new (get_or services r []) (get_or newest r 0)
            (λ e. other (one_row [] services r s apart below within (sym e ∙ sym own))) (h.last r below))
      ];
    }

pub none_of : (xs : List (List ℕ)) (s : List ℕ) → list_any (same_text s) xs ≡ false → (k : ℕ) → k < length xs → s ≡ get_or xs k [] → ⊥
none_of xs s none k below is = false≢true (sym none ∙ list_any_at (same_text s) xs k [] below (ap (same_text s) (sym is) ∙ text_self s))

linked_new : (rows services : List (List ℕ)) (newest earlier : List ℕ) (new : List ℕ) → IsLinked rows services newest earlier
    → list_any (same_text new) services ≡ false
    → IsLinked (rows ++ new ∷ []) (services ++ new ∷ []) (newest ++ (length rows + 1) ∷ []) (earlier ++ 0 ∷ [])
linked_new rows services newest earlier new h absent =
    let a = h.as_many in
    let l : length (services ++ new ∷ []) ≡ length services + 1 = length-append services (new ∷ []) in
    let m : length (newest ++ (length rows + 1) ∷ []) ≡ length newest + 1 = length-append newest ((length rows + 1) ∷ []) in
    let nowhere = none_of rows new (sym (h.same (same_text new)) ∙ absent) in
    record {
      as_many = omega arith;
      chain = chain_more rows earlier new 0 h.chain (record {
        within = omega arith;
        own = λ pos. absurd (omega arith);
        none = λ k low under is. nowhere k under (sym is);
      });
      same = λ p. list_any-append p services (new ∷ []) ∙ ap (λ b. b || (p new || false)) (h.same p) ∙ sym (list_any-append p rows (new ∷ []));
      last = λ r below. elim (cases_eq r (length services)) [
        | inl e ↦
            subst (λ (x : ℕ). IsNewest (rows ++ new ∷ []) (get_or (services ++ new ∷ []) r []) x (length (rows ++ new ∷ [])))
            (sym (get_or_push newest (length rows + 1) 0 r (omega arith)))
            (subst (λ (x : List ℕ). IsNewest (rows ++ new ∷ []) x (length rows + 1) (length (rows ++ new ∷ []))) (sym (get_or_push services new [] r (sym e)))
            (newest_new rows new))
        | inr other ↦ let old : r < length services = omega arith in
            subst (λ (x : ℕ). IsNewest (rows ++ new ∷ []) (get_or (services ++ new ∷ []) r []) x (length (rows ++ new ∷ [])))
            (sym (get_or_append_left newest ((length rows + 1) ∷ []) 0 r (omega arith)))
            (subst (λ (x : List ℕ). IsNewest (rows ++ new ∷ []) x (get_or newest r 0) (length (rows ++ new ∷ [])))
            (sym (get_or_append_left services (new ∷ []) [] r old))
            (newest_past rows new (get_or services r []) (get_or newest r 0) (none_of services new absent r old) (h.last r old)))
      ];
    }

pub linked_empty : IsLinked [] [] [] []
linked_empty = record {
  as_many = refl;
  chain = record { as_many = refl; before = λ k below. absurd (omega arith) };
  same = λ p. refl;
  last = λ s below. absurd (omega arith);
}

-- the newest rows with one of a service that has rows, and with one of the next service
newest_known : (newest : List ℕ) (s row : ℕ) → s < length newest → newest_with newest s row ≡ set newest s row
newest_known newest s row below = ap (λ b. if b then set newest s row else newest ++ row ∷ []) (lt-ltb s (length newest) below)

newest_fresh : (newest : List ℕ) (s row : ℕ) → length newest ≤ s → newest_with newest s row ≡ newest ++ row ∷ []
newest_fresh newest s row past = ap (λ b. if b then set newest s row else newest ++ row ∷ []) (le-ltb s (length newest) past)

-- ---- one more number
pub row_within : (labels : Labelling) (numbers : List ℕ) (label : LabelValue) → row_of labels numbers label ≤ length numbers
row_within labels numbers label =
    let l = length-map numbers labels.at in
    let w = prefix_len-le-length (λ x. not (same_label label x)) (map labels.at numbers) in
    omega arith

pub listed_again : (names : Names) (numbers : List ℕ) (n : ℕ) → IsNumberedByService names → AreNumbersBelow names.count numbers → n < names.count
    → row_of (operation_labels names) numbers ((operation_labels names).at n) < length numbers
    → sorted_set listed_cmp (map names.at numbers) ≡ insert_once listed_cmp (sorted_set listed_cmp (map names.at numbers)) (names.at n)
listed_again names numbers n g held below known =
    let labels = operation_labels names in
    sym (known_again (sorted_set listed_cmp (map names.at numbers)) (names.at n) (sorted_set-rises listed_total (map names.at numbers))
    (any_set listed_exact (same_listed (names.at n)) (map names.at numbers)
    ∙ sym (known_by_key labels (labels.at n) names.at (same_listed (names.at n)) numbers (service_alone []) (operations_keyed names g n below)
    (record { held = held.held }))
    ∙ lt-ltb (row_of labels numbers (labels.at n)) (length numbers) known))

-- one more row, of the service that is the key of the number n
pub linked_more : (labels : Labelling) (key : ℕ → List ℕ) (old : Table) (rows : List (List ℕ)) (newest earlier now later numbers : List ℕ) (n s : ℕ)
    → AreKeys labels key → IsLabelTable labels old → IsLinked rows (map key old.numbers) newest earlier
    → numbers ≡ with_number labels old.numbers n → s ≡ row_of labels old.numbers (labels.at n) → s ≡ position_or_len (same_text (key n)) (map key old.numbers)
    → now ≡ newest_with newest s (length rows + 1) → later ≡ earlier ++ get_or newest s 0 ∷ []
    → IsLinked (rows ++ key n ∷ []) (map key numbers) now later
linked_more labels key old rows newest earlier now later numbers n s keyed named h less at found e f =
    let others = old.numbers in
    let m = length-map others key in
    let as_many = h.as_many in
    elim (cases_lt s (length others)) [
      | inl below ↦
          let same : numbers ≡ others = less ∙ number_known labels others n (omega arith) in
          let set_in : now ≡ set newest s (length rows + 1) = e ∙ newest_known newest s (length rows + 1) (omega arith) in
          transport (λ i. IsLinked (rows ++ key n ∷ []) (map key (sym same i)) (sym set_in i) (sym f i))
          (linked_known rows (map key others) newest earlier s (key n) h (distinct labels key old keyed named) (omega arith)
          (service_own (map key others) (key n) s found (omega arith)))
      | inr beyond ↦
          let fresh : map key numbers ≡ map key others ++ key n ∷ [] = ap (map key) (less ∙ number_new labels others n (omega arith)) ∙ map_push key others n in
          let put : now ≡ newest ++ (length rows + 1) ∷ [] = e ∙ newest_fresh newest s (length rows + 1) (omega arith) in
          let none : later ≡ earlier ++ 0 ∷ [] = f ∙ ap (λ x. earlier ++ x ∷ []) (get_or_past newest s 0 (omega arith)) in
          transport (λ i. IsLinked (rows ++ key n ∷ []) (sym fresh i) (sym put i) (sym none i))
          (linked_new rows (map key others) newest earlier (key n) h (service_new (map key others) (key n) s found (omega arith)))
    ]

pub indexed_more : (names : Names) (g : IsNumberedByService names) (old : Index) (operations services : Table) (newest earlier : List ℕ) (n s row used room : ℕ)
    → n < names.count → IsIndexed names old → IsLabelTable (operation_labels names) operations → IsLabelTable (service_number_labels names) services
    → operations.numbers ≡ with_number (operation_labels names) old.operations.numbers n
    → row ≡ row_of (operation_labels names) old.operations.numbers ((operation_labels names).at n) → length old.operations.numbers ≤ row
    → services.numbers ≡ with_number (service_number_labels names) old.services.numbers n
    → s ≡ row_of (service_number_labels names) old.services.numbers (service_number_alone (names.service_number n))
    → newest ≡ newest_with old.newest s (row + 1) → earlier ≡ old.earlier ++ get_or old.newest s 0 ∷ []
    → IsIndexed names (record { operations = operations; services = services; newest = newest; earlier = earlier; used = used; room = room })
indexed_more names g old operations services newest earlier n s row used room held h named alone_named more is past less at e f =
    let numbers = old.operations.numbers in
    let l = length-map numbers (λ k. (names.at k).service) in
    let w = row_within (operation_labels names) numbers ((operation_labels names).at n) in
    let new : row ≡ length (owners names numbers) = omega arith in
    let found : s ≡ position_or_len (same_text (alone names n)) (owners names old.services.numbers) =
    at ∙ row_by_key (service_number_labels names) (service_number_alone (names.service_number n)) (alone names) (same_text (alone names n))
    old.services.numbers []
    (service_numbers_keyed names g n held) h.services.numbers in
    let rows : owners names operations.numbers ≡ owners names numbers ++ alone names n ∷ [] =
    ap (owners names) (more ∙ number_new (operation_labels names) numbers n (omega arith)) ∙ map_push (alone names) numbers n in
    record {
      operations = named;
      services = alone_named;
      linked =
          subst (λ (x : List (List ℕ)). IsLinked x (owners names services.numbers) newest earlier) (sym rows)
          (linked_more (service_number_labels names) (alone names) old.services (owners names numbers) old.newest old.earlier newest earlier
          services.numbers n s
          (service_numbers_keyed names g) h.services h.linked
          less at found (e ∙ ap (λ k. newest_with old.newest s (k + 1)) new) f);
    }

-- ---- answers
pub name_known : (names : Names) (index : Index) (l : Listed) (service_number : ℕ) → IsIndexed names index
    → IsServiceNumberOf names l.service (Some service_number)
    → nat_lt (row_of (operation_labels names) index.operations.numbers
    (record { service_number = service_number; name = l.operation.name; kind = l.operation.kind }))
    (length index.operations.numbers) ≡ list_any (same_listed l) (listing_by names index)
name_known names index l service_number h is =
    known_by_key (operation_labels names) (record { service_number = service_number; name = l.operation.name; kind = l.operation.kind }) names.at
    (same_listed l)
    index.operations.numbers (service_alone []) (operation_asked names l service_number is) h.operations.numbers
    ∙ sym (any_set listed_exact (same_listed l) (map names.at index.operations.numbers))

-- if no number has the service, none has its operation
pub name_unknown : (names : Names) (index : Index) (l : Listed) → IsIndexed names index → IsServiceNumberOf names l.service None
    → false ≡ list_any (same_listed l) (listing_by names index)
name_unknown names index l h none =
    let numbers = index.operations.numbers in
    let m = length-map numbers names.at in
    sym (any_set listed_exact (same_listed l) (map names.at numbers) ∙ list_any_none (same_listed l) (map names.at numbers) (λ k d below.
    ap (same_listed l) (get_or-map names.at numbers k 0 d (omega arith))
    ∙ ap (λ b. b && same_operation l.operation (names.at (get_or numbers k 0)).operation)
    (none (get_or numbers k 0) (h.operations.numbers.held k (omega arith)))))

-- the row of a service, found by its group
pub service_found : (names : Names) (index : Index) (s : List ℕ) (service_number : ℕ) → IsIndexed names index → IsServiceNumberOf names s (Some service_number)
    → row_of (service_number_labels names) index.services.numbers (service_number_alone service_number) ≡ service_row names index s
service_found names index s service_number h is =
    row_by_key (service_number_labels names) (service_number_alone service_number) (alone names) (same_text s) index.services.numbers []
    (service_number_asked names s service_number is) h.services.numbers

pub service_missing : (names : Names) (index : Index) (s : List ℕ) → IsIndexed names index → IsServiceNumberOf names s None
    → length index.services.numbers ≡ service_row names index s
service_missing names index s h none =
    let numbers = index.services.numbers in
    let m = length-map numbers (alone names) in
    sym (position_or_len_is (same_text s) (owners names numbers) (length numbers) [] (omega arith) (λ k below.
    ap (same_text s) (get_or-map (alone names) numbers k 0 [] below) ∙ none (get_or numbers k 0) (h.services.numbers.held k below))
    (λ below. absurd (omega arith)))

pub service_known : (names : Names) (index : Index) (s : List ℕ) → IsIndexed names index
    → nat_lt (service_row names index s) (length index.services.numbers) ≡ has_service s (listing_by names index)
service_known names index s h =
    let numbers = index.operations.numbers in
    ap (nat_lt (service_row names index s)) (sym (length-map index.services.numbers (alone names)))
    ∙ is_position (same_text s) (owners names index.services.numbers) [] ∙ h.linked.same (same_text s)
    ∙ any_map (same_text s) (λ n. (names.at n).service) numbers
    ∙ sym (any_set listed_exact (λ (l : Listed). same_text s l.service) (map names.at numbers)
    ∙ any_map (λ (l : Listed). same_text s l.service) names.at numbers)

pub services_are : (names : Names) (index : Index) → IsIndexed names index
    → sorted_set text_cmp (owners names index.services.numbers) ≡ services_in (listing_by names index)
services_are names index h =
    let numbers = index.operations.numbers in
    same_set text_total text_exact (owners names index.services.numbers) (map (λ (l : Listed). l.service) (listing_by names index)) (λ p.
    h.linked.same p ∙ any_map p (λ n. (names.at n).service) numbers
    ∙ sym (any_map p (λ (l : Listed). l.service) (listing_by names index) ∙ any_set listed_exact (λ (l : Listed). p l.service) (map names.at numbers)
    ∙ any_map (λ (l : Listed). p l.service) names.at numbers))

any_operations : (s : List ℕ) (p : Operation → Bool) (ls : List Listed)
    → list_any p (operations_of s ls) ≡ list_any (λ (l : Listed). same_text s l.service && p l.operation) ls
any_operations s p ls =
    any_map p (λ (l : Listed). l.operation) (filter (λ (l : Listed). same_text s l.service) ls)
    ∙ any_filter (λ (l : Listed). p l.operation) (λ (l : Listed). same_text s l.service) ls

pub operations_are : (s : List ℕ) (ls : List Listed)
    → sorted_set operation_cmp (operations_of s ls) ≡ sorted_set operation_cmp (operations_of s (sorted_set listed_cmp ls))
operations_are s ls = same_set operation_total operation_exact (operations_of s ls) (operations_of s (sorted_set listed_cmp ls)) (λ p.
    any_operations s p ls ∙ sym (any_operations s p (sorted_set listed_cmp ls)
    ∙ any_set listed_exact (λ (l : Listed). same_text s l.service && p l.operation) ls))

none_own : (s : List ℕ) (ls : List Listed) → has_service s ls ≡ false → operations_of s ls ≡ []
none_own s [] none = refl
none_own s (l ∷ ls) none =
    elim (same_text s l.service) as (λ b. (b || has_service s ls) ≡ false
    → map (λ (x : Listed). x.operation) (cond b (l ∷ filter (λ (x : Listed). same_text s x.service) ls) (filter (λ (x : Listed). same_text s x.service) ls))
    ≡ []) [
      | true ↦ λ e. absurd (false≢true (sym e))
      | false ↦ λ e. none_own s ls e
    ] none

pub operations_none : (s : List ℕ) (ls : List Listed) → has_service s ls ≡ false → [] ≡ sorted_set operation_cmp (operations_of s ls)
operations_none s ls none = sym (ap (sorted_set operation_cmp) (none_own s ls none))

pub names_are : (os : List Operation) → names_of (sorted_set operation_cmp os) ≡ names_of os
names_are os =
    let name : Operation → List ℕ = λ o. o.name in
    same_set text_total text_exact (map name (sorted_set operation_cmp os)) (map name os) (λ p.
    any_map p name (sorted_set operation_cmp os) ∙ any_set operation_exact (λ o. p (name o)) os ∙ sym (any_map p name os))

-- ---- along a chain
pub leads_back : (names : Names) (numbers earlier : List ℕ) → IsChain (owners names numbers) earlier → LeadsBack (length numbers) earlier
leads_back names numbers earlier h =
    let l = length-map numbers (λ n. (names.at n).service) in
    record { as_many = h.as_many ∙ l; before = λ k below. (h.before k (omega arith)).within }

pub newest_of : (names : Names) (index : Index) (s : List ℕ) (r at : ℕ) (numbers : List ℕ) → IsIndexed names index → r ≡ service_row names index s
    → r < length index.services.numbers
    → numbers ≡ index.operations.numbers → at ≡ get_or index.newest r 0 → IsNewest (owners names numbers) s at (length numbers)
newest_of names index s r at numbers h is below same e =
    let l = length-map index.services.numbers (λ n. (names.at n).service) in
    let own = service_own (owners names index.services.numbers) s r is (omega arith) in
    subst (λ (x : List ℕ). IsNewest (owners names x) s at (length x)) (sym same)
    (subst (λ (x : ℕ). IsNewest (owners names index.operations.numbers) s x (length index.operations.numbers)) (sym e)
    (subst (λ (x : ℕ). IsNewest (owners names index.operations.numbers) s (get_or index.newest r 0) x)
    (length-map index.operations.numbers (λ n. (names.at n).service))
    (subst (λ (x : List ℕ). IsNewest (owners names index.operations.numbers) x (get_or index.newest r 0) (length (owners names index.operations.numbers))) own
    (h.linked.last r (omega arith)))))

from_other : (names : Names) (numbers : List ℕ) (s : List ℕ) (k : ℕ) → k < length numbers → (get_or (owners names numbers) k [] ≡ s → ⊥)
    → operations_of s (map names.at (drop k numbers)) ≡ operations_of s (map names.at (drop (suc k) numbers))
from_other names numbers s k below other =
    let n = get_or numbers k 0 in
    let rest = map names.at (drop (suc k) numbers) in
    let apart : same_text s (names.at n).service ≡ false =
    text_apart s (names.at n).service (λ e. other (get_or-map (λ j. (names.at j).service) numbers k 0 [] below ∙ sym e)) in
    ap (λ x. operations_of s (map names.at x)) (drop-cons numbers k 0 below)
    ∙ ap (λ b. map (λ (x : Listed). x.operation)
    (cond b (names.at n ∷ filter (λ (x : Listed). same_text s x.service) rest) (filter (λ (x : Listed). same_text s x.service) rest))) apart

from_own : (names : Names) (numbers : List ℕ) (s : List ℕ) (k : ℕ) → k < length numbers → get_or (owners names numbers) k [] ≡ s
    → operations_of s (map names.at (drop k numbers)) ≡ (names.at (get_or numbers k 0)).operation ∷ operations_of s (map names.at (drop (suc k) numbers))
from_own names numbers s k below own =
    let n = get_or numbers k 0 in
    let rest = map names.at (drop (suc k) numbers) in
    let same : same_text s (names.at n).service ≡ true =
    ap (same_text s) (sym (get_or-map (λ j. (names.at j).service) numbers k 0 [] below) ∙ own) ∙ text_self s in
    ap (λ x. operations_of s (map names.at x)) (drop-cons numbers k 0 below)
    ∙ ap (λ b. map (λ (x : Listed). x.operation)
    (cond b (names.at n ∷ filter (λ (x : Listed). same_text s x.service) rest) (filter (λ (x : Listed). same_text s x.service) rest))) same

-- rows of other services between
skip : (names : Names) (numbers : List ℕ) (s : List ℕ) (d k m : ℕ) → m ≡ k + d → m ≤ length numbers
    → ((j : ℕ) → k ≤ j → j < m → get_or (owners names numbers) j [] ≡ s → ⊥)
    → operations_of s (map names.at (drop k numbers)) ≡ operations_of s (map names.at (drop m numbers))
skip names numbers s zero k m e within none = let same : k ≡ m = omega arith in ap (λ x. operations_of s (map names.at (drop x numbers))) same
skip names numbers s (suc d) k m e within none =
    from_other names numbers s k (omega arith) (none k (omega arith) (omega arith))
    ∙ skip names numbers s d (suc k) m (omega arith) within (λ j low below. none j (omega arith) below)

pub walk_start : (names : Names) (numbers : List ℕ) (s : List ℕ) (newest : ℕ) → IsNewest (owners names numbers) s newest (length numbers)
    → [] ≡ sorted_set operation_cmp (operations_of s (map names.at (drop newest numbers)))
walk_start names numbers s newest h =
    let w = h.within in
    ap (λ x. sorted_set operation_cmp (operations_of s (map names.at x))) (sym (drop_all (length numbers) numbers (omega arith)))
    ∙ ap (sorted_set operation_cmp) (sym (skip names numbers s (length numbers - newest) newest (length numbers) (omega arith) (omega arith) h.none))

pub walk_step : (names : Names) (numbers : List ℕ) (s : List ℕ) (at row next : ℕ) (known : List Operation) → row + 1 ≡ at → at ≤ length numbers
    → get_or (owners names numbers) row [] ≡ s
    → IsNewest (owners names numbers) (get_or (owners names numbers) row []) next row
    → sorted_set operation_cmp known ≡ sorted_set operation_cmp (operations_of s (map names.at (drop at numbers)))
    → sorted_set operation_cmp (known ++ (names.at (get_or numbers row 0)).operation ∷ [])
    ≡ sorted_set operation_cmp (operations_of s (map names.at (drop next numbers)))
walk_step names numbers s at row next known e within own h is =
    let w = h.within in
    let o = (names.at (get_or numbers row 0)).operation in
    let rest = operations_of s (map names.at (drop at numbers)) in
    let here : operations_of s (map names.at (drop next numbers)) ≡ o ∷ rest =
    skip names numbers s (row - next) next row (omega arith) (omega arith) (λ j low below is. h.none j low below (is ∙ sym own))
    ∙ from_own names numbers s row (omega arith) own
    ∙ ap (λ k. o ∷ operations_of s (map names.at (drop k numbers))) (let a : suc row ≡ at = omega arith in a) in
    fold_push (insert_once operation_cmp) [] known o ∙ ap (λ ks. insert_once operation_cmp ks o) is
    ∙ sym (set_more operation_total operation_exact rest (o ∷ rest) o (λ p. refl)) ∙ ap (sorted_set operation_cmp) (sym here)
