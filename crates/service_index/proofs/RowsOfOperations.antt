-- The rows of the operations of arrivals.
use Rattle.std.proofs.Common.{◌≡◌, ℕ, ◌<◌, ◌≤◌, Bool, true, false, ◌||◌, ◌&&◌, List, [], ◌∷◌, ◌++◌, map, length, get_or, refl, sym, ap, ◌∙◌}
use Rattle.std.proofs.Common.{◌+◌, take, set, subst, inl, inr, arith, eq-eqb, length-append, length-set, Some, None}
use Rattle.std.specs.Prelude.{◌==◌, codes, Option, unwrap_or}
use Rattle.std.specs.List.{list_any, position_or_len}
use Rattle.std.proofs.Math.Bool.{and-true}
use Rattle.std.proofs.lemmas.Bool.{false≢true, false_from_ne_true, eqb-true, cases_eq, cases_lt}
use Rattle.std.proofs.lemmas.List.{length-map, map_push, take_more, take_more_set, get_or-map, get_or_append_left, get_or_push}
use Rattle.std.proofs.lemmas.List.Sums.{passes_at_first, fails_before_first, position_or_len_is}
use Rattle.jaeger_model.specs.declared.kind.Kind.{Kind}
use Rattle.jaeger_model.specs.declared.placed.Placed.{Placed}
use Rattle.jaeger_model.specs.Tags.{kind_of, first_text}
use Rattle.jaeger_model.specs.Texts.{same_text}
use Rattle.trace_model.specs.declared.entry.Entry.{Entry}
use Rattle.trace_model.specs.Histories.{arrivals}
use Rattle.service_index.specs.ListedNames.{Listed, listed}
use Rattle.service_index.specs.Labels.{Names, Labelling, LabelValue, Extends, IsServiceNumberOf, same_label, service_alone}
use Rattle.service_index.specs.Labels.{operation_label, operation_labels}
use Rattle.service_index.specs.Probes.{AreNumbersBelow, no_label, label_at, row_of, with_number}
use Rattle.service_index.specs.OperationRows.{AreOperationRows, all_kinds, rows_of_kinds}
use Rattle.service_index.specs.KeptNames.{TellOperation, names_of_arrivals, reported_at}
use Rattle.service_index.proofs.AllKinds.{any_six, some_kind}
use Rattle.service_index.proofs.ArrivalReports.{some_of}
use Rattle.service_index.proofs.LabelProbes.{label_self, same_is}
use Rattle.service_index.proofs.LinkedOperations.{number_known, number_new, row_within}
use Rattle.service_index.proofs.MoreNames.{numbers_agree, operations_grow}

-- ---- one more number
-- it doesn't change the row of a known label, nor of its own
row_still : (labels : Labelling) (numbers : List ℕ) (n : ℕ) (l : LabelValue)
    → (length numbers ≤ row_of labels numbers l → same_label l (labels.at n) ≡ true)
    → row_of labels (numbers ++ n ∷ []) l ≡ row_of labels numbers l
row_still labels numbers n l own =
    let test = same_label l in
    let known = map labels.at numbers in
    let r = row_of labels numbers l in
    let m = length-map numbers labels.at in
    let w = row_within labels numbers l in
    let more = length-append known (labels.at n ∷ []) in
    ap (position_or_len test) (map_push labels.at numbers n)
    ∙ position_or_len_is test (known ++ labels.at n ∷ []) r no_label (omega arith)
    (λ k below. ap test (get_or_append_left known (labels.at n ∷ []) no_label k (omega arith)) ∙ fails_before_first test known k no_label below)
    (λ _. elim (cases_lt r (length known)) [
      | inl below ↦ ap test (get_or_append_left known (labels.at n ∷ []) no_label r below) ∙ passes_at_first test known no_label below
      | inr past ↦ ap test (get_or_push known (labels.at n) no_label r (omega arith)) ∙ own (omega arith)
    ])

row_more : (labels : Labelling) (numbers : List ℕ) (n : ℕ) (l : LabelValue)
    → (length numbers ≤ row_of labels numbers l → same_label l (labels.at n) ≡ true)
    → row_of labels (with_number labels numbers n) l ≡ row_of labels numbers l
row_more labels numbers n l own = elim (cases_lt (row_of labels numbers (labels.at n)) (length numbers)) [
  | inl below ↦ ap (λ (ns : List ℕ). row_of labels ns l) (number_known labels numbers n below)
  | inr past ↦ ap (λ (ns : List ℕ). row_of labels ns l) (number_new labels numbers n past) ∙ row_still labels numbers n l own
]

pub row_same : (labels : Labelling) (numbers : List ℕ) (n : ℕ)
    → row_of labels (with_number labels numbers n) (labels.at n) ≡ row_of labels numbers (labels.at n)
row_same labels numbers n = row_more labels numbers n (labels.at n) (λ _. label_self (labels.at n))

-- its row is one of the table, which has the rows from before
pub row_added : (labels : Labelling) (numbers now : List ℕ) (n r : ℕ) → now ≡ with_number labels numbers n
    → r ≡ row_of labels numbers (labels.at n) → (r < length now) × (length numbers ≤ length now)
row_added labels numbers now n r more row =
    let w = row_within labels numbers (labels.at n) in
    let one = length-append numbers (n ∷ []) in
    elim (cases_lt (row_of labels numbers (labels.at n)) (length numbers)) [
      | inl below ↦
          let same : length now ≡ length numbers = ap (λ (x : List ℕ). length x) (more ∙ number_known labels numbers n below) in
          (omega arith, omega arith)
      | inr past ↦
          let same : length now ≡ length (numbers ++ n ∷ []) = ap (λ (x : List ℕ). length x) (more ∙ number_new labels numbers n (omega arith)) in
          (omega arith, omega arith)
    ]

pub rows_more : (names : Names) (numbers now rows : List ℕ) (n row : ℕ) → AreOperationRows names numbers rows → length rows ≡ n → n < names.count
    → now ≡ with_number (operation_labels names) numbers n → row ≡ row_of (operation_labels names) now ((operation_labels names).at n)
    → AreOperationRows names now (rows ++ row ∷ [])
rows_more names numbers now rows n row a at below is own =
    let labels = operation_labels names in
    let l = length-append rows (row ∷ []) in
    let first : row ≡ row_of labels numbers (labels.at n) = own ∙ ap (λ (ns : List ℕ). row_of labels ns (labels.at n)) is ∙ row_same labels numbers n in
    let added = row_added labels numbers now n row is first in
    record {
      within = omega arith;
      each = λ k low. elim (cases_eq k n) [
        | inl e ↦ get_or_push rows row 0 k (omega arith) ∙ own ∙ ap (λ (i : ℕ). row_of labels now (labels.at i)) (sym e)
        | inr other ↦
            let old : k < length rows = omega arith in
            let known = a.known k old in
            let each = a.each k old in
            get_or_append_left rows (row ∷ []) 0 k old ∙ each
            ∙ sym (ap (λ (ns : List ℕ). row_of labels ns (labels.at k)) is ∙ row_more labels numbers n (labels.at k) (λ past. absurd (omega arith)))
      ];
      known = λ k low. elim (cases_eq k n) [
        | inl e ↦ let here = get_or_push rows row 0 k (omega arith) in omega (arith, added.0)
        | inr other ↦
            let old : k < length rows = omega arith in
            let here = get_or_append_left rows (row ∷ []) 0 k old in
            let known = a.known k old in
            omega (arith, added.1)
      ];
    }

pub no_rows : (names : Names) (numbers rows : List ℕ) → length rows ≡ 0 → AreOperationRows names numbers rows
no_rows names numbers rows empty = record {
  within = omega arith;
  each = λ n below. absurd (omega arith);
  known = λ n below. absurd (omega arith);
}

-- ---- more numbers with names
pub rows_extend : (names more : Names) (numbers rows : List ℕ) → Extends names more → AreNumbersBelow names.count numbers
    → AreOperationRows names numbers rows → AreOperationRows more numbers rows
rows_extend names more numbers rows e held a =
    let labels = operation_labels names in
    let later = operation_labels more in
    let grow = operations_grow names more e in
    let same : map later.at numbers ≡ map labels.at numbers = numbers_agree names.count later.at labels.at grow.same numbers held.held in
    let within = a.within in
    let count = e.count in
    record {
      within = omega arith;
      each = λ n below.
          let own : later.at n ≡ labels.at n = grow.same n (omega arith) in
          a.each n below ∙ (λ i. position_or_len (same_label (sym own i)) (sym same i));
      known = a.known;
    }

-- ---- the rows of a requested operation
-- labels have the row of a known one exactly if they are the same
same_row : (labels : Labelling) (numbers : List ℕ) (l m : LabelValue) → row_of labels numbers m < length numbers
    → (row_of labels numbers l == row_of labels numbers m) ≡ same_label l m
same_row labels numbers l m below =
    let r = row_of labels numbers l in
    let s = row_of labels numbers m in
    elim (same_label l m) as (λ b. same_label l m ≡ b → (r == s) ≡ b) [
      | true ↦ λ e. eq-eqb r s (ap (row_of labels numbers) (same_is l m e))
      | false ↦ λ e. false_from_ne_true (r == s) (λ one. false≢true (sym e ∙ both (eqb-true r s one)))
    ] refl
  where
    both : row_of labels numbers l ≡ row_of labels numbers m → same_label l m ≡ true
    both one =
        let known = map labels.at numbers in
        let many = length-map numbers labels.at in
        let there : same_label l (label_at known (row_of labels numbers l)) ≡ true = passes_at_first (same_label l) known no_label (omega arith) in
        let here : same_label m (label_at known (row_of labels numbers m)) ≡ true = passes_at_first (same_label m) known no_label (omega arith) in
        let same : l ≡ m =
        same_is l (label_at known (row_of labels numbers l)) there ∙ ap (label_at known) one
        ∙ sym (same_is m (label_at known (row_of labels numbers m)) here) in
        ap (same_label l) (sym same) ∙ label_self l

any_and : {X : Type 0} (b : Bool) (p : X → Bool) (xs : List X) → list_any (λ x. b && p x) xs ≡ (b && list_any p xs)
any_and true p xs = refl
any_and false p [] = refl
any_and false p (x ∷ xs) = any_and false p xs

any_agree : {X : Type 0} (p q : X → Bool) → ((x : X) → p x ≡ q x) → (xs : List X) → list_any p xs ≡ list_any q xs
any_agree p q same [] = refl
any_agree p q same (x ∷ xs) = λ i. same x i || any_agree p q same xs i

pub any_mapped : {X Y : Type 0} (p : Y → Bool) (f : X → Y) (xs : List X) → list_any p (map f xs) ≡ list_any (λ x. p (f x)) xs
any_mapped p f [] = refl
any_mapped p f (x ∷ xs) = ap (λ b. p (f x) || b) (any_mapped p f xs)

-- the kind of a span is one of them
kind_among : (p : Placed) → list_any (λ k. same_text k (kind_of p.span)) all_kinds ≡ true
kind_among p =
    any_six (λ k. same_text k (kind_of p.span)) ∙ some_kind (first_text (codes "span.kind") p.span.tags)

-- ---- one more kind
-- its row is stored behind those of the kinds before it
pub row_stored : (f : Kind → ℕ) (kinds : List Kind) (rows : List ℕ) (i row : ℕ) (none : Kind) → i < length kinds → row ≡ f (get_or kinds i none)
    → (length rows ≡ length kinds) × (take i rows ≡ map f (take i kinds))
    → (length (set rows i row) ≡ length kinds) × (take (i + 1) (set rows i row) ≡ map f (take (i + 1) kinds))
row_stored f kinds rows i row none below own so_far =
    let within : i < length rows = subst (λ (n : ℕ). i < n) (sym so_far.0) below in
    let more : map f (take (i + 1) kinds) ≡ map f (take i kinds) ++ f (get_or kinds i none) ∷ [] =
    ap (map f) (take_more kinds i none below) ∙ map_push f (take i kinds) (get_or kinds i none) in (
      length-set rows i row ∙ so_far.0,
      take_more_set rows i row within ∙ (λ j. so_far.1 j ++ own j ∷ []) ∙ sym more,
    )

pub rows_tell : (h : List Entry) (numbers rows : List ℕ) (service_number : ℕ) (service operation : List ℕ)
    → AreOperationRows (names_of_arrivals h) numbers rows → length rows ≡ length (arrivals h)
    → ((n : ℕ) → n < length (arrivals h) → same_text service (reported_at h n).service ≡ true
    → (service_number == (names_of_arrivals h).service_number n) ≡ true)
    → TellOperation h rows service operation (rows_of_kinds (operation_labels (names_of_arrivals h)) numbers service_number operation)
rows_tell h numbers rows service_number service operation a all number = record {
  tells = λ n below own.
      let labels = operation_labels (names_of_arrivals h) in
      let row : List ℕ → ℕ = λ kind. row_of labels numbers (operation_label service_number operation kind) in
      let l = reported_at h n in
      let p : Placed = get_or (arrivals h) n (some_of (arrivals h) n below) in
      let is : l ≡ listed p = get_or-map listed (arrivals h) n (some_of (arrivals h) n below) (service_alone []) below in
      let each : get_or rows n 0 ≡ row_of labels numbers (labels.at n) = a.each n (omega arith) in
      let known = a.known n (omega arith) in
      let one : (kind : List ℕ) → (row kind == get_or rows n 0) ≡ (same_text operation l.operation.name && same_text kind l.operation.kind) = λ kind.
      ap (λ (r : ℕ). row kind == r) each
      ∙ same_row labels numbers (operation_label service_number operation kind) (labels.at n) (omega arith)
      ∙ ap (λ b. b && (same_text operation l.operation.name && same_text kind l.operation.kind)) (number n below own) in
      any_mapped (λ (r : ℕ). r == get_or rows n 0) row all_kinds
      ∙ any_agree (λ kind. row kind == get_or rows n 0) (λ kind. same_text operation l.operation.name && same_text kind l.operation.kind) one all_kinds
      ∙ any_and (same_text operation l.operation.name) (λ kind. same_text kind l.operation.kind) all_kinds
      ∙ ap (λ b. same_text operation l.operation.name && b)
      (ap (λ (x : Listed). list_any (λ kind. same_text kind x.operation.kind) all_kinds) is ∙ kind_among p)
      ∙ and-true (same_text operation l.operation.name);
}

-- the number of a service that some arrival has
pub number_asked : (names : Names) (service : List ℕ) (found : Option ℕ) (n : ℕ) → IsServiceNumberOf names service found → n < names.count
    → same_text service (names.at n).service ≡ true → (unwrap_or found 0 == names.service_number n) ≡ true
number_asked names service (Some service_number) n is below own = is n below ∙ own
number_asked names service None n is below own = absurd (false≢true (sym (is n below) ∙ own))
