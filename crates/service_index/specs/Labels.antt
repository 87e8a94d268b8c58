-- Names of numbers that are stored elsewhere, and the labels by which tables find numbers.
use Rattle.std.specs.Prelude.{◌≡◌, ℕ, ◌==◌, ◌<◌, ◌≤◌, Bool, ◌&&◌, false, List, [], Option, Some, None}
use Rattle.jaeger_model.specs.Texts.{same_text}
use Rattle.service_index.specs.declared.labels.Label.{Label}
use Rattle.service_index.specs.ListedNames.{Listed}

-- the numbers below the count have names; the name of each, and the number of its service
pub record Names : Type 0 where
  pub count : ℕ
  pub at : ℕ → Listed
  pub service_number : ℕ → ℕ

-- numbers have the same service's number exactly if they have the same service
pub record IsNumberedByService (names : Names) : Type 0 where
  pub same : (n m : ℕ) → n < names.count → m < names.count
      → (names.service_number n == names.service_number m) ≡ same_text (names.at n).service (names.at m).service

-- this is the service's number of all numbers of the service and of no others, or no number has the service
abbrev pub IsServiceNumberOf : Names → List ℕ → Option ℕ → Type 0
IsServiceNumberOf names service (Some service_number) =
    (n : ℕ) → n < names.count → (service_number == names.service_number n) ≡ same_text service (names.at n).service
IsServiceNumberOf names service None = (n : ℕ) → n < names.count → same_text service (names.at n).service ≡ false

-- more names, with the old ones unchanged
pub record Extends (names more : Names) : Type 0 where
  pub count : names.count ≤ more.count
  pub same : (n : ℕ) → n < names.count → more.at n ≡ names.at n
  pub service_number : (n : ℕ) → n < names.count → more.service_number n ≡ names.service_number n

-- a service without an operation
abbrev pub service_alone : List ℕ → Listed
service_alone service = record { service = service; operation = record { name = []; kind = [] } }

-- ---- labels
-- a name and a kind, with the number of a service
pub record LabelValue : Type 0 where
  pub service_number : ℕ
  pub name : List ℕ
  pub kind : List ℕ

abbrev pub label_value : Label → LabelValue
label_value label = record { service_number = label.service_number; name = label.name.now; kind = label.kind.now }

abbrev pub same_label : LabelValue → LabelValue → Bool
same_label a b = (a.service_number == b.service_number) && (same_text a.name b.name && same_text a.kind b.kind)

-- the numbers below the count have labels, and the label of each
pub record Labelling : Type 0 where
  pub count : ℕ
  pub at : ℕ → LabelValue

-- the label of a service itself, by its number
abbrev pub service_number_alone : ℕ → LabelValue
service_number_alone service_number = record { service_number = service_number; name = []; kind = [] }

-- the label of an operation with its kind
abbrev pub operation_label : ℕ → List ℕ → List ℕ → LabelValue
operation_label service_number name kind = record { service_number = service_number; name = name; kind = kind }

-- each number by its operation and the number of its service
abbrev pub operation_labels : Names → Labelling
operation_labels names =
    record {
      count = names.count;
      at = λ n. record { service_number = names.service_number n; name = (names.at n).operation.name; kind = (names.at n).operation.kind };
    }

-- each number by the number of its service alone
abbrev pub service_number_labels : Names → Labelling
service_number_labels names = record { count = names.count; at = λ n. service_number_alone (names.service_number n) }
