-- The lines of the faults of logs.
use Rattle.std.specs.Prelude.{ℕ, Bool, ◌&&◌, nat_le, List, [], ◌∷◌, ◌++◌, length, Option, Some, None, ℤ, codes}
use Rattle.std.specs.List.{flat_map, list_all}
use Rattle.std.specs.Fmt.{decimal, signed_decimal}
use Rattle.df_list.specs.declared.log_fault_texts.LogField.{LogField}
use Rattle.df_list.specs.declared.log_fault_texts.LogFaultText.{LogFaultText}
use Rattle.df_list.specs.declared.log_fault_texts.TheConstants.{MOST_NAME_BYTES}

-- a number with its name
pub record Numbered : Type 0 where
  pub name : List ℕ
  pub value : ℤ

-- a fault as it is shown: its name, and its numbers in their order
pub record Shown : Type 0 where
  pub name : List ℕ
  pub numbers : List Numbered

abbrev pub numbers_of : Option LogField → List Numbered
numbers_of None = []
numbers_of (Some field) = record { name = field.name.now; value = field.value } ∷ []

abbrev pub fault_shown : LogFaultText → Shown
fault_shown fault = record { name = fault.name.now; numbers = numbers_of fault.first ++ numbers_of fault.second }

-- a space, the name, a space and the number
abbrev pub number_text : Numbered → List ℕ
number_text n = ((codes " " ++ n.name) ++ codes " ") ++ signed_decimal n.value

-- the line of a fault: the number of the line, the name of the fault, and its numbers
abbrev pub log_fault_text : ℕ → Shown → List ℕ
log_fault_text line fault = (((codes "refused line " ++ decimal line) ++ codes " ") ++ fault.name) ++ flat_map number_text fault.numbers

-- no name is long
abbrev pub is_short : List ℕ → Bool
is_short name = nat_le (length name) MOST_NAME_BYTES

abbrev pub are_names_short : Shown → Bool
are_names_short fault = is_short fault.name && list_all (λ n. is_short n.name) fault.numbers
