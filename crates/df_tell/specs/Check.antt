-- What is printed of a chain of dossiers.
use Rattle.std.specs.Prelude.{ℕ, List, [], ◌∷◌, ◌++◌, codes}
use Rattle.df_list.specs.LogFaultTexts.{log_fault_text}
use Rattle.df_check.specs.FaultTexts.{shown}
use Rattle.df_check.specs.declared.LogFault.{LogFault}
use Rattle.df_tell.specs.Counts.{count_line}

-- it is complete, with this number of designs
abbrev pub complete_text : ℕ → List ℕ
complete_text designs = count_line (codes "complete ") designs

-- its first line that breaks a rule of logs or of chains, and the fault with its numbers
unfoldable pub log_refusal_text : ℕ → LogFault → List ℕ
log_refusal_text line fault = log_fault_text line (shown fault) ++ 10 ∷ []
