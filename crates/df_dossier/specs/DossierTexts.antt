-- The lines of a dossier, put together from its parts; what a search writes is read back.
use Rattle.std.specs.Prelude.{◌≡◌, ℕ, ◌≤◌, false, List, [], ◌∷◌, ◌++◌, length, map, Some, ◌⊎◌, Ok, codes, decimal}
use mathlib.Core.Logic.{inl, inr}
use Rattle.df_io.specs.Joined.{Each, spaced}
use Rattle.df_walk.specs.declared.Rules.{Rules}
use Rattle.df_walk.specs.declared.Rules.TheVariants.{Plain, Divisor}
use Rattle.df_walk.specs.declared.Entry.{Entry}
use Rattle.df_walk.specs.Paths.{WrittenPath, IsWritten}
use Rattle.df_lang.specs.Problems.{Stated}
use Rattle.df_dossier.specs.declared.numbers.TheConstants.{MOST_NUMBER, MOST_COUNT}
use Rattle.df_dossier.specs.Entries.{entry_text}
use Rattle.df_dossier.specs.Paths.{path_text, end_tokens}
use Rattle.df_dossier.specs.Designs.{design_of}
use Rattle.df_dossier.specs.RoundTrips.{IsLogged}
use Rattle.df_dossier.specs.Dossiers.{source_lines}
use Rattle.df_dossier.specs.Spent.{spent_lines}

-- a line of a log: that of an entry, one that is read as a design, or a comment
abbrev pub Logged : Type 0
Logged = (Entry ⊎ List ℕ) ⊎ List ℕ

abbrev pub logged_text : Logged → List ℕ
logged_text (inl (inl e)) = entry_text e
logged_text (inl (inr line)) = line
logged_text (inr comment) = 35 ∷ comment

abbrev pub rules_token : Rules → List ℕ
rules_token Plain = codes "1"
rules_token Divisor = codes "2"

abbrev pub head_tokens : Rules → List (List ℕ)
head_tokens rules = codes "dossier" ∷ rules_token rules ∷ []

abbrev pub count_tokens : ℕ → List (List ℕ)
count_tokens n = codes "source" ∷ decimal n ∷ []

abbrev pub start_text : WrittenPath → List ℕ
start_text p = codes "from" ++ path_text p

-- the lines of a dossier, by its parts
abbrev pub dossier_lines : Rules → List (List ℕ) → WrittenPath → List Logged → List ℕ → List (List ℕ)
dossier_lines rules source start log end =
    spaced (head_tokens rules) ∷ spaced (count_tokens (length source)) ∷ (source ++ start_text start ∷ (map logged_text log ++ end ∷ []))

-- the end line of a spent dossier
abbrev pub spent_text : ℕ → ℕ → WrittenPath → List ℕ
spent_text designs nodes next = spaced (end_tokens false designs nodes) ++ path_text next

-- a path that can be written: its columns are below its length, and that is a number of 32 bits
pub record IsRunPath (p : WrittenPath) : Type 0 where
  pub written : IsWritten p
  pub short : p.size ≤ MOST_NUMBER

-- a line that may stand in a log of these rules, of a search of this problem
abbrev pub IsLoggedLine : Rules → Stated → Logged → Type 0
IsLoggedLine rules p (inl (inl e)) = IsLogged rules e
IsLoggedLine rules p (inl (inr line)) = (blocks : List (List ℕ)) × (design_of p line ≡ Some blocks)
IsLoggedLine rules p (inr comment) = Unit {0}

-- the lines of a spent dossier, whatever source lines state its problem, are read as that problem, its path and its rules
abbrev pub SpentReadBack : Type 0
SpentReadBack = (rules : Rules) (source : List (List ℕ)) (p : Stated) (start : WrittenPath) (log : List Logged) (designs nodes : ℕ) (next : WrittenPath)
    → source_lines source ≡ Ok p → length source ≤ MOST_COUNT → IsRunPath start → Each (IsLoggedLine rules p) log → designs ≤ MOST_COUNT → nodes ≤ MOST_COUNT → IsRunPath next
    → spent_lines (dossier_lines rules source start log (spent_text designs nodes next)) ≡ Ok record { problem = p; path = next; rules = rules }
