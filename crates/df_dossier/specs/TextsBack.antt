-- The text of a spent dossier, its lines each ended by a line feed, is read back.
use Rattle.std.specs.Prelude.{◌≡◌, ℕ, ◌≤◌, List, length, Ok}
use mathlib.Core.Logic.{inl, inr}
use Rattle.df_io.specs.Joined.{Each, Lacks, is_line_feed, text_of}
use Rattle.df_walk.specs.declared.Rules.{Rules}
use Rattle.df_walk.specs.Paths.{WrittenPath}
use Rattle.df_lang.specs.Problems.{Stated}
use Rattle.df_dossier.specs.declared.numbers.TheConstants.{MOST_COUNT}
use Rattle.df_dossier.specs.Dossiers.{source_lines}
use Rattle.df_dossier.specs.Spent.{spent}
use Rattle.df_dossier.specs.DossierTexts.{Logged, dossier_lines, spent_text, IsRunPath, IsLoggedLine}

-- a design line or a comment of a log that is one line
abbrev pub IsOneLine : Logged → Type 0
IsOneLine (inl (inl e)) = Unit {0}
IsOneLine (inl (inr line)) = Lacks is_line_feed line
IsOneLine (inr comment) = Lacks is_line_feed comment

-- the bytes of a spent dossier, whatever source lines state its problem, are read as that problem, its path and its rules
abbrev pub TextsReadBack : Type 0
TextsReadBack = (rules : Rules) (source : List (List ℕ)) (p : Stated) (start : WrittenPath) (log : List Logged) (designs nodes : ℕ) (next : WrittenPath)
    → source_lines source ≡ Ok p → length source ≤ MOST_COUNT → Each (Lacks is_line_feed) source → IsRunPath start → Each (IsLoggedLine rules p) log → Each IsOneLine log → designs ≤ MOST_COUNT → nodes ≤ MOST_COUNT → IsRunPath next
    → spent (text_of (dossier_lines rules source start log (spent_text designs nodes next))) ≡ Ok record { problem = p; path = next; rules = rules }
