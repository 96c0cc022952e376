-- The text of the difference table.
use Rattle.std.specs.Prelude.{ℕ, List, [], ◌∷◌, ◌++◌}
use Rattle.std.specs.List.{flat_map}
use Rattle.df_lang.specs.Problems.{Stated}
use Rattle.df_family.specs.Tables.{table}
use Rattle.df_family.specs.declared.table.Entry.{Entry}
use Rattle.df_list.specs.TableTexts.{row_text}

-- the line of a row
unfoldable pub row_line : Stated → Entry → List ℕ
row_line s e = row_text s e.row e.found e.stated ++ 10 ∷ []

-- a line for each row
abbrev pub table_text : Stated → List ℕ
table_text s = flat_map (row_line s) (table s)
