-- What remains of a text that is cut at its commas.
use Rattle.std.specs.Prelude.{ℕ, List, [], Option, Some, None}
use Rattle.std.specs.List.{slice_split}
use Rattle.df_lang.specs.Values.{is_comma}

-- the pieces of a text, where one remains
abbrev pub pieces_left : Option (List ℕ) → List (List ℕ)
pieces_left None = []
pieces_left (Some text) = slice_split is_comma text
