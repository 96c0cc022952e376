-- The line that tells a number of things.
use Rattle.std.specs.Prelude.{ℕ, List, [], ◌∷◌, ◌++◌}
use Rattle.std.specs.Fmt.{decimal}

-- a word, the space after it included, and how many there are of what it names
unfoldable pub count_line : List ℕ → ℕ → List ℕ
count_line word n = (word ++ decimal n) ++ 10 ∷ []
