-- What is printed of words that are not a command.
use Rattle.std.specs.Prelude.{ℕ, List, [], ◌∷◌, ◌++◌, codes}
use Rattle.std.specs.Fmt.{decimal}

-- the words are at fault at the word of this number
unfoldable pub usage_text : ℕ → List ℕ
usage_text word = (codes "usage word " ++ decimal word) ++ 10 ∷ []
