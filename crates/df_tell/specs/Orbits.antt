-- The text of the orbits of pairs and of blocks.
use Rattle.std.specs.Prelude.{ℕ, ◌≤◌, List, [], ◌∷◌, ◌++◌, codes, length, All}
use Rattle.std.specs.List.{flat_map}
use Rattle.std.specs.Fmt.{decimal}
use Rattle.df_lang.specs.Problems.{Stated}
use Rattle.df_lang.specs.Canonical.{block_text}
use Rattle.df_orbits.specs.Orbits.{pair_orbits, block_orbits, listed_representatives}
use Rattle.df_kramer_mesner.specs.OrbitSystems.{maps_of_problem}
use Rattle.df_tell.specs.Counts.{count_line}

-- the line of an orbit: a word, the points of its representative, and how many members it has
unfoldable pub orbit_line : List ℕ → Stated → List ℕ × ℕ → List ℕ
orbit_line word s (representative, size) = (((word ++ block_text s.group representative) ++ codes " size ") ++ decimal size) ++ 10 ∷ []

-- the representatives have at most 16 points, so that each line fits its buffer
abbrev pub IsShort : List ℕ → Type 0
IsShort representative = length representative ≤ 16

abbrev pub AreShort : List (List ℕ × ℕ) → Type 0
AreShort orbits = All IsShort (listed_representatives orbits)

-- how many orbits there are, and a line for each, with the words for many and for one
abbrev pub orbit_lines : List ℕ → List ℕ → Stated → List (List ℕ × ℕ) → List ℕ
orbit_lines many one s orbits = count_line many (length orbits) ++ flat_map (orbit_line one s) orbits

-- the orbits of pairs under the maps of a problem, and then those of the blocks of its sizes
abbrev pub orbits_text : Stated → List ℕ
orbits_text s =
    orbit_lines (codes "pairs ") (codes "pair ") s (pair_orbits (maps_of_problem s))
    ++ orbit_lines (codes "blocks ") (codes "block ") s (block_orbits (maps_of_problem s) s.sizes)
