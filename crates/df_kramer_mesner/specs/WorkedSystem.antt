-- A system worked out by hand: the triples of the residues by 7, with multiplier 6.
use Rattle.std.specs.Prelude.{◌≡◌, [], ◌∷◌, None}
use Rattle.df_lang.specs.Problems.{Stated}
use Rattle.df_lang.specs.declared.pieces.Which.TheVariants as which
use Rattle.df_walk.specs.Systems.{System}
use Rattle.df_kramer_mesner.specs.OrbitSystems.{orbit_system}

-- each two points in two blocks; the orbit of 3 4 6 is required and that of 2 3 6 forbidden
abbrev pub seven : Stated
seven = record {
  version = 2;
  group = 7 ∷ [];
  fixed = 0;
  names = [];
  shift = which.All;
  mults = 6 ∷ [];
  sizes = 3 ∷ [];
  lambda = 2;
  inside = None;
  hole = 0;
  family = [];
  required = (3 ∷ 4 ∷ 6 ∷ []) ∷ [];
  forbidden = (2 ∷ 3 ∷ 6 ∷ []) ∷ [];
}

-- the rows are the differences 1, 2 and 3, up to their sign, and then the orbit of 0 1 3, which is that of 3 4 6
-- the columns are 0 1 2, 0 1 3 and 0 2 4, with 7, 14 and 7 blocks: 0 1 4 isn't kept, since 2 3 6 is in its orbit
abbrev pub worked : System
worked = record {
  targets = 2 ∷ 2 ∷ 2 ∷ 1 ∷ [];
  columns =
      (record { row = 0; value = 2 } ∷ record { row = 1; value = 1 } ∷ [])
      ∷ (record { row = 0; value = 2 } ∷ record { row = 1; value = 2 } ∷ record { row = 2; value = 2 } ∷ record { row = 3; value = 1 } ∷ [])
      ∷ (record { row = 1; value = 2 } ∷ record { row = 2; value = 1 } ∷ [])
      ∷ [];
}

abbrev pub SevenIsWorked : Type 0
SevenIsWorked = orbit_system seven ≡ worked
