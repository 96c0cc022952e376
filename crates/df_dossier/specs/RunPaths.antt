-- The paths of a search may stand in a dossier.
use Rattle.std.specs.Prelude.{◌≤◌, Bool, List, length}
use Rattle.df_walk.specs.Paths.{written_path}
use Rattle.df_dossier.specs.declared.numbers.TheConstants.{MOST_NUMBER}
use Rattle.df_dossier.specs.DossierTexts.{IsRunPath}

-- a path of decisions, as it is written, may stand in a dossier where its length is a number that may
abbrev pub PathsMayStand : Type 0
PathsMayStand = (p : List Bool) → length p ≤ MOST_NUMBER → IsRunPath (written_path p)
