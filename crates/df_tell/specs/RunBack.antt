-- The text of a run that was spent is read back.
use Rattle.std.specs.Prelude.{◌≡◌, ℕ, ◌≤◌, Bool, List, length, Some, Ok}
use Rattle.df_walk.specs.declared.Rules.{Rules}
use Rattle.df_walk.specs.Paths.{written_path}
use Rattle.df_walk.specs.Remains.{IsStart}
use Rattle.df_runs.specs.Runs.{run_of}
use Rattle.df_lang.specs.Problems.{Stated, IsStated}
use Rattle.df_kramer_mesner.specs.OrbitSystems.{orbit_system, columns_of}
use Rattle.df_dossier.specs.declared.numbers.TheConstants.{MOST_NUMBER, MOST_COUNT}
use Rattle.df_dossier.specs.Spent.{spent}
use Rattle.df_tell.specs.declared.run.Shown.{Shown}
use Rattle.df_tell.specs.Run.{run_text}

-- The bytes of a run from p that stopped at q, whatever was shown, are one dossier that ended spent: that of the problem, of the rules
-- and of q. The problem keeps its rules, its system has at most `MOST_NUMBER` columns, a run may begin at p, and the budget
-- was at most `MOST_COUNT`.
abbrev pub SpentTextsReadBack : Type 0
SpentTextsReadBack = (rules : Rules) (s : Stated) (shown : Shown) (p q : List Bool) (n : ℕ)
    → IsStated s → length (columns_of s) ≤ MOST_NUMBER → IsStart rules (orbit_system s) p → n ≤ MOST_COUNT → (run_of rules (orbit_system s) p n).stop ≡ Some q
    → spent (run_text rules s shown p (run_of rules (orbit_system s) p n)) ≡ Ok record { problem = s; path = written_path q; rules = rules }
