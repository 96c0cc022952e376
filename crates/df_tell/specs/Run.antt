-- The text of a run, a dossier: head, source lines, where it began, what it passed, how it ended.
use Rattle.std.specs.Prelude.{◌≡◌, ℕ, Bool, true, false, List, [], ◌∷◌, ◌++◌, codes, length, if◌then◌else◌, Option, Some, None, Result, Ok, Err, IsSome}
use Rattle.std.specs.List.{flat_map}
use Rattle.df_io.specs.Joined.{spaced}
use Rattle.df_io.specs.declared.bytes.WriteFault.{WriteFault}
use Rattle.df_walk.specs.declared.Rules.{Rules}
use Rattle.df_walk.specs.declared.Rules.TheVariants.{Plain, Divisor}
use Rattle.df_walk.specs.declared.Entry.{Entry}
use Rattle.df_walk.specs.Walks.{Step, solution_of, solutions_in, nodes_in}
use Rattle.df_walk.specs.Paths.{written_path}
use Rattle.df_runs.specs.Runs.{Run}
use Rattle.df_lang.specs.Problems.{Stated}
use Rattle.df_lang.specs.Canonical.{canonical, block_text}
use Rattle.df_kramer_mesner.specs.OrbitSystems.{orbit_system}
use Rattle.df_correspondence.specs.Designs.{design, base}
use Rattle.df_design.specs.RemainingDesigns.{Remaining}
use Rattle.df_dossier.specs.Designs.{design_text}
use Rattle.df_dossier.specs.Entries.{entry_text}
use Rattle.df_dossier.specs.Paths.{path_text, end_tokens}
use Rattle.df_tell.specs.Counts.{count_line}
use Rattle.df_tell.specs.Canonical.{canonical_text}
use Rattle.df_tell.specs.declared.run.Shown.{Shown}
use Rattle.df_tell.specs.declared.run.RunEnd.{RunEnd}
use Rattle.df_tell.specs.declared.run.RunEnd.TheVariants.{Finished, Spent}

-- the first line: by which rules the search goes
abbrev pub head_text : Rules → List ℕ
head_text Plain = codes "dossier 1\n"
head_text Divisor = codes "dossier 2\n"

-- the number of canonical lines, and the lines
abbrev pub source_text : Stated → List ℕ
source_text s = count_line (codes "source ") (length (canonical s)) ++ canonical_text s

-- a path as the end of a line
abbrev pub path_end : List Bool → List ℕ
path_end p = path_text (written_path p) ++ 10 ∷ []

-- where the run begins
abbrev pub from_text : List Bool → List ℕ
from_text p = codes "from" ++ path_end p

-- the line of a design: its base blocks
unfoldable pub design_line : Stated → List (List ℕ) → List ℕ
design_line s blocks = design_text s.group blocks ++ 10 ∷ []

-- the comment line of a block
unfoldable pub block_comment : Stated → List ℕ → List ℕ
block_comment s block = (codes "# block " ++ block_text s.group block) ++ 10 ∷ []

-- the comment lines of the blocks of a design, where they are shown
abbrev pub comment_lines : Shown → Stated → List (List ℕ) → List ℕ
comment_lines shown s blocks = if shown.blocks then flat_map (block_comment s) blocks else []

-- the lines of a design, which is the list of its blocks
abbrev pub design_lines : Shown → Stated → List (List ℕ) → List ℕ
design_lines shown s blocks = design_line s (base s blocks) ++ comment_lines shown s blocks

-- those of the design of a solution, where there is one
abbrev pub solution_lines : Shown → Stated → Option (List Bool) → List ℕ
solution_lines shown s None = []
solution_lines shown s (Some x) = design_lines shown s (design s x)

-- the line of an entry, where the log is shown
abbrev pub entry_line : Shown → Entry → List ℕ
entry_line shown e = if shown.log then entry_text e ++ 10 ∷ [] else []

-- what is printed of a step: its entry, and the design of its solution
abbrev pub step_lines : Shown → Stated → Step → List ℕ
step_lines shown s step =
    entry_line shown step.1 ++ solution_lines shown s (solution_of (orbit_system s) step)

-- how many designs were printed and how many nodes visited, and the next path, if it was spent
abbrev pub end_text : ℕ → ℕ → Option (List Bool) → List ℕ
end_text designs nodes None = spaced (end_tokens true designs nodes) ++ 10 ∷ []
end_text designs nodes (Some q) = spaced (end_tokens false designs nodes) ++ path_end q

abbrev pub end_line : Stated → Run → List ℕ
end_line s run =
    end_text (length (solutions_in (orbit_system s) run.taken)) (length (nodes_in run.taken)) run.stop

-- the run by these rules from a path
abbrev pub run_text : Rules → Stated → Shown → List Bool → Run → List ℕ
run_text rules s shown p run =
    head_text rules
    ++ (source_text s ++ (from_text p ++ (flat_map (step_lines shown s) run.taken ++ end_line s run)))

-- how a run with this stop ended
abbrev pub run_end : Option (List Bool) → RunEnd
run_end None = Finished
run_end (Some q) = Spent

-- whether the text was written, whatever else is answered
abbrev pub as_written : {A : Type 0} → Result A WriteFault → Result (Unit {0}) WriteFault
as_written (Ok x) = Ok tt
as_written (Err e) = Err e

-- the search stands at a place of the orbit system of the problem, and goes by the rules
pub record MayRun (rules : Rules) (s : Stated) (r : Remaining) : Type 0 where
  pub problem : r.problem ≡ s
  pub system : r.search.system ≡ orbit_system s
  pub rules_are : r.search.rules ≡ rules
  pub place : IsSome r.search.place
