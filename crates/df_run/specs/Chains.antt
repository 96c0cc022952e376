-- Chains of searches: a first one, and others that each go on with the text which the one before wrote, as long as a budget was spent.
use Rattle.std.specs.Prelude.{◌≡◌, ℕ, ◌+◌, ◌≤◌, Bool, true, false, List, [], ◌∷◌, ◌++◌, length, map, if◌then◌else◌, Option, Some, None, Ok}
use Rattle.std.specs.List.{flat_map, AllByRecursion}
use Rattle.df_walk.specs.declared.Rules.{Rules}
use Rattle.df_walk.specs.declared.Rules.TheVariants.{Divisor}
use Rattle.df_walk.specs.Assignments.{total}
use Rattle.df_walk.specs.Walks.{Step, nodes_in}
use Rattle.df_walk.specs.Paths.{IsNode, path_of}
use Rattle.df_runs.specs.Runs.{run_of, load_at}
use Rattle.df_runs.specs.Chains.{chain_from, chain_stop, chain_run, steps_of, legs_of}
use Rattle.df_io.specs.declared.bytes.TheConstants.{MOST_BYTES}
use Rattle.df_lang.specs.Problems.{Stated}
use Rattle.df_lang.specs.Sources.{source}
use Rattle.df_kramer_mesner.specs.OrbitSystems.{orbit_system}
use Rattle.df_correspondence.specs.Designs.{asked}
use Rattle.df_design.specs.RemainingDesigns.{designs_from}
use Rattle.df_dossier.specs.Spent.{spent}
use Rattle.df_dossier.specs.declared.spent.Spent.{Spent}
use Rattle.df_tell.specs.Check.{complete_text}
use Rattle.df_words.specs.declared.command.Options.{Options}
use Rattle.df_words.specs.declared.table.TheConstants.{MOST_BUDGET}
use Rattle.df_run.specs.Answers.{Answer, done, answer, search_answer}
use Rattle.df_run.specs.Headline.{designs_in, nodes_from}
use Rattle.df_run.specs.Limits.{matrix_limit}
use Rattle.df_run.specs.declared.statuses.Status.{Status}
use Rattle.df_run.specs.declared.statuses.Status.TheVariants as ends
use Rattle.df_run.specs.declared.tasks.Task.TheVariants.{Source, Stream}
use Rattle.df_run.specs.declared.tasks.SourceTask.TheVariants.{Solve}
use Rattle.df_run.specs.declared.tasks.StreamTask.TheVariants.{Resume, Check}

abbrev pub is_spent : Status → Bool
is_spent ends.Spent = true
is_spent ends.Done = false
is_spent ends.Refused = false
is_spent ends.Usage = false
is_spent ends.BadInput = false
is_spent ends.ReadFault = false
is_spent ends.WriteFault = false
is_spent ends.OutOfMemory = false
is_spent ends.TooLong = false

-- an answer, and those of `resume` with these options, each to the text of the answer before it, as long as that is spent
abbrev pub and_resumed : Answer → List Options → List Answer
and_resumed first [] = first ∷ []
and_resumed first (options ∷ more) = first ∷ (if is_spent first.status then and_resumed (answer (Stream (Resume options)) first.text) more else [])

-- the searches of a problem by these rules, each from the place where the one before stopped
abbrev pub searches : Rules → Stated → Option (List Bool) → List Options → List Answer
searches rules s None options = []
searches rules s (Some p) [] = []
searches rules s (Some p) (options ∷ more) = search_answer rules s options p ∷ searches rules s (run_of rules (orbit_system s) p options.budget).stop more

abbrev pub budgets_of : List Options → List ℕ
budgets_of options = map (λ o. o.budget) options

-- each is one that can be stated
abbrev pub AreBudgets : List Options → Type 0
AreBudgets options = AllByRecursion (λ o. o.budget ≤ MOST_BUDGET) options

-- the steps of these searches, joined, and where the last one stopped
abbrev pub all_steps : Rules → Stated → List Bool → List Options → List Step
all_steps rules s p options = steps_of (chain_from (orbit_system s) (Some p) (legs_of rules (budgets_of options)))

abbrev pub last_stop : Rules → Stated → List Bool → List Options → Option (List Bool)
last_stop rules s p options = chain_stop (orbit_system s) (Some p) (legs_of rules (budgets_of options))

-- the designs from a stop on: none where there is none
abbrev pub designs_after : Stated → Option (List Bool) → List (List (List ℕ))
designs_after s None = []
designs_after s (Some place) = designs_from s place

-- the answers are those of the searches from a path; what they printed, joined, is what one search prints with all budgets together:
-- followed by the designs from the last place on, where there is one, it is these designs; and the nodes, with those from that place on,
-- are all nodes from the path on
pub record IsChain (rules : Rules) (s : Stated) (p : List Bool) (designs : List (List (List ℕ))) (options : List Options) (answers : List Answer) : Type 0 where
  pub answers_are : answers ≡ searches rules s (Some p) options
  pub joined : chain_run (orbit_system s) (Some p) (legs_of rules (budgets_of options)) ≡ run_of rules (orbit_system s) p (total (budgets_of options))
  pub designs_are : designs_in s (all_steps rules s p options) ++ designs_after s (last_stop rules s p options) ≡ designs
  pub nodes : length (nodes_in (all_steps rules s p options)) + load_at rules (orbit_system s) (last_stop rules s p options) ≡ nodes_from rules s p
  -- once the last search is finished, they are all
  pub finished : last_stop rules s p options ≡ None → designs_in s (all_steps rules s p options) ≡ designs

-- a chain that begins with a source, its first text being no listing, since none is gone on with; and one that begins with a dossier whose
-- path is a node, of problems within the limits
pub record ChainsAreAnswered : Type 0 where
  pub solved : (bytes : List ℕ) (s : Stated) (first : Options) (more : List Options) → first.json ≡ false → length bytes ≤ MOST_BYTES → source bytes ≡ Ok s → matrix_limit s ≡ None → AreBudgets (first ∷ more)
      → IsChain Divisor s [] (asked s) (first ∷ more) (and_resumed (answer (Source (Solve first)) bytes) more)
  pub resumed : (bytes : List ℕ) (d : Spent) (first : Options) (more : List Options) → length bytes ≤ MOST_BYTES → spent bytes ≡ Ok d → matrix_limit d.problem ≡ None → IsNode d.rules (orbit_system d.problem) (path_of d.path) → AreBudgets (first ∷ more)
      → IsChain d.rules d.problem (path_of d.path) (designs_from d.problem (path_of d.path)) (first ∷ more) (and_resumed (answer (Stream (Resume first)) bytes) more)

-- the texts of answers, joined
abbrev pub joined_texts : List Answer → List ℕ
joined_texts answers = flat_map (λ (a : Answer). a.text) answers

-- each search writes its log
abbrev pub AreLogged : List Options → Type 0
AreLogged options = AllByRecursion (λ o. o.log ≡ true) options

-- `check` answers to a text that it is a chain of dossiers, with the number of all designs that a problem asks for
abbrev pub IsComplete : Stated → List ℕ → Type 0
IsComplete s text = answer (Stream Check) text ≡ done (complete_text (length (asked s)))

-- What a chain of searches wrote, each with its log, is complete where it is joined: the chain begins with a source, its first text
-- being no listing, or with a dossier that goes on from the empty path; the last search is finished; and all texts together are no
-- longer than an input may be.
pub record OwnLogsAreComplete : Type 0 where
  pub solved : (bytes : List ℕ) (s : Stated) (first : Options) (more : List Options) → first.json ≡ false → length bytes ≤ MOST_BYTES → source bytes ≡ Ok s → matrix_limit s ≡ None → AreBudgets (first ∷ more) → AreLogged (first ∷ more)
      → last_stop Divisor s [] (first ∷ more) ≡ None
      → length (joined_texts (and_resumed (answer (Source (Solve first)) bytes) more)) ≤ MOST_BYTES
      → IsComplete s (joined_texts (and_resumed (answer (Source (Solve first)) bytes) more))
  pub resumed : (bytes : List ℕ) (d : Spent) (first : Options) (more : List Options) → length bytes ≤ MOST_BYTES → spent bytes ≡ Ok d → matrix_limit d.problem ≡ None → path_of d.path ≡ [] → IsNode d.rules (orbit_system d.problem) [] → AreBudgets (first ∷ more) → AreLogged (first ∷ more)
      → last_stop d.rules d.problem [] (first ∷ more) ≡ None
      → length (joined_texts (and_resumed (answer (Stream (Resume first)) bytes) more)) ≤ MOST_BYTES
      → IsComplete d.problem (joined_texts (and_resumed (answer (Stream (Resume first)) bytes) more))
