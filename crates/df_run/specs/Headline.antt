-- What an answer says of designs: a field a sentence, over the bytes read, the bytes written and the status.
use Rattle.std.specs.Prelude.{◌≡◌, ℕ, ◌+◌, ◌≤◌, ◌<◌, Bool, true, false, List, [], ◌∷◌, ◌++◌, codes, length, map, Some, None, Ok, IfSome}
use Rattle.std.specs.List.{flat_map}
use Rattle.std.specs.List.Sorted.{IsPermutation}
use Rattle.std.specs.Io.KnownBytes.{Appends}
use Rattle.df_lists.specs.Membership.{In}
use Rattle.df_io.specs.Lines.{lines_of}
use Rattle.df_walk.specs.declared.Rules.{Rules}
use Rattle.df_walk.specs.declared.Rules.TheVariants.{Divisor}
use Rattle.df_walk.specs.Walks.{Step, solutions_in, nodes_in}
use Rattle.df_walk.specs.Paths.{IsNode, load, path_of}
use Rattle.df_runs.specs.Runs.{Run}
use Rattle.df_lang.specs.Problems.{Stated, IsStated, point_count}
use Rattle.df_lang.specs.Balance.{IsBalanced}
use Rattle.df_lang.specs.Sources.{source}
use Rattle.df_family.specs.Developments.{develop}
use Rattle.df_family.specs.Tables.{rows, found, stated, IsAsStated}
use Rattle.df_family.specs.declared.table.Row.{Row}
use Rattle.df_kramer_mesner.specs.OrbitSystems.{orbit_system, columns_of}
use Rattle.df_correspondence.specs.Designs.{asked, base, design}
use Rattle.df_design.specs.RemainingDesigns.{designs_from}
use Rattle.df_dossier.specs.Spent.{spent}
use Rattle.df_dossier.specs.declared.spent.Spent.{Spent}
use Rattle.df_check.specs.Lines.{leaves_of}
use Rattle.df_check.specs.Chains.{IsChain, designs_of, log_of}
use Rattle.df_tell.specs.Check.{complete_text}
use Rattle.df_tell.specs.Verdict.{accepted_text}
use Rattle.df_tell.specs.Run.{head_text, source_text, from_text, design_lines, end_text, run_text}
use Rattle.df_tell.specs.Listing.{designs_listing}
use Rattle.df_tell.specs.Workload.{workload_line}
use Rattle.df_tell.specs.declared.run.Shown.{Shown}
use Rattle.df_words.specs.CommandLines.{IsCommandLine}
use Rattle.df_words.specs.declared.command.Options.{Options}
use Rattle.df_words.specs.declared.table.TheConstants.{DEFAULT_BUDGET}
use Rattle.df_words.specs.declared.command.Command.TheVariants.{Solve, Resume, Workload}
use Rattle.df_run.specs.Answers.{shown_by}
use Rattle.df_run.specs.Streams.{Incoming, Outgoing}
use Rattle.df_run.specs.Workloads.{workload_source}
use Rattle.df_run.specs.declared.statuses.Status.{Status}
use Rattle.df_run.specs.declared.statuses.Status.TheVariants as ends

-- a source in whose family every difference, rows of fixed points included, occurs its stated number of times;
-- its development is balanced, and its blocks were printed
pub record IsAccepted (o : Outgoing) (bytes : List ℕ) : Type 0 where
  pub problem : Stated
  pub source_is : source bytes ≡ Ok problem
  pub every_row : IsAsStated problem
  pub balanced : IsBalanced problem (develop problem)
  pub printed : Appends o.written o.written_after (accepted_text problem (length (develop problem)))

-- a source in whose family some difference does not; its development is not balanced
pub record IsRefused (bytes : List ℕ) : Type 0 where
  pub problem : Stated
  pub source_is : source bytes ≡ Ok problem
  pub row : Row
  pub is_row : In (rows problem) row
  pub differs : found problem row ≡ stated problem row → ⊥
  pub unbalanced : IsBalanced problem (develop problem) → ⊥

-- the run of a search that passed these steps, to its end or to a stop
abbrev pub finished_run : List Step → Run
finished_run taken = record { taken = taken; stop = None }

abbrev pub spent_run : List Step → List Bool → Run
spent_run taken place = record { taken = taken; stop = Some place }

-- the designs of the solutions among some steps, in order
abbrev pub designs_in : Stated → List Step → List (List (List ℕ))
designs_in s taken = map (design s) (solutions_in (orbit_system s) taken)

-- how many nodes the search for a problem's designs by these rules has from a path on
abbrev pub nodes_from : Rules → Stated → List Bool → ℕ
nodes_from rules s p = load rules (orbit_system s) p

-- the text of a search without a log from a path to its end: head, source, where it began, these designs, and how many they are
abbrev pub designs_text : Rules → Stated → Shown → List Bool → List (List (List ℕ)) → List ℕ
designs_text rules s shown p designs =
    head_text rules ++ (source_text s ++ (from_text p ++ (flat_map (design_lines shown s) designs ++ end_text (length designs) (nodes_from rules s p) None)))

-- a search from a path to its end: the designs printed are these, in this order; it visited all nodes from the path on, for which
-- the budget pays; and without a log the text has nothing else
pub record IsFinished (rules : Rules) (s : Stated) (p : List Bool) (designs : List (List (List ℕ))) (options : Options) (o : Outgoing) : Type 0 where
  pub taken : List Step
  pub printed : Appends o.written o.written_after (run_text rules s (shown_by options) p (finished_run taken))
  pub designs_are : designs_in s taken ≡ designs
  pub nodes : length (nodes_in taken) ≡ nodes_from rules s p
  pub paid : nodes_from rules s p ≤ options.budget
  pub silent : options.log ≡ false → Appends o.written o.written_after (designs_text rules s (shown_by options) p designs)

-- a search from a path to a stop: the text ends with a place. The designs printed and those from the place on are these, in this order;
-- the place is a node; the nodes visited, as many as the budget, and those from the place on are all nodes from the path on, of
-- which there are more than the budget
pub record IsStopped (rules : Rules) (s : Stated) (p : List Bool) (designs : List (List (List ℕ))) (options : Options) (o : Outgoing) : Type 0 where
  pub taken : List Step
  pub place : List Bool
  pub printed : Appends o.written o.written_after (run_text rules s (shown_by options) p (spent_run taken place))
  pub designs_are : designs_in s taken ++ designs_from s place ≡ designs
  pub node : IsNode rules (orbit_system s) place
  pub visited : length (nodes_in taken) ≡ options.budget
  pub before : options.budget + nodes_from rules s place ≡ nodes_from rules s p
  pub unpaid : options.budget < nodes_from rules s p

-- a source, and a search for all designs that its problem asks for
pub record IsSolved (options : Options) (o : Outgoing) (bytes : List ℕ) : Type 0 where
  pub problem : Stated
  pub source_is : source bytes ≡ Ok problem
  pub search : IsFinished Divisor problem [] (asked problem) options o

pub record IsSpent (options : Options) (o : Outgoing) (bytes : List ℕ) : Type 0 where
  pub problem : Stated
  pub source_is : source bytes ≡ Ok problem
  pub search : IsStopped Divisor problem [] (asked problem) options o

-- a source, and a search for all designs that its problem asks for, told as a listing. It came to its end: the designs listed are all
-- that are asked for, in their order, each by its base blocks, and by all blocks too where these are shown; no path follows; and the nodes told
-- are all, for which the budget pays
pub record IsListed (options : Options) (o : Outgoing) (bytes : List ℕ) : Type 0 where
  pub problem : Stated
  pub source_is : source bytes ≡ Ok problem
  pub printed : Appends o.written o.written_after (designs_listing options.blocks problem (asked problem) None (nodes_from Divisor problem []))
  pub paid : nodes_from Divisor problem [] ≤ options.budget

-- or to a stop: the designs listed and those from the place that follows on, a node, are all that are asked for; the nodes told are the
-- budget, and with those from the place on they are all nodes, of which there are more than the budget
pub record IsListedSpent (options : Options) (o : Outgoing) (bytes : List ℕ) : Type 0 where
  pub problem : Stated
  pub source_is : source bytes ≡ Ok problem
  pub designs : List (List (List ℕ))
  pub place : List Bool
  pub printed : Appends o.written o.written_after (designs_listing options.blocks problem designs (Some place) options.budget)
  pub designs_are : designs ++ designs_from problem place ≡ asked problem
  pub node : IsNode Divisor (orbit_system problem) place
  pub before : options.budget + nodes_from Divisor problem place ≡ nodes_from Divisor problem []
  pub unpaid : options.budget < nodes_from Divisor problem []

-- a dossier that ended spent at a node, and a search by the rules of its head for the designs from there on
pub record IsResumed (options : Options) (o : Outgoing) (bytes : List ℕ) : Type 0 where
  pub dossier : Spent
  pub dossier_is : spent bytes ≡ Ok dossier
  pub node : IsNode dossier.rules (orbit_system dossier.problem) (path_of dossier.path)
  pub search : IsFinished dossier.rules dossier.problem (path_of dossier.path) (designs_from dossier.problem (path_of dossier.path)) options o

pub record IsResumedSpent (options : Options) (o : Outgoing) (bytes : List ℕ) : Type 0 where
  pub dossier : Spent
  pub dossier_is : spent bytes ≡ Ok dossier
  pub node : IsNode dossier.rules (orbit_system dossier.problem) (path_of dossier.path)
  pub search : IsStopped dossier.rules dossier.problem (path_of dossier.path) (designs_from dossier.problem (path_of dossier.path)) options o

-- the line of a workload with this problem
abbrev pub work_line : ℕ → Stated → ℕ → ℕ → List ℕ
work_line n s designs nodes = workload_line n (point_count s) (length (columns_of s)) designs nodes

-- the search of a workload came to its end: the line tells how many designs its problem asks for and how many nodes there are,
-- for which the default budget pays
pub record IsWorked (n : ℕ) (o : Outgoing) : Type 0 where
  pub problem : Stated
  pub source_is : source (workload_source n) ≡ Ok problem
  pub printed : Appends o.written o.written_after (work_line n problem (length (asked problem)) (nodes_from Divisor problem []))
  pub paid : nodes_from Divisor problem [] ≤ DEFAULT_BUDGET

-- or to a stop: the designs told and those from a place on, a node, are all that are asked for; the nodes told are the default budget, and
-- with those from the place on they are all nodes, of which there are more than the budget
pub record IsWorkedSpent (n : ℕ) (o : Outgoing) : Type 0 where
  pub problem : Stated
  pub source_is : source (workload_source n) ≡ Ok problem
  pub designs : List (List (List ℕ))
  pub place : List Bool
  pub printed : Appends o.written o.written_after (work_line n problem (length designs) DEFAULT_BUDGET)
  pub designs_are : designs ++ designs_from problem place ≡ asked problem
  pub node : IsNode Divisor (orbit_system problem) place
  pub before : DEFAULT_BUDGET + nodes_from Divisor problem place ≡ nodes_from Divisor problem []
  pub unpaid : DEFAULT_BUDGET < nodes_from Divisor problem []

-- a chain of dossiers, whoever wrote it, whose problem keeps the rules of problems: the designs of its design lines are those that
-- the problem asks for, each once and nothing else; each line has the base blocks of its design; and how many they are was printed
pub record IsChecked (o : Outgoing) (bytes : List ℕ) : Type 0 where
  pub chain : IsChain (lines_of bytes)
  pub rules : IsStated chain.first.problem
  pub designs_are : IsPermutation (designs_of chain) (asked chain.first.problem)
  pub bases_are : map (base chain.first.problem) (designs_of chain) ≡ leaves_of (log_of (chain.first ∷ chain.later))
  pub printed : Appends o.written o.written_after (complete_text (length (designs_of chain)))

pub record Headline (words : List (List ℕ)) (i : Incoming) (o : Outgoing) (result : Status) : Type 0 where
  pub verified : words ≡ codes "verify" ∷ [] → result ≡ ends.Done → IfSome i.left (IsAccepted o)
  pub refused : words ≡ codes "verify" ∷ [] → result ≡ ends.Refused → IfSome i.left IsRefused
  pub solved : (options : Options) → IsCommandLine words (Solve options) → options.json ≡ false → result ≡ ends.Done → IfSome i.left (IsSolved options o)
  pub spent : (options : Options) → IsCommandLine words (Solve options) → options.json ≡ false → result ≡ ends.Spent → IfSome i.left (IsSpent options o)
  pub listed : (options : Options) → IsCommandLine words (Solve options) → options.json ≡ true → result ≡ ends.Done → IfSome i.left (IsListed options o)
  pub listed_spent : (options : Options) → IsCommandLine words (Solve options) → options.json ≡ true → result ≡ ends.Spent → IfSome i.left (IsListedSpent options o)
  pub resumed : (options : Options) → IsCommandLine words (Resume options) → result ≡ ends.Done → IfSome i.left (IsResumed options o)
  pub resumed_spent : (options : Options) → IsCommandLine words (Resume options) → result ≡ ends.Spent → IfSome i.left (IsResumedSpent options o)
  pub worked : (n : ℕ) → IsCommandLine words (Workload n) → result ≡ ends.Done → IsWorked n o
  pub worked_spent : (n : ℕ) → IsCommandLine words (Workload n) → result ≡ ends.Spent → IsWorkedSpent n o
  pub checked : words ≡ codes "check" ∷ [] → result ≡ ends.Done → IfSome i.left (IsChecked o)
  pub unchecked : words ≡ codes "check" ∷ [] → result ≡ ends.Refused → IfSome i.left (λ bytes. IsChain (lines_of bytes) → ⊥)
