-- Chains of searches: the text of a spent one is read back, and so the next one goes on where it stopped.
use Rattle.std.proofs.Common.{◌≡◌, ℕ, ◌≤◌, Bool, true, false, nat_lt, cond, List, [], ◌∷◌, ◌++◌, length, map, Option, Some, None, refl, sym, ap, ◌∙◌, subst, arith}
use Rattle.std.specs.Prelude.{◌==◌}
use Rattle.std.specs.Option.{option_and_then, option_map}
use Rattle.std.proofs.lemmas.Bool.{ltb-false}
use Rattle.std.proofs.lemmas.List.{append-nil, map-append}
use Rattle.df_walk.specs.declared.Rules.{Rules}
use Rattle.df_walk.specs.declared.Rules.TheVariants.{Divisor}
use Rattle.df_walk.specs.Systems.{IsSystem}
use Rattle.df_walk.specs.Assignments.{total}
use Rattle.df_walk.specs.Walks.{solutions_in, nodes_in}
use Rattle.df_walk.specs.Paths.{IsNode, path_of, written_path, rest}
use Rattle.df_walk.specs.Remains.{IsStart}
use Rattle.df_walk.specs.LawStatements.{PathsAreRead}
use Rattle.df_walk.proofs.NodeVisits.{start_of}
use Rattle.df_runs.specs.Runs.{run_of, rest_at, EndsAt, IsRunFrom}
use Rattle.df_runs.specs.Statements.{RunsAreWhole, ChainsAreRuns}
use Rattle.df_lang.specs.Problems.{Stated, IsStated, point_count}
use Rattle.df_lang.specs.RulesLaw.{SourcesKeepTheirRules}
use Rattle.df_kramer_mesner.specs.Laws.{OrbitSystemsAreSystems}
use Rattle.df_kramer_mesner.specs.OrbitSystems.{orbit_system, columns_of}
use Rattle.df_correspondence.specs.Designs.{asked, design}
use Rattle.df_correspondence.specs.Laws.{DesignsAreSolutions}
use Rattle.df_matrix.specs.Limits.{block_count, only_size, passed_by, or_else, subset_limit_of, column_limit, entry_limit, limit_passed}
use Rattle.df_matrix.specs.declared.matrix.MatrixError.{MatrixError}
use Rattle.df_matrix.specs.declared.matrix.MatrixError.TheVariants as matrix
use Rattle.df_matrix.specs.declared.matrix.TheConstants.{MOST_COLUMNS}
use Rattle.df_orbits.specs.declared.orbits.OrbitError.TheVariants as orbits
use Rattle.df_search.specs.Reasons.{PathsHaveReasons}
use Rattle.df_design.specs.RemainingDesigns.{designs_from}
use Rattle.df_dossier.specs.SpentRules.{SpentKeepTheirRules}
use Rattle.df_dossier.specs.declared.spent.Spent.{Spent}
use Rattle.df_tell.specs.RunBack.{SpentTextsReadBack}
use Rattle.df_words.specs.declared.command.Options.{Options}
use Rattle.df_words.specs.declared.table.TheConstants.{MOST_BUDGET}
use Rattle.df_run.specs.Answers.{Answer, answer, answer_to, answer_spent, within, at_node, shown_by, search_answer, solve_answer, run_answer}
use Rattle.df_run.specs.Chains.{and_resumed, is_spent, searches, budgets_of, AreBudgets, all_steps, last_stop, designs_after, IsChain, ChainsAreAnswered}
use Rattle.df_run.specs.Headline.{designs_in}
use Rattle.df_run.specs.Limits.{limit_of, matrix_limit, path_refusal}
use Rattle.df_run.specs.declared.tasks.Task.TheVariants.{Source, Stream}
use Rattle.df_run.specs.declared.tasks.SourceTask.TheVariants.{Solve}
use Rattle.df_run.specs.declared.tasks.StreamTask.TheVariants.{Resume}
use Rattle.df_run.proofs.PathRefusals.{node_goes_on}
use Rattle.df_run.proofs.SearchRuns.{at_start, designs_all}
use Rattle.df_run.proofs.Listings.{told_as_dossier}

-- within the limits there are at most MOST_COLUMNS columns
past_subsets : (version points size count : ℕ) (rest : Option MatrixError) → option_and_then limit_of (or_else (option_map passed_by (subset_limit_of version points size count)) rest) ≡ None → option_and_then limit_of rest ≡ None
past_subsets version points size count rest h = by (version == 1) (nat_lt 2000000 count) (nat_lt 8000000 count) h
  where
    by : (a b c : Bool) → option_and_then limit_of (or_else (option_map passed_by (cond a (cond b (Some (orbits.TooManySubsets points size)) None) (cond c (Some (orbits.TooManySummed points count)) None))) rest) ≡ None → option_and_then limit_of rest ≡ None
    by true true c h = absurd (cc)
    by true false c h = h
    by false b true h = absurd (cc)
    by false b false h = h

few_columns : (s : Stated) → matrix_limit s ≡ None → length (columns_of s) ≤ MOST_COLUMNS
unfolding limit_passed
few_columns s h = by (nat_lt MOST_COLUMNS (length (columns_of s))) refl
  where
    by : (b : Bool) → nat_lt MOST_COLUMNS (length (columns_of s)) ≡ b → length (columns_of s) ≤ MOST_COLUMNS
    by false is = ltb-false MOST_COLUMNS (length (columns_of s)) is
    by true is =
        let columns : column_limit s ≡ Some (matrix.TooManyColumns (length (columns_of s))) = rw is refl in
        let none = past_subsets s.version (point_count s) (only_size s) (block_count s) (or_else (column_limit s) (entry_limit s)) h in
        absurd (let same = ap (λ o. option_and_then limit_of (or_else o (entry_limit s))) (sym columns) ∙ none in cc)

module _ (runs : RunsAreWhole) (chains : ChainsAreRuns) (reasons : PathsHaveReasons) (paths : PathsAreRead) (read_back : SpentTextsReadBack) (rules : Rules) (s : Stated) (kept : IsStated s) (system : IsSystem (orbit_system s)) (fits : matrix_limit s ≡ None) where
  -- the answer to the text of a spent search is that of the search from its place
  goes_on : (first next : Options) (p q : List Bool) → IsStart rules (orbit_system s) p → first.budget ≤ MOST_BUDGET → (run_of rules (orbit_system s) p first.budget).stop ≡ Some q → IsNode rules (orbit_system s) q → answer (Stream (Resume next)) (search_answer rules s first p).text ≡ search_answer rules s next q
  goes_on first next p q start low stopped node =
      let d : Spent = record { problem = s; path = written_path q; rules = rules } in
      let same = paths.read_back q in
      let read = read_back rules s (shown_by first) p q first.budget kept (omega (arith, few_columns s fits)) start (omega (arith, low)) stopped in
      let free : path_refusal rules (orbit_system s) (written_path q) ≡ None = node_goes_on reasons rules (orbit_system s) (written_path q) (subst (IsNode rules (orbit_system s)) (sym same) node) in
      ap (answer_spent next) read
      ∙ ap (λ limit. within limit (at_node (path_refusal rules (orbit_system s) (written_path q)) (search_answer rules s next (path_of (written_path q))))) fits
      ∙ ap (λ refusal. at_node refusal (search_answer rules s next (path_of (written_path q)))) free
      ∙ ap (search_answer rules s next) same

  stop_node : (p q : List Bool) (n : ℕ) → IsStart rules (orbit_system s) p → (run_of rules (orbit_system s) p n).stop ≡ Some q → IsNode rules (orbit_system s) q
  stop_node p q n start stopped =
      let run = run_of rules (orbit_system s) p n in
      let whole = runs rules (orbit_system s) p n system start in
      (subst (EndsAt rules (orbit_system s) p n (length (nodes_in run.taken))) stopped whole.end).2

  -- so the answers of a chain are those of the searches
  answers_are : (first : Options) (more : List Options) (p : List Bool) → IsStart rules (orbit_system s) p → AreBudgets (first ∷ more) → and_resumed (search_answer rules s first p) more ≡ searches rules s (Some p) (first ∷ more)
  answers_are first [] p start low = by (run_of rules (orbit_system s) p first.budget).stop
    where
      by : (stop : Option (List Bool)) → search_answer rules s first p ∷ [] ≡ search_answer rules s first p ∷ searches rules s stop []
      by None = refl
      by (Some q) = refl
  answers_are first (next ∷ more) p start low = by (λ q from. answers_are next more q from low.1) (run_of rules (orbit_system s) p first.budget).stop refl
    where
      tail : Option (List Bool) → List Answer
      tail stop = cond (is_spent (run_answer rules s first p (record { taken = []; stop = stop })).status) (and_resumed (answer (Stream (Resume next)) (search_answer rules s first p).text) more) []

      by : ((q : List Bool) → IsStart rules (orbit_system s) q → and_resumed (search_answer rules s next q) more ≡ searches rules s (Some q) (next ∷ more)) → (stop : Option (List Bool)) → (run_of rules (orbit_system s) p first.budget).stop ≡ stop → search_answer rules s first p ∷ tail (run_of rules (orbit_system s) p first.budget).stop ≡ search_answer rules s first p ∷ searches rules s (run_of rules (orbit_system s) p first.budget).stop (next ∷ more)
      by later None is = ap (λ l. search_answer rules s first p ∷ l) (ap tail is ∙ ap (λ stop. searches rules s stop (next ∷ more)) (sym is))
      by later (Some q) is =
          let node = stop_node p q first.budget start is in
          ap (λ l. search_answer rules s first p ∷ l) (ap tail is ∙ ap (λ a. and_resumed a more) (goes_on first next p q start low.0 is node) ∙ later q (start_of rules (orbit_system s) q node) ∙ ap (λ stop. searches rules s stop (next ∷ more)) (sym is))

  -- and what they printed, joined, is what one search prints with all budgets
  after_is : (stop : Option (List Bool)) → map (design s) (rest_at (orbit_system s) stop) ≡ designs_after s stop
  after_is None = refl
  after_is (Some q) = refl

  chain_is : (first : Options) (more : List Options) (p : List Bool) (designs : List (List (List ℕ))) → IsStart rules (orbit_system s) p → AreBudgets (first ∷ more) → designs_from s p ≡ designs → IsChain rules s p designs (first ∷ more) (and_resumed (search_answer rules s first p) more)
  chain_is first more p designs start low are =
      let options = first ∷ more in
      let one = chains rules (orbit_system s) p first.budget (budgets_of more) in
      let whole = subst (IsRunFrom rules (orbit_system s) p (total (budgets_of options))) (sym one) (runs rules (orbit_system s) p (total (budgets_of options)) system start) in
      let found = solutions_in (orbit_system s) (all_steps rules s p options) in
      let all = ap (λ l. designs_in s (all_steps rules s p options) ++ l) (sym (after_is (last_stop rules s p options))) ∙ sym (map-append (design s) found (rest_at (orbit_system s) (last_stop rules s p options))) ∙ ap (map (design s)) whole.solutions ∙ are in record {
        answers_are = answers_are first more p start low;
        joined = one;
        designs_are = all;
        nodes = whole.nodes;
        finished = λ none. sym (append-nil (designs_in s (all_steps rules s p options))) ∙ ap (λ stop. designs_in s (all_steps rules s p options) ++ designs_after s stop) (sym none) ∙ all;
      }

module _ (keep : SourcesKeepTheirRules) (keep_spent : SpentKeepTheirRules) (systems : OrbitSystemsAreSystems) (runs : RunsAreWhole) (chains : ChainsAreRuns) (reasons : PathsHaveReasons) (paths : PathsAreRead) (read_back : SpentTextsReadBack) (theorem : DesignsAreSolutions) where
  pub chains_answered : ChainsAreAnswered
  chains_answered = record {
    solved = λ bytes s first more plain few is fits low.
        let kept = keep bytes s few is in
        let answered : answer (Source (Solve first)) bytes ≡ search_answer Divisor s first [] = ap (answer_to (Solve first)) is ∙ ap (λ limit. within limit (solve_answer s first)) fits ∙ told_as_dossier s first plain in
        subst (λ a. IsChain Divisor s [] (asked s) (first ∷ more) (and_resumed a more)) (sym answered)
        (chain_is runs chains reasons paths read_back Divisor s kept (systems s kept) fits first more [] (asked s) (at_start Divisor (orbit_system s)) low (designs_all s (theorem s kept)));
    resumed = λ bytes d first more few is fits node low.
        let kept = keep_spent bytes d few is in
        let s = d.problem in
        let answered : answer (Stream (Resume first)) bytes ≡ search_answer d.rules s first (path_of d.path) =
        ap (answer_spent first) is
        ∙ ap (λ limit. within limit (at_node (path_refusal d.rules (orbit_system s) d.path) (search_answer d.rules s first (path_of d.path)))) fits
        ∙ ap (λ refusal. at_node refusal (search_answer d.rules s first (path_of d.path))) (node_goes_on reasons d.rules (orbit_system s) d.path node) in
        subst (λ a. IsChain d.rules s (path_of d.path) (designs_from s (path_of d.path)) (first ∷ more) (and_resumed a more)) (sym answered)
        (chain_is runs chains reasons paths read_back d.rules s kept (systems s kept) fits first more (path_of d.path) (designs_from s (path_of d.path)) (start_of d.rules (orbit_system s) (path_of d.path) node) low refl);
  }
