-- The headline, from how a run ends and from the laws of the rooms below.
use Rattle.std.proofs.Common.{◌≡◌, ℕ, ◌≤◌, Bool, true, false, not, cond, List, [], ◌∷◌, find, length, codes, Option, Some, None, Result, Ok, Err, refl, sym, ap, ◌∙◌, subst, inl, inr, eq-eqb, arith, ⊎_elim}
use Rattle.std.specs.Io.KnownBytes.{Appends}
use Rattle.std.proofs.lemmas.Bool.{both_ways}
use Rattle.std.proofs.lemmas.Option.{IfSome_then, same_Some}
use Rattle.df_io.specs.declared.bytes.TheConstants.{MOST_BYTES}
use Rattle.df_lists.specs.Membership.{In}
use Rattle.df_lists.proofs.MemberLaws.{In-map_gives}
use Rattle.df_lang.specs.Problems.{Stated, IsStated}
use Rattle.df_lang.specs.Sources.{source}
use Rattle.df_lang.specs.declared.fault.SourceError.{SourceError}
use Rattle.df_family.specs.FamilyLaws.{BalanceLaw, VerdictLaw}
use Rattle.df_family.specs.Tables.{rows, found, stated, entry, table, is_wrong}
use Rattle.df_family.specs.Verdicts.{verdict_at, is_accepted}
use Rattle.df_family.specs.declared.table.Entry.{Entry}
use Rattle.df_tell.specs.Verdict.{verdict_text}
use Rattle.df_words.specs.CommandLines.{IsCommandLine}
use Rattle.df_words.specs.declared.command.Command.{Command}
use Rattle.df_words.specs.declared.command.Command.TheVariants as commands
use Rattle.df_words.specs.Reading.{command_of, CommandLineLaw, WorkloadLaw}
use Rattle.df_words.specs.declared.command.Options.{Options}
use Rattle.df_words.specs.declared.table.TheConstants.{DEFAULT_BUDGET, MOST_WORKLOAD}
use Rattle.df_lang.specs.RulesLaw.{SourcesKeepTheirRules}
use Rattle.df_walk.specs.declared.Rules.TheVariants.{Divisor}
use Rattle.df_walk.specs.Systems.{IsSystem}
use Rattle.df_walk.specs.Paths.{IsNode, path_of}
use Rattle.df_walk.proofs.NodeVisits.{start_of}
use Rattle.df_runs.specs.Runs.{Run, run_of, IsRunFrom}
use Rattle.df_search.specs.Reasons.{PathsHaveReasons}
use Rattle.df_runs.specs.Statements.{RunsAreWhole}
use Rattle.df_kramer_mesner.specs.Laws.{OrbitSystemsAreSystems}
use Rattle.df_kramer_mesner.specs.OrbitSystems.{orbit_system}
use Rattle.df_correspondence.specs.Laws.{DesignsAreSolutions}
use Rattle.df_correspondence.specs.Designs.{asked}
use Rattle.df_dossier.specs.Dossiers.{Refusal}
use Rattle.df_dossier.specs.Spent.{spent}
use Rattle.df_dossier.specs.SpentRules.{SpentKeepTheirRules}
use Rattle.df_dossier.specs.declared.spent.Spent.{Spent}
use Rattle.df_io.specs.Lines.{lines_of}
use Rattle.df_check.specs.ChainLaws.{ChainsAreDecided, ChainsKeepTheirRules, ChainsListAllDesigns, BasesAreRepresentatives}
use Rattle.df_check.specs.Chains.{IsChain}
use Rattle.df_check.specs.Judging.{Reason, BadLine, Above, BadLog, Refused as Broken, verdict as chain_verdict}
use Rattle.df_tell.specs.Check.{complete_text}
use Rattle.df_tell.specs.declared.limits.Limit.{Limit}
use Rattle.df_tell.specs.declared.path.PathRefusal.{PathRefusal}
use Rattle.df_run.specs.declared.tasks.Task.TheVariants.{Source, Stream, Work}
use Rattle.df_run.specs.Answers.{Answer, answer_to, answer_spent, answer_work, answer_broken, answer_checked, verdict_answer, within, at_node, run_answer, search_answer}
use Rattle.df_run.specs.Limits.{matrix_limit, path_refusal}
use Rattle.df_run.specs.Endings.{EndsAs, Answers, IsUnreadByWork}
use Rattle.df_run.specs.Headline.{Headline, IsAccepted, IsRefused, IsFinished, IsStopped, IsSolved, IsSpent, IsListed, IsListedSpent, IsResumed, IsResumedSpent, IsWorked, IsWorkedSpent, IsChecked}
use Rattle.df_run.specs.Streams.{Incoming, Outgoing}
use Rattle.df_run.specs.Tasks.{task_of}
use Rattle.df_run.specs.Readings.{LeavesInput}
use Rattle.df_run.specs.Workloads.{workload_source}
use Rattle.df_run.specs.declared.statuses.Status.{Status}
use Rattle.df_run.specs.declared.statuses.Status.TheVariants as ends
use Rattle.df_run.specs.declared.tasks.SourceTask.TheVariants.{Verify, Solve}
use Rattle.df_run.specs.declared.tasks.StreamTask.TheVariants.{Resume, Check}
use Rattle.df_run.proofs.PathRefusals.{no_refusal}
use Rattle.df_run.proofs.SearchRuns.{at_start, designs_all, finishes, stops}
use Rattle.df_run.proofs.Workloads.{works, works_spent, source_short}
use Rattle.df_run.proofs.Listings.{told_as_listing, told_as_dossier, lists, lists_spent}

-- the first that passes is a member, and passes
found_in : {X : Type 0} (t : X → Bool) (xs : List X) (x : X) → find t xs ≡ Some x → In xs x × (t x ≡ true)
found_in t [] x h = absurd (cc)
found_in {X = X} t (y ∷ xs) x h = by (t y) refl h (found_in t xs x)
  where
    by : (v : Bool) → t y ≡ v → cond v (Some y) (find t xs) ≡ Some x → (find t xs ≡ Some x → In xs x × (t x ≡ true)) → In (y ∷ xs) x × (t x ≡ true)
    by true e k more = let is : y ≡ x = cc in (inl is, sym (ap t is) ∙ e)
    by false e k more = let rest = more k in (inr rest.0, rest.1)

module _ (balance : BalanceLaw) (verdict : VerdictLaw) (s : Stated) (rules : IsStated s) where
  -- `verify` is done with the problem: no row is wrong
  accepts : (bytes : List ℕ) (o : Outgoing) → source bytes ≡ Ok s → (first : Option Entry) → find is_wrong (table s) ≡ first → ends.Done ≡ (verdict_answer s (verdict_at s first)).status
      → Appends o.written o.written_after (verdict_text s (verdict_at s first)) → IsAccepted o bytes
  accepts bytes o is None none status text =
      let balanced = (verdict s rules).0 (ap (λ first. is_accepted (verdict_at s first)) none) in record {
        problem = s;
        source_is = is;
        every_row = (balance s rules).1 balanced;
        balanced = balanced;
        printed = text;
      }
  accepts bytes o is (Some e) some status text = absurd (cc)

  -- `verify` refuses the problem: a row is wrong
  refuses : (bytes : List ℕ) → source bytes ≡ Ok s → (first : Option Entry) → find is_wrong (table s) ≡ first → ends.Refused ≡ (verdict_answer s (verdict_at s first)).status → IsRefused bytes
  refuses bytes is None none status = absurd (cc)
  refuses bytes is (Some e) some status =
      let wrong = found_in is_wrong (table s) e some in
      let row = In-map_gives (entry s) (rows s) e wrong.0 in
      let differs : found s row.0 ≡ stated s row.0 → ⊥ = λ same. both_ways (is_wrong e) (sym (ap is_wrong row.2) ∙ ap not (eq-eqb (found s row.0) (stated s row.0) same)) wrong.1 in record {
        problem = s;
        source_is = is;
        row = row.0;
        is_row = row.1;
        differs = differs;
        unbalanced = λ balanced. differs ((balance s rules).1 balanced row.0 row.1);
      }

-- words ask for one command
one_command : CommandLineLaw → (words : List (List ℕ)) (a b : Command) → IsCommandLine words a → IsCommandLine words b → a ≡ b
one_command law words a b line other = same_Some a b (sym ((law words a).1 line) ∙ (law words b).1 other)

module _ (options : Options) (o : Outgoing) where
  -- the answer of a search that its problem's limits allow
  solves : (theorem : DesignsAreSolutions) (s : Stated) → IsStated s → (run : Run) → IsRunFrom Divisor (orbit_system s) [] options.budget run → (limit : Option Limit) → ends.Done ≡ (within limit (run_answer Divisor s options [] run)).status → Appends o.written o.written_after (within limit (run_answer Divisor s options [] run)).text → IsFinished Divisor s [] (asked s) options o
  solves theorem s rules run whole None status text = subst (λ designs. IsFinished Divisor s [] designs options o) (designs_all s (theorem s rules)) (finishes Divisor s [] options o run whole run.stop refl status text)
  solves theorem s rules run whole (Some limit) status text = absurd (cc)

  spends : (theorem : DesignsAreSolutions) (s : Stated) → IsStated s → (run : Run) → IsRunFrom Divisor (orbit_system s) [] options.budget run → (limit : Option Limit) → ends.Spent ≡ (within limit (run_answer Divisor s options [] run)).status → Appends o.written o.written_after (within limit (run_answer Divisor s options [] run)).text → IsStopped Divisor s [] (asked s) options o
  spends theorem s rules run whole None status text = subst (λ designs. IsStopped Divisor s [] designs options o) (designs_all s (theorem s rules)) (stops Divisor s [] options o run whole run.stop refl status text)
  spends theorem s rules run whole (Some limit) status text = absurd (cc)

  -- the answer of one that goes on at a node
  module _ (runs : RunsAreWhole) (reasons : PathsHaveReasons) (d : Spent) (system : IsSystem (orbit_system d.problem)) where
    abbrev goes_on : Answer
    goes_on = search_answer d.rules d.problem options (path_of d.path)

    from_node : IsNode d.rules (orbit_system d.problem) (path_of d.path) → IsRunFrom d.rules (orbit_system d.problem) (path_of d.path) options.budget (run_of d.rules (orbit_system d.problem) (path_of d.path) options.budget)
    from_node node = runs d.rules (orbit_system d.problem) (path_of d.path) options.budget system (start_of d.rules (orbit_system d.problem) (path_of d.path) node)

    resumes : (bytes : List ℕ) → spent bytes ≡ Ok d → (limit : Option Limit) (refusal : Option PathRefusal) → path_refusal d.rules (orbit_system d.problem) d.path ≡ refusal → ends.Done ≡ (within limit (at_node refusal goes_on)).status → Appends o.written o.written_after (within limit (at_node refusal goes_on)).text → IsResumed options o bytes
    resumes bytes is None None fits status text =
        let node = no_refusal reasons d.rules (orbit_system d.problem) d.path fits in record {
          dossier = d;
          dossier_is = is;
          node = node;
          search = finishes d.rules d.problem (path_of d.path) options o _ (from_node node) _ refl status text;
        }
    resumes bytes is None (Some refusal) fits status text = absurd (cc)
    resumes bytes is (Some limit) refusal fits status text = absurd (cc)

    stays_spent : (bytes : List ℕ) → spent bytes ≡ Ok d → (limit : Option Limit) (refusal : Option PathRefusal) → path_refusal d.rules (orbit_system d.problem) d.path ≡ refusal → ends.Spent ≡ (within limit (at_node refusal goes_on)).status → Appends o.written o.written_after (within limit (at_node refusal goes_on)).text → IsResumedSpent options o bytes
    stays_spent bytes is None None fits status text =
        let node = no_refusal reasons d.rules (orbit_system d.problem) d.path fits in record {
          dossier = d;
          dossier_is = is;
          node = node;
          search = stops d.rules d.problem (path_of d.path) options o _ (from_node node) _ refl status text;
        }
    stays_spent bytes is None (Some refusal) fits status text = absurd (cc)
    stays_spent bytes is (Some limit) refusal fits status text = absurd (cc)

-- where a line breaks a rule, `check` isn't done
not_done : (line : ℕ) (reason : Reason) → ends.Done ≡ (answer_broken line reason).status → ⊥
not_done line (BadLine fault) status = cc
not_done line (Above e) status = cc
not_done line (BadLog fault) status = cc

module _ (decided : ChainsAreDecided) (bytes : List ℕ) (few : length bytes ≤ MOST_BYTES) where
  -- `check` is done with these bytes: they are a chain
  checks : ChainsKeepTheirRules → ChainsListAllDesigns → BasesAreRepresentatives → (o : Outgoing) (r : Result ℕ Broken) → chain_verdict bytes ≡ r → ends.Done ≡ (answer_checked r).status → Appends o.written o.written_after (answer_checked r).text → IsChecked o bytes
  checks keep all bases o (Ok designs) is status text =
      let c = (decided bytes few).accepted designs is in
      let rules = keep bytes few c.0 in record {
        chain = c.0;
        rules = rules;
        designs_are = all (lines_of bytes) c.0 rules;
        bases_are = bases (lines_of bytes) c.0 rules;
        printed = subst (λ n. Appends o.written o.written_after (complete_text n)) c.1 text;
      }
  checks keep all bases o (Err broken) is status text = absurd (not_done broken.line broken.reason status)

  -- `check` refuses them: they are none
  breaks : (r : Result ℕ Broken) → chain_verdict bytes ≡ r → ends.Refused ≡ (answer_checked r).status → IsChain (lines_of bytes) → ⊥
  breaks (Ok designs) is status chain = cc
  breaks (Err broken) is status chain = let complete = sym is ∙ (decided bytes few).only chain in cc

module _ (keep : SourcesKeepTheirRules) (keep_spent : SpentKeepTheirRules) (lines : CommandLineLaw) (numbers : WorkloadLaw) (balance : BalanceLaw) (verdict : VerdictLaw) (systems : OrbitSystemsAreSystems) (runs : RunsAreWhole) (reasons : PathsHaveReasons) (theorem : DesignsAreSolutions) (decided : ChainsAreDecided) (keep_chains : ChainsKeepTheirRules) (all : ChainsListAllDesigns) (bases : BasesAreRepresentatives) (i : Incoming) (o : Outgoing) where
  -- what `verify` answers to these bytes
  done_with : (bytes : List ℕ) → length bytes ≤ MOST_BYTES → (r : Result Stated SourceError) → source bytes ≡ r → ends.Done ≡ (answer_to Verify r).status → Appends o.written o.written_after (answer_to Verify r).text → IsAccepted o bytes
  done_with bytes few (Ok s) is status text = accepts balance verdict s (keep bytes s few is) bytes o is (find is_wrong (table s)) refl status text
  done_with bytes few (Err e) is status text = absurd (cc)

  refused_with : (bytes : List ℕ) → length bytes ≤ MOST_BYTES → (r : Result Stated SourceError) → source bytes ≡ r → ends.Refused ≡ (answer_to Verify r).status → IsRefused bytes
  refused_with bytes few (Ok s) is status = refuses balance verdict s (keep bytes s few is) bytes is (find is_wrong (table s)) refl status
  refused_with bytes few (Err e) is status = absurd (cc)

  -- what `solve` answers to them
  whole_run : (s : Stated) → IsStated s → (n : ℕ) → IsRunFrom Divisor (orbit_system s) [] n (run_of Divisor (orbit_system s) [] n)
  whole_run s rules n = runs Divisor (orbit_system s) [] n (systems s rules) (at_start Divisor (orbit_system s))

  -- the answer is this one
  as_told : (s : Stated) (a b : Answer) → a ≡ b → (result : Status) → result ≡ (within (matrix_limit s) a).status → result ≡ (within (matrix_limit s) b).status
  as_told s a b same result status = subst (λ (x : Answer). result ≡ (within (matrix_limit s) x).status) same status

  as_written : (s : Stated) (a b : Answer) → a ≡ b → Appends o.written o.written_after (within (matrix_limit s) a).text → Appends o.written o.written_after (within (matrix_limit s) b).text
  as_written s a b same text = subst (λ (x : Answer). Appends o.written o.written_after (within (matrix_limit s) x).text) same text

  solved_with : (options : Options) → options.json ≡ false → (bytes : List ℕ) → length bytes ≤ MOST_BYTES → (r : Result Stated SourceError) → source bytes ≡ r → ends.Done ≡ (answer_to (Solve options) r).status → Appends o.written o.written_after (answer_to (Solve options) r).text → IsSolved options o bytes
  solved_with options plain bytes few (Ok s) is status text =
      let rules = keep bytes s few is in
      let same = told_as_dossier s options plain in
      record { problem = s; source_is = is; search = solves options o theorem s rules _ (whole_run s rules options.budget) (matrix_limit s) (as_told s _ _ same ends.Done status) (as_written s _ _ same text) }
  solved_with options plain bytes few (Err e) is status text = absurd (cc)

  spent_with : (options : Options) → options.json ≡ false → (bytes : List ℕ) → length bytes ≤ MOST_BYTES → (r : Result Stated SourceError) → source bytes ≡ r → ends.Spent ≡ (answer_to (Solve options) r).status → Appends o.written o.written_after (answer_to (Solve options) r).text → IsSpent options o bytes
  spent_with options plain bytes few (Ok s) is status text =
      let rules = keep bytes s few is in
      let same = told_as_dossier s options plain in
      record { problem = s; source_is = is; search = spends options o theorem s rules _ (whole_run s rules options.budget) (matrix_limit s) (as_told s _ _ same ends.Spent status) (as_written s _ _ same text) }
  spent_with options plain bytes few (Err e) is status text = absurd (cc)

  -- and where a listing is asked for
  listed_with : (options : Options) → options.json ≡ true → (bytes : List ℕ) → length bytes ≤ MOST_BYTES → (r : Result Stated SourceError) → source bytes ≡ r → ends.Done ≡ (answer_to (Solve options) r).status → Appends o.written o.written_after (answer_to (Solve options) r).text → IsListed options o bytes
  listed_with options json bytes few (Ok s) is status text =
      let rules = keep bytes s few is in
      let same = told_as_listing s options json in
      lists theorem options o bytes s rules is _ (whole_run s rules options.budget) (matrix_limit s) (as_told s _ _ same ends.Done status) (as_written s _ _ same text)
  listed_with options json bytes few (Err e) is status text = absurd (cc)

  listed_spent_with : (options : Options) → options.json ≡ true → (bytes : List ℕ) → length bytes ≤ MOST_BYTES → (r : Result Stated SourceError) → source bytes ≡ r → ends.Spent ≡ (answer_to (Solve options) r).status → Appends o.written o.written_after (answer_to (Solve options) r).text → IsListedSpent options o bytes
  listed_spent_with options json bytes few (Ok s) is status text =
      let rules = keep bytes s few is in
      let same = told_as_listing s options json in
      lists_spent theorem options o bytes s rules is _ (whole_run s rules options.budget) (matrix_limit s) (as_told s _ _ same ends.Spent status) (as_written s _ _ same text)
  listed_spent_with options json bytes few (Err e) is status text = absurd (cc)

  -- what `resume` answers to them
  resumed_with : (options : Options) (bytes : List ℕ) → length bytes ≤ MOST_BYTES → (r : Result Spent Refusal) → spent bytes ≡ r → ends.Done ≡ (answer_spent options r).status → Appends o.written o.written_after (answer_spent options r).text → IsResumed options o bytes
  resumed_with options bytes few (Ok d) is status text = resumes options o runs reasons d (systems d.problem (keep_spent bytes d few is)) bytes is (matrix_limit d.problem) _ refl status text
  resumed_with options bytes few (Err e) is status text = absurd (cc)

  stays_with : (options : Options) (bytes : List ℕ) → length bytes ≤ MOST_BYTES → (r : Result Spent Refusal) → spent bytes ≡ r → ends.Spent ≡ (answer_spent options r).status → Appends o.written o.written_after (answer_spent options r).text → IsResumedSpent options o bytes
  stays_with options bytes few (Ok d) is status text = stays_spent options o runs reasons d (systems d.problem (keep_spent bytes d few is)) bytes is (matrix_limit d.problem) _ refl status text
  stays_with options bytes few (Err e) is status text = absurd (cc)

  -- what a workload answers
  worked_with : (n : ℕ) → n ≤ MOST_WORKLOAD → (r : Result Stated SourceError) → source (workload_source n) ≡ r → ends.Done ≡ (answer_work n r).status → Appends o.written o.written_after (answer_work n r).text → IsWorked n o
  worked_with n few (Ok s) is status text =
      let rules = keep (workload_source n) s (source_short n few) is in
      works theorem n o s rules is _ (whole_run s rules DEFAULT_BUDGET) (matrix_limit s) status text
  worked_with n few (Err e) is status text = absurd (cc)

  worked_spent_with : (n : ℕ) → n ≤ MOST_WORKLOAD → (r : Result Stated SourceError) → source (workload_source n) ≡ r → ends.Spent ≡ (answer_work n r).status → Appends o.written o.written_after (answer_work n r).text → IsWorkedSpent n o
  worked_spent_with n few (Ok s) is status text =
      let rules = keep (workload_source n) s (source_short n few) is in
      works_spent theorem n o s rules is _ (whole_run s rules DEFAULT_BUDGET) (matrix_limit s) status text
  worked_spent_with n few (Err e) is status text = absurd (cc)

  -- where the words ask for a command, how the run ends is how its task does
  asks : (words : List (List ℕ)) (result : Status) (command : Command) → EndsAs words i o result → IsCommandLine words command → (result ≡ ends.Usage → ⊥) → (result ≡ ends.WriteFault → ⊥) → Answers (task_of command) i o result
  asks words result command (inl usage) line no_usage no_fault = ⊎_elim (λ told. absurd (no_usage told.0)) (λ stopped. absurd (no_fault stopped.0)) usage.reply
  asks words result command (inr task) line no_usage no_fault = subst (λ c. Answers (task_of c) i o result) (one_command lines words task.command command task.words_are line) task.answers

  -- the words of `verify` ask for it
  verify_line : (words : List (List ℕ)) → words ≡ codes "verify" ∷ [] → IsCommandLine words commands.Verify
  verify_line words is = (lines words commands.Verify).0 (ap command_of is)

  -- and those of `check` for it
  check_line : (words : List (List ℕ)) → words ≡ codes "check" ∷ [] → IsCommandLine words commands.Check
  check_line words is = (lines words commands.Check).0 (ap command_of is)

  pub headline : (words : List (List ℕ)) (result : Status) → EndsAs words i o result → Headline words i o result
  headline words result ended = record {
    verified = λ is done.
        let answers = subst (λ r. Answers (Source Verify) i o r) done (asks words result commands.Verify ended (verify_line words is) (λ usage. absurd (cc)) (λ fault. absurd (cc))) in
        IfSome_then i.left answers.1 (λ bytes read. done_with bytes (omega (arith, read.0)) (source bytes) refl read.1.0 read.1.1);
    refused = λ is refused.
        let answers = subst (λ r. Answers (Source Verify) i o r) refused (asks words result commands.Verify ended (verify_line words is) (λ usage. absurd (cc)) (λ fault. absurd (cc))) in
        IfSome_then i.left answers.1 (λ bytes read. refused_with bytes (omega (arith, read.0)) (source bytes) refl read.1.0);
    solved = λ options line plain done.
        let answers = subst (λ r. Answers (Source (Solve options)) i o r) done (asks words result (commands.Solve options) ended line (λ usage. absurd (cc)) (λ fault. absurd (cc))) in
        IfSome_then i.left answers.1 (λ bytes read. solved_with options plain bytes (omega (arith, read.0)) (source bytes) refl read.1.0 read.1.1);
    spent = λ options line plain spent.
        let answers = subst (λ r. Answers (Source (Solve options)) i o r) spent (asks words result (commands.Solve options) ended line (λ usage. absurd (cc)) (λ fault. absurd (cc))) in
        IfSome_then i.left answers.1.1 (λ bytes read. spent_with options plain bytes (omega (arith, read.0)) (source bytes) refl read.1.0 read.1.1);
    listed = λ options line json done.
        let answers = subst (λ r. Answers (Source (Solve options)) i o r) done (asks words result (commands.Solve options) ended line (λ usage. absurd (cc)) (λ fault. absurd (cc))) in
        IfSome_then i.left answers.1 (λ bytes read. listed_with options json bytes (omega (arith, read.0)) (source bytes) refl read.1.0 read.1.1);
    listed_spent = λ options line json stops.
        let answers = subst (λ r. Answers (Source (Solve options)) i o r) stops (asks words result (commands.Solve options) ended line (λ usage. absurd (cc)) (λ fault. absurd (cc))) in
        IfSome_then i.left answers.1.1 (λ bytes read. listed_spent_with options json bytes (omega (arith, read.0)) (source bytes) refl read.1.0 read.1.1);
    resumed = λ options line done.
        let answers = subst (λ r. Answers (Stream (Resume options)) i o r) done (asks words result (commands.Resume options) ended line (λ usage. absurd (cc)) (λ fault. absurd (cc))) in
        IfSome_then i.left answers.1 (λ bytes read. resumed_with options bytes (omega (arith, read.0)) (spent bytes) refl read.1.0 read.1.1);
    resumed_spent = λ options line stops.
        let answers = subst (λ r. Answers (Stream (Resume options)) i o r) stops (asks words result (commands.Resume options) ended line (λ usage. absurd (cc)) (λ fault. absurd (cc))) in
        IfSome_then i.left answers.1.1 (λ bytes read. stays_with options bytes (omega (arith, read.0)) (spent bytes) refl read.1.0 read.1.1);
    worked = λ n line done.
        let answers = subst (λ r. Answers (Work n) i o r) done (asks words result (commands.Workload n) ended line (λ usage. absurd (cc)) (λ fault. absurd (cc))) in
        worked_with n (numbers words n line).1 (source (workload_source n)) refl answers.1.0 answers.1.1;
    worked_spent = λ n line stops.
        let answers = subst (λ r. Answers (Work n) i o r) stops (asks words result (commands.Workload n) ended line (λ usage. absurd (cc)) (λ fault. absurd (cc))) in
        worked_spent_with n (numbers words n line).1 (source (workload_source n)) refl answers.1.1.0 answers.1.1.1;
    checked = λ is done.
        let answers = subst (λ r. Answers (Stream Check) i o r) done (asks words result commands.Check ended (check_line words is) (λ usage. absurd (cc)) (λ fault. absurd (cc))) in
        IfSome_then i.left answers.1 (λ bytes read. checks decided bytes (omega (arith, read.0)) keep_chains all bases o (chain_verdict bytes) refl read.1.0 read.1.1);
    unchecked = λ is refused.
        let answers = subst (λ r. Answers (Stream Check) i o r) refused (asks words result commands.Check ended (check_line words is) (λ usage. absurd (cc)) (λ fault. absurd (cc))) in
        IfSome_then i.left answers.1 (λ bytes read. breaks decided bytes (omega (arith, read.0)) (chain_verdict bytes) refl read.1.0);
  }

-- and a workload reads nothing
pub unread_by_work : CommandLineLaw → (words : List (List ℕ)) (i : Incoming) (o : Outgoing) (result : Status) → EndsAs words i o result → IsUnreadByWork words i
unread_by_work lines words i o result (inl usage) = λ n line. usage.unread
unread_by_work lines words i o result (inr task) = λ n line. subst (λ c. LeavesInput (task_of c) i) (one_command lines words task.command (commands.Workload n) task.words_are line) task.unread
