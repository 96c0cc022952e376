-- Logs that searches wrote: joined they are a chain of dossiers, and so they are complete.
use Rattle.std.proofs.Common.{◌≡◌, ℕ, ◌≤◌, Bool, List, [], ◌∷◌, ◌++◌, length, map, Option, Some, None, Ok, refl, sym, ap, ◌∙◌, subst, arith}
use Rattle.std.specs.List.{AllByRecursion}
use Rattle.df_io.specs.Lines.{lines_of}
use Rattle.df_io.specs.declared.bytes.TheConstants.{MOST_BYTES}
use Rattle.df_walk.specs.declared.Rules.{Rules}
use Rattle.df_walk.specs.declared.Rules.TheVariants.{Divisor}
use Rattle.df_walk.specs.Paths.{IsNode}
use Rattle.df_runs.specs.Runs.{run_of}
use Rattle.df_runs.specs.Chains.{chain_stop, legs_of}
use Rattle.df_lang.specs.Problems.{Stated, IsStated}
use Rattle.df_lang.specs.RulesLaw.{SourcesKeepTheirRules}
use Rattle.df_kramer_mesner.specs.OrbitSystems.{orbit_system}
use Rattle.df_dossier.specs.SpentRules.{SpentKeepTheirRules}
use Rattle.df_dossier.specs.declared.numbers.TheConstants.{MOST_COUNT}
use Rattle.df_check.specs.ChainLaws.{ChainsAreDecided}
use Rattle.df_tell.specs.OwnLogs.{ShownLeg, legs_in, chain_text, AreOwnLogs, IsChainOf, OwnLogsAreChains}
use Rattle.df_tell.specs.Run.{run_text}
use Rattle.df_words.specs.declared.command.Options.{Options}
use Rattle.df_run.specs.Answers.{answer_checked, shown_by}
use Rattle.df_run.specs.Chains.{searches, budgets_of, AreBudgets, AreLogged, last_stop, joined_texts, IsComplete, ChainsAreAnswered, OwnLogsAreComplete}
use Rattle.df_run.specs.Limits.{matrix_limit}
use Rattle.df_run.proofs.EntryLimits.{no_limit}

module _ (rules : Rules) where
  -- the run of a search
  abbrev own_leg : Options → ShownLeg
  own_leg o = record { leg = record { rules = rules; budget = o.budget }; blocks = o.blocks }

  legs_are : (options : List Options) → legs_in (map own_leg options) ≡ legs_of rules (budgets_of options)
  legs_are [] = refl
  legs_are (o ∷ more) = ap (λ l. (own_leg o).leg ∷ l) (legs_are more)

  are_same : (options : List Options) → AllByRecursion (λ (r : ShownLeg). r.leg.rules ≡ rules) (map own_leg options)
  are_same [] = tt
  are_same (o ∷ more) = (refl, are_same more)

  are_low : (options : List Options) → AreBudgets options → AllByRecursion (λ (r : ShownLeg). r.leg.budget ≤ MOST_COUNT) (map own_leg options)
  are_low [] low = tt
  are_low (o ∷ more) low = (omega (arith, low.0), are_low more low.1)

  -- the texts of the searches are those of the runs
  texts_are : (s : Stated) (options : List Options) (stop : Option (List Bool)) → AreLogged options → chain_text s stop (map own_leg options) ≡ joined_texts (searches rules s stop options)
  texts_are s options None logged = refl
  texts_are s [] (Some p) logged = refl
  texts_are s (o ∷ more) (Some p) logged =
      let run = run_of rules (orbit_system s) p o.budget in
      ap (λ log. run_text rules s (record { log = log; blocks = o.blocks }) p run ++ chain_text s run.stop (map own_leg more)) (sym logged.0)
      ∙ ap (λ rest. run_text rules s (shown_by o) p run ++ rest) (texts_are s more run.stop logged.1)

module _ (chains : OwnLogsAreChains) (decided : ChainsAreDecided) (rules : Rules) (s : Stated) (kept : IsStated s) (fits : matrix_limit s ≡ None) (options : List Options) (low : AreBudgets options) (logged : AreLogged options) (finished : last_stop rules s [] options ≡ None) where
  own_logs : AreOwnLogs s (map (own_leg rules) options)
  own_logs = record {
    stated = kept;
    within = no_limit s fits;
    budgets = are_low rules options low;
    finished = ap (chain_stop (orbit_system s) (Some [])) (legs_are rules options) ∙ finished;
  }

  complete : (text : List ℕ) → text ≡ joined_texts (searches rules s (Some []) options) → length text ≤ MOST_BYTES → IsComplete s text
  complete text is few =
      let same : chain_text s (Some []) (map (own_leg rules) options) ≡ text = texts_are rules s options (Some []) logged ∙ sym is in
      let c = subst (λ t. IsChainOf s (lines_of t)) same (chains.same_rules rules s (map (own_leg rules) options) (are_same rules options) own_logs) in
      ap answer_checked ((decided text few).only c.chain ∙ ap (λ designs. Ok (length designs)) c.designs)

module _ (answered : ChainsAreAnswered) (chains : OwnLogsAreChains) (decided : ChainsAreDecided) (keep : SourcesKeepTheirRules) (keep_spent : SpentKeepTheirRules) where
  pub own_logs_complete : OwnLogsAreComplete
  own_logs_complete = record {
    solved = λ bytes s first more plain few is fits low logged finished short.
        let chain = answered.solved bytes s first more plain few is fits low in
        complete chains decided Divisor s (keep bytes s few is) fits (first ∷ more) low logged finished _ (ap joined_texts chain.answers_are) short;
    resumed = λ bytes d first more few is fits empty node low logged finished short.
        let at_start = subst (IsNode d.rules (orbit_system d.problem)) (sym empty) node in
        let chain = answered.resumed bytes d first more few is fits at_start low in
        let answers = chain.answers_are ∙ ap (λ p. searches d.rules d.problem (Some p) (first ∷ more)) empty in
        complete chains decided d.rules d.problem (keep_spent bytes d few is) fits (first ∷ more) low logged finished _ (ap joined_texts answers) short;
  }
