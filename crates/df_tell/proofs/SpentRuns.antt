-- The text of a run, as the text of a dossier's lines.
use Rattle.std.proofs.Common.{◌≡◌, ℕ, Bool, true, false, cond, List, [], ◌∷◌, ◌++◌, length, map, Option, Some, None, option_map, codes, inl, inr, refl, sym, ap, ◌∙◌, append_assoc, append-nil}
use Rattle.std.specs.List.{flat_map}
use Rattle.std.proofs.lemmas.Grind.{flat_map-append}
use Rattle.std.proofs.lemmas.List.{map-append}
use Rattle.df_lists.specs.Membership.{In}
use Rattle.df_lists.proofs.MemberLaws.{In-filter_gives}
use Rattle.df_subsets.specs.SetLaws.{AreSets}
use Rattle.df_subsets.specs.SubsetLaws.{SubsetsAreAll, CandidatesAreAll}
use Rattle.df_io.specs.Joined.{Each, Lacks, is_line_feed, text_of, spaced}
use Rattle.df_io.proofs.Joining.{lacks_onto}
use Rattle.df_walk.specs.declared.Rules.{Rules}
use Rattle.df_walk.specs.declared.Rules.TheVariants.{Plain, Divisor}
use Rattle.df_walk.specs.declared.Entry.{Entry}
use Rattle.df_walk.specs.Walks.{Step, solution_of, solutions_in, nodes_in}
use Rattle.df_walk.specs.Paths.{WrittenPath, written_path}
use Rattle.df_runs.specs.Runs.{Run}
use Rattle.df_lang.specs.Problems.{Stated, IsStated, IsBlock, point_count}
use Rattle.df_lang.specs.Canonical.{canonical, block_text}
use Rattle.df_lang.specs.RoundTrip.{PointsReadBack}
use Rattle.df_kramer_mesner.specs.OrbitSystems.{all_blocks, has_in_orbit, columns_of, orbit_system}
use Rattle.df_kramer_mesner.proofs.OrbitBlocks.{block_sized, stated_block}
use Rattle.df_families.specs.Families.{picked}
use Rattle.df_correspondence.specs.Designs.{design, base}
use Rattle.df_dossier.specs.Entries.{entry_text}
use Rattle.df_dossier.specs.Paths.{path_text, end_tokens}
use Rattle.df_dossier.specs.Designs.{design_text}
use Rattle.df_dossier.specs.RoundTrips.{IsLogged}
use Rattle.df_dossier.specs.DesignsBack.{DesignReadsBack, DesignsReadBack}
use Rattle.df_dossier.specs.Dossiers.{Ending}
use Rattle.df_dossier.specs.DossierTexts.{Logged, logged_text, head_tokens, count_tokens, start_text, dossier_lines, IsLoggedLine}
use Rattle.df_dossier.specs.DossiersBack.{ending_text}
use Rattle.df_dossier.specs.TextsBack.{IsOneLine}
use Rattle.df_tell.specs.declared.run.Shown.{Shown}
use Rattle.df_tell.specs.Counts.{count_line}
use Rattle.df_tell.specs.Canonical.{canonical_text}
use Rattle.df_tell.specs.Run.{head_text, source_text, from_text, design_line, block_comment, comment_lines, design_lines, solution_lines, entry_line, step_lines, end_text, run_text}

-- the lines of a step
abbrev logged_entry : Shown → Entry → List Logged
logged_entry shown e = cond shown.log (inl (inl e) ∷ []) []

abbrev pub comment_of : Stated → List ℕ → Logged
comment_of s block = inr (codes " block " ++ block_text s.group block)

abbrev pub logged_comments : Shown → Stated → List (List ℕ) → List Logged
logged_comments shown s blocks = cond shown.blocks (map (comment_of s) blocks) []

abbrev logged_design : Shown → Stated → List (List ℕ) → List Logged
logged_design shown s blocks = inl (inr (design_text s.group (base s blocks))) ∷ logged_comments shown s blocks

abbrev pub logged_solution : Shown → Stated → Option (List Bool) → List Logged
logged_solution shown s None = []
logged_solution shown s (Some x) = logged_design shown s (design s x)

abbrev pub logged_step : Shown → Stated → Step → List Logged
logged_step shown s step = logged_entry shown step.1 ++ logged_solution shown s (solution_of (orbit_system s) step)

-- the lines of the steps of a run
abbrev pub logged : Shown → Stated → List Step → List Logged
logged shown s steps = flat_map (logged_step shown s) steps

-- their text
abbrev texts : List Logged → List ℕ
texts log = text_of (map logged_text log)

texts_both : (a b : List Logged) → texts (a ++ b) ≡ texts a ++ texts b
texts_both a b = ap text_of (map-append logged_text a b) ∙ flat_map-append (λ line. line ++ 10 ∷ []) (map logged_text a) (map logged_text b)

entry_texts : (shown : Shown) (e : Entry) → texts (logged_entry shown e) ≡ entry_line shown e
entry_texts shown e = by_log shown.log
  where
    by_log : (b : Bool) → texts (cond b (inl (inl e) ∷ []) []) ≡ cond b (entry_text e ++ 10 ∷ []) []
    by_log true = append-nil (entry_text e ++ 10 ∷ [])
    by_log false = refl

comments_texts : (s : Stated) (blocks : List (List ℕ)) → texts (map (comment_of s) blocks) ≡ flat_map (block_comment s) blocks
unfolding block_comment
comments_texts s [] = refl
comments_texts s (b ∷ bs) = ap (λ l. ((codes "# block " ++ block_text s.group b) ++ 10 ∷ []) ++ l) (comments_texts s bs)

comment_texts : (shown : Shown) (s : Stated) (blocks : List (List ℕ)) → texts (logged_comments shown s blocks) ≡ comment_lines shown s blocks
comment_texts shown s blocks = by_shown shown.blocks
  where
    by_shown : (b : Bool) → texts (cond b (map (comment_of s) blocks) []) ≡ cond b (flat_map (block_comment s) blocks) []
    by_shown true = comments_texts s blocks
    by_shown false = refl

design_texts : (shown : Shown) (s : Stated) (blocks : List (List ℕ)) → texts (logged_design shown s blocks) ≡ design_lines shown s blocks
unfolding design_line
design_texts shown s blocks =
    ap (λ l. (design_text s.group (base s blocks) ++ 10 ∷ []) ++ l) (comment_texts shown s blocks)

solution_texts : (shown : Shown) (s : Stated) (o : Option (List Bool)) → texts (logged_solution shown s o) ≡ solution_lines shown s o
solution_texts shown s None = refl
solution_texts shown s (Some x) = design_texts shown s (design s x)

step_texts : (shown : Shown) (s : Stated) (step : Step) → texts (logged_step shown s step) ≡ step_lines shown s step
step_texts shown s step =
    let o = solution_of (orbit_system s) step in
    texts_both (logged_entry shown step.1) (logged_solution shown s o)
    ∙ ap (λ l. l ++ texts (logged_solution shown s o)) (entry_texts shown step.1)
    ∙ ap (λ l. entry_line shown step.1 ++ l) (solution_texts shown s o)

steps_texts : (shown : Shown) (s : Stated) (steps : List Step) → texts (logged shown s steps) ≡ flat_map (step_lines shown s) steps
steps_texts shown s [] = refl
steps_texts shown s (step ∷ steps) =
    texts_both (logged_step shown s step) (logged shown s steps)
    ∙ ap (λ l. l ++ texts (logged shown s steps)) (step_texts shown s step)
    ∙ ap (λ l. step_lines shown s step ++ l) (steps_texts shown s steps)

-- the head and the number of source lines
head_texts : (rules : Rules) → spaced (head_tokens rules) ++ 10 ∷ [] ≡ head_text rules
head_texts Plain = refl
head_texts Divisor = refl

count_texts : (n : ℕ) → spaced (count_tokens n) ++ 10 ∷ [] ≡ count_line (codes "source ") n
unfolding count_line
count_texts n = refl

-- lines, and then others
lines_then : (a b : List (List ℕ)) → text_of (a ++ b) ≡ text_of a ++ text_of b
lines_then a b = flat_map-append (λ line. line ++ 10 ∷ []) a b

last_line : (line : List ℕ) → text_of (line ∷ []) ≡ line ++ 10 ∷ []
last_line line = append-nil (line ++ 10 ∷ [])

-- how a run ended that took these steps
abbrev pub ending : Stated → List Step → Option (List Bool) → Ending WrittenPath
ending s steps stop =
    record { designs = length (solutions_in (orbit_system s) steps); nodes = length (nodes_in steps); next = option_map written_path stop }

-- the text of a run that ended so
module _ (rules : Rules) (s : Stated) (shown : Shown) (p : List Bool) (stop : Option (List Bool)) (steps : List Step) where
  abbrev end : List ℕ
  end = ending_text (ending s steps stop)

  abbrev end_bytes : List ℕ
  end_bytes = end_text (length (solutions_in (orbit_system s) steps)) (length (nodes_in steps)) stop

  abbrev log : List Logged
  log = logged shown s steps

  end_is : text_of (end ∷ []) ≡ end_bytes
  end_is = by_stop stop
    where
      by_stop : (o : Option (List Bool)) → text_of (ending_text (ending s steps o) ∷ []) ≡ end_text (length (solutions_in (orbit_system s) steps)) (length (nodes_in steps)) o
      by_stop None = last_line (ending_text (ending s steps None))
      by_stop (Some q) = last_line (ending_text (ending s steps (Some q))) ∙ append_assoc (spaced (end_tokens false (length (solutions_in (orbit_system s) steps)) (length (nodes_in steps)))) (path_text (written_path q)) (10 ∷ [])

  log_is : text_of (map logged_text log ++ end ∷ []) ≡ flat_map (step_lines shown s) steps ++ end_bytes
  log_is = lines_then (map logged_text log) (end ∷ []) ∙ ap (λ l. l ++ text_of (end ∷ [])) (steps_texts shown s steps) ∙ ap (λ l. flat_map (step_lines shown s) steps ++ l) end_is

  start_is : text_of (start_text (written_path p) ∷ (map logged_text log ++ end ∷ [])) ≡ from_text p ++ (flat_map (step_lines shown s) steps ++ end_bytes)
  start_is = ap (λ l. (start_text (written_path p) ++ 10 ∷ []) ++ l) log_is

  source_is : text_of (canonical s ++ start_text (written_path p) ∷ (map logged_text log ++ end ∷ [])) ≡ canonical_text s ++ (from_text p ++ (flat_map (step_lines shown s) steps ++ end_bytes))
  source_is = lines_then (canonical s) (start_text (written_path p) ∷ (map logged_text log ++ end ∷ [])) ∙ ap (λ l. canonical_text s ++ l) start_is

  pub text_is : (run : Run) → run.taken ≡ steps → run.stop ≡ stop → text_of (dossier_lines rules (canonical s) (written_path p) log end) ≡ run_text rules s shown p run
  text_is run taken stopped =
      let rest = from_text p ++ (flat_map (step_lines shown s) steps ++ end_bytes) in
      ap (λ l. (spaced (head_tokens rules) ++ 10 ∷ []) ++ ((spaced (count_tokens (length (canonical s))) ++ 10 ∷ []) ++ l)) source_is
      ∙ ap (λ l. l ++ ((spaced (count_tokens (length (canonical s))) ++ 10 ∷ []) ++ (canonical_text s ++ rest))) (head_texts rules)
      ∙ ap (λ l. head_text rules ++ (l ++ (canonical_text s ++ rest))) (count_texts (length (canonical s)))
      ∙ ap (λ l. head_text rules ++ l) (sym (append_assoc (count_line (codes "source ") (length (canonical s))) (canonical_text s) rest))
      ∙ ap (λ l. head_text rules ++ (source_text s ++ (from_text p ++ (flat_map (step_lines shown s) l ++ end_text (length (solutions_in (orbit_system s) l)) (length (nodes_in l)) stop)))) (sym taken)
      ∙ ap (λ o. head_text rules ++ (source_text s ++ (from_text p ++ (flat_map (step_lines shown s) run.taken ++ end_text (length (solutions_in (orbit_system s) run.taken)) (length (nodes_in run.taken)) o)))) (sym stopped)

-- a line that is read as it is meant, and is one
abbrev IsRead : Rules → Stated → Logged → Type 0
IsRead rules s x = IsLoggedLine rules s x × IsOneLine x

each_in : {X : Type 0} (P : X → Type 0) (xs : List X) → ((x : X) → In xs x → P x) → Each P xs
each_in P [] all = tt
each_in P (x ∷ xs) all = (all x (inl refl), each_in P xs (λ y i. all y (inr i)))

both_read : (rules : Rules) (s : Stated) (a b : List Logged) → Each (IsRead rules s) a → Each (IsRead rules s) b → Each (IsRead rules s) (a ++ b)
both_read rules s [] b left right = right
both_read rules s (x ∷ a) b left right = (left.0, both_read rules s a b left.1 right)

pub each_first : (rules : Rules) (s : Stated) (log : List Logged) → Each (IsRead rules s) log → Each (IsLoggedLine rules s) log
each_first rules s [] each = tt
each_first rules s (x ∷ log) each = (each.0.0, each_first rules s log each.1)

pub each_second : (rules : Rules) (s : Stated) (log : List Logged) → Each (IsRead rules s) log → Each IsOneLine log
each_second rules s [] each = tt
each_second rules s (x ∷ log) each = (each.0.1, each_second rules s log each.1)

-- the text of a comment of a block
comment_line : (text : List ℕ) → Lacks is_line_feed text → Lacks is_line_feed (codes " block " ++ text)
comment_line text lacks =
    lacks_onto is_line_feed 32 (codes "block " ++ text) refl (lacks_onto is_line_feed 98 (codes "lock " ++ text) refl (lacks_onto is_line_feed 108 (codes "ock " ++ text) refl (lacks_onto is_line_feed 111 (codes "ck " ++ text) refl (
    lacks_onto is_line_feed 99 (codes "k " ++ text) refl (lacks_onto is_line_feed 107 (codes " " ++ text) refl (lacks_onto is_line_feed 32 text refl lacks))
    ))))

module _ (rules : Rules) (s : Stated) (is : IsStated s) (shown : Shown) (sets : AreSets) (all : SubsetsAreAll) (some : CandidatesAreAll) (points : PointsReadBack) (designs : DesignsReadBack) where
  abbrev IsHere : List ℕ → Type 0
  IsHere block = IsBlock (point_count s) s.sizes block

  block_is : (x : List Bool) (block : List ℕ) → In (design s x) block → IsHere block
  block_is x block i = stated_block sets s block (block_sized all some s is block (In-filter_gives (has_in_orbit s (picked (columns_of s) x)) (all_blocks s) block i).0)

  base_is : (x : List Bool) (block : List ℕ) → In (base s (design s x)) block → IsHere block
  base_is x block i = block_is x block (In-filter_gives _ (design s x) block i).0

  comment_read : (block : List ℕ) → IsHere block → IsRead rules s (comment_of s block)
  comment_read block here = (tt, comment_line (block_text s.group block) (points s is block here).line)

  comments_read : (blocks : List (List ℕ)) → Each IsHere blocks → Each (IsRead rules s) (logged_comments shown s blocks)
  comments_read blocks each = by_shown shown.blocks
    where
      all_read : (blocks : List (List ℕ)) → Each IsHere blocks → Each (IsRead rules s) (map (comment_of s) blocks)
      all_read [] each = tt
      all_read (b ∷ bs) each = (comment_read b each.0, all_read bs each.1)

      by_shown : (b : Bool) → Each (IsRead rules s) (cond b (map (comment_of s) blocks) [])
      by_shown true = all_read blocks each
      by_shown false = tt

  -- the line of a design is read as its base blocks
  pub base_read : (x : List Bool) → DesignReadsBack s (base s (design s x))
  base_read x = designs s is (base s (design s x)) (each_in IsHere (base s (design s x)) (base_is x))

  solution_read : (o : Option (List Bool)) → Each (IsRead rules s) (logged_solution shown s o)
  solution_read None = tt
  solution_read (Some x) =
      let line = base_read x in
      (((base s (design s x), line.read), line.line), comments_read (design s x) (each_in IsHere (design s x) (block_is x)))

  entry_read : (e : Entry) → IsLogged rules e → Each (IsRead rules s) (logged_entry shown e)
  entry_read e is = by_log shown.log
    where
      by_log : (b : Bool) → Each (IsRead rules s) (cond b (inl (inl e) ∷ []) [])
      by_log true = ((is, tt), tt)
      by_log false = tt

  -- each line of a run is read, where its entries may stand in a dossier
  pub steps_read : (steps : List Step) → ((step : Step) → In steps step → IsLogged rules step.1) → Each (IsRead rules s) (logged shown s steps)
  steps_read [] are = tt
  steps_read (step ∷ steps) are =
      both_read rules s (logged_step shown s step) (logged shown s steps)
      (both_read rules s (logged_entry shown step.1) (logged_solution shown s (solution_of (orbit_system s) step)) (entry_read step.1 (are step (inl refl))) (solution_read (solution_of (orbit_system s) step)))
      (steps_read steps (λ other i. are other (inr i)))
