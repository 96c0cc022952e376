-- The lines of a spent dossier, read back.
use Rattle.std.proofs.Common.{◌≡◌, ℕ, ◌+◌, ◌<◌, ◌≤◌, ◌^◌, Bool, true, false, cond, nat_lt, List, [], ◌∷◌, ◌++◌, length, take, drop, map, Some, None, option_map, inl, inr, Result, Ok, codes, decimal, bytes_eq, refl, sym, ap, ◌∙◌, arith, tests, length-append}
use Rattle.std.proofs.lemmas.Slice.Eq.{bytes_eq-Decides}
use Rattle.df_io.specs.Lines.{tokens_of}
use Rattle.df_io.specs.Joined.{Each, spaced}
use Rattle.df_io.proofs.Joining.{tokens_back}
use Rattle.df_io.proofs.NumbersBack.{decimal_token}
use Rattle.df_walk.specs.declared.Rules.{Rules}
use Rattle.df_walk.specs.declared.Rules.TheVariants.{Plain, Divisor}
use Rattle.df_walk.specs.declared.Entry.{Entry}
use Rattle.df_walk.specs.declared.Entry.TheVariants.{Branch, Over, Under, Settled, Residue, Cut}
use Rattle.df_walk.specs.Paths.{WrittenPath}
use Rattle.df_lang.specs.Problems.{Stated}
use Rattle.df_lang.specs.Rules.{◌>>=◌}
use Rattle.df_lang.specs.Sources.{from_line, whole as whole_source}
use Rattle.df_dossier.specs.declared.judge.Piece.TheVariants as piece
use Rattle.df_dossier.specs.declared.judge.DossierFault.TheVariants as fault
use Rattle.df_dossier.specs.declared.spent.Spent.{Spent}
use Rattle.df_dossier.specs.declared.stages.Stage.TheVariants as stage
use Rattle.df_dossier.specs.Tokens.{◌>>?◌}
use Rattle.df_dossier.specs.Entries.{entry_tokens, entry_text}
use Rattle.df_dossier.specs.Paths.{past, path_tokens}
use Rattle.df_dossier.specs.Judging.{end_of, count_of, named_count, Counted}
use Rattle.df_dossier.specs.Designs.{design_of, design_read, blocks_read}
use Rattle.df_dossier.specs.RoundTrips.{IsLogged}
use Rattle.df_dossier.specs.Dossiers.{Refusal, refused, source_lines, start_from, stated_or, whole}
use Rattle.df_dossier.specs.Spent.{spent_alone, source_rest, start_rest, log_rest, rest_from, IsEndLine}
use Rattle.df_dossier.specs.DossierTexts.{Logged, logged_text, head_tokens, count_tokens, start_text, spent_text, IsRunPath, IsLoggedLine, SpentReadBack}
use Rattle.df_dossier.proofs.NumbersRead.{within_back, word_token}
use Rattle.df_dossier.proofs.EntriesBack.{tokens_are, entries_back}
use Rattle.df_dossier.proofs.Joins.{join_after}
use Rattle.df_dossier.proofs.PathsBack.{paths_back, path_tokens_are, spent_tokens}
use Rattle.df_dossier.proofs.PathTests.{path_said}
use Rattle.df_dossier.proofs.SpentSteps.{head_said, count_said, start_said, log_blank, log_passed, log_end, entry_said, design_said, end_said, begins_with, start_alone}

-- the tokens of the head
pub head_back : (rules : Rules) → tokens_of (spaced (head_tokens rules)) ≡ head_tokens rules
head_back Plain = tokens_back (head_tokens Plain) (word_token (codes "dossier") (omega arith) refl, (word_token (codes "1") (omega arith) refl, tt))
head_back Divisor = tokens_back (head_tokens Divisor) (word_token (codes "dossier") (omega arith) refl, (word_token (codes "2") (omega arith) refl, tt))

head_first : (rules : Rules) (number : ℕ) (lines : List (List ℕ)) → rest_from stage.Head number (spaced (head_tokens rules) ∷ lines) ≡ rest_from (stage.Count rules) (number + 1) lines
head_first Plain number lines = head_said number (spaced (head_tokens Plain)) lines (codes "dossier") (codes "1" ∷ []) Plain (head_back Plain) refl
head_first Divisor number lines = head_said number (spaced (head_tokens Divisor)) lines (codes "dossier") (codes "2" ∷ []) Divisor (head_back Divisor) refl

-- the number of source lines
count_first : (rules : Rules) (number n : ℕ) (lines : List (List ℕ)) → 1 ≤ n → n < 2 ^ 64 → rest_from (stage.Count rules) number (spaced (count_tokens n) ∷ lines) ≡ source_rest rules number n [] (number + 1) lines
count_first rules number n lines some small =
    let tokens = tokens_back (count_tokens n) (word_token (codes "source") (omega arith) refl, (decimal_token n small, tt)) in
    let count : count_of (count_tokens n) ≡ Some n = ap (λ o. o >>? λ n. Some n) (within_back 1 18446744073709551615 n some (omega (arith, small)) (omega arith)) in
    count_said rules number (spaced (count_tokens n)) lines (codes "source") (decimal n ∷ []) n tokens count

abbrev with_count : List (List ℕ) → ℕ → Counted
with_count more n = record { n = n; more = more }

pub take_back : (xs ys : List (List ℕ)) → take (length xs) (xs ++ ys) ≡ xs
take_back [] ys = refl
take_back (x ∷ xs) ys = ap (λ l. x ∷ l) (take_back xs ys)

pub drop_back : (xs ys : List (List ℕ)) → drop (length xs) (xs ++ ys) ≡ ys
drop_back [] ys = refl
drop_back (x ∷ xs) ys = drop_back xs ys

-- the source lines
module _ (rules : Rules) (at : ℕ) (source : List (List ℕ)) (p : Stated) (says : source_lines source ≡ Ok p) (number : ℕ) (lines : List (List ℕ)) where
  abbrev source_by : Bool → List (List ℕ) → List (List ℕ) → Result Spent Refusal
  source_by short taken after =
      cond short (refused 0 fault.BadHead) (stated_or at (source_lines taken) >>= λ p. start_from whole rules taken p (number + length source) after >>= spent_alone)

  source_first : source_rest rules at (length source) [] number (source ++ lines) ≡ start_rest rules p (number + length source) lines
  source_first =
      let short : nat_lt (length (source ++ lines)) (length source) ≡ false = grind (arith, tests, length-append source lines) in
      ap (λ b. source_by b (take (length source) (source ++ lines)) (drop (length source) (source ++ lines))) short
      ∙ ap (λ l. source_by false l (drop (length source) (source ++ lines))) (take_back source lines)
      ∙ ap (λ l. source_by false source l) (drop_back source lines)
      ∙ ap (λ r. stated_or at r >>= λ p. start_from whole rules source p (number + length source) lines >>= spent_alone) says
      ∙ start_alone rules source p (number + length source) lines

-- the `from` line
start_first : (rules : Rules) (p : Stated) (start : WrittenPath) → IsRunPath start → (number : ℕ) (lines : List (List ℕ)) → start_rest rules p number (start_text start ∷ lines) ≡ log_rest rules p (number + 1) lines
start_first rules p start is number lines =
    let tokens = ap tokens_of (sym (join_after (codes "from") (path_tokens start))) ∙ tokens_back (codes "from" ∷ path_tokens start) (word_token (codes "from") (omega arith) refl, path_tokens_are start is.written is.short) in
    start_said rules p number (start_text start) lines (codes "from") (path_tokens start) start tokens refl (path_said (start_text start) start (paths_back start is.written is.short).begins)

module _ (rules : Rules) (p : Stated) where
  -- an entry line, by its first token
  entry_passed : (e : Entry) (word : List ℕ) (tokens : List (List ℕ)) → IsLogged rules e → entry_tokens e ≡ word ∷ tokens → bytes_eq word (codes "end") ≡ false → bytes_eq word (codes "design") ≡ false → (number : ℕ) (lines : List (List ℕ))
      → log_rest rules p number (entry_text e ∷ lines) ≡ log_rest rules p (number + 1) lines
  entry_passed e word tokens is are end design number lines =
      let all = tokens_back (entry_tokens e) (tokens_are rules e is) ∙ are in
      log_passed rules p number (entry_text e) lines word tokens (inl e) all
      (begins_with rules p number (entry_text e) lines (codes "end") word tokens false all end)
      (entry_said rules p number (entry_text e) lines (Some e) (begins_with rules p number (entry_text e) lines (codes "design") word tokens false all design) (entries_back rules e is))

  design_passed : (line : List ℕ) (blocks : List (List ℕ)) → design_of p line ≡ Some blocks → (number : ℕ) (lines : List (List ℕ)) → log_rest rules p number (line ∷ lines) ≡ log_rest rules p (number + 1) lines
  design_passed line blocks is number lines = by_tokens (tokens_of line) refl where
    by_word : (word : List ℕ) (tokens : List (List ℕ)) (b : Bool) → tokens_of line ≡ word ∷ tokens → bytes_eq word (codes "design") ≡ b → log_rest rules p number (line ∷ lines) ≡ log_rest rules p (number + 1) lines
    by_word word tokens true are first =
        let end : bytes_eq word (codes "end") ≡ false = ap (λ w. bytes_eq w (codes "end")) ((bytes_eq-Decides word (codes "design")).0 first) in
        log_passed rules p number line lines word tokens (inr blocks) are
        (begins_with rules p number line lines (codes "end") word tokens false are end)
        (design_said rules p number line lines (Some blocks) (begins_with rules p number line lines (codes "design") word tokens true are first) is)
    by_word word tokens false are first =
        let none : design_of p line ≡ None = ap (design_read p) are ∙ ap (λ b. cond b (Some tokens) None >>? blocks_read p) first in absurd (cc)

    by_tokens : (ts : List (List ℕ)) → tokens_of line ≡ ts → log_rest rules p number (line ∷ lines) ≡ log_rest rules p (number + 1) lines
    by_tokens [] are = let none : design_of p line ≡ None = ap (design_read p) are in absurd (cc)
    by_tokens (word ∷ tokens) are = by_word word tokens (bytes_eq word (codes "design")) are refl

  passed : (x : Logged) → IsLoggedLine rules p x → (number : ℕ) (lines : List (List ℕ)) → log_rest rules p number (logged_text x ∷ lines) ≡ log_rest rules p (number + 1) lines
  passed (inl (inl (Branch column))) is number lines = entry_passed (Branch column) _ _ is refl refl refl number lines
  passed (inl (inl (Over row))) is number lines = entry_passed (Over row) _ _ is refl refl refl number lines
  passed (inl (inl (Under row))) is number lines = entry_passed (Under row) _ _ is refl refl refl number lines
  passed (inl (inl Settled)) is number lines = entry_passed Settled _ _ is refl refl refl number lines
  passed (inl (inl (Residue row m))) is number lines = entry_passed (Residue row m) _ _ is refl refl refl number lines
  passed (inl (inl (Cut ws))) is number lines = entry_passed (Cut ws) _ _ is refl refl refl number lines
  passed (inl (inr line)) is number lines = design_passed line is.0 is.1 number lines
  passed (inr comment) is number lines = log_blank rules p number (35 ∷ comment) lines refl

  log_all : (log : List Logged) → Each (IsLoggedLine rules p) log → (end : List ℕ) (answer : Result Spent Refusal) → ((number : ℕ) → log_rest rules p number (end ∷ []) ≡ answer) → (number : ℕ)
      → log_rest rules p number (map logged_text log ++ end ∷ []) ≡ answer
  log_all [] each end answer ends number = ends number
  log_all (x ∷ log) each end answer ends number =
      passed x each.0 number (map logged_text log ++ end ∷ []) ∙ log_all log each.1 end answer ends (number + 1)

  -- the end line
  end_last : (designs nodes : ℕ) (next : WrittenPath) → designs < 2 ^ 64 → nodes < 2 ^ 64 → IsRunPath next → (number : ℕ) → log_rest rules p number (spent_text designs nodes next ∷ []) ≡ Ok record { problem = p; path = next; rules = rules }
  end_last designs nodes next few_designs few_nodes is number =
      let line = spent_text designs nodes next in
      let behind = codes "next" ∷ path_tokens next in
      let tokens = codes "spent" ∷ codes "designs" ∷ decimal designs ∷ codes "nodes" ∷ decimal nodes ∷ behind in
      let are : tokens_of line ≡ codes "end" ∷ tokens = spent_tokens next designs nodes is.written is.short few_designs few_nodes in
      let counts : IsEndLine line (piece.End false designs nodes) =
      ap (λ ts. past (codes "end") ts >>? end_of) are
      ∙ ap (λ o. option_map (with_count (codes "nodes" ∷ decimal nodes ∷ behind)) o >>? λ designs. named_count (codes "nodes") designs.more >>? λ nodes. option_map (λ path. piece.End false designs.n nodes.n) (past (codes "next") nodes.more)) (within_back 0 18446744073709551615 designs (omega arith) (omega (arith, few_designs)) (omega arith))
      ∙ ap (λ o. option_map (with_count behind) o >>? λ nodes. option_map (λ path. piece.End false designs nodes.n) (past (codes "next") nodes.more)) (within_back 0 18446744073709551615 nodes (omega arith) (omega (arith, few_nodes)) (omega arith))
      in
      let has = (paths_back next is.written is.short).spent designs nodes few_designs few_nodes in
      log_end rules p number line [] (codes "end") tokens are (begins_with rules p number line [] (codes "end") (codes "end") tokens true are refl)
      ∙ end_said rules p number line [] (piece.End false designs nodes) (Some record { designs = designs; nodes = nodes; next = Some next }) counts (ap (option_map (λ w. record { designs = designs; nodes = nodes; next = Some w })) (path_said line next has))

-- some line states a problem
pub some_source : (lines : List (List ℕ)) (p : Stated) → source_lines lines ≡ Ok p → 1 ≤ length lines
unfolding from_line whole_source
some_source [] p is = absurd (cc)
some_source (line ∷ lines) p is = omega arith

pub spent_back : SpentReadBack
spent_back rules source p start log designs nodes next says small starts each few_designs few_nodes ends =
    let n = length source in
    let after_start = map logged_text log ++ spent_text designs nodes next ∷ [] in
    let after_source = start_text start ∷ after_start in
    head_first rules 1 (spaced (count_tokens n) ∷ (source ++ after_source))
    ∙ count_first rules 2 n (source ++ after_source) (some_source source p says) (omega (arith, small))
    ∙ source_first rules 2 source p says 3 after_source
    ∙ start_first rules p start starts (3 + n) after_start
    ∙ log_all rules p log each (spent_text designs nodes next) (Ok record { problem = p; path = next; rules = rules }) (end_last rules p designs nodes next (omega (arith, few_designs)) (omega (arith, few_nodes)) ends) (3 + n + 1)
