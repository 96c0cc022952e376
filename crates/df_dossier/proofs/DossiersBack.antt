-- The text of a whole dossier, read back.
use Rattle.std.proofs.Common.{◌≡◌, ℕ, suc, ◌==◌, ◌+◌, ◌-◌, ◌<◌, ◌≤◌, ◌^◌, Bool, true, false, cond, nat_lt, List, [], ◌∷◌, ◌++◌, length, take, drop, map, Option, Some, None, option_map, ◌⊎◌, inl, inr, Result, Ok, codes, decimal, bytes_eq, refl, sym, ap, ◌∙◌, arith, tests, length-append, append_assoc}
use Rattle.std.specs.Prelude.{IfSome}
use Rattle.std.specs.List.{cons_option}
use Rattle.std.proofs.lemmas.Slice.Eq.{bytes_eq-Decides}
use Rattle.df_io.specs.Lines.{lines_of, tokens_of}
use Rattle.df_io.specs.Joined.{Each, Lacks, is_line_feed, spaced, text_of}
use Rattle.df_io.proofs.Joining.{tokens_back, line_front}
use Rattle.df_io.proofs.NumbersBack.{decimal_token}
use Rattle.df_walk.specs.declared.Rules.{Rules}
use Rattle.df_walk.specs.declared.Rules.TheVariants.{Plain, Divisor}
use Rattle.df_walk.specs.declared.Entry.{Entry}
use Rattle.df_walk.specs.declared.Entry.TheVariants.{Branch, Over, Under, Settled, Residue, Cut}
use Rattle.df_walk.specs.Paths.{WrittenPath}
use Rattle.df_lang.specs.Problems.{Stated}
use Rattle.df_lang.specs.Rules.{◌>>=◌}
use Rattle.df_dossier.specs.declared.judge.DossierFault.TheVariants as fault
use Rattle.df_dossier.specs.declared.judge.Awaits.TheVariants as awaits
use Rattle.df_dossier.specs.declared.judge.Judged.{Judged}
use Rattle.df_dossier.specs.declared.judge.Piece.{Piece}
use Rattle.df_dossier.specs.declared.judge.Piece.TheVariants as piece
use Rattle.df_dossier.specs.Tokens.{◌>>?◌}
use Rattle.df_dossier.specs.Entries.{entry_read, entry_tokens, entry_text}
use Rattle.df_dossier.specs.Paths.{past, path_tokens}
use Rattle.df_dossier.specs.Judging.{judged, judged_or, after_source, count_of, end_of, tokens_judged, log_judged, line_judged, next_of}
use Rattle.df_dossier.specs.Designs.{design_of, design_read, blocks_read}
use Rattle.df_dossier.specs.RoundTrips.{IsLogged}
use Rattle.df_dossier.specs.Dossiers.{Refusal, refused, Taken, Ending, Log, Dossier, begins, some_token, item_line, item_before, said_or, head_line, count_line, from_line, ending_by, end_line, log_from, start_from, stated_or, source_from, count_from, dossier_from, line_path, source_lines, whole}
use Rattle.df_dossier.specs.DossierTexts.{Logged, logged_text, head_tokens, count_tokens, start_text, spent_text, dossier_lines, IsRunPath, IsLoggedLine}
use Rattle.df_dossier.specs.DossiersBack.{ending_text, ending_piece, IsEnding, item_of, items_of, dossier_of, pieces_said, logged_piece, lines_pieces, DossiersReadBack}
use Rattle.df_dossier.proofs.NumbersRead.{within_back, word_token}
use Rattle.df_dossier.proofs.EntriesBack.{tokens_are, read_back, entries_back}
use Rattle.df_dossier.proofs.EndsBack.{finished_line, finished_back, spent_back}
use Rattle.df_dossier.proofs.Joins.{join_after}
use Rattle.df_dossier.proofs.PathsBack.{paths_back, path_tokens_are, spent_tokens}
use Rattle.df_dossier.proofs.PathTests.{path_said}
use Rattle.df_dossier.proofs.SpentSteps.{first_said, begins_with, design_said, entry_said}
use Rattle.df_dossier.proofs.SpentTexts.{head_back, take_back, drop_back, some_source}
use Rattle.df_dossier.proofs.LinesClean.{dossier_clean, end_line as end_line_clean}

-- the bytes of lines, and then others
text_front : (lines : List (List ℕ)) (more : List ℕ) → Each (Lacks is_line_feed) lines → lines_of (text_of lines ++ more) ≡ lines ++ lines_of more
text_front [] more each = refl
text_front (line ∷ lines) more each =
    ap lines_of (ap (λ t. t ++ more) (append_assoc line (10 ∷ []) (text_of lines)) ∙ append_assoc line (10 ∷ text_of lines) more)
    ∙ line_front line (text_of lines ++ more) each.0
    ∙ ap (λ l. line ∷ l) (text_front lines more each.1)

-- the tokens of the lines
count_tokens_back : (n : ℕ) → n < 2 ^ 64 → tokens_of (spaced (count_tokens n)) ≡ count_tokens n
count_tokens_back n small = tokens_back (count_tokens n) (word_token (codes "source") (omega arith) refl, (decimal_token n small, tt))

count_back : (n : ℕ) → 1 ≤ n → n < 2 ^ 64 → count_of (count_tokens n) ≡ Some n
count_back n some small = ap (λ o. o >>? λ n. Some n) (within_back 1 18446744073709551615 n some (omega (arith, small)) (omega arith))

start_tokens_back : (start : WrittenPath) → IsRunPath start → tokens_of (start_text start) ≡ codes "from" ∷ path_tokens start
start_tokens_back start is =
    ap tokens_of (sym (join_after (codes "from") (path_tokens start))) ∙ tokens_back (codes "from" ∷ path_tokens start) (word_token (codes "from") (omega arith) refl, path_tokens_are start is.written is.short)

-- an end line: its tokens, and what they say
end_behind : Ending WrittenPath → List (List ℕ)
end_behind e = by_next e.next where
  by_next : Option WrittenPath → List (List ℕ)
  by_next None = codes "finished" ∷ codes "designs" ∷ decimal e.designs ∷ codes "nodes" ∷ decimal e.nodes ∷ []
  by_next (Some next) = codes "spent" ∷ codes "designs" ∷ decimal e.designs ∷ codes "nodes" ∷ decimal e.nodes ∷ codes "next" ∷ path_tokens next

record EndIsRead (line : List ℕ) (e : Ending WrittenPath) : Type 0 where
  behind : List (List ℕ)
  tokens : tokens_of line ≡ codes "end" ∷ behind
  counts : end_of behind ≡ Some (ending_piece e)
  path : ending_by line_path line (ending_piece e) ≡ Some e

end_is_read : (e : Ending WrittenPath) → IsEnding e → EndIsRead (ending_text e) e
end_is_read e is = by_next e.designs e.nodes e.next (omega (arith, is.designs)) (omega (arith, is.nodes)) is.next where
  by_next : (designs nodes : ℕ) (next : Option WrittenPath) → designs < 2 ^ 64 → nodes < 2 ^ 64 → IfSome next IsRunPath
      → EndIsRead (ending_text record { designs = designs; nodes = nodes; next = next }) record { designs = designs; nodes = nodes; next = next }
  by_next designs nodes None few_designs few_nodes is = record {
    behind = codes "finished" ∷ codes "designs" ∷ decimal designs ∷ codes "nodes" ∷ decimal nodes ∷ [];
    tokens = finished_line designs nodes few_designs few_nodes;
    counts = finished_back designs nodes few_designs few_nodes;
    path = refl;
  }
  by_next designs nodes (Some next) few_designs few_nodes is = record {
    behind = codes "spent" ∷ codes "designs" ∷ decimal designs ∷ codes "nodes" ∷ decimal nodes ∷ codes "next" ∷ path_tokens next;
    tokens = spent_tokens next designs nodes is.written is.short few_designs few_nodes;
    counts = spent_back designs nodes few_designs few_nodes (path_tokens next);
    path = ap (option_map (λ w. record { designs = designs; nodes = nodes; next = Some w })) (path_said (spent_text designs nodes next) next ((paths_back next is.written is.short).spent designs nodes few_designs few_nodes));
  }

-- a line of a log: it has no tokens and says nothing, or it isn't an end line and says an item
record IsSilent (line : List ℕ) (o : Option (Entry ⊎ List (List ℕ))) (pc : Option Piece) : Type 0 where
  tokens : tokens_of line ≡ []
  item : o ≡ None
  piece : pc ≡ None

record SaysItem (rules : Rules) (p : Stated) (line : List ℕ) (o : Option (Entry ⊎ List (List ℕ))) (pc : Option Piece) : Type 0 where
  word : List ℕ
  behind : List (List ℕ)
  value : Entry ⊎ List (List ℕ)
  said : Piece
  tokens : tokens_of line ≡ word ∷ behind
  other : bytes_eq word (codes "end") ≡ false
  read : (number : ℕ) → item_line whole rules p number line ≡ Ok value
  told : log_judged rules word behind ≡ judged (awaits.Log rules) said
  item : o ≡ Some value
  piece : pc ≡ Some said

abbrev LoggedSays : Rules → Stated → List ℕ → Option (Entry ⊎ List (List ℕ)) → Option Piece → Type 0
LoggedSays rules p line o pc = IsSilent line o pc ⊎ SaysItem rules p line o pc

module _ (rules : Rules) (p : Stated) where
  says : {line : List ℕ} (word : List ℕ) (tokens : List (List ℕ)) (item : Entry ⊎ List (List ℕ)) (pc : Piece) → tokens_of line ≡ word ∷ tokens → bytes_eq word (codes "end") ≡ false
      → ((number : ℕ) → item_line whole rules p number line ≡ Ok item) → log_judged rules word tokens ≡ judged (awaits.Log rules) pc → LoggedSays rules p line (Some item) (Some pc)
  says word tokens item pc are other read told =
      inr record { word = word; behind = tokens; value = item; said = pc; tokens = are; other = other; read = read; told = told; item = refl; piece = refl }

  entry_says : (e : Entry) (word : List ℕ) (tokens : List (List ℕ)) → IsLogged rules e → entry_tokens e ≡ word ∷ tokens → bytes_eq word (codes "end") ≡ false → bytes_eq word (codes "design") ≡ false
      → LoggedSays rules p (entry_text e) (Some (inl e)) (Some (piece.Entry e))
  entry_says e word tokens is are end design =
      let all = tokens_back (entry_tokens e) (tokens_are rules e is) ∙ are in
      let read : entry_read rules (word ∷ tokens) ≡ Some e = ap (entry_read rules) (sym are) ∙ read_back rules e is in
      says word tokens (inl e) (piece.Entry e) all end
      (λ number. entry_said rules p number (entry_text e) [] (Some e) (begins_with rules p number (entry_text e) [] (codes "design") word tokens false all design) (entries_back rules e is))
      (ap (λ b. cond b (judged (awaits.Log rules) piece.Design) (cond (bytes_eq word (codes "end")) (judged_or fault.BadEnd (option_map (judged awaits.Next) (end_of tokens))) (judged_or fault.BadEntry (option_map (λ e. judged (awaits.Log rules) (piece.Entry e)) (entry_read rules (word ∷ tokens)))))) design
      ∙ ap (λ b. cond b (judged_or fault.BadEnd (option_map (judged awaits.Next) (end_of tokens))) (judged_or fault.BadEntry (option_map (λ e. judged (awaits.Log rules) (piece.Entry e)) (entry_read rules (word ∷ tokens))))) end
      ∙ ap (λ o. judged_or fault.BadEntry (option_map (λ e. judged (awaits.Log rules) (piece.Entry e)) o)) read)

  design_says : (line : List ℕ) (blocks : List (List ℕ)) → design_of p line ≡ Some blocks → LoggedSays rules p line (Some (inr blocks)) (Some piece.Design)
  design_says line blocks is = by_tokens (tokens_of line) refl where
    by_word : (word : List ℕ) (tokens : List (List ℕ)) (b : Bool) → tokens_of line ≡ word ∷ tokens → bytes_eq word (codes "design") ≡ b → LoggedSays rules p line (Some (inr blocks)) (Some piece.Design)
    by_word word tokens true are first =
        let end : bytes_eq word (codes "end") ≡ false = ap (λ w. bytes_eq w (codes "end")) ((bytes_eq-Decides word (codes "design")).0 first) in
        says word tokens (inr blocks) piece.Design are end
        (λ number. design_said rules p number line [] (Some blocks) (begins_with rules p number line [] (codes "design") word tokens true are first) is)
        (ap (λ b. cond b (judged (awaits.Log rules) piece.Design) (cond (bytes_eq word (codes "end")) (judged_or fault.BadEnd (option_map (judged awaits.Next) (end_of tokens))) (judged_or fault.BadEntry (option_map (λ e. judged (awaits.Log rules) (piece.Entry e)) (entry_read rules (word ∷ tokens)))))) first)
    by_word word tokens false are first =
        let none : design_of p line ≡ None = ap (design_read p) are ∙ ap (λ b. cond b (Some tokens) None >>? blocks_read p) first in absurd (cc)

    by_tokens : (ts : List (List ℕ)) → tokens_of line ≡ ts → LoggedSays rules p line (Some (inr blocks)) (Some piece.Design)
    by_tokens [] are = let none : design_of p line ≡ None = ap (design_read p) are in absurd (cc)
    by_tokens (word ∷ tokens) are = by_word word tokens (bytes_eq word (codes "design")) are refl

  logged_says : (x : Logged) → IsLoggedLine rules p x → LoggedSays rules p (logged_text x) (item_of p x) (logged_piece x)
  logged_says (inl (inl (Branch column))) is = entry_says (Branch column) _ _ is refl refl refl
  logged_says (inl (inl (Over row))) is = entry_says (Over row) _ _ is refl refl refl
  logged_says (inl (inl (Under row))) is = entry_says (Under row) _ _ is refl refl refl
  logged_says (inl (inl Settled)) is = entry_says Settled _ _ is refl refl refl
  logged_says (inl (inl (Residue row m))) is = entry_says (Residue row m) _ _ is refl refl refl
  logged_says (inl (inl (Cut ws))) is = entry_says (Cut ws) _ _ is refl refl refl
  logged_says (inl (inr line)) is = rw is.1 (design_says line is.0 is.1)
  logged_says (inr comment) is = inl record { tokens = refl; item = refl; piece = refl }

  -- the log by the grammar
  abbrev Taking : Type 0
  Taking = Result (Taken (Log WrittenPath (List (List ℕ)))) Refusal

  abbrev log_by : ℕ → List ℕ → List (List ℕ) → List (List ℕ) → Bool → Result (Entry ⊎ List (List ℕ)) Refusal → Taking
  log_by number line lines ts ends item =
      cond (some_token ts)
      (cond ends (said_or fault.BadEnd number lines (option_map (λ end. record { items = []; end = end }) (end_line whole line))) (item >>= λ item. log_from whole rules p (number + 1) lines >>= λ more. Ok (item_before item more)))
      (log_from whole rules p (number + 1) lines)

  abbrev log_taken : List (Entry ⊎ List (List ℕ)) → Ending WrittenPath → ℕ → List (List ℕ) → Taking
  log_taken items end number after = Ok record { value = record { items = items; end = end }; number = number; after = after }

  log_step : (line : List ℕ) (o : Option (Entry ⊎ List (List ℕ))) (pc : Option Piece) → LoggedSays rules p line o pc → (number n : ℕ) (lines after : List (List ℕ)) (items : List (Entry ⊎ List (List ℕ))) (end : Ending WrittenPath)
      → log_from whole rules p (number + 1) lines ≡ log_taken items end n after → log_from whole rules p number (line ∷ lines) ≡ log_taken (cons_option o items) end n after
  log_step line o pc (inl silent) number n lines after items end more =
      ap (λ ts. log_by number line lines ts (begins (codes "end") line) (item_line whole rules p number line)) silent.tokens
      ∙ more
      ∙ ap (λ o. log_taken (cons_option o items) end n after) (sym silent.item)
  log_step line o pc (inr says) number n lines after items end more =
      ap (λ ts. log_by number line lines ts (begins (codes "end") line) (item_line whole rules p number line)) says.tokens
      ∙ ap (λ b. log_by number line lines (says.word ∷ says.behind) b (item_line whole rules p number line)) (begins_with rules p number line lines (codes "end") says.word says.behind false says.tokens says.other)
      ∙ ap (log_by number line lines (says.word ∷ says.behind) false) (says.read number)
      ∙ ap (λ (r : Taking). r >>= λ more. Ok (item_before says.value more)) more
      ∙ ap (λ o. log_taken (cons_option o items) end n after) (sym says.item)

  log_last : (line : List ℕ) (e : Ending WrittenPath) → EndIsRead line e → (number : ℕ) (lines : List (List ℕ)) → log_from whole rules p number (line ∷ lines) ≡ log_taken [] e number lines
  log_last line e is number lines =
      let end_is : end_line whole line ≡ Some e =
      ap (λ ts. past (codes "end") ts >>? end_of >>? ending_by line_path line) is.tokens ∙ ap (λ o. o >>? ending_by line_path line) is.counts ∙ is.path in
      ap (λ ts. log_by number line lines ts (begins (codes "end") line) (item_line whole rules p number line)) is.tokens
      ∙ ap (λ b. log_by number line lines (codes "end" ∷ is.behind) b (item_line whole rules p number line)) (begins_with rules p number line lines (codes "end") (codes "end") is.behind true is.tokens refl)
      ∙ ap (λ o. said_or fault.BadEnd number lines (option_map (λ end. record { items = []; end = end }) o)) end_is

  log_taken_back : (log : List Logged) → Each (IsLoggedLine rules p) log → (line : List ℕ) (e : Ending WrittenPath) → EndIsRead line e → (number : ℕ) (lines : List (List ℕ))
      → log_from whole rules p number (map logged_text log ++ line ∷ lines) ≡ log_taken (items_of p log) e (number + length log) lines
  log_taken_back [] each line e is number lines = log_last line e is number lines ∙ ap (λ n. log_taken [] e n lines) (omega arith)
  log_taken_back (x ∷ log) each line e is number lines =
      log_step (logged_text x) (item_of p x) (logged_piece x) (logged_says x each.0) number (number + 1 + length log) (map logged_text log ++ line ∷ lines) lines (items_of p log) e (log_taken_back log each.1 line e is (number + 1) lines)
      ∙ ap (λ n. log_taken (items_of p (x ∷ log)) e n lines) (omega arith)

  -- the log by the judge
  abbrev said_then : Option Judged → List (List ℕ) → List (Option Piece)
  said_then o lines = option_map (λ j. j.piece) o ∷ pieces_said (next_of (awaits.Log rules) o) lines

  judge_step : (line : List ℕ) (o : Option (Entry ⊎ List (List ℕ))) (pc : Option Piece) → LoggedSays rules p line o pc → (lines : List (List ℕ))
      → pieces_said (awaits.Log rules) (line ∷ lines) ≡ pc ∷ pieces_said (awaits.Log rules) lines
  judge_step line o pc (inl silent) lines =
      ap (λ ts. said_then (tokens_judged (awaits.Log rules) ts) lines) silent.tokens ∙ ap (λ pc. pc ∷ pieces_said (awaits.Log rules) lines) (sym silent.piece)
  judge_step line o pc (inr says) lines =
      ap (λ ts. said_then (tokens_judged (awaits.Log rules) ts) lines) says.tokens
      ∙ ap (λ j. said_then (Some j) lines) says.told
      ∙ ap (λ pc. pc ∷ pieces_said (awaits.Log rules) lines) (sym says.piece)

  judge_last : (line : List ℕ) (e : Ending WrittenPath) → EndIsRead line e → (lines : List (List ℕ)) → pieces_said (awaits.Log rules) (line ∷ lines) ≡ Some (ending_piece e) ∷ pieces_said awaits.Next lines
  judge_last line e is lines =
      ap (λ ts. said_then (tokens_judged (awaits.Log rules) ts) lines) is.tokens
      ∙ ap (λ o. said_then (Some (judged_or fault.BadEnd (option_map (judged awaits.Next) o))) lines) is.counts

  judge_log : (log : List Logged) → Each (IsLoggedLine rules p) log → (line : List ℕ) (e : Ending WrittenPath) → EndIsRead line e → (lines : List (List ℕ))
      → pieces_said (awaits.Log rules) (map logged_text log ++ line ∷ lines) ≡ map logged_piece log ++ Some (ending_piece e) ∷ pieces_said awaits.Next lines
  judge_log [] each line e is lines = judge_last line e is lines
  judge_log (x ∷ log) each line e is lines =
      judge_step (logged_text x) (item_of p x) (logged_piece x) (logged_says x each.0) (map logged_text log ++ line ∷ lines)
      ∙ ap (λ l. logged_piece x ∷ l) (judge_log log each.1 line e is lines)

-- the source lines by the judge, one or more
more_source : (rules : Rules) (n : ℕ) → after_source rules (suc (suc n)) ≡ awaits.Source rules (suc n)
more_source rules n =
    let more : (suc (suc n) == 1) ≡ false = grind (arith, tests) in
    let next : suc (suc n) - 1 ≡ suc n = omega arith in
    ap (λ b. cond b (awaits.From rules) (awaits.Source rules (suc (suc n) - 1))) more ∙ ap (awaits.Source rules) next

judge_source : (rules : Rules) (line : List ℕ) (source lines : List (List ℕ))
    → pieces_said (awaits.Source rules (length (line ∷ source))) ((line ∷ source) ++ lines) ≡ map (λ l. Some piece.SourceLine) (line ∷ source) ++ pieces_said (awaits.From rules) lines
judge_source rules line [] lines = refl
judge_source rules line (next ∷ source) lines =
    ap (λ a. Some piece.SourceLine ∷ pieces_said a ((next ∷ source) ++ lines)) (more_source rules (length source)) ∙ ap (λ l. Some piece.SourceLine ∷ l) (judge_source rules next source lines)

-- the head, by either place where it may stand
judge_head : (rules : Rules) (lines : List (List ℕ)) → pieces_said awaits.First (spaced (head_tokens rules) ∷ lines) ≡ Some (piece.Head rules) ∷ pieces_said (awaits.Count rules) lines
judge_head Plain lines = refl
judge_head Divisor lines = refl

judge_later : (rules : Rules) (lines : List (List ℕ)) → pieces_said awaits.Next (spaced (head_tokens rules) ∷ lines) ≡ Some (piece.Head rules) ∷ pieces_said (awaits.Count rules) lines
judge_later Plain lines = refl
judge_later Divisor lines = refl

judge_count : (rules : Rules) (n : ℕ) → 1 ≤ n → n < 2 ^ 64 → (lines : List (List ℕ)) → pieces_said (awaits.Count rules) (spaced (count_tokens n) ∷ lines) ≡ Some (piece.SourceCount n) ∷ pieces_said (awaits.Source rules n) lines
judge_count rules n some small lines =
    let o : line_judged (awaits.Count rules) (spaced (count_tokens n)) ≡ Some (judged (awaits.Source rules n) (piece.SourceCount n)) =
    ap (tokens_judged (awaits.Count rules)) (count_tokens_back n small) ∙ ap (λ o. Some (judged_or fault.BadHead (option_map (λ n. judged (awaits.Source rules n) (piece.SourceCount n)) o))) (count_back n some small) in
    ap (λ o. option_map (λ j. j.piece) o ∷ pieces_said (next_of (awaits.Count rules) o) lines) o

judge_start : (rules : Rules) (start : WrittenPath) → IsRunPath start → (lines : List (List ℕ)) → pieces_said (awaits.From rules) (start_text start ∷ lines) ≡ Some piece.RunFrom ∷ pieces_said (awaits.Log rules) lines
judge_start rules start is lines =
    let o : line_judged (awaits.From rules) (start_text start) ≡ Some (judged (awaits.Log rules) piece.RunFrom) = ap (tokens_judged (awaits.From rules)) (start_tokens_back start is) in
    ap (λ o. option_map (λ j. j.piece) o ∷ pieces_said (next_of (awaits.From rules) o) lines) o

-- the lines of a dossier, and then others
module _ (rules : Rules) (source : List (List ℕ)) (p : Stated) (start : WrittenPath) (log : List Logged) (e : Ending WrittenPath)
    (states : source_lines source ≡ Ok p) (few : length source < 2 ^ 64) (is_start : IsRunPath start) (each : Each (IsLoggedLine rules p) log) (is_end : IsEnding e) where
  abbrev behind_source : List (List ℕ) → List (List ℕ)
  behind_source lines = start_text start ∷ (map logged_text log ++ ending_text e ∷ lines)

  joined : (lines : List (List ℕ)) → dossier_lines rules source start log (ending_text e) ++ lines ≡ spaced (head_tokens rules) ∷ spaced (count_tokens (length source)) ∷ (source ++ behind_source lines)
  joined lines =
      ap (λ l. spaced (head_tokens rules) ∷ spaced (count_tokens (length source)) ∷ l)
      (append_assoc source (start_text start ∷ (map logged_text log ++ ending_text e ∷ [])) lines
      ∙ ap (λ l. source ++ start_text start ∷ l) (append_assoc (map logged_text log) (ending_text e ∷ []) lines))

  some : 1 ≤ length source
  some = some_source source p states

  -- by the grammar
  abbrev Read : Type 0
  Read = Result (Taken (Dossier Stated WrittenPath (List (List ℕ)))) Refusal

  start_read : (number : ℕ) (lines : List (List ℕ)) → start_from whole rules source p number (behind_source lines) ≡ Ok record { value = dossier_of rules source p start log e; number = number + 1 + length log; after = lines }
  start_read number lines =
      let tokens = start_tokens_back start is_start in
      let says : from_line whole (start_text start) ≡ Some start =
      ap (λ ts. past (codes "from") ts >>? λ rest. line_path (start_text start)) tokens ∙ path_said (start_text start) start (paths_back start is_start.written is_start.short).begins in
      ap (λ (r : Result (Taken WrittenPath) Refusal). r >>= λ start. log_from whole rules p (start.number + 1) start.after >>= λ log. Ok record { value = record { rules = rules; source = source; problem = p; start = start.value; log = log.value }; number = log.number; after = log.after })
      (first_said fault.BadHead (from_line whole) number (start_text start) (map logged_text log ++ ending_text e ∷ lines) (codes "from") (path_tokens start) start tokens says)
      ∙ ap (λ (r : Result (Taken (Log WrittenPath (List (List ℕ)))) Refusal). r >>= λ log. Ok record { value = record { rules = rules; source = source; problem = p; start = start; log = log.value }; number = log.number; after = log.after })
      (log_taken_back rules p log each (ending_text e) e (end_is_read e is_end) (number + 1) lines)

  source_read : (number : ℕ) (lines : List (List ℕ)) → source_from whole rules number (length source) (source ++ behind_source lines) ≡ Ok record { value = dossier_of rules source p start log e; number = number + 2 + length source + length log; after = lines }
  source_read number lines =
      let short : nat_lt (length (source ++ behind_source lines)) (length source) ≡ false = grind (arith, tests, length-append source (behind_source lines)) in
      ap (λ b. source_by b (take (length source) (source ++ behind_source lines)) (drop (length source) (source ++ behind_source lines))) short
      ∙ ap (λ l. source_by false l (drop (length source) (source ++ behind_source lines))) (take_back source (behind_source lines))
      ∙ ap (λ l. source_by false source l) (drop_back source (behind_source lines))
      ∙ ap (λ r. stated_or number r >>= λ p. start_from whole rules source p (number + 1 + length source) (behind_source lines)) states
      ∙ start_read (number + 1 + length source) lines
      ∙ ap (λ n. taken n) (omega arith) where
        taken : ℕ → Read
        taken n = Ok record { value = dossier_of rules source p start log e; number = n; after = lines }

        source_by : Bool → List (List ℕ) → List (List ℕ) → Read
        source_by short first later = cond short (refused 0 fault.BadHead) (stated_or number (source_lines first) >>= λ p. start_from whole rules first p (number + 1 + length source) later)

  count_read : (number : ℕ) (lines : List (List ℕ)) → count_from whole rules number (spaced (count_tokens (length source)) ∷ (source ++ behind_source lines)) ≡ Ok record { value = dossier_of rules source p start log e; number = number + 2 + length source + length log; after = lines }
  count_read number lines =
      let tokens = count_tokens_back (length source) few in
      ap (λ (r : Result (Taken ℕ) Refusal). r >>= λ count. source_from whole rules count.number count.value count.after)
      (first_said fault.BadHead count_line number (spaced (count_tokens (length source))) (source ++ behind_source lines) (codes "source") (decimal (length source) ∷ []) (length source) tokens (ap count_of tokens ∙ count_back (length source) some few))
      ∙ source_read number lines

  head_said : head_line (spaced (head_tokens rules)) ≡ Some rules
  head_said = by_rules rules where
    by_rules : (rules : Rules) → head_line (spaced (head_tokens rules)) ≡ Some rules
    by_rules Plain = refl
    by_rules Divisor = refl

  dossier_read : (number : ℕ) (lines : List (List ℕ)) → dossier_from whole number (dossier_lines rules source start log (ending_text e) ++ lines) ≡ Ok record { value = dossier_of rules source p start log e; number = number + 3 + length source + length log; after = lines }
  dossier_read number lines =
      ap (dossier_from whole number) (joined lines)
      ∙ ap (λ (r : Result (Taken Rules) Refusal). r >>= λ head. count_from whole head.value (head.number + 1) head.after)
      (first_said fault.BadHead head_line number (spaced (head_tokens rules)) (spaced (count_tokens (length source)) ∷ (source ++ behind_source lines)) (codes "dossier") (rules_behind rules) rules (head_back_as rules) head_said)
      ∙ count_read (number + 1) lines
      ∙ ap (λ n. taken n) (omega arith) where
        taken : ℕ → Read
        taken n = Ok record { value = dossier_of rules source p start log e; number = n; after = lines }

        rules_behind : Rules → List (List ℕ)
        rules_behind Plain = codes "1" ∷ []
        rules_behind Divisor = codes "2" ∷ []

        head_back_as : (rules : Rules) → tokens_of (spaced (head_tokens rules)) ≡ codes "dossier" ∷ rules_behind rules
        head_back_as Plain = head_back Plain
        head_back_as Divisor = head_back Divisor

  -- by the judge
  abbrev pieces_behind : List (List ℕ) → List (Option Piece)
  pieces_behind lines = Some piece.RunFrom ∷ (map logged_piece log ++ Some (ending_piece e) ∷ pieces_said awaits.Next lines)

  pieces_joined : (lines : List (List ℕ)) → lines_pieces rules source log e ++ pieces_said awaits.Next lines ≡ Some (piece.Head rules) ∷ Some (piece.SourceCount (length source)) ∷ (map (λ line. Some piece.SourceLine) source ++ pieces_behind lines)
  pieces_joined lines =
      ap (λ l. Some (piece.Head rules) ∷ Some (piece.SourceCount (length source)) ∷ l)
      (append_assoc (map (λ line. Some piece.SourceLine) source) (Some piece.RunFrom ∷ (map logged_piece log ++ Some (ending_piece e) ∷ [])) (pieces_said awaits.Next lines)
      ∙ ap (λ l. map (λ line. Some piece.SourceLine) source ++ Some piece.RunFrom ∷ l) (append_assoc (map logged_piece log) (Some (ending_piece e) ∷ []) (pieces_said awaits.Next lines)))

  judge_sources : (lines : List (List ℕ)) → pieces_said (awaits.Source rules (length source)) (source ++ lines) ≡ map (λ l. Some piece.SourceLine) source ++ pieces_said (awaits.From rules) lines
  judge_sources lines = by_source source some where
    by_source : (source : List (List ℕ)) → 1 ≤ length source → pieces_said (awaits.Source rules (length source)) (source ++ lines) ≡ map (λ l. Some piece.SourceLine) source ++ pieces_said (awaits.From rules) lines
    by_source [] some = absurd (omega arith)
    by_source (line ∷ source) some = judge_source rules line source lines

  judge_behind : (lines : List (List ℕ)) → pieces_said (awaits.Count rules) (spaced (count_tokens (length source)) ∷ (source ++ behind_source lines)) ≡ Some (piece.SourceCount (length source)) ∷ (map (λ line. Some piece.SourceLine) source ++ pieces_behind lines)
  judge_behind lines =
      judge_count rules (length source) some few (source ++ behind_source lines)
      ∙ ap (λ l. Some (piece.SourceCount (length source)) ∷ l)
      (judge_sources (behind_source lines)
      ∙ ap (λ l. map (λ line. Some piece.SourceLine) source ++ l)
      (judge_start rules start is_start (map logged_text log ++ ending_text e ∷ lines)
      ∙ ap (λ l. Some piece.RunFrom ∷ l) (judge_log rules p log each (ending_text e) e (end_is_read e is_end) lines)))

  judge_first : (lines : List (List ℕ)) → pieces_said awaits.First (dossier_lines rules source start log (ending_text e) ++ lines) ≡ lines_pieces rules source log e ++ pieces_said awaits.Next lines
  judge_first lines =
      ap (pieces_said awaits.First) (joined lines)
      ∙ judge_head rules (spaced (count_tokens (length source)) ∷ (source ++ behind_source lines))
      ∙ ap (λ l. Some (piece.Head rules) ∷ l) (judge_behind lines)
      ∙ sym (pieces_joined lines)

  judge_next : (lines : List (List ℕ)) → pieces_said awaits.Next (dossier_lines rules source start log (ending_text e) ++ lines) ≡ lines_pieces rules source log e ++ pieces_said awaits.Next lines
  judge_next lines =
      ap (pieces_said awaits.Next) (joined lines)
      ∙ judge_later rules (spaced (count_tokens (length source)) ∷ (source ++ behind_source lines))
      ∙ ap (λ l. Some (piece.Head rules) ∷ l) (judge_behind lines)
      ∙ sym (pieces_joined lines)

pub dossiers_back : DossiersReadBack
dossiers_back rules source p start log e states few lines is_start each one is_end =
    let small : length source < 2 ^ 64 = omega (arith, few) in record {
      text = λ more. text_front (dossier_lines rules source start log (ending_text e)) more (dossier_clean rules source p start log (ending_text e) small lines is_start each one (end_line_clean e is_end));
      first = judge_first rules source p start log e states small is_start each is_end;
      later = judge_next rules source p start log e states small is_start each is_end;
      parts = dossier_read rules source p start log e states small is_start each is_end;
    }
