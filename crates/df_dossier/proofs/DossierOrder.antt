-- The pieces of a whole dossier, and of those after it.
use Rattle.std.proofs.Common.{◌≡◌, ℕ, zero, suc, ◌+◌, ◌≤◌, ◌<◌, ◌&&◌, Bool, true, false, cond, nat_lt, nat_le, List, [], ◌∷◌, ◌++◌, length, take, drop, map, Option, Some, None, IfSome, IfOk, Result, Ok, Err, codes, refl, sym, ap, subst, ◌∙◌, arith, tests, append_assoc}
use Rattle.std.proofs.lemmas.List.{length-take-le}
use Rattle.df_io.specs.Lines.{tokens_of}
use Rattle.df_io.specs.Number.{number_read}
use Rattle.df_io.specs.declared.numbers.NumberRead.{NumberRead}
use Rattle.df_io.specs.declared.numbers.NumberRead.TheVariants.{Value, NotDigits, TooLarge}
use Rattle.df_walk.specs.declared.Rules.{Rules}
use Rattle.df_lang.specs.Rules.{◌>>=◌}
use Rattle.df_dossier.specs.declared.numbers.TheConstants.{MOST_COUNT}
use Rattle.df_dossier.specs.declared.judge.Awaits.TheVariants as awaits
use Rattle.df_dossier.specs.declared.judge.DossierFault.{DossierFault}
use Rattle.df_dossier.specs.declared.judge.DossierFault.TheVariants as fault
use Rattle.df_dossier.specs.declared.judge.Piece.{Piece}
use Rattle.df_dossier.specs.declared.judge.Piece.TheVariants as piece
use Rattle.df_dossier.specs.Tokens.{◌>>?◌, first_then, ending, within, number_within}
use Rattle.df_dossier.specs.Paths.{past}
use Rattle.df_dossier.specs.Judging.{judged, tokens_judged}
use Rattle.df_dossier.specs.Dossiers.{Refusal, refused, Taken, Log, some_token, has_tokens, said_or, first_line, head_line, count_line, from_line, log_from, start_from, source_from, count_from, dossier_from}
use Rattle.df_dossier.specs.Pieces.{Pieces, only, piece_then, pieces_from}
use Rattle.df_dossier.specs.DossierPieces.{NotRead, order, log_pieces, BeginsWith, SaysDossier, AreBlank, PiecesOfDossiers}
use Rattle.df_dossier.proofs.PieceSteps.{then_some, pieces_skip}
use Rattle.df_dossier.proofs.DossierSteps.{begins_append, badly_after, AtFirst, head_pieces, count_pieces, start_pieces, AtLog, log_at, source_short, source_whole}

-- at least one source line is stated
counted : (v : NumberRead) (more : List (List ℕ)) → IfSome (within 1 MOST_COUNT v >>? λ n. ending more n) (λ n. 1 ≤ n)
counted (Value n) more = by_test (nat_le 1 n) (nat_le n MOST_COUNT) refl more where
  by_test : (a b : Bool) → nat_le 1 n ≡ a → (more : List (List ℕ)) → IfSome (cond (a && b) (Some n) None >>? λ n. ending more n) (λ n. 1 ≤ n)
  by_test true true least [] = grind (arith, tests)
  by_test true true least (token ∷ more) = tt
  by_test true false least more = tt
  by_test false b least more = tt
counted NotDigits more = tt
counted TooLarge more = tt

some_counted : (line : List ℕ) → IfSome (count_line line) (λ n. 1 ≤ n)
some_counted line = then_some (past (codes "source") (tokens_of line)) (λ rest. first_then rest (λ token more. number_within 1 MOST_COUNT token >>? λ n. ending more n)) (λ n. 1 ≤ n) by_rest where
  by_rest : (rest : List (List ℕ)) → IfSome (first_then rest (λ token more. number_within 1 MOST_COUNT token >>? λ n. ending more n)) (λ n. 1 ≤ n)
  by_rest [] = tt
  by_rest (token ∷ more) = counted (number_read token) more

first_has : {A : Type 0} (f : DossierFault) (read : List ℕ → Option A) (P : A → Type 0) → ((line : List ℕ) → IfSome (read line) P) → (number : ℕ) (lines : List (List ℕ)) → IfOk (first_line f read number lines) (λ t. P t.value)
first_has f read P all number [] = tt
first_has f read P all number (line ∷ lines) = by_tokens (has_tokens line) (first_has f read P all (number + 1) lines) where
  told : (o : Option _) → IfSome o P → IfOk (said_or f number lines o) (λ t. P t.value)
  told None has = tt
  told (Some x) has = has

  by_tokens : (b : Bool) → IfOk (first_line f read (number + 1) lines) (λ t. P t.value) → IfOk (cond b (said_or f number lines (read line)) (first_line f read (number + 1) lines)) (λ t. P t.value)
  by_tokens true later = told (read line) (all line)
  by_tokens false later = later

-- the parts of a dossier after some pieces
module _ (rules : Rules) (source : List (List ℕ)) (number : ℕ) (lines : List (List ℕ)) (ps : Pieces)
    (front : BeginsWith (piece.Head rules ∷ piece.SourceCount (length source) ∷ map (λ line. piece.SourceLine) source) (pieces_from (awaits.From rules) number lines) ps) where
  abbrev before : List Piece
  before = piece.Head rules ∷ piece.SourceCount (length source) ∷ map (λ line. piece.SourceLine) source

  with_log : (start : Taken NotRead) (r : Result (Taken (Log NotRead NotRead)) Refusal) (mid : Pieces) → BeginsWith (before ++ piece.RunFrom ∷ []) mid ps → AtLog r mid
      → SaysDossier (r >>= λ log. Ok record { value = record { rules = rules; source = source; problem = tt; start = start.value; log = log.value }; number = log.number; after = log.after }) ps
  with_log start (Ok log) mid first at =
      subst (λ said. BeginsWith said (pieces_from awaits.Next (log.number + 1) log.after) ps) (append_assoc before (piece.RunFrom ∷ []) (log_pieces log.value))
      (begins_append (before ++ piece.RunFrom ∷ []) (log_pieces log.value) (pieces_from awaits.Next (log.number + 1) log.after) mid ps first at)
  with_log start (Err e) mid first at = badly_after (before ++ piece.RunFrom ∷ []) e mid ps first at

  with_start : (r : Result (Taken NotRead) Refusal) → AtFirst (λ (start : NotRead). judged (awaits.Log rules) piece.RunFrom) r (pieces_from (awaits.From rules) number lines)
      → SaysDossier (r >>= λ start. log_from order rules tt (start.number + 1) start.after >>= λ log. Ok record { value = record { rules = rules; source = source; problem = tt; start = start.value; log = log.value }; number = log.number; after = log.after }) ps
  with_start (Ok start) at =
      let mid = pieces_from (awaits.Log rules) (start.number + 1) start.after in
      with_log start (log_from order rules tt (start.number + 1) start.after) mid (begins_append before (piece.RunFrom ∷ []) mid (pieces_from (awaits.From rules) number lines) ps front at) (log_at rules (start.number + 1) start.after)
  with_start (Err e) at = badly_after before e (pieces_from (awaits.From rules) number lines) ps front at

  start_says : SaysDossier (start_from order rules source tt number lines) ps
  start_says = with_start (first_line fault.BadHead (from_line order) number lines) (start_pieces rules number lines)

source_says : (rules : Rules) (number n : ℕ) (lines : List (List ℕ)) (ps : Pieces) → 1 ≤ n → BeginsWith (piece.Head rules ∷ piece.SourceCount n ∷ []) (pieces_from (awaits.Source rules n) (number + 1) lines) ps
    → SaysDossier (source_from order rules number n lines) ps
source_says rules number zero lines ps some front = absurd (omega (arith, some))
source_says rules number (suc m) lines ps some front = by_length (nat_lt (length lines) (suc m)) refl where
  by_length : (b : Bool) → nat_lt (length lines) (suc m) ≡ b → SaysDossier (cond b (refused 0 fault.BadHead) (start_from order rules (take (suc m) lines) tt (number + 1 + suc m) (drop (suc m) lines))) ps
  by_length true short =
      let few : length lines < suc m = grind (arith, tests) in
      badly_after (piece.Head rules ∷ piece.SourceCount (suc m) ∷ []) record { line = 0; fault = fault.BadHead } (pieces_from (awaits.Source rules (suc m)) (number + 1) lines) ps front (source_short rules m (number + 1) lines few)
  by_length false short =
      let whole : suc m ≤ length lines = grind (arith, tests) in
      let rest = pieces_from (awaits.From rules) (number + 1 + suc m) (drop (suc m) lines) in
      let taken : length (take (suc m) lines) ≡ suc m = length-take-le (suc m) lines whole in
      start_says rules (take (suc m) lines) (number + 1 + suc m) (drop (suc m) lines) ps
      (subst (λ k. BeginsWith (piece.Head rules ∷ piece.SourceCount k ∷ map (λ line. piece.SourceLine) (take (suc m) lines)) rest ps) (sym taken)
      (begins_append (piece.Head rules ∷ piece.SourceCount (suc m) ∷ []) (map (λ line. piece.SourceLine) (take (suc m) lines)) rest (pieces_from (awaits.Source rules (suc m)) (number + 1) lines) ps front (source_whole rules m (number + 1) lines whole)))

count_says : (rules : Rules) (number : ℕ) (lines : List (List ℕ)) (ps : Pieces) → BeginsWith (piece.Head rules ∷ []) (pieces_from (awaits.Count rules) number lines) ps → SaysDossier (count_from order rules number lines) ps
count_says rules number lines ps front = by_count (first_line fault.BadHead count_line number lines) (count_pieces rules number lines) (first_has fault.BadHead count_line (λ n. 1 ≤ n) some_counted number lines) where
  by_count : (r : Result (Taken ℕ) Refusal) → AtFirst (λ n. judged (awaits.Source rules n) (piece.SourceCount n)) r (pieces_from (awaits.Count rules) number lines) → IfOk r (λ t. 1 ≤ t.value)
      → SaysDossier (r >>= λ count. source_from order rules count.number count.value count.after) ps
  by_count (Ok t) at some =
      source_says rules t.number t.value t.after ps some
      (begins_append (piece.Head rules ∷ []) (piece.SourceCount t.value ∷ []) (pieces_from (awaits.Source rules t.value) (t.number + 1) t.after) (pieces_from (awaits.Count rules) number lines) ps front at)
  by_count (Err e) at some = badly_after (piece.Head rules ∷ []) e (pieces_from (awaits.Count rules) number lines) ps front at

dossier_says : (number : ℕ) (lines : List (List ℕ)) → SaysDossier (dossier_from order number lines) (pieces_from awaits.First number lines)
dossier_says number lines = by_head (first_line fault.BadHead head_line number lines) (head_pieces number lines) where
  by_head : (r : Result (Taken Rules) Refusal) → AtFirst (λ rules. judged (awaits.Count rules) (piece.Head rules)) r (pieces_from awaits.First number lines)
      → SaysDossier (r >>= λ head. count_from order head.value (head.number + 1) head.after) (pieces_from awaits.First number lines)
  by_head (Ok t) at = count_says t.value (t.number + 1) t.after (pieces_from awaits.First number lines) at
  by_head (Err e) at = at

-- after a dossier
no_token : (ts : List (List ℕ)) → some_token ts ≡ false → ts ≡ []
no_token [] none = refl
no_token (token ∷ tokens) none = absurd (cc)

done_after : (number : ℕ) (lines : List (List ℕ)) → AreBlank lines → pieces_from awaits.Next number lines ≡ only record { piece = piece.Done; number = 0; text = [] }
done_after number [] blank = refl
done_after number (line ∷ lines) blank =
    pieces_skip awaits.Next number line lines (ap (tokens_judged awaits.Next) (no_token (tokens_of line) blank.0)) ∙ done_after (number + 1) lines blank.1

next_after : (number : ℕ) (lines : List (List ℕ)) → (AreBlank lines → ⊥) → pieces_from awaits.Next number lines ≡ pieces_from awaits.First number lines
next_after number [] other = absurd (other tt)
next_after number (line ∷ lines) other = by_tokens (tokens_of line) refl (λ none. next_after (number + 1) lines (λ blank. other (none, blank))) where
  by_tokens : (ts : List (List ℕ)) → tokens_of line ≡ ts → (has_tokens line ≡ false → pieces_from awaits.Next (number + 1) lines ≡ pieces_from awaits.First (number + 1) lines)
      → pieces_from awaits.Next number (line ∷ lines) ≡ pieces_from awaits.First number (line ∷ lines)
  by_tokens [] are later =
      pieces_skip awaits.Next number line lines (ap (tokens_judged awaits.Next) are) ∙ later (ap some_token are) ∙ sym (pieces_skip awaits.First number line lines (ap (tokens_judged awaits.First) are))
  by_tokens (word ∷ tokens) are later =
      ap (λ ts. piece_then awaits.Next number line (tokens_judged awaits.Next ts) (λ next. pieces_from next (number + 1) lines)) are
      ∙ sym (ap (λ ts. piece_then awaits.First number line (tokens_judged awaits.First ts) (λ next. pieces_from next (number + 1) lines)) are)

pub dossiers_agree : PiecesOfDossiers
dossiers_agree number lines = record {
  dossier = dossier_says number lines;
  after = record { done = done_after number lines; next = next_after number lines };
}
