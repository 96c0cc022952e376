-- The pieces of a dossier, part by part: the first lines, the source lines and the log.
use Rattle.std.proofs.Common.{◌≡◌, ℕ, zero, suc, ◌+◌, ◌-◌, ◌≤◌, ◌<◌, Bool, true, false, cond, nat_eq, List, [], ◌∷◌, ◌++◌, length, take, drop, map, Option, Some, None, option_map, ◌⊎◌, inl, inr, is_some, IfSome, Result, Ok, Err, bytes_eq, codes, refl, sym, ap, subst, ◌∙◌, arith, tests, append_assoc}
use Rattle.std.proofs.lemmas.List.{map-append}
use Rattle.std.proofs.lemmas.Slice.Eq.{bytes_eq-Decides}
use Rattle.df_io.specs.Lines.{tokens_of}
use Rattle.df_walk.specs.declared.Rules.{Rules}
use Rattle.df_walk.specs.declared.Entry.{Entry}
use Rattle.df_lang.specs.Rules.{◌>>=◌}
use Rattle.df_dossier.specs.declared.judge.Awaits.{Awaits}
use Rattle.df_dossier.specs.declared.judge.Awaits.TheVariants as awaits
use Rattle.df_dossier.specs.declared.judge.DossierFault.{DossierFault}
use Rattle.df_dossier.specs.declared.judge.DossierFault.TheVariants as fault
use Rattle.df_dossier.specs.declared.judge.Judged.{Judged}
use Rattle.df_dossier.specs.declared.judge.Piece.{Piece}
use Rattle.df_dossier.specs.declared.judge.Piece.TheVariants as piece
use Rattle.df_dossier.specs.Tokens.{◌>>?◌}
use Rattle.df_dossier.specs.Entries.{entry_read}
use Rattle.df_dossier.specs.Paths.{past}
use Rattle.df_dossier.specs.Judging.{judged, judged_or, bad, head_of, count_of, after_source, end_of, tokens_judged, line_judged, end_judged}
use Rattle.df_dossier.specs.Dossiers.{Refusal, Taken, Log, some_token, said_or, first_line, head_line, count_line, from_line, begins, ending_by, item_or, item_before, log_from}
use Rattle.df_dossier.specs.Pieces.{Placed, Pieces, in_front, is_bad, piece_then, pieces_from}
use Rattle.df_dossier.specs.DossierPieces.{NotRead, order, item_piece, log_pieces, BeginsWith, EndsBadly}
use Rattle.df_dossier.proofs.PieceSteps.{end_says, pieces_skip}

abbrev with_front : List Placed → Pieces → Pieces
with_front front ps = record { before = front ++ ps.before; last = ps.last }

abbrev pieces_of : List Placed → Placed → Pieces
pieces_of before last = record { before = before; last = last }

-- some pieces, and then some more
pub begins_append : (s1 s2 : List Piece) (rest mid ps : Pieces) → BeginsWith s1 mid ps → BeginsWith s2 rest mid → BeginsWith (s1 ++ s2) rest ps
begins_append s1 s2 rest mid ps first more = (
  first.0 ++ more.0,
  map-append (λ p. p.piece) first.0 more.0 ∙ ap (λ l. l ++ map (λ p. p.piece) more.0) first.1 ∙ ap (λ l. s1 ++ l) more.1,
  first.2 ∙ ap (λ (m : Pieces). with_front first.0 m) more.2 ∙ ap (λ l. pieces_of l rest.last) (sym (append_assoc first.0 more.0 rest.before)),
)

pub badly_after : (said : List Piece) (r : Refusal) (mid ps : Pieces) → BeginsWith said mid ps → EndsBadly r mid → EndsBadly r ps
badly_after said r mid ps begins ends = subst (EndsBadly r) (sym begins.2) (record { piece = ends.piece; number = ends.number })

-- what the first line with tokens is, as a piece
abbrev pub AtFirst : {A : Type 0} → (A → Judged) → Result (Taken A) Refusal → Pieces → Type 0
AtFirst say (Ok t) ps = BeginsWith ((say t.value).piece ∷ []) (pieces_from (say t.value).next (t.number + 1) t.after) ps
AtFirst say (Err r) ps = EndsBadly r ps

module _ {A : Type 0} (a : Awaits) (f : DossierFault) (read : List ℕ → Option A) (say : A → Judged)
    (ends : end_judged a ≡ bad f)
    (blank : (line : List ℕ) → tokens_of line ≡ [] → line_judged a line ≡ None)
    (filled : (line word : List ℕ) (tokens : List (List ℕ)) → tokens_of line ≡ word ∷ tokens → line_judged a line ≡ Some (judged_or f (option_map say (read line))))
    (passes : (x : A) → is_bad (say x).piece ≡ false) where
  said : (number : ℕ) (line : List ℕ) (lines : List (List ℕ)) (o : Option A) → AtFirst say (said_or f number lines o) (piece_then a number line (Some (judged_or f (option_map say o))) (λ next. pieces_from next (number + 1) lines))
  said number line lines None = record { piece = refl; number = refl }
  said number line lines (Some x) = rw (passes x) (record { piece = (say x).piece; number = number; text = line } ∷ [], refl, refl)

  first_pieces : (number : ℕ) (lines : List (List ℕ)) → AtFirst say (first_line f read number lines) (pieces_from a number lines)
  first_pieces number [] = record { piece = ap (λ j. j.piece) ends; number = refl }
  first_pieces number (line ∷ lines) = by_tokens (tokens_of line) refl (first_pieces (number + 1) lines) where
    by_tokens : (ts : List (List ℕ)) → tokens_of line ≡ ts → AtFirst say (first_line f read (number + 1) lines) (pieces_from a (number + 1) lines) → AtFirst say (first_line f read number (line ∷ lines)) (pieces_from a number (line ∷ lines))
    by_tokens [] are later =
        subst (λ b. AtFirst say (cond b (said_or f number lines (read line)) (first_line f read (number + 1) lines)) (pieces_from a number (line ∷ lines))) (ap some_token (sym are))
        (subst (AtFirst say (first_line f read (number + 1) lines)) (sym (pieces_skip a number line lines (blank line are))) later)
    by_tokens (word ∷ tokens) are later =
        subst (λ b. AtFirst say (cond b (said_or f number lines (read line)) (first_line f read (number + 1) lines)) (pieces_from a number (line ∷ lines))) (ap some_token (sym are))
        (subst (λ o. AtFirst say (said_or f number lines (read line)) (piece_then a number line o (λ next. pieces_from next (number + 1) lines))) (sym (filled line word tokens are)) (said number line lines (read line)))

-- the head, the number of source lines, and the start
pub head_pieces : (number : ℕ) (lines : List (List ℕ)) → AtFirst (λ rules. judged (awaits.Count rules) (piece.Head rules)) (first_line fault.BadHead head_line number lines) (pieces_from awaits.First number lines)
head_pieces = first_pieces awaits.First fault.BadHead head_line (λ rules. judged (awaits.Count rules) (piece.Head rules)) refl
    (λ line are. ap (tokens_judged awaits.First) are)
    (λ line word tokens are. ap (tokens_judged awaits.First) are ∙ ap (λ ts. Some (judged_or fault.BadHead (option_map (λ rules. judged (awaits.Count rules) (piece.Head rules)) (head_of ts)))) (sym are))
    (λ x. refl)

pub count_pieces : (rules : Rules) (number : ℕ) (lines : List (List ℕ)) → AtFirst (λ n. judged (awaits.Source rules n) (piece.SourceCount n)) (first_line fault.BadHead count_line number lines) (pieces_from (awaits.Count rules) number lines)
count_pieces rules = first_pieces (awaits.Count rules) fault.BadHead count_line (λ n. judged (awaits.Source rules n) (piece.SourceCount n)) refl
    (λ line are. ap (tokens_judged (awaits.Count rules)) are)
    (λ line word tokens are. ap (tokens_judged (awaits.Count rules)) are ∙ ap (λ ts. Some (judged_or fault.BadHead (option_map (λ n. judged (awaits.Source rules n) (piece.SourceCount n)) (count_of ts)))) (sym are))
    (λ x. refl)

pub start_pieces : (rules : Rules) (number : ℕ) (lines : List (List ℕ)) → AtFirst (λ (start : NotRead). judged (awaits.Log rules) piece.RunFrom) (first_line fault.BadHead (from_line order) number lines) (pieces_from (awaits.From rules) number lines)
start_pieces rules = first_pieces (awaits.From rules) fault.BadHead (from_line order) (λ start. judged (awaits.Log rules) piece.RunFrom) refl
    (λ line are. ap (tokens_judged (awaits.From rules)) are)
    (λ line word tokens are. ap (tokens_judged (awaits.From rules)) are ∙ ap (λ ts. Some (judged_or fault.BadHead (option_map (λ rest. judged (awaits.Log rules) piece.RunFrom) (past (codes "from") ts)))) (sym are) ∙ ap (λ o. Some (judged_or fault.BadHead o)) (same (past (codes "from") (tokens_of line))))
    (λ x. refl) where
      same : (o : Option (List (List ℕ))) → option_map (λ rest. judged (awaits.Log rules) piece.RunFrom) o ≡ option_map (λ (start : NotRead). judged (awaits.Log rules) piece.RunFrom) (o >>? λ tokens. Some tt)
      same None = refl
      same (Some rest) = refl

-- the log
abbrev pub AtLog : Result (Taken (Log NotRead NotRead)) Refusal → Pieces → Type 0
AtLog (Ok t) ps = BeginsWith (log_pieces t.value) (pieces_from awaits.Next (t.number + 1) t.after) ps
AtLog (Err r) ps = EndsBadly r ps

item_more : (item : Entry ⊎ NotRead) (number : ℕ) (line : List ℕ) (r : Result (Taken (Log NotRead NotRead)) Refusal) (ps : Pieces) → AtLog r ps → AtLog (r >>= λ more. Ok (item_before item more)) (in_front record { piece = item_piece item; number = number; text = line } ps)
item_more item number line (Ok t) ps at =
    begins_append (item_piece item ∷ []) (log_pieces t.value) (pieces_from awaits.Next (t.number + 1) t.after) ps _ (record { piece = item_piece item; number = number; text = line } ∷ [], refl, refl) at
item_more item number line (Err e) ps at = record { piece = at.piece; number = at.number }

not_both : (word : List ℕ) → bytes_eq word (codes "design") ≡ true → bytes_eq word (codes "end") ≡ true → ⊥
not_both word design end =
    let other : bytes_eq word (codes "end") ≡ false = ap (λ w. bytes_eq w (codes "end")) ((bytes_eq-Decides word (codes "design")).0 design) in absurd (cc)

module _ (rules : Rules) (number : ℕ) (line : List ℕ) (lines : List (List ℕ)) where
  abbrev more : Awaits → Pieces
  more next = pieces_from next (number + 1) lines

  abbrev log_after : Result (Taken (Log NotRead NotRead)) Refusal
  log_after = log_from order rules tt (number + 1) lines

  abbrev ended : Option Piece → Result (Taken (Log NotRead NotRead)) Refusal
  ended o = said_or fault.BadEnd number lines (option_map (λ end. record { items = []; end = end }) (o >>? ending_by order.path line))

  abbrev EndAt : Piece → Type 0
  EndAt p = AtLog (ended (Some p)) (piece_then (awaits.Log rules) number line (Some (judged awaits.Next p)) more)

  end_says_so : (f : Bool) (d n : ℕ) → EndAt (piece.End f d n)
  end_says_so true d n = (record { piece = piece.End true d n; number = number; text = line } ∷ [], refl, refl)
  end_says_so false d n = (record { piece = piece.End false d n; number = number; text = line } ∷ [], refl, refl)

  end_at : (o : Option Piece) → IfSome o EndAt → AtLog (ended o) (piece_then (awaits.Log rules) number line (Some (judged_or fault.BadEnd (option_map (judged awaits.Next) o))) more)
  end_at None at = record { piece = refl; number = refl }
  end_at (Some p) at = at

  abbrev items : Result (Entry ⊎ NotRead) Refusal → Result (Taken (Log NotRead NotRead)) Refusal
  items r = r >>= λ item. log_after >>= λ more. Ok (item_before item more)

  entry_at : (o : Option Entry) → AtLog log_after (more (awaits.Log rules))
      → AtLog (items (item_or fault.BadEntry number (option_map inl o))) (piece_then (awaits.Log rules) number line (Some (judged_or fault.BadEntry (option_map (λ e. judged (awaits.Log rules) (piece.Entry e)) o))) more)
  entry_at None at = record { piece = refl; number = refl }
  entry_at (Some e) at = item_more (inl e) number line log_after (more (awaits.Log rules)) at

  abbrev logged : List (List ℕ) → Result (Taken (Log NotRead NotRead)) Refusal
  logged ts =
      cond (some_token ts)
      (cond (is_some (past (codes "end") ts)) (ended (past (codes "end") ts >>? end_of)) (items (cond (is_some (past (codes "design") ts)) (item_or fault.BadDesign number (Some (inr tt))) (item_or fault.BadEntry number (option_map inl (entry_read rules ts))))))
      log_after

  words : (word : List ℕ) (tokens : List (List ℕ)) (design end : Bool) → bytes_eq word (codes "design") ≡ design → bytes_eq word (codes "end") ≡ end → AtLog log_after (more (awaits.Log rules))
      → AtLog (cond (is_some (cond end (Some tokens) None)) (ended (cond end (Some tokens) None >>? end_of)) (items (cond (is_some (cond design (Some tokens) None)) (item_or fault.BadDesign number (Some (inr tt))) (item_or fault.BadEntry number (option_map inl (entry_read rules (word ∷ tokens)))))))
      (piece_then (awaits.Log rules) number line (Some (cond design (judged (awaits.Log rules) piece.Design) (cond end (judged_or fault.BadEnd (option_map (judged awaits.Next) (end_of tokens))) (judged_or fault.BadEntry (option_map (λ e. judged (awaits.Log rules) (piece.Entry e)) (entry_read rules (word ∷ tokens))))))) more)
  words word tokens true true is_design is_end at = absurd (not_both word is_design is_end)
  words word tokens true false is_design is_end at = item_more (inr tt) number line log_after (more (awaits.Log rules)) at
  words word tokens false true is_design is_end at = end_at (end_of tokens) (end_says EndAt end_says_so tokens)
  words word tokens false false is_design is_end at = entry_at (entry_read rules (word ∷ tokens)) at

  line_at : (ts : List (List ℕ)) → AtLog log_after (more (awaits.Log rules)) → AtLog (logged ts) (piece_then (awaits.Log rules) number line (tokens_judged (awaits.Log rules) ts) more)
  line_at [] at = at
  line_at (word ∷ tokens) at = words word tokens (bytes_eq word (codes "design")) (bytes_eq word (codes "end")) refl refl at

pub log_at : (rules : Rules) (number : ℕ) (lines : List (List ℕ)) → AtLog (log_from order rules tt number lines) (pieces_from (awaits.Log rules) number lines)
log_at rules number [] = record { piece = refl; number = refl }
log_at rules number (line ∷ lines) = line_at rules number line lines (tokens_of line) (log_at rules (number + 1) lines)

-- the source lines
after_is : (rules : Rules) (k : ℕ) → after_source rules (suc (suc k)) ≡ awaits.Source rules (suc k)
after_is rules k =
    let other : nat_eq (suc (suc k)) 1 ≡ false = grind (arith, tests) in
    let less : suc (suc k) - 1 ≡ suc k = omega arith in
    ap (λ b. cond b (awaits.From rules) (awaits.Source rules (suc (suc k) - 1))) other ∙ ap (awaits.Source rules) less

pub source_short : (rules : Rules) (m number : ℕ) (lines : List (List ℕ)) → length lines < suc m → EndsBadly record { line = 0; fault = fault.BadHead } (pieces_from (awaits.Source rules (suc m)) number lines)
source_short rules m number [] short = record { piece = refl; number = refl }
source_short rules zero number (line ∷ lines) short = absurd (omega (arith, short))
source_short rules (suc k) number (line ∷ lines) short =
    let ends = source_short rules k (number + 1) lines (omega (arith, short)) in
    subst (λ a. EndsBadly record { line = 0; fault = fault.BadHead } (in_front record { piece = piece.SourceLine; number = number; text = line } (pieces_from a (number + 1) lines))) (sym (after_is rules k)) (record { piece = ends.piece; number = ends.number })

pub source_whole : (rules : Rules) (m number : ℕ) (lines : List (List ℕ)) → suc m ≤ length lines
    → BeginsWith (map (λ line. piece.SourceLine) (take (suc m) lines)) (pieces_from (awaits.From rules) (number + suc m) (drop (suc m) lines)) (pieces_from (awaits.Source rules (suc m)) number lines)
source_whole rules m number [] whole = absurd (omega (arith, whole))
source_whole rules zero number (line ∷ lines) whole = (record { piece = piece.SourceLine; number = number; text = line } ∷ [], refl, refl)
source_whole rules (suc k) number (line ∷ lines) whole =
    let later = source_whole rules k (number + 1) lines (omega (arith, whole)) in
    let place : number + 1 + suc k ≡ number + suc (suc k) = omega arith in
    let rest = pieces_from (awaits.From rules) (number + suc (suc k)) (drop (suc k) lines) in
    subst (λ a. BeginsWith (map (λ line. piece.SourceLine) (take (suc (suc k)) (line ∷ lines))) rest (in_front record { piece = piece.SourceLine; number = number; text = line } (pieces_from a (number + 1) lines))) (sym (after_is rules k))
    (begins_append (piece.SourceLine ∷ []) (map (λ line. piece.SourceLine) (take (suc k) lines)) rest (pieces_from (awaits.Source rules (suc k)) (number + 1) lines) _
    (record { piece = piece.SourceLine; number = number; text = line } ∷ [], refl, refl)
    (subst (λ n. BeginsWith (map (λ line. piece.SourceLine) (take (suc k) lines)) (pieces_from (awaits.From rules) n (drop (suc k) lines)) (pieces_from (awaits.Source rules (suc k)) (number + 1) lines)) place later))
