-- The pieces of lines, one after the other.
use Rattle.std.proofs.Common.{◌≡◌, ℕ, ◌+◌, ◌-◌, Bool, true, false, cond, List, [], ◌∷◌, Option, Some, None, option_map, ◌⊎◌, inl, inr, IfSome, bytes_eq, codes, nat_eq, refl, sym, ap, subst}
use Rattle.df_io.specs.Lines.{tokens_of}
use Rattle.df_walk.specs.declared.Rules.{Rules}
use Rattle.df_dossier.specs.declared.judge.Awaits.{Awaits}
use Rattle.df_dossier.specs.declared.judge.Awaits.TheVariants as awaits
use Rattle.df_dossier.specs.declared.judge.DossierFault.{DossierFault}
use Rattle.df_dossier.specs.declared.judge.DossierFault.TheVariants as fault
use Rattle.df_dossier.specs.declared.judge.Judged.{Judged}
use Rattle.df_dossier.specs.declared.judge.Piece.{Piece}
use Rattle.df_dossier.specs.declared.judge.Piece.TheVariants as piece
use Rattle.df_dossier.specs.Tokens.{◌>>?◌, ending}
use Rattle.df_dossier.specs.Entries.{entry_read}
use Rattle.df_dossier.specs.Paths.{past}
use Rattle.df_dossier.specs.Judging.{judged, judged_or, bad, head_of, count_of, after_source, named_count, finished_of, spent_of, end_of, log_judged, tokens_judged, line_judged, end_judged, next_of}
use Rattle.df_dossier.specs.Pieces.{Pieces, PieceScan, is_bad, first_piece, later_pieces, piece_then, pieces_from, rest_of}

-- no line broke a rule yet
abbrev pub goes_on : Awaits → Bool
goes_on awaits.First = true
goes_on (awaits.Count rules) = true
goes_on (awaits.Source rules n) = true
goes_on (awaits.From rules) = true
goes_on (awaits.Log rules) = true
goes_on awaits.Next = true
goes_on (awaits.Nothing f) = false

-- a line that breaks no rule, and one that does
abbrev pub Passes : Judged → Type 0
Passes j = (is_bad j.piece ≡ false) × (goes_on j.next ≡ true)

abbrev pub Fits : Judged → Type 0
Fits j = Passes j ⊎ ((f : DossierFault) × (j ≡ bad f))

pub rest_going : (a : Awaits) (number : ℕ) (text : List ℕ) (next : ℕ) (lines : List (List ℕ)) → goes_on a ≡ true → rest_of a number text next lines ≡ pieces_from a next lines
rest_going awaits.First number text next lines goes = refl
rest_going (awaits.Count rules) number text next lines goes = refl
rest_going (awaits.Source rules n) number text next lines goes = refl
rest_going (awaits.From rules) number text next lines goes = refl
rest_going (awaits.Log rules) number text next lines goes = refl
rest_going awaits.Next number text next lines goes = refl
rest_going (awaits.Nothing f) number text next lines goes = absurd (cc)

fits_or : {A : Type 0} (f : DossierFault) (o : Option A) (g : A → Judged) → IfSome o (λ x. Passes (g x)) → Fits (judged_or f (option_map g o))
fits_or f None g passes = inr (f, refl)
fits_or f (Some x) g passes = inl passes

all_pass : {A : Type 0} (o : Option A) (P : A → Type 0) → ((x : A) → P x) → IfSome o P
all_pass None P all = tt
all_pass (Some x) P all = all x

pub then_some : {A B : Type 0} (o : Option A) (f : A → Option B) (P : B → Type 0) → ((x : A) → IfSome (f x) P) → IfSome (o >>? f) P
then_some None f P all = tt
then_some (Some x) f P all = all x

mapped_some : {A B : Type 0} (o : Option A) (f : A → B) (P : B → Type 0) → ((x : A) → P (f x)) → IfSome (option_map f o) P
mapped_some None f P all = tt
mapped_some (Some x) f P all = all x

-- what an end line says
finished_says : (P : Piece → Type 0) → ((f : Bool) (d n : ℕ) → P (piece.End f d n)) → (tokens : List (List ℕ)) → IfSome (finished_of tokens) P
finished_says P all tokens =
    then_some (named_count (codes "designs") tokens) _ P (λ designs. then_some (named_count (codes "nodes") designs.more) _ P (λ nodes. at_end designs.n nodes.n nodes.more)) where
      at_end : (d n : ℕ) (more : List (List ℕ)) → IfSome (ending more (piece.End true d n)) P
      at_end d n [] = all true d n
      at_end d n (token ∷ more) = tt

spent_says : (P : Piece → Type 0) → ((f : Bool) (d n : ℕ) → P (piece.End f d n)) → (tokens : List (List ℕ)) → IfSome (spent_of tokens) P
spent_says P all tokens =
    then_some (named_count (codes "designs") tokens) _ P (λ designs. then_some (named_count (codes "nodes") designs.more) _ P (λ nodes. mapped_some (past (codes "next") nodes.more) (λ path. piece.End false designs.n nodes.n) P (λ path. all false designs.n nodes.n)))

pub end_says : (P : Piece → Type 0) → ((f : Bool) (d n : ℕ) → P (piece.End f d n)) → (tokens : List (List ℕ)) → IfSome (end_of tokens) P
end_says P all [] = tt
end_says P all (token ∷ rest) = by_word (bytes_eq token (codes "finished")) (bytes_eq token (codes "spent")) where
  by_word : (a b : Bool) → IfSome (cond a (finished_of rest) (cond b (spent_of rest) None)) P
  by_word true b = finished_says P all rest
  by_word false true = spent_says P all rest
  by_word false false = tt

end_passes : (o : Option Piece) → IfSome o (λ p. is_bad p ≡ false) → IfSome o (λ p. Passes (judged awaits.Next p))
end_passes None ends = tt
end_passes (Some p) ends = (ends, refl)

log_fits : (rules : Rules) (first : List ℕ) (tokens : List (List ℕ)) → Fits (log_judged rules first tokens)
log_fits rules first tokens = by_word (bytes_eq first (codes "design")) (bytes_eq first (codes "end")) where
  by_word : (a b : Bool) → Fits (cond a (judged (awaits.Log rules) piece.Design) (cond b (judged_or fault.BadEnd (option_map (judged awaits.Next) (end_of tokens))) (judged_or fault.BadEntry (option_map (λ e. judged (awaits.Log rules) (piece.Entry e)) (entry_read rules (first ∷ tokens))))))
  by_word true b = inl (refl, refl)
  by_word false true = fits_or fault.BadEnd (end_of tokens) (judged awaits.Next) (end_passes (end_of tokens) (end_says (λ p. is_bad p ≡ false) (λ f d n. refl) tokens))
  by_word false false = fits_or fault.BadEntry (entry_read rules (first ∷ tokens)) (λ e. judged (awaits.Log rules) (piece.Entry e)) (all_pass (entry_read rules (first ∷ tokens)) _ (λ e. (refl, refl)))

tokens_fit : (a : Awaits) (tokens : List (List ℕ)) → IfSome (tokens_judged a tokens) Fits
tokens_fit awaits.First [] = tt
tokens_fit (awaits.Count rules) [] = tt
tokens_fit (awaits.Source rules n) [] = tt
tokens_fit (awaits.From rules) [] = tt
tokens_fit (awaits.Log rules) [] = tt
tokens_fit awaits.Next [] = tt
tokens_fit (awaits.Nothing f) [] = tt
tokens_fit awaits.First (first ∷ tokens) = fits_or fault.BadHead (head_of (first ∷ tokens)) (λ rules. judged (awaits.Count rules) (piece.Head rules)) (all_pass (head_of (first ∷ tokens)) _ (λ rules. (refl, refl)))
tokens_fit awaits.Next (first ∷ tokens) = fits_or fault.BadHead (head_of (first ∷ tokens)) (λ rules. judged (awaits.Count rules) (piece.Head rules)) (all_pass (head_of (first ∷ tokens)) _ (λ rules. (refl, refl)))
tokens_fit (awaits.Count rules) (first ∷ tokens) = fits_or fault.BadHead (count_of (first ∷ tokens)) (λ n. judged (awaits.Source rules n) (piece.SourceCount n)) (all_pass (count_of (first ∷ tokens)) _ (λ n. (refl, refl)))
tokens_fit (awaits.From rules) (first ∷ tokens) = fits_or fault.BadHead (past (codes "from") (first ∷ tokens)) (λ rest. judged (awaits.Log rules) piece.RunFrom) (all_pass (past (codes "from") (first ∷ tokens)) _ (λ rest. (refl, refl)))
tokens_fit (awaits.Log rules) (first ∷ tokens) = log_fits rules first tokens
tokens_fit (awaits.Source rules n) (first ∷ tokens) = tt
tokens_fit (awaits.Nothing f) (first ∷ tokens) = tt

source_goes : (rules : Rules) (n : ℕ) → goes_on (after_source rules n) ≡ true
source_goes rules n = by_test (nat_eq n 1) where
  by_test : (b : Bool) → goes_on (cond b (awaits.From rules) (awaits.Source rules (n - 1))) ≡ true
  by_test true = refl
  by_test false = refl

-- a line passes, or it breaks a rule
pub line_fits : (a : Awaits) (line : List ℕ) → goes_on a ≡ true → IfSome (line_judged a line) Fits
line_fits (awaits.Source rules n) line goes = inl (refl, source_goes rules n)
line_fits (awaits.Nothing f) line goes = absurd (cc)
line_fits awaits.First line goes = tokens_fit awaits.First (tokens_of line)
line_fits awaits.Next line goes = tokens_fit awaits.Next (tokens_of line)
line_fits (awaits.Count rules) line goes = tokens_fit (awaits.Count rules) (tokens_of line)
line_fits (awaits.From rules) line goes = tokens_fit (awaits.From rules) (tokens_of line)
line_fits (awaits.Log rules) line goes = tokens_fit (awaits.Log rules) (tokens_of line)

-- a line that is none
pub pieces_skip : (a : Awaits) (number : ℕ) (line : List ℕ) (lines : List (List ℕ)) → line_judged a line ≡ None → pieces_from a number (line ∷ lines) ≡ pieces_from a (number + 1) lines
pieces_skip a number line lines none = ap (λ o. piece_then a number line o (λ next. pieces_from next (number + 1) lines)) none

-- a piece, and those after it
pub record IsPiece (ps : Pieces) (p : Piece) (number : ℕ) (text : List ℕ) (rest : Pieces) : Type 0 where
  pub piece : (first_piece ps).piece ≡ p
  pub number_is : (first_piece ps).number ≡ number
  pub text_is : (first_piece ps).text ≡ text
  pub rest_is : later_pieces ps ≡ rest

piece_fits : (a : Awaits) (j : Judged) (number : ℕ) (line : List ℕ) (lines : List (List ℕ)) → Fits j → IsPiece (piece_then a number line (Some j) (λ next. pieces_from next (number + 1) lines)) j.piece number line (rest_of j.next number line (number + 1) lines)
piece_fits a j number line lines (inl passes) =
    let goes = rest_going j.next number line (number + 1) lines passes.1 in
    rw passes.0 (record { piece = refl; number_is = refl; text_is = refl; rest_is = sym goes })
piece_fits a j number line lines (inr refused) = subst (λ j. IsPiece (piece_then a number line (Some j) (λ next. pieces_from next (number + 1) lines)) j.piece number line (rest_of j.next number line (number + 1) lines)) (sym refused.1)
    record { piece = refl; number_is = refl; text_is = refl; rest_is = refl }

pub pieces_line : (a : Awaits) (number : ℕ) (line : List ℕ) (lines : List (List ℕ)) (j : Judged) → goes_on a ≡ true → line_judged a line ≡ Some j → IsPiece (pieces_from a number (line ∷ lines)) j.piece number line (rest_of j.next number line (number + 1) lines)
pieces_line a number line lines j goes is =
    let fits = subst (λ o. IfSome o Fits) is (line_fits a line goes) in
    subst (λ o. IsPiece (piece_then a number line o (λ next. pieces_from next (number + 1) lines)) j.piece number line (rest_of j.next number line (number + 1) lines)) (sym is) (piece_fits a j number line lines fits)

-- the same by what the judge says of the line
pub piece_said : (a next : Awaits) (number : ℕ) (line : List ℕ) (lines : List (List ℕ)) (p : Piece) (ps : Pieces) → goes_on a ≡ true → option_map (λ j. j.piece) (line_judged a line) ≡ Some p → next ≡ next_of a (line_judged a line)
    → pieces_from a number (line ∷ lines) ≡ ps → IsPiece ps p number line (rest_of next number line (number + 1) lines)
piece_said a next number line lines p ps goes says after is = by_judged (line_judged a line) refl says after where
  by_judged : (o : Option Judged) → line_judged a line ≡ o → option_map (λ j. j.piece) o ≡ Some p → next ≡ next_of a o → IsPiece ps p number line (rest_of next number line (number + 1) lines)
  by_judged None judges says after = absurd (cc)
  by_judged (Some j) judges says after =
      let same : j.piece ≡ p = cc in
      let first = pieces_line a number line lines j goes judges in
      subst (λ qs. IsPiece qs p number line (rest_of next number line (number + 1) lines)) is
      (subst (λ q. IsPiece (pieces_from a number (line ∷ lines)) q number line (rest_of next number line (number + 1) lines)) same
      (subst (λ b. IsPiece (pieces_from a number (line ∷ lines)) j.piece number line (rest_of b number line (number + 1) lines)) (sym after) first))

pub scan_is : {n m : ℕ} → {t u : List ℕ} → {r q : Pieces} → n ≡ m → t ≡ u → r ≡ q → ◌≡◌ {A = PieceScan} record { number = n; text = t; rest = r } record { number = m; text = u; rest = q }
scan_is a b c = cc

-- no line is left
pub pieces_end : (a : Awaits) (number : ℕ) → goes_on a ≡ true → IsPiece (pieces_from a number []) (end_judged a).piece 0 [] (rest_of (end_judged a).next 0 [] number [])
pieces_end awaits.First number goes = record { piece = refl; number_is = refl; text_is = refl; rest_is = refl }
pieces_end (awaits.Count rules) number goes = record { piece = refl; number_is = refl; text_is = refl; rest_is = refl }
pieces_end (awaits.Source rules n) number goes = record { piece = refl; number_is = refl; text_is = refl; rest_is = refl }
pieces_end (awaits.From rules) number goes = record { piece = refl; number_is = refl; text_is = refl; rest_is = refl }
pieces_end (awaits.Log rules) number goes = record { piece = refl; number_is = refl; text_is = refl; rest_is = refl }
pieces_end awaits.Next number goes = record { piece = refl; number_is = refl; text_is = refl; rest_is = refl }
pieces_end (awaits.Nothing f) number goes = absurd (cc)
