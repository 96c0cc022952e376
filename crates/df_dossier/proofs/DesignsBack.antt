-- Design lines, read back.
use Rattle.std.proofs.Common.{◌≡◌, ℕ, ◌+◌, ◌<◌, Bool, true, false, cond, leb, zero, suc, List, [], ◌∷◌, ◌++◌, length, map, Some, None, codes, bytes_eq, refl, sym, ap, ◌∙◌, arith, tests, append-nil, All, eqb, eqb-true}
use Rattle.std.proofs.lemmas.Bool.{ne_eqb}
use Rattle.std.specs.Prelude.{◌==◌}
use Rattle.std.specs.List.{slice_split}
use Rattle.std.proofs.lemmas.Slice.Eq.{bytes_eq-Decides}
use Rattle.std.proofs.lemmas.List.Splits.{slice_split_at, slice_split_none}
use Rattle.df_io.specs.Lines.{tokens_of}
use Rattle.df_io.specs.Joined.{Each, IsToken, spaced}
use Rattle.df_io.proofs.Joining.{tokens_back}
use Rattle.df_lists.specs.NumberSets.{has_member, Rises}
use Rattle.df_lang.specs.Problems.{Stated, IsStated, IsSize, IsBlock, point_count}
use Rattle.df_lang.specs.Values.{element_of, residues_of, fixed_point, point_of}
use Rattle.df_lang.specs.Canonical.{point_text, block_text}
use Rattle.df_lang.specs.RoundTrip.{PointReadsBack, PointsReadBack}
use Rattle.df_dossier.specs.Tokens.{◌>>?◌, values_of, after_spaces}
use Rattle.df_dossier.specs.Designs.{before_block, block_piece, block_pieces, design_text, is_separator, rises_from, block_with, block_read, blocks_read, design_read, design_of}
use Rattle.df_dossier.specs.DesignsBack.{DesignsReadBack}
use Rattle.df_dossier.proofs.NumbersRead.{word_token}
use Rattle.df_dossier.proofs.LinesClean.{IsLine, word_line, line_join}
use Rattle.df_dossier.proofs.Joins.{join_after, after_both}

-- the tokens of blocks that come after another: before each a `;`
abbrev later_tokens : List ℕ → List (List ℕ) → List (List ℕ)
later_tokens fs [] = []
later_tokens fs (block ∷ blocks) = codes ";" ∷ (map (point_text fs) block ++ later_tokens fs blocks)

-- the tokens of a design line behind its word
abbrev block_tokens : List ℕ → List (List ℕ) → List (List ℕ)
block_tokens fs [] = []
block_tokens fs (block ∷ blocks) = map (point_text fs) block ++ later_tokens fs blocks

-- blocks with points
abbrev AreFilled : List (List ℕ) → Type 0
AreFilled blocks = Each (λ (b : List ℕ). 0 < length b) blocks

-- a block's text, behind a space
block_after : (fs block : List ℕ) → 0 < length block → 32 ∷ block_text fs block ≡ after_spaces (map (point_text fs) block)
block_after fs [] some = absurd (omega arith)
block_after fs (p ∷ ps) some = ap (λ l. 32 ∷ l) (join_after (point_text fs p) (map (point_text fs) ps))

later_text : (fs : List ℕ) (place : ℕ) (blocks : List (List ℕ)) → AreFilled blocks → block_pieces fs (place + 1) blocks ≡ after_spaces (later_tokens fs blocks)
later_text fs place [] each = refl
later_text fs place (b ∷ bs) each =
    let later : eqb (place + 1) 0 ≡ false = ne_eqb (place + 1) 0 (λ z. absurd (omega (arith, z))) in
    rw later (
    ap (λ l. (32 ∷ 59 ∷ l) ++ block_pieces fs (place + 1 + 1) bs) (block_after fs b each.0)
    ∙ ap (λ l. (32 ∷ 59 ∷ after_spaces (map (point_text fs) b)) ++ l) (later_text fs (place + 1) bs each.1)
    ∙ ap (λ l. 32 ∷ 59 ∷ l) (sym (after_both (map (point_text fs) b) (later_tokens fs bs)))
    )

-- the line is its tokens with spaces between
line_tokens : (fs : List ℕ) (blocks : List (List ℕ)) → AreFilled blocks → design_text fs blocks ≡ spaced (codes "design" ∷ block_tokens fs blocks)
line_tokens fs [] each = refl
line_tokens fs (b ∷ bs) each =
    ap (λ l. codes "design" ++ (l ++ block_pieces fs 1 bs)) (block_after fs b each.0)
    ∙ ap (λ l. codes "design" ++ (after_spaces (map (point_text fs) b) ++ l)) (later_text fs 0 bs each.1)
    ∙ ap (λ l. codes "design" ++ l) (sym (after_both (map (point_text fs) b) (later_tokens fs bs)))
    ∙ sym (join_after (codes "design") (block_tokens fs (b ∷ bs)))

-- no point is named by the separator
no_residues : (fs : List ℕ) → 0 < length fs → residues_of fs (codes ";" ∷ []) ≡ None
unfolding residues_of
no_residues [] some = absurd (omega arith)
no_residues (f ∷ fs) some = refl

no_point : (fs : List ℕ) (fixed : ℕ) → 0 < length fs → point_of fs fixed (codes ";") ≡ None
unfolding element_of fixed_point
no_point fs fixed some = rw (no_residues fs some) refl

-- none of the tokens is a separator
abbrev AreApart : List (List ℕ) → Type 0
AreApart tokens = All (λ token. is_separator token ≡ false) tokens

apart_onto : (token : List ℕ) (tokens : List (List ℕ)) → is_separator token ≡ false → AreApart tokens → AreApart (token ∷ tokens)
apart_onto token tokens here rest zero d h = here
apart_onto token tokens here rest (suc k) d h = rest k d (omega (arith, h))

rises_back : (low v : ℕ) (block : List ℕ) → Rises low v block → rises_from low block ≡ true
rises_back low v [] rises = refl
rises_back low v (p ∷ ps) rises =
    let l = rises.0 in
    let above : leb low p ≡ true = grind (arith, tests) in rw (above) (rises_back (p + 1) v ps rises.2)

-- a size is at least 2
size_filled : (v : ℕ) (sizes : List ℕ) (n : ℕ) → All (IsSize v) sizes → has_member sizes n ≡ true → 0 < n
size_filled v [] n each is = absurd (cc)
size_filled v (k ∷ ks) n each is = by_first (k == n) refl (size_filled v ks n (λ i d h. each (suc i) d (omega (arith, h)))) where
  by_first : (b : Bool) → (k == n) ≡ b → (has_member ks n ≡ true → 0 < n) → 0 < n
  by_first true e more = let low = (each 0 k (omega arith)).low in let same = eqb-true k n e in omega (arith, low, same)
  by_first false e more = let rest : has_member ks n ≡ true = rw e at is in more rest

module _ (s : Stated) (is : IsStated s) (points : PointsReadBack) where
  abbrev IsHere : List ℕ → Type 0
  IsHere block = IsBlock (point_count s) s.sizes block

  abbrev texts : List ℕ → List (List ℕ)
  texts block = map (point_text s.group) block

  apart_by : (token : List ℕ) (p : ℕ) (b : Bool) → bytes_eq token (codes ";") ≡ b → point_of s.group s.fixed token ≡ Some p → is_separator token ≡ false
  apart_by token p false e read = e
  apart_by token p true e read =
      let none = ap (point_of s.group s.fixed) ((bytes_eq-Decides token (codes ";")).0 e) ∙ no_point s.group s.fixed is.shape.some in absurd (cc)

  -- the text of a point is no separator
  apart : (block : List ℕ) → Each (PointReadsBack s) block → AreApart (texts block)
  apart [] each = λ k d h. absurd (omega (arith, h))
  apart (p ∷ ps) each = apart_onto (point_text s.group p) (texts ps) (apart_by (point_text s.group p) p _ refl each.0.point) (apart ps each.1)

  point_tokens : (block : List ℕ) (more : List (List ℕ)) → Each (PointReadsBack s) block → Each IsToken more → Each IsToken (texts block ++ more)
  point_tokens [] more each rest = rest
  point_tokens (p ∷ ps) more each rest = (each.0.token, point_tokens ps more each.1 rest)

  later_are : (blocks : List (List ℕ)) → Each IsHere blocks → Each IsToken (later_tokens s.group blocks)
  later_are [] each = tt
  later_are (b ∷ bs) each = (word_token (codes ";") (omega arith) refl, point_tokens b (later_tokens s.group bs) (points s is b each.0).each (later_are bs each.1))

  tokens_are : (blocks : List (List ℕ)) → Each IsHere blocks → Each IsToken (block_tokens s.group blocks)
  tokens_are [] each = tt
  tokens_are (b ∷ bs) each = point_tokens b (later_tokens s.group bs) (points s is b each.0).each (later_are bs each.1)

  -- the slices between separators are the blocks
  slices_are : (block : List ℕ) (blocks : List (List ℕ)) → IsHere block → Each IsHere blocks → slice_split is_separator (texts block ++ later_tokens s.group blocks) ≡ map texts (block ∷ blocks)
  slices_are block [] here each =
      ap (slice_split is_separator) (append-nil (texts block)) ∙ slice_split_none is_separator (texts block) (apart block (points s is block here).each)
  slices_are block (b ∷ bs) here each =
      slice_split_at is_separator (texts block) (codes ";") (texts b ++ later_tokens s.group bs) (apart block (points s is block here).each) refl
      ∙ ap (λ l. texts block ∷ l) (slices_are b bs each.0 each.1)

  values_back : (block : List ℕ) → Each (PointReadsBack s) block → values_of (point_of s.group s.fixed) (texts block) ≡ Some block
  unfolding values_of
  values_back [] each = refl
  values_back (p ∷ ps) each = rw (each.0.point, values_back ps each.1) refl

  block_back : (block : List ℕ) → IsHere block → block_read s (texts block) ≡ Some block
  block_back block here =
      let rises = rises_back 0 (point_count s) block here.set in
      let size = here.size in ap (λ o. o >>? block_with s) (values_back block (points s is block here).each) ∙ rw (rises, size) refl

  all_back : (blocks : List (List ℕ)) → Each IsHere blocks → values_of (block_read s) (map texts blocks) ≡ Some blocks
  unfolding values_of
  all_back [] each = refl
  all_back (b ∷ bs) each = rw (block_back b each.0, all_back bs each.1) refl

  read_back : (block : List ℕ) (blocks : List (List ℕ)) → 0 < length block → IsHere block → Each IsHere blocks → blocks_read s (block_tokens s.group (block ∷ blocks)) ≡ Some (block ∷ blocks)
  read_back [] blocks some here each = absurd (omega arith)
  read_back (p ∷ ps) blocks some here each = ap (values_of (block_read s)) (slices_are (p ∷ ps) blocks here each) ∙ all_back ((p ∷ ps) ∷ blocks) (here, each)

  blocks_back : (blocks : List (List ℕ)) → Each IsHere blocks → AreFilled blocks → blocks_read s (block_tokens s.group blocks) ≡ Some blocks
  blocks_back [] each some = refl
  blocks_back (b ∷ bs) each some = read_back b bs some.0 each.0 each.1

  filled : (blocks : List (List ℕ)) → Each IsHere blocks → AreFilled blocks
  filled [] each = tt
  filled (b ∷ bs) each = (size_filled (point_count s) s.sizes (length b) is.sizes each.0.size, filled bs each.1)

  pub design_back : (blocks : List (List ℕ)) → Each IsHere blocks → design_of s (design_text s.group blocks) ≡ Some blocks
  design_back blocks each =
      ap (λ line. design_read s (tokens_of line)) (line_tokens s.group blocks (filled blocks each))
      ∙ ap (design_read s) (tokens_back (codes "design" ∷ block_tokens s.group blocks) (word_token (codes "design") (omega arith) refl, tokens_are blocks each))
      ∙ blocks_back blocks each (filled blocks each)

  -- the line has no line feed
  pieces_line : (place : ℕ) (blocks : List (List ℕ)) → Each IsHere blocks → IsLine (block_pieces s.group place blocks)
  pieces_line place [] each = word_line [] refl
  pieces_line place (b ∷ bs) each =
      line_join (block_piece s.group b place) (block_pieces s.group (place + 1) bs)
      (line_join (before_block place) (block_text s.group b) (before_line (place == 0)) (points s is b each.0).line)
      (pieces_line (place + 1) bs each.1)
    where
      before_line : (first : Bool) → IsLine (cond first (32 ∷ []) (codes " ; "))
      before_line true = word_line (32 ∷ []) refl
      before_line false = word_line (codes " ; ") refl

  pub design_line : (blocks : List (List ℕ)) → Each IsHere blocks → IsLine (design_text s.group blocks)
  design_line blocks each = line_join (codes "design") (block_pieces s.group 0 blocks) (word_line (codes "design") refl) (pieces_line 0 blocks each)

pub designs_back : PointsReadBack → DesignsReadBack
designs_back points s is blocks each = record { read = design_back s is points blocks each; line = design_line s is points blocks each }
