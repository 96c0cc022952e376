-- A design line, one token more.
use Rattle.std.proofs.Common.{◌≡◌, ℕ, ◌<◌, ◌≤◌, Bool, true, false, ◌&&◌, cond, List, [], ◌∷◌, ◌++◌, length, Option, Some, None, option_map, refl, sym, ap, ◌∙◌, arith, append-nil, append_assoc}
use Rattle.std.specs.List.{slice_split, onto_first}
use Rattle.std.proofs.lemmas.List.Splits.{slice_split-cons_yes, slice_split-cons_no, length-slice_split}
use Rattle.df_lists.specs.NumberSets.{with_member}
use Rattle.df_lang.specs.Problems.{Stated}
use Rattle.df_lang.specs.Values.{point_of}
use Rattle.df_dossier.specs.Tokens.{◌>>?◌, values_of}
use Rattle.df_dossier.specs.Designs.{is_separator, rises_from, block_with, block_read, blocks_read}
use Rattle.df_dossier.specs.DesignSteps.{least_after, with_point, blocks_after, drafted}
use Rattle.df_dossier.proofs.Rising.{rises_both, with_last, follows_rises, low_falls}

module _ (s : Stated) where
  -- from nothing, all slices are read
  none_before : (slices : List (List (List ℕ))) → 0 < length slices → blocks_after s [] slices ≡ values_of (block_read s) slices
  unfolding values_of
  none_before [] some = absurd (omega arith)
  none_before (slice ∷ slices) some = elim (values_of (point_of s.group s.fixed) slice) as (λ o. (o >>? λ more. block_with s ([] ++ more) >>? λ block. option_map (λ blocks. block ∷ blocks) (values_of (block_read s) slices)) ≡ ((o >>? block_with s) >>? λ block. option_map (λ blocks. block ∷ blocks) (values_of (block_read s) slices))) [
    | None ↦ refl
    | Some more ↦ refl
  ]

  some_slice : (tokens : List (List ℕ)) → 0 < length (slice_split is_separator tokens)
  some_slice tokens = omega (arith, length-slice_split is_separator tokens)

  -- the tokens of a design line that has some
  pub begun : (token : List ℕ) (tokens : List (List ℕ)) → drafted s record { blocks = []; points = [] } (token ∷ tokens) ≡ blocks_read s (token ∷ tokens)
  begun token tokens =
      same_blocks (blocks_after s [] (slice_split is_separator (token ∷ tokens))) ∙ none_before (slice_split is_separator (token ∷ tokens)) (some_slice (token ∷ tokens)) where
        same_blocks : (o : Option (List (List ℕ))) → option_map (λ blocks. [] ++ blocks) o ≡ o
        same_blocks None = refl
        same_blocks (Some blocks) = refl

  onto_blocks : (before : List (List ℕ)) (block : List ℕ) (o : Option (List (List ℕ))) → option_map (λ blocks. before ++ blocks) (option_map (λ blocks. block ∷ blocks) o) ≡ option_map (λ blocks. (before ++ block ∷ []) ++ blocks) o
  onto_blocks before block None = refl
  onto_blocks before block (Some blocks) = ap Some (sym (append_assoc before (block ∷ []) blocks))

  -- a separator, behind points that are a block
  pub closed : (blocks : List (List ℕ)) (points token : List ℕ) (tokens : List (List ℕ)) → is_separator token ≡ true → block_with s points ≡ Some points
      → drafted s record { blocks = blocks; points = points } (token ∷ tokens) ≡ drafted s record { blocks = blocks ++ points ∷ []; points = [] } tokens
  unfolding values_of
  closed blocks points token tokens separates is =
      ap (λ l. option_map (λ bs. blocks ++ bs) (blocks_after s points l)) (slice_split-cons_yes is_separator token tokens separates)
      ∙ ap (λ l. option_map (λ bs. blocks ++ bs) (block_with s l >>? λ block. option_map (λ bs. block ∷ bs) (values_of (block_read s) (slice_split is_separator tokens)))) (append-nil points)
      ∙ ap (λ o. option_map (λ bs. blocks ++ bs) (o >>? λ block. option_map (λ bs. block ∷ bs) (values_of (block_read s) (slice_split is_separator tokens)))) is
      ∙ onto_blocks blocks points (values_of (block_read s) (slice_split is_separator tokens))
      ∙ ap (option_map (λ bs. (blocks ++ points ∷ []) ++ bs)) (sym (none_before (slice_split is_separator tokens) (some_slice tokens)))

  -- and behind points that are none
  pub not_closed : (blocks : List (List ℕ)) (points token : List ℕ) (tokens : List (List ℕ)) → is_separator token ≡ true → block_with s points ≡ None
      → drafted s record { blocks = blocks; points = points } (token ∷ tokens) ≡ None
  unfolding values_of
  not_closed blocks points token tokens separates not =
      ap (λ l. option_map (λ bs. blocks ++ bs) (blocks_after s points l)) (slice_split-cons_yes is_separator token tokens separates)
      ∙ ap (λ l. option_map (λ bs. blocks ++ bs) (block_with s l >>? λ block. option_map (λ bs. block ∷ bs) (values_of (block_read s) (slice_split is_separator tokens)))) (append-nil points)
      ∙ ap (λ o. option_map (λ bs. blocks ++ bs) (o >>? λ block. option_map (λ bs. block ∷ bs) (values_of (block_read s) (slice_split is_separator tokens)))) not

  -- the end of the line, behind points that are a block
  pub whole : (blocks : List (List ℕ)) (points : List ℕ) → block_with s points ≡ Some points → drafted s record { blocks = blocks; points = points } [] ≡ Some (blocks ++ points ∷ [])
  unfolding values_of
  whole blocks points is =
      ap (λ l. option_map (λ bs. blocks ++ bs) (block_with s l >>? λ block. Some (block ∷ []))) (append-nil points)
      ∙ ap (λ o. option_map (λ bs. blocks ++ bs) (o >>? λ block. Some (block ∷ []))) is

  pub not_whole : (blocks : List (List ℕ)) (points : List ℕ) → block_with s points ≡ None → drafted s record { blocks = blocks; points = points } [] ≡ None
  unfolding values_of
  not_whole blocks points not =
      ap (λ l. option_map (λ bs. blocks ++ bs) (block_with s l >>? λ block. Some (block ∷ []))) (append-nil points)
      ∙ ap (λ o. option_map (λ bs. blocks ++ bs) (o >>? λ block. Some (block ∷ []))) not

  -- the slices of a token that is no separator and of others
  one_more : (token : List ℕ) (tokens : List (List ℕ)) → is_separator token ≡ false → slice_split is_separator (token ∷ tokens) ≡ onto_first token (slice_split is_separator tokens)
  one_more token tokens not = slice_split-cons_no is_separator token tokens not

  -- a slice with a point more in front
  point_first : (points token : List ℕ) (p : ℕ) (slices : List (List (List ℕ))) → 0 < length slices → point_of s.group s.fixed token ≡ Some p → blocks_after s points (onto_first token slices) ≡ blocks_after s (points ++ p ∷ []) slices
  unfolding values_of
  point_first points token p [] some is = absurd (omega arith)
  point_first points token p (slice ∷ slices) some is =
      ap (λ o. (o >>? λ q. option_map (λ qs. q ∷ qs) (values_of (point_of s.group s.fixed) slice)) >>? λ more. block_with s (points ++ more) >>? λ block. option_map (λ blocks. block ∷ blocks) (values_of (block_read s) slices)) is
      ∙ moved (values_of (point_of s.group s.fixed) slice) where
        moved : (o : Option (List ℕ)) → (option_map (λ qs. p ∷ qs) o >>? λ more. block_with s (points ++ more) >>? λ block. option_map (λ blocks. block ∷ blocks) (values_of (block_read s) slices))
            ≡ (o >>? λ more. block_with s ((points ++ p ∷ []) ++ more) >>? λ block. option_map (λ blocks. block ∷ blocks) (values_of (block_read s) slices))
        moved None = refl
        moved (Some qs) = ap (λ l. block_with s l >>? λ block. option_map (λ blocks. block ∷ blocks) (values_of (block_read s) slices)) (sym (append_assoc points (p ∷ []) qs))

  no_point_first : (points token : List ℕ) (slices : List (List (List ℕ))) → point_of s.group s.fixed token ≡ None → blocks_after s points (onto_first token slices) ≡ None
  unfolding values_of
  no_point_first points token [] none = ap (λ o. (o >>? λ q. Some (q ∷ [])) >>? λ more. block_with s (points ++ more) >>? λ block. option_map (λ blocks. block ∷ blocks) (Some [])) none
  no_point_first points token (slice ∷ slices) none =
      ap (λ o. (o >>? λ q. option_map (λ qs. q ∷ qs) (values_of (point_of s.group s.fixed) slice)) >>? λ more. block_with s (points ++ more) >>? λ block. option_map (λ blocks. block ∷ blocks) (values_of (block_read s) slices)) none

  -- points that don't rise are no block, whatever follows
  no_rise : (points more : List ℕ) → rises_from 0 points ≡ false → block_with s (points ++ more) ≡ None
  no_rise points more not = let none : rises_from 0 (points ++ more) ≡ false = rises_both 0 points more ∙ ap (λ b. b && rises_from (least_after 0 points) more) not in rw none refl

  none_rise : (points : List ℕ) (slices : List (List (List ℕ))) → rises_from 0 points ≡ false → blocks_after s points slices ≡ None
  none_rise points [] not = refl
  none_rise points (slice ∷ slices) not = each (values_of (point_of s.group s.fixed) slice) where
    each : (o : Option (List ℕ)) → (o >>? λ more. block_with s (points ++ more) >>? λ block. option_map (λ blocks. block ∷ blocks) (values_of (block_read s) slices)) ≡ None
    each None = refl
    each (Some more) = ap (λ o. o >>? λ block. option_map (λ blocks. block ∷ blocks) (values_of (block_read s) slices)) (no_rise points more not)

  -- a token that is no separator
  pub point_taken : (blocks : List (List ℕ)) (points after token : List ℕ) (tokens : List (List ℕ)) → is_separator token ≡ false → with_point s points token ≡ Some after
      → drafted s record { blocks = blocks; points = points } (token ∷ tokens) ≡ drafted s record { blocks = blocks; points = after } tokens
  point_taken blocks points after token tokens not taken =
      ap (λ l. option_map (λ bs. blocks ++ bs) (blocks_after s points l)) (one_more token tokens not) ∙ ap (option_map (λ bs. blocks ++ bs)) (by_point (point_of s.group s.fixed token) refl) where
        by_rise : (p : ℕ) (b : Bool) → point_of s.group s.fixed token ≡ Some p → cond b (Some (points ++ p ∷ [])) None ≡ Some after → blocks_after s points (onto_first token (slice_split is_separator tokens)) ≡ blocks_after s after (slice_split is_separator tokens)
        by_rise p true point taken =
            let same : points ++ p ∷ [] ≡ after = cc in
            point_first points token p (slice_split is_separator tokens) (some_slice tokens) point ∙ ap (λ l. blocks_after s l (slice_split is_separator tokens)) same
        by_rise p false point taken = absurd (cc)

        by_point : (o : Option ℕ) → point_of s.group s.fixed token ≡ o → blocks_after s points (onto_first token (slice_split is_separator tokens)) ≡ blocks_after s after (slice_split is_separator tokens)
        by_point None point = let no : None ≡ Some after = sym (ap (λ o. o >>? λ p. cond (rises_from 0 (points ++ p ∷ [])) (Some (points ++ p ∷ [])) None) point) ∙ taken in absurd (cc)
        by_point (Some p) point = by_rise p (rises_from 0 (points ++ p ∷ [])) point (sym (ap (λ o. o >>? λ q. cond (rises_from 0 (points ++ q ∷ [])) (Some (points ++ q ∷ [])) None) point) ∙ taken)

  pub point_refused : (blocks : List (List ℕ)) (points token : List ℕ) (tokens : List (List ℕ)) → is_separator token ≡ false → with_point s points token ≡ None
      → drafted s record { blocks = blocks; points = points } (token ∷ tokens) ≡ None
  point_refused blocks points token tokens not refused =
      ap (λ l. option_map (λ bs. blocks ++ bs) (blocks_after s points l)) (one_more token tokens not) ∙ ap (option_map (λ bs. blocks ++ bs)) (by_point (point_of s.group s.fixed token) refl) where
        by_rise : (p : ℕ) (b : Bool) → rises_from 0 (points ++ p ∷ []) ≡ b → point_of s.group s.fixed token ≡ Some p → cond b (Some (points ++ p ∷ [])) None ≡ None → blocks_after s points (onto_first token (slice_split is_separator tokens)) ≡ None
        by_rise p true rises point refused = absurd (cc)
        by_rise p false rises point refused =
            point_first points token p (slice_split is_separator tokens) (some_slice tokens) point ∙ none_rise (points ++ p ∷ []) (slice_split is_separator tokens) rises

        by_point : (o : Option ℕ) → point_of s.group s.fixed token ≡ o → blocks_after s points (onto_first token (slice_split is_separator tokens)) ≡ None
        by_point None point = no_point_first points token (slice_split is_separator tokens) point
        by_point (Some p) point = by_rise p (rises_from 0 (points ++ p ∷ [])) refl point (sym (ap (λ o. o >>? λ q. cond (rises_from 0 (points ++ q ∷ [])) (Some (points ++ q ∷ [])) None) point) ∙ refused)

  -- the point of a token, which may follow the points so far or may not
  pub added : (points token : List ℕ) (p : ℕ) → point_of s.group s.fixed token ≡ Some p → rises_from 0 points ≡ true → least_after 0 points ≤ p → with_point s points token ≡ Some (with_member p points)
  added points token p point rises high =
      ap (λ o. o >>? λ q. cond (rises_from 0 (points ++ q ∷ [])) (Some (points ++ q ∷ [])) None) point
      ∙ ap (λ b. cond b (Some (points ++ p ∷ [])) None) (follows_rises p points rises high)
      ∙ ap Some (sym (with_last 0 p points rises high))

  pub too_low : (points token : List ℕ) (p : ℕ) → point_of s.group s.fixed token ≡ Some p → p < least_after 0 points → with_point s points token ≡ None
  too_low points token p point low =
      ap (λ o. o >>? λ q. cond (rises_from 0 (points ++ q ∷ [])) (Some (points ++ q ∷ [])) None) point
      ∙ ap (λ b. cond b (Some (points ++ p ∷ [])) None) (low_falls p points low)
