-- The pieces of which the texts of a run are put together.
use Rattle.std.proofs.Common.{◌≡◌, ◌++◌, ◌∷◌, [], ℕ, ◌+◌, ◌<◌, ◌≤◌, Bool, true, false, eqb, List, length, map, drop, get_or, decimal, Option, None, Some, refl, sym, ap, ◌∙◌, ◌^◌, arith, append_assoc, append-nil, length-append}
use Rattle.std.specs.Prelude.{IsSome, option_map}
use Rattle.std.proofs.lemmas.List.{drop_more}
use Rattle.std.proofs.lemmas.Bool.{ne_eqb}
use Rattle.df_lists.specs.Membership.{In}
use Rattle.df_lists.proofs.MemberLaws.{In-filter_gives}
use Rattle.df_subsets.specs.SubsetLaws.{SubsetsAreAll, CandidatesAreAll}
use Rattle.df_walk.specs.Solutions.{yes_columns_from, chosen_columns}
use Rattle.df_lang.specs.Problems.{Stated, IsStated}
use Rattle.df_kramer_mesner.specs.OrbitSystems.{all_blocks, has_in_orbit, columns_of}
use Rattle.df_kramer_mesner.proofs.OrbitBlocks.{block_sized}
use Rattle.df_families.specs.Families.{picked}
use Rattle.df_correspondence.specs.Designs.{design, base}
use Rattle.df_design.specs.RemainingDesigns.{Remaining, last_design}
use Rattle.df_dossier.specs.Designs.{block_piece, block_pieces}
use Rattle.df_dossier.specs.Paths.{end_tokens}
use Rattle.df_io.specs.Joined.{spaced}
use Rattle.df_io.proofs.NumbersBack.{decimal_short}
use Rattle.std.specs.List.{flat_map}
use Rattle.df_search.specs.Searches.{Searching}
use Rattle.df_tell.specs.declared.run.Shown.{Shown}
use Rattle.df_tell.specs.declared.run.RunEnd.{RunEnd}
use Rattle.df_tell.specs.declared.run.RunEnd.TheVariants.{Spent}
use Rattle.df_tell.specs.Run.{path_end, design_line, block_comment, comment_lines, solution_lines, end_text}
use Rattle.df_tell.specs.RunSteps.{columns_text, column_text, stop_at}

-- a path: its length, its yes columns, and the end of the line
pub path_is : (p : List Bool) (n : ℕ) → n ≡ length p → (32 ∷ decimal n) ++ (columns_text (chosen_columns p) ++ 10 ∷ []) ≡ path_end p
path_is p n is = ap (λ k. (32 ∷ decimal k) ++ (columns_text (chosen_columns p) ++ 10 ∷ [])) is ∙ sym (append_assoc (32 ∷ decimal (length p)) (columns_text (chosen_columns p)) (10 ∷ []))

-- one column of a path more
pub columns_step : (p : List Bool) (column : ℕ) → column < length p → columns_text (yes_columns_from column (map Some (drop column p))) ≡ column_text (get_or p column false) column ++ columns_text (yes_columns_from (column + 1) (map Some (drop (column + 1) p)))
columns_step p column within = ap (λ l. columns_text (yes_columns_from column (map Some l))) (drop_more p column false within) ∙ here (get_or p column false)
  where
    here : (b : Bool) → columns_text (yes_columns_from column (map Some (b ∷ drop (column + 1) p))) ≡ column_text b column ++ columns_text (yes_columns_from (column + 1) (map Some (drop (column + 1) p)))
    here true = refl
    here false = refl

-- after the first block the place of a block makes no difference
pub pieces_later : (fs : List ℕ) (place : ℕ) (blocks : List (List ℕ)) → block_pieces fs (place + 1) blocks ≡ block_pieces fs 1 blocks
pieces_later fs place [] = refl
pieces_later fs place (block ∷ blocks) =
    let e : eqb (place + 1) 0 ≡ false = ne_eqb (place + 1) 0 (λ z. absurd (omega (arith, z))) in
    rw e (ap (λ l. block_piece fs block 1 ++ l) (pieces_later fs (place + 1) blocks ∙ sym (pieces_later fs 1 blocks)))

-- the blocks of a design have at most 16 points
pub design_short : SubsetsAreAll → CandidatesAreAll → (s : Stated) → IsStated s → (x : List Bool) (block : List ℕ) → In (design s x) block → length block ≤ 16
design_short all some s is x block i = (block_sized all some s is block (In-filter_gives (has_in_orbit s (picked (columns_of s) x)) (all_blocks s) block i).0).high

-- the design that was found, and its base blocks
pub record IsFound (s : Stated) (r : Remaining) (reps : List (List ℕ)) : Type 0 where
  pub x : List Bool
  pub chosen : r.search.chosen ≡ Some x
  pub last : last_design r ≡ Some (design s x)
  pub base_is : reps ≡ base s (design s x)

pub found : (s : Stated) (r : Remaining) (reps : List (List ℕ)) → r.problem ≡ s → IsSome r.search.chosen → option_map (base r.problem) (last_design r) ≡ Some reps → IsFound s r reps
found s r reps problem some bases = go r.search.chosen refl
  where
    go : (o : Option (List Bool)) → r.search.chosen ≡ o → IsFound s r reps
    go None is = absurd (let h = some in cc)
    go (Some x) is =
        let last : last_design r ≡ Some (design s x) = ap (option_map (design r.problem)) is ∙ ap (λ t. Some (design t x)) problem in
        let e : Some (base s (design s x)) ≡ Some reps = ap (λ t. Some (base t (design s x))) (sym problem) ∙ ap (option_map (base r.problem)) (sym last) ∙ bases in
        record { x = x; chosen = is; last = last; base_is = cc }

-- its lines
pub printed : (shown : Shown) (s : Stated) (r : Remaining) (reps : List (List ℕ)) (f : IsFound s r reps) → design_line s reps ++ comment_lines shown s (design s f.x) ≡ solution_lines shown s r.search.chosen
printed shown s r reps f = ap (λ l. design_line s l ++ comment_lines shown s (design s f.x)) f.base_is ∙ ap (solution_lines shown s) (sym f.chosen)

pub printed_base : (shown : Shown) (s : Stated) (r : Remaining) (reps : List (List ℕ)) (f : IsFound s r reps) → shown.blocks ≡ false → design_line s reps ≡ solution_lines shown s r.search.chosen
printed_base shown s r reps f hidden =
    let none : comment_lines shown s (design s f.x) ≡ [] = rw hidden refl in
    sym (append-nil (design_line s reps)) ∙ ap (λ l. design_line s reps ++ l) (sym none) ∙ printed shown s r reps f

pub same_blocks : (s : Stated) (r : Remaining) (reps blocks : List (List ℕ)) (f : IsFound s r reps) → last_design r ≡ Some blocks → blocks ≡ design s f.x
same_blocks s r reps blocks f listed = let e = f.last in cc

pub printed_all : (shown : Shown) (s : Stated) (r : Remaining) (reps blocks : List (List ℕ)) (f : IsFound s r reps) → last_design r ≡ Some blocks → shown.blocks ≡ true → design_line s reps ++ flat_map (block_comment s) blocks ≡ solution_lines shown s r.search.chosen
printed_all shown s r reps blocks f listed shows =
    let some : comment_lines shown s (design s f.x) ≡ flat_map (block_comment s) (design s f.x) = rw shows refl in
    ap (λ l. design_line s reps ++ flat_map (block_comment s) l) (same_blocks s r reps blocks f listed) ∙ ap (λ l. design_line s reps ++ l) (sym some) ∙ printed shown s r reps f

-- an end line fits its buffer
pub end_short : (finished : Bool) (designs nodes : ℕ) → designs < 2 ^ 64 → nodes < 2 ^ 64 → length (spaced (end_tokens finished designs nodes)) ≤ 100
end_short true designs nodes d n = let a = decimal_short designs d in let b = decimal_short nodes n in simp length-append (omega arith)
end_short false designs nodes d n = let a = decimal_short designs d in let b = decimal_short nodes n in simp length-append (omega arith)

-- the end line of a spent run
pub spent_end : (designs nodes : ℕ) (end : RunEnd) (q : Searching) (p : List Bool) → end ≡ Spent → q.place ≡ Some p → spaced (end_tokens false designs nodes) ++ path_end p ≡ end_text designs nodes (stop_at end q)
spent_end designs nodes end q p is place = rw (is, place) refl
