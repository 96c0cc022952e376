-- Design lines and the columns that they tell; and the designs of lines that close a checker.
use Rattle.std.proofs.Common.{◌≡◌, ◌↔◌, ℕ, zero, suc, ◌+◌, ◌<◌, ◌≤◌, Bool, true, false, cond, List, [], ◌∷◌, map, length, Some, None, slice_get, refl, sym, ap, ap₂, ◌∙◌, subst, inl, inr, ⊎_elim, arith, eq-eqb}
use Rattle.std.specs.Prelude.{nat_eq}
use Rattle.std.specs.List.{AllByRecursion, All}
use Rattle.std.specs.List.Sorted.{IsPermutation}
use Rattle.std.proofs.lemmas.List.{length-map}
use Rattle.std.proofs.lemmas.Simd.{map-map}
use Rattle.std.proofs.lemmas.List.Sorted.{IsPermutation-map, IsPermutation-sym}
use Rattle.std.proofs.lemmas.List.Elements.{All-map}
use Rattle.std.proofs.lemmas.Option.{slice_get-get_or, same_Some}
use Rattle.std.proofs.lemmas.Map.Views.{All-map-IsPermutation}
use Rattle.df_lists.specs.Membership.{In}
use Rattle.df_lists.specs.Orders.{IsEquality}
use Rattle.df_lists.proofs.ListPlaces.{all_members, All-from_members}
use Rattle.df_lists.proofs.MemberLaws.{In-append_cases, In-map_gives, In-filter_gives}
use Rattle.df_lists.proofs.SetLaws.{numbers_equal}
use Rattle.df_lists.proofs.TestLaws.{same_tests, map_agree, map_fixed}
use Rattle.df_subsets.specs.Blocks.{before}
use Rattle.df_subsets.specs.Subsets.{same_list}
use Rattle.df_lang.specs.Problems.{Stated}
use Rattle.df_walk.proofs.VectorLengths.{vectors_long}
use Rattle.df_walk.specs.Systems.{IsSystem}
use Rattle.df_walk.specs.Assignments.{Decisions}
use Rattle.df_walk.specs.Solutions.{vectors, is_solution, solutions, yes_columns, yes_columns_from, chosen_columns}
use Rattle.df_kramer_mesner.specs.OrbitSystems.{columns_of, column_at, column_number, orbit_system}
use Rattle.df_kramer_mesner.specs.Laws.{AreNumbered}
use Rattle.df_families.specs.Families.{picked}
use Rattle.df_families.specs.Laws.{ArePicked}
use Rattle.df_correspondence.specs.Designs.{asked, base, union_of, design}
use Rattle.df_check.specs.Leaves.{one_later, difference}
use Rattle.df_check.specs.Checkers.{begun, columns_differ, is_closed}
use Rattle.df_check.specs.Lines.{Line, leaves_of, after_lines}
use Rattle.df_check.specs.DesignLines.{begun_on, blocks_of, blocks_differ, after_design_lines}
use Rattle.df_check.specs.DesignLaws.{AreProof, AreAllDesigns}
use Rattle.df_check.proofs.LeafLists.{same_lists, no_difference}
use Rattle.df_check.specs.Laws.{LinesCloseProofs, ClosedLinesAreWhole}
use Rattle.df_check.proofs.DesignMoves.{told_by, leaves_told, proved, in_order, closes}

-- what is one to one keeps differences
map_difference : {X Y : Type 0} (eq : X → X → Bool) (eq' : Y → Y → Bool) (f : X → Y) (P : X → Type 0) → ((x y : X) → P x → P y → eq' (f x) (f y) ≡ eq x y) → (xs ys : List X) → AllByRecursion P xs → AllByRecursion P ys → difference eq' (map f xs) (map f ys) ≡ difference eq xs ys
map_difference eq eq' f P agree [] [] p q = refl
map_difference eq eq' f P agree [] (y ∷ ys) p q = refl
map_difference eq eq' f P agree (x ∷ xs) [] p q = refl
map_difference eq eq' f P agree (x ∷ xs) (y ∷ ys) p q = ap₂ (λ t o. cond t (one_later o) (Some 0)) (agree x y p.0 q.0) (map_difference eq eq' f P agree xs ys p.1 q.1)

yes_within : (n column : ℕ) (ds : Decisions) → column + length ds ≤ n → AllByRecursion (λ c. c < n) (yes_columns_from column ds)
yes_within n column [] l = tt
yes_within n column (None ∷ ds) l = yes_within n (column + 1) ds (omega arith)
yes_within n column (Some true ∷ ds) l = (omega arith, yes_within n (column + 1) ds (omega arith))
yes_within n column (Some false ∷ ds) l = yes_within n (column + 1) ds (omega arith)

module _ (equal : IsEquality same_list) (s : Stated) (numbered : AreNumbered s) where
  stands : (column : ℕ) → column < length (columns_of s) → slice_get (columns_of s) column ≡ Some (column_at s column)
  stands column l = slice_get-get_or (columns_of s) column [] l

  -- the representatives of columns are the same where the columns are
  same_column : (x y : ℕ) → x < length (columns_of s) → y < length (columns_of s) → same_list (column_at s x) (column_at s y) ≡ nat_eq x y
  same_column x y l m = same_tests (same_list (column_at s x) (column_at s y)) (nat_eq x y)
      (λ h. eq-eqb x y (same_Some x y (sym (numbered.column x (column_at s x) (stands x l)) ∙ ap (column_number s) (equal.same (column_at s x) (column_at s y) h) ∙ numbered.column y (column_at s y) (stands y m))))
      (λ h. subst (λ z. same_list (column_at s x) (column_at s z) ≡ true) (numbers_equal.same x y h) (equal.self (column_at s x)))

  pub columns_told : (columns : List ℕ) (ds : Decisions) → AllByRecursion (λ column. column < length (columns_of s)) columns → length ds ≤ length (columns_of s) → blocks_differ s (blocks_of s columns) ds ≡ columns_differ columns ds
  columns_told columns ds all few = map_difference nat_eq same_list (column_at s) (λ column. column < length (columns_of s)) same_column columns (yes_columns ds) all (yes_within (length (columns_of s)) 0 ds (omega (arith, few)))

module _ (equal : IsEquality same_list) (s : Stated) where
  fits : (ds : Decisions) → blocks_differ s (blocks_of s (yes_columns ds)) ds ≡ None
  fits ds = no_difference same_list equal (blocks_of s (yes_columns ds))

  is_leaf : (blocks : List (List ℕ)) (ds : Decisions) → blocks_differ s blocks ds ≡ None → blocks ≡ blocks_of s (yes_columns ds)
  is_leaf blocks ds h = same_lists same_list equal blocks (blocks_of s (yes_columns ds)) h

  of_columns : (lines : List (Line (List (List ℕ)))) → is_closed (after_design_lines s (begun_on s).wants lines) ≡ true → (cs : List (Line (List ℕ))) × (lines ≡ map (told_by (blocks_of s)) cs) × (is_closed (after_lines (orbit_system s) (begun (orbit_system s)).wants cs) ≡ true)
  of_columns lines h = proved (orbit_system s) (blocks_of s) (blocks_differ s) fits is_leaf lines h

  -- the design lines are those of the leaves
  of_leaves : (lines : List (Line (List (List ℕ)))) (cs : List (Line (List ℕ))) → lines ≡ map (told_by (blocks_of s)) cs → leaves_of lines ≡ map (blocks_of s) (leaves_of cs)
  of_leaves lines cs h = ap leaves_of h ∙ leaves_told (blocks_of s) cs

  pub lines_prove : LinesCloseProofs → (lines : List (Line (List (List ℕ)))) → (is_closed (after_design_lines s (begun_on s).wants lines) ≡ true) ↔ AreProof s lines
  lines_prove closed lines = (λ h. forward (of_columns lines h), λ p. closes (orbit_system s) (blocks_of s) (blocks_differ s) fits is_leaf closed lines p.leaves p.order p.proves p.designs)
    where
      forward : (cs : List (Line (List ℕ))) × (lines ≡ map (told_by (blocks_of s)) cs) × (is_closed (after_lines (orbit_system s) (begun (orbit_system s)).wants cs) ≡ true) → AreProof s lines
      forward (cs, same, shut) =
          let at = in_order (orbit_system s) (blocks_of s) (blocks_differ s) fits is_leaf closed cs shut in
          subst (AreProof s) (sym same) (record { order = at.0; leaves = leaves_of cs; proves = at.1; designs = leaves_told (blocks_of s) cs })

module _ (equal : IsEquality same_list) (s : Stated) (ok : IsSystem (orbit_system s)) (pick : ArePicked before (columns_of s)) (bases : (x : List Bool) → base s (design s x) ≡ picked (columns_of s) x) (solve : asked s ≡ map (design s) (solutions (orbit_system s))) where
  -- the representatives of the columns that a vector chooses are picked by it
  pub chosen : (x : List Bool) → In (solutions (orbit_system s)) x → blocks_of s (chosen_columns x) ≡ picked (columns_of s) x
  chosen x i =
      let long : length x ≡ length (orbit_system s).columns = vectors_long (length (orbit_system s).columns) x (In-filter_gives (is_solution (orbit_system s)) (vectors (length (orbit_system s).columns)) x i).0 in
      let same : length (orbit_system s).columns ≡ length (columns_of s) = length-map (columns_of s) _ in
      sym (pick.by_numbers x [] (omega (arith, long, same)))

  design_chosen : (x : List Bool) → In (solutions (orbit_system s)) x → union_of s (blocks_of s (chosen_columns x)) ≡ design s x
  design_chosen x i = ap (union_of s) (chosen x i)

  all_asked : map (λ columns. union_of s (blocks_of s columns)) (map chosen_columns (solutions (orbit_system s))) ≡ asked s
  all_asked =
      map-map (λ columns. union_of s (blocks_of s columns)) chosen_columns (solutions (orbit_system s))
      ∙ map_agree (λ x. union_of s (blocks_of s (chosen_columns x))) (design s) (solutions (orbit_system s)) design_chosen
      ∙ sym solve

  abbrev IsBase : List (List ℕ) → Type 0
  IsBase blocks = base s (union_of s blocks) ≡ blocks

  its_base : (x : List Bool) → In (solutions (orbit_system s)) x → IsBase (blocks_of s (chosen_columns x))
  its_base x i = ap (base s) (design_chosen x i) ∙ bases x ∙ sym (chosen x i)

  all_bases : All IsBase (map (blocks_of s) (map chosen_columns (solutions (orbit_system s))))
  all_bases = All-map IsBase (blocks_of s) (map chosen_columns (solutions (orbit_system s))) (All-map (λ columns. IsBase (blocks_of s columns)) chosen_columns (solutions (orbit_system s)) (All-from_members (λ x. IsBase (blocks_of s (chosen_columns x))) (solutions (orbit_system s)) its_base))

  of_whole : (lines : List (Line (List (List ℕ)))) (L : List (List ℕ)) → leaves_of lines ≡ map (blocks_of s) L → IsPermutation L (map chosen_columns (solutions (orbit_system s))) → AreAllDesigns s lines
  of_whole lines L told whole = record {
    designs =
        let moved : IsPermutation (map (λ columns. union_of s (blocks_of s columns)) L) (map (λ columns. union_of s (blocks_of s columns)) (map chosen_columns (solutions (orbit_system s)))) = IsPermutation-map (λ columns. union_of s (blocks_of s columns)) L _ whole in
        let listed : map (union_of s) (leaves_of lines) ≡ map (λ columns. union_of s (blocks_of s columns)) L = ap (map (union_of s)) told ∙ map-map (union_of s) (blocks_of s) L in
        subst (λ l. IsPermutation l (asked s)) (sym listed) (subst (λ l. IsPermutation (map (λ columns. union_of s (blocks_of s columns)) L) l) all_asked moved);
    bases =
        let each : All IsBase (map (blocks_of s) L) = All-map-IsPermutation (blocks_of s) IsBase (map chosen_columns (solutions (orbit_system s))) L (IsPermutation-sym L _ whole) all_bases in
        map-map (base s) (union_of s) (leaves_of lines) ∙ map_fixed (λ blocks. base s (union_of s blocks)) (leaves_of lines) (all_members IsBase (leaves_of lines) (subst (All IsBase) (sym told) each));
  }

  pub all_designs : ClosedLinesAreWhole → (lines : List (Line (List (List ℕ)))) → is_closed (after_design_lines s (begun_on s).wants lines) ≡ true → AreAllDesigns s lines
  all_designs all lines h =
      let at = of_columns equal s lines h in
      of_whole lines (leaves_of at.0) (of_leaves equal s lines at.0 at.1) (all (orbit_system s) at.0 ok at.2)
