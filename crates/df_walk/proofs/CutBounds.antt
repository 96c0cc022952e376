-- A cut leaves no solution.
use Rattle.std.proofs.Common.{◌≡◌, ℕ, suc, zero, ◌<◌, Bool, true, false, List, [], ◌∷◌, length, map, Some, None, refl, sym, ◌∙◌, arith, inl, inr}
use Rattle.std.specs.Prelude.{ℤ, pos, negsuc, ◌+ℤ◌, ◌-ℤ◌, ◌*ℤ◌, ◌≤ℤ◌, int_lt}
use Rattle.std.specs.Int.{int_min, int_max}
use Rattle.std.specs.List.{AllByRecursion}
use Rattle.std.proofs.Math.IntN.{zero-*ℤ, *ℤ-zero, suc_ℤ-*ℤ, pred_ℤ-*ℤ}
use Rattle.std.proofs.lemmas.Bool.{false≢true, or_cases}
use Rattle.std.proofs.lemmas.Int.{ints, clamps}
use Rattle.df_walk.specs.declared.CutRow.{CutRow}
use Rattle.df_walk.specs.Systems.{System, entry_of}
use Rattle.df_walk.specs.Assignments.{Decisions, open_values, taken, need}
use Rattle.df_walk.specs.Solutions.{keeps, product, solutions_with}
use Rattle.df_walk.specs.Cuts.{weighted_need, weight_of, negatives, positives, least_weight, greatest_weight}
use Rattle.df_walk.specs.Logs.{CutPasses}
use Rattle.df_walk.proofs.NoSolutions.{KeepsAndSolves, none_solves}
use Rattle.df_walk.proofs.SignedNumbers.{below_from_test}

*ℤ-+ℤ_pos : (n : ℕ) (a b : ℤ) → pos n *ℤ (a +ℤ b) ≡ (pos n *ℤ a) +ℤ (pos n *ℤ b)
*ℤ-+ℤ_pos zero a b = rw (zero-*ℤ (a +ℤ b), zero-*ℤ a, zero-*ℤ b)
*ℤ-+ℤ_pos (suc n) a b = suc_ℤ-*ℤ (pos n) (a +ℤ b) ∙ rw (*ℤ-+ℤ_pos n a b, suc_ℤ-*ℤ (pos n) a, suc_ℤ-*ℤ (pos n) b) (omega (arith, ints))

*ℤ-+ℤ_negsuc : (n : ℕ) (a b : ℤ) → negsuc n *ℤ (a +ℤ b) ≡ (negsuc n *ℤ a) +ℤ (negsuc n *ℤ b)
*ℤ-+ℤ_negsuc zero a b = pred_ℤ-*ℤ (pos 0) (a +ℤ b) ∙ rw (zero-*ℤ (a +ℤ b), pred_ℤ-*ℤ (pos 0) a, pred_ℤ-*ℤ (pos 0) b, zero-*ℤ a, zero-*ℤ b) (omega (arith, ints))
*ℤ-+ℤ_negsuc (suc n) a b = pred_ℤ-*ℤ (negsuc n) (a +ℤ b) ∙ rw (*ℤ-+ℤ_negsuc n a b, pred_ℤ-*ℤ (negsuc n) a, pred_ℤ-*ℤ (negsuc n) b) (omega (arith, ints))

-- a product with a sum
*ℤ-+ℤ : (w a b : ℤ) → w *ℤ (a +ℤ b) ≡ (w *ℤ a) +ℤ (w *ℤ b)
*ℤ-+ℤ (pos n) a b = *ℤ-+ℤ_pos n a b
*ℤ-+ℤ (negsuc n) a b = *ℤ-+ℤ_negsuc n a b

-- the values at the undecided columns that the vector chooses, added up
abbrev chosen : {X : Type 0} → (X → ℤ) → List X → Decisions → List Bool → ℤ
chosen f [] ds x = pos 0
chosen f (y ∷ ys) ds [] = pos 0
chosen f (y ∷ ys) [] (true ∷ x) = f y +ℤ chosen f ys [] x
chosen f (y ∷ ys) [] (false ∷ x) = chosen f ys [] x
chosen f (y ∷ ys) (None ∷ ds) (true ∷ x) = f y +ℤ chosen f ys ds x
chosen f (y ∷ ys) (None ∷ ds) (false ∷ x) = chosen f ys ds x
chosen f (y ∷ ys) (Some d ∷ ds) (b ∷ x) = chosen f ys ds x

-- for a row it is what the vector makes of it less what is taken
chosen_in_row : {X : Type 0} (f : X → ℕ) (ys : List X) (ds : Decisions) (x : List Bool) → keeps ds x ≡ true → pos (product (map f ys) x) -ℤ pos (taken (map f ys) ds) ≡ chosen (λ y. pos (f y)) ys ds x
chosen_in_row f [] [] [] k = refl
chosen_in_row f [] [] (b ∷ x) k = refl
chosen_in_row f [] (d ∷ ds) [] k = absurd (false≢true k)
chosen_in_row f [] (d ∷ ds) (b ∷ x) k = refl
chosen_in_row f (y ∷ ys) [] [] k = refl
chosen_in_row f (y ∷ ys) (d ∷ ds) [] k = absurd (false≢true k)
chosen_in_row f (y ∷ ys) [] (true ∷ x) k = rw (← chosen_in_row f ys [] x refl) (omega (arith, ints))
chosen_in_row f (y ∷ ys) [] (false ∷ x) k = chosen_in_row f ys [] x refl
chosen_in_row f (y ∷ ys) (None ∷ ds) (true ∷ x) k = rw (← chosen_in_row f ys ds x k) (omega (arith, ints))
chosen_in_row f (y ∷ ys) (None ∷ ds) (false ∷ x) k = chosen_in_row f ys ds x k
chosen_in_row f (y ∷ ys) (Some true ∷ ds) (true ∷ x) k = rw (← chosen_in_row f ys ds x k) (omega (arith, ints))
chosen_in_row f (y ∷ ys) (Some true ∷ ds) (false ∷ x) k = absurd (false≢true k)
chosen_in_row f (y ∷ ys) (Some false ∷ ds) (true ∷ x) k = absurd (false≢true k)
chosen_in_row f (y ∷ ys) (Some false ∷ ds) (false ∷ x) k = chosen_in_row f ys ds x k

-- a weighted value and another
chosen_both : {X : Type 0} (w : ℤ) (f g : X → ℤ) (ys : List X) (ds : Decisions) (x : List Bool) → chosen (λ y. (w *ℤ f y) +ℤ g y) ys ds x ≡ (w *ℤ chosen f ys ds x) +ℤ chosen g ys ds x
chosen_both w f g [] ds x = rw (*ℤ-zero w)
chosen_both w f g (y ∷ ys) ds [] = rw (*ℤ-zero w)
chosen_both w f g (y ∷ ys) [] (true ∷ x) = rw (chosen_both w f g ys [] x, *ℤ-+ℤ w (f y) (chosen f ys [] x)) (omega (arith, ints))
chosen_both w f g (y ∷ ys) [] (false ∷ x) = chosen_both w f g ys [] x
chosen_both w f g (y ∷ ys) (None ∷ ds) (true ∷ x) = rw (chosen_both w f g ys ds x, *ℤ-+ℤ w (f y) (chosen f ys ds x)) (omega (arith, ints))
chosen_both w f g (y ∷ ys) (None ∷ ds) (false ∷ x) = chosen_both w f g ys ds x
chosen_both w f g (y ∷ ys) (Some d ∷ ds) (b ∷ x) = chosen_both w f g ys ds x

chosen_none : {X : Type 0} (ys : List X) (ds : Decisions) (x : List Bool) → chosen (λ y. pos 0) ys ds x ≡ pos 0
chosen_none [] ds x = refl
chosen_none (y ∷ ys) ds [] = refl
chosen_none (y ∷ ys) [] (true ∷ x) = rw (chosen_none ys [] x)
chosen_none (y ∷ ys) [] (false ∷ x) = chosen_none ys [] x
chosen_none (y ∷ ys) (None ∷ ds) (true ∷ x) = rw (chosen_none ys ds x)
chosen_none (y ∷ ys) (None ∷ ds) (false ∷ x) = chosen_none ys ds x
chosen_none (y ∷ ys) (Some d ∷ ds) (b ∷ x) = chosen_none ys ds x

-- of a solution that keeps the decisions the weighted need is the weight of its columns
weighted_need_is : (s : System) (ds : Decisions) (x : List Bool) (ws : List CutRow) → KeepsAndSolves s ds x → AllByRecursion (λ w. w.row < length s.targets) ws → weighted_need s ds ws ≡ chosen (weight_of ws) s.columns ds x
weighted_need_is s ds x [] k rows = sym (chosen_none s.columns ds x)
weighted_need_is s ds x (w ∷ ws) k rows =
    let here : need s ds w.row ≡ chosen (λ c. pos (entry_of c w.row)) s.columns ds x = rw (k.solved w.row rows.0) (chosen_in_row (λ c. entry_of c w.row) s.columns ds x k.kept) in
    rw (here, weighted_need_is s ds x ws k rows.1) (sym (chosen_both w.weight (λ c. pos (entry_of c w.row)) (weight_of ws) s.columns ds x))

min_below : (z : ℤ) → (int_min z (pos 0) ≤ℤ z) × (int_min z (pos 0) ≤ℤ pos 0)
min_below z = (omega (arith, ints, clamps), omega (arith, ints, clamps))

max_above : (z : ℤ) → (z ≤ℤ int_max z (pos 0)) × (pos 0 ≤ℤ int_max z (pos 0))
max_above z = (omega (arith, ints, clamps), omega (arith, ints, clamps))

negatives_low : (zs : List ℤ) → negatives zs ≤ℤ pos 0
negatives_low [] = omega (arith, ints)
negatives_low (z ∷ zs) = let m = min_below z in omega (arith, ints, negatives_low zs)

positives_high : (zs : List ℤ) → pos 0 ≤ℤ positives zs
positives_high [] = omega (arith, ints)
positives_high (z ∷ zs) = let m = max_above z in omega (arith, ints, positives_high zs)

-- it lies between the sums of the negative and of the positive ones
least_chosen : {X : Type 0} (f : X → ℤ) (ys : List X) (ds : Decisions) (x : List Bool) → negatives (open_values (map f ys) ds) ≤ℤ chosen f ys ds x
least_chosen f [] ds x = omega (arith, ints)
least_chosen f (y ∷ ys) ds [] = negatives_low (open_values (map f (y ∷ ys)) ds)
least_chosen f (y ∷ ys) [] (true ∷ x) = let m = min_below (f y) in omega (arith, ints, least_chosen f ys [] x)
least_chosen f (y ∷ ys) [] (false ∷ x) = let m = min_below (f y) in omega (arith, ints, least_chosen f ys [] x)
least_chosen f (y ∷ ys) (None ∷ ds) (true ∷ x) = let m = min_below (f y) in omega (arith, ints, least_chosen f ys ds x)
least_chosen f (y ∷ ys) (None ∷ ds) (false ∷ x) = let m = min_below (f y) in omega (arith, ints, least_chosen f ys ds x)
least_chosen f (y ∷ ys) (Some d ∷ ds) (b ∷ x) = least_chosen f ys ds x

chosen_greatest : {X : Type 0} (f : X → ℤ) (ys : List X) (ds : Decisions) (x : List Bool) → chosen f ys ds x ≤ℤ positives (open_values (map f ys) ds)
chosen_greatest f [] ds x = omega (arith, ints)
chosen_greatest f (y ∷ ys) ds [] = positives_high (open_values (map f (y ∷ ys)) ds)
chosen_greatest f (y ∷ ys) [] (true ∷ x) = let m = max_above (f y) in omega (arith, ints, chosen_greatest f ys [] x)
chosen_greatest f (y ∷ ys) [] (false ∷ x) = let m = max_above (f y) in omega (arith, ints, chosen_greatest f ys [] x)
chosen_greatest f (y ∷ ys) (None ∷ ds) (true ∷ x) = let m = max_above (f y) in omega (arith, ints, chosen_greatest f ys ds x)
chosen_greatest f (y ∷ ys) (None ∷ ds) (false ∷ x) = let m = max_above (f y) in omega (arith, ints, chosen_greatest f ys ds x)
chosen_greatest f (y ∷ ys) (Some d ∷ ds) (b ∷ x) = chosen_greatest f ys ds x

pub cut_none : (s : System) (ds : Decisions) (ws : List CutRow) → CutPasses s ds ws → solutions_with s ds ≡ []
cut_none s ds ws h = none_solves s ds (λ x l k.
    let is = weighted_need_is s ds x ws k h.0 in
    let low = least_chosen (weight_of ws) s.columns ds x in
    let high = chosen_greatest (weight_of ws) s.columns ds x in
    elim (or_cases (int_lt (weighted_need s ds ws) (least_weight s ds ws)) (int_lt (greatest_weight s ds ws) (weighted_need s ds ws)) h.1) [
      | inl below ↦ let b = below_from_test (weighted_need s ds ws) (least_weight s ds ws) below in let e = rw is at b in omega (arith, ints)
      | inr above ↦ let b = below_from_test (greatest_weight s ds ws) (weighted_need s ds ws) above in let e = rw is at b in omega (arith, ints)
    ])
