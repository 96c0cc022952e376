-- A log is right: its list has exactly the solutions.
use Rattle.std.proofs.Common.{◌≡◌, ℕ, suc, zero, ◌+◌, ◌≤◌, true, false, List, [], ◌∷◌, ◌++◌, length, set, map, Some, None, refl, ap, ◌∙◌, arith}
use Rattle.std.specs.List.Sorted.{IsPermutation}
use Rattle.std.proofs.lemmas.List.{length-set, map-append}
use Rattle.std.proofs.lemmas.List.Sorted.{IsPermutation-refl, IsPermutation-sym, IsPermutation-trans, IsPermutation-append, IsPermutation-map}
use Rattle.df_walk.specs.declared.Entry.{Entry}
use Rattle.df_walk.specs.Systems.{System, IsSystem}
use Rattle.df_walk.specs.Assignments.{Decisions}
use Rattle.df_walk.specs.Solutions.{solutions_with, yes_vector, yes_columns_from, yes_columns, chosen_columns}
use Rattle.df_walk.specs.Logs.{Proves, over, under, residue, cut, settled, branch}
use Rattle.df_walk.proofs.NoSolutions.{over_none, under_none, residue_none}
use Rattle.df_walk.proofs.CutBounds.{cut_none}
use Rattle.df_walk.proofs.SettledDecisions.{settled_one}
use Rattle.df_walk.proofs.DecisionSplits.{column_split}

-- the columns of the solutions with the decisions' values
abbrev pub chosen_with : System → Decisions → List (List ℕ)
chosen_with s ds = map chosen_columns (solutions_with s ds)

none_chosen : (n column : ℕ) → yes_columns_from column (map Some (yes_vector n [])) ≡ []
none_chosen zero column = refl
none_chosen (suc n) column = none_chosen n (column + 1)

chosen_from : (n column : ℕ) (ds : Decisions) → length ds ≤ n → yes_columns_from column (map Some (yes_vector n ds)) ≡ yes_columns_from column ds
chosen_from n column [] h = none_chosen n column
chosen_from zero column (d ∷ ds) h = absurd (omega arith)
chosen_from (suc n) column (None ∷ ds) h = chosen_from n (column + 1) ds (omega arith)
chosen_from (suc n) column (Some true ∷ ds) h = ap (λ l. column ∷ l) (chosen_from n (column + 1) ds (omega arith))
chosen_from (suc n) column (Some false ∷ ds) h = chosen_from n (column + 1) ds (omega arith)

-- the columns of the decided vector are the yes columns
pub chosen_columns-yes_vector : (n : ℕ) (ds : Decisions) → length ds ≤ n → chosen_columns (yes_vector n ds) ≡ yes_columns ds
chosen_columns-yes_vector n ds h = chosen_from n 0 ds h

chosen_split : (s : System) (ds : Decisions) (c : ℕ) → IsPermutation (solutions_with s ds) (solutions_with s (set ds c (Some true)) ++ solutions_with s (set ds c (Some false))) → IsPermutation (chosen_with s (set ds c (Some true)) ++ chosen_with s (set ds c (Some false))) (chosen_with s ds)
chosen_split s ds c h =
    rw (← map-append chosen_columns (solutions_with s (set ds c (Some true))) (solutions_with s (set ds c (Some false)))) (IsPermutation-sym _ _ (IsPermutation-map chosen_columns _ _ h))

-- a log's list has the columns of the solutions with its decisions, each once
pub Proves-sound : {s : System} {ds : Decisions} {E : List Entry} {L : List (List ℕ)} → IsSystem s → length ds ≡ length s.columns → Proves s ds E L → IsPermutation L (chosen_with s ds)
Proves-sound {s} {ds} ok long (over {row = row} h) = rw (over_none s ds row h) (IsPermutation-refl [])
Proves-sound {s} {ds} ok long (under {row = row} h) = rw (under_none s ds row h) (IsPermutation-refl [])
Proves-sound {s} {ds} ok long (residue {row = row} {m = m} h) = rw (residue_none s ds row m h) (IsPermutation-refl [])
Proves-sound {s} {ds} ok long (cut {ws = ws} h) = rw (cut_none s ds ws.items h) (IsPermutation-refl [])
Proves-sound {s} {ds} ok long (settled h) =
    rw (settled_one s ds ok (omega arith) h, chosen_columns-yes_vector (length s.columns) ds (omega arith)) (IsPermutation-refl (yes_columns ds ∷ []))
Proves-sound {s} {ds} ok long (branch {column = c} {L = L} {M = M} free first second) =
    IsPermutation-trans (L ++ M) _ _ (IsPermutation-append L (chosen_with s (set ds c (Some true))) M (chosen_with s (set ds c (Some false))) (Proves-sound ok (length-set ds c (Some true) ∙ long) first) (Proves-sound ok (length-set ds c (Some false) ∙ long) second)) (chosen_split s ds c (column_split s ds c free))
