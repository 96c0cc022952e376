-- A log proves that a list of solutions is whole.
use Rattle.std.specs.Prelude.{◌≡◌, ℕ, ◌<◌, ◌&&◌, Bool, true, false, List, [], ◌∷◌, ◌++◌, length, Some, None, slice_get, slice_set, nat_lt}
use Rattle.std.specs.List.{list_all, AllByRecursion}
use Rattle.arrayvec.specs.ArrayVec.{ArrayVec}
use Rattle.df_walk.specs.declared.CutRow.{CutRow}
use Rattle.df_walk.specs.declared.Entry.{Entry}
use Rattle.df_walk.specs.declared.Entry.TheVariants.{Branch, Over, Under, Settled, Residue, Cut}
use Rattle.df_walk.specs.Systems.{System, entries}
use Rattle.df_walk.specs.Assignments.{Decisions, open_values, is_multiple, is_over, is_under, leaves_rest, is_settled}
use Rattle.df_walk.specs.Solutions.{yes_columns}
use Rattle.df_walk.specs.Cuts.{is_cut}

-- m is at least 2 and divides each undecided entry of the row, and not its need
abbrev pub is_residue : System → Decisions → ℕ → ℕ → Bool
is_residue s ds m row = nat_lt 1 m && list_all (is_multiple m) (open_values (entries s row) ds) && leaves_rest s ds m row

-- a row that there is passes the test
abbrev pub RowPasses : System → ℕ → (ℕ → Bool) → Type 0
RowPasses s row test = (row < length s.targets) × (test row ≡ true)

-- the rows of the cut are there, and it leaves no solution
abbrev pub CutPasses : System → Decisions → List CutRow → Type 0
CutPasses s ds ws = AllByRecursion (λ w. w.row < length s.targets) ws × (is_cut s ds ws ≡ true)

-- the entries prove the list, whose members are lists of yes columns
pub data Proves (s : System) : Decisions → List Entry → List (List ℕ) → Type 0 where
  over : {ds : Decisions} {row : ℕ} → RowPasses s row (is_over s ds) → Proves s ds (Over row ∷ []) []
  under : {ds : Decisions} {row : ℕ} → RowPasses s row (is_under s ds) → Proves s ds (Under row ∷ []) []
  residue : {ds : Decisions} {row m : ℕ} → RowPasses s row (is_residue s ds m) → Proves s ds (Residue row m ∷ []) []
  cut : {ds : Decisions} {ws : ArrayVec CutRow} → CutPasses s ds ws.items → Proves s ds (Cut ws ∷ []) []
  settled : {ds : Decisions} → is_settled s ds ≡ true → Proves s ds (Settled ∷ []) (yes_columns ds ∷ [])
  branch : {ds : Decisions} {column : ℕ} {E F : List Entry} {L M : List (List ℕ)} → slice_get ds column ≡ Some None → Proves s (slice_set ds column (Some true)) E L → Proves s (slice_set ds column (Some false)) F M → Proves s ds (Branch column ∷ (E ++ F)) (L ++ M)

-- E is one log for each of the decisions, from the first on, and L has their lists, joined
abbrev pub AreLogs : System → List Decisions → List Entry → List (List ℕ) → Type 0
AreLogs s [] E L = (E ≡ []) × (L ≡ [])
AreLogs s (ds ∷ wanted) E L = (F G : List Entry) × (M N : List (List ℕ)) × (E ≡ F ++ G) × (L ≡ M ++ N) × Proves s ds F M × AreLogs s wanted G N

-- the same, entry by entry: what is wanted is the decisions whose logs are still to come
abbrev pub Completes : System → List Decisions → List Entry → List (List ℕ) → Type 0
Completes s [] [] L = L ≡ []
Completes s [] (e ∷ E) L = ⊥
Completes s (ds ∷ wanted) [] L = ⊥
Completes s (ds ∷ wanted) (Over row ∷ E) L = RowPasses s row (is_over s ds) × Completes s wanted E L
Completes s (ds ∷ wanted) (Under row ∷ E) L = RowPasses s row (is_under s ds) × Completes s wanted E L
Completes s (ds ∷ wanted) (Residue row m ∷ E) L = RowPasses s row (is_residue s ds m) × Completes s wanted E L
Completes s (ds ∷ wanted) (Cut ws ∷ E) L = CutPasses s ds ws.items × Completes s wanted E L
Completes s (ds ∷ wanted) (Settled ∷ E) L = (is_settled s ds ≡ true) × ((M : List (List ℕ)) × (L ≡ yes_columns ds ∷ M) × Completes s wanted E M)
Completes s (ds ∷ wanted) (Branch column ∷ E) L = (slice_get ds column ≡ Some None) × Completes s (slice_set ds column (Some true) ∷ slice_set ds column (Some false) ∷ wanted) E L
