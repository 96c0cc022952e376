-- What a row's entries add up to from its columns on, from the last column to the first: up to which need each deadline serves.
use Rattle.std.specs.Prelude.{◌≡◌, ℕ, zero, suc, ◌-◌, ◌<◌, ◌≤◌, min, List, [], ◌∷◌, length, slice_index_or, drop}
use Rattle.df_walk.specs.Systems.{System, entries, target}
use Rattle.df_walk.specs.Assignments.{total}
use Rattle.df_system.specs.declared.reaches.Reach.{Reach}

-- as much of a number as 32 bits hold
abbrev pub as_word : ℕ → ℕ
as_word n = min n 4294967295

abbrev pub reach_at : List Reach → ℕ → Reach
reach_at list k = slice_index_or list k (record { due = 0; most = 0 })

-- the greatest need that the first places serve, and that all serve
abbrev pub reached_by : List Reach → ℕ → ℕ
reached_by list zero = 0
reached_by list (suc k) = (reach_at list k).most

abbrev pub reached : List Reach → ℕ
reached list = reached_by list (length list)

-- a row of these entries reaches from its due column on what came before the place, and with the column before that the place's own; all of it is `cap`
pub record IsReaching (es : List ℕ) (cap : ℕ) (list : List Reach) : Type 0 where
  pub some : (k : ℕ) → k < length list → 0 < (reach_at list k).due
  pub within : (k : ℕ) → k < length list → (reach_at list k).due ≤ length es
  pub here : (k : ℕ) → k < length list → (reach_at list k).most ≡ as_word (total (drop ((reach_at list k).due - 1) es))
  pub past : (k : ℕ) → k < length list → reached_by list k ≡ as_word (total (drop (reach_at list k).due es))
  pub end : reached list ≡ as_word cap

abbrev pub list_at : List (List Reach) → ℕ → List Reach
list_at lists row = slice_index_or lists row []

-- each row has its list
pub record AreReaching (s : System) (caps : ℕ → ℕ) (lists : List (List Reach)) : Type 0 where
  pub long : length lists ≡ length s.targets
  pub each : (row : ℕ) → row < length s.targets → IsReaching (entries s row) (caps row) (list_at lists row)

-- the columns from this one on count
abbrev pub AreReachingFrom : System → ℕ → List (List Reach) → Type 0
AreReachingFrom s from lists = AreReaching s (λ row. total (drop from (entries s row))) lists

-- what the rows' entries add up to
pub record AreTotals (s : System) (totals : List ℕ) : Type 0 where
  pub long : length totals ≡ length s.targets
  pub each : (row : ℕ) → row < length s.targets → slice_index_or totals row 0 ≡ as_word (total (entries s row))

-- no row has a need that it can meet and that is greater
abbrev pub IsGreatestNeed : System → ℕ → Type 0
IsGreatestNeed s most = (row : ℕ) → row < length s.targets → min (target s row) (total (entries s row)) ≤ most

-- for needs from the width on each row has its list, and none has one where no row can meet such a need
abbrev pub AreFar : System → ℕ → List (List Reach) → Type 0
AreFar s width [] = (row : ℕ) → row < length s.targets → min (target s row) (total (entries s row)) < width
AreFar s width (list ∷ lists) = AreReachingFrom s 0 (list ∷ lists)
