-- From which column on a row can't meet a need any more.
use Rattle.std.specs.Prelude.{◌≡◌, ℕ, ◌+◌, ◌*◌, ◌<◌, ◌≤◌, Bool, true, false, List, length, slice_index, drop}
use Rattle.df_walk.specs.declared.Rules.{Rules}
use Rattle.df_walk.specs.declared.Rules.TheVariants.{Plain}
use Rattle.df_walk.specs.Systems.{System, entries}
use Rattle.df_walk.specs.Assignments.{total}
use Rattle.df_system.specs.declared.reaches.Reach.{Reach}
use Rattle.df_system.specs.PathRows.{is_dead}
use Rattle.df_system.specs.Reaches.{AreFar}

-- the test fails before the column, and passes from it on, up to the number of columns; one past that where it never passes
pub record IsTurn (columns : ℕ) (test : ℕ → Bool) (turn : ℕ) : Type 0 where
  pub before : (from : ℕ) → from < turn → test from ≡ false
  pub after : (from : ℕ) → turn ≤ from → from ≤ columns → test from ≡ true
  pub few : turn ≤ columns + 1

-- from this column on, and from none before it, a row of these entries can't go from `has` to `goal`
abbrev pub IsDeadline : Rules → List ℕ → ℕ → ℕ → ℕ → Type 0
IsDeadline rules es goal has deadline = IsTurn (length es) (λ from. is_dead rules es from goal has) deadline

-- the deadlines of each row's needs below the width stand one after another
pub record AreDeadlines (s : System) (rules : Rules) (width : ℕ) (deadlines : List ℕ) : Type 0 where
  pub some : 0 < width
  pub long : length deadlines ≡ length s.targets * width
  pub each : (row need : ℕ) → row < length s.targets → need < width → IsDeadline rules (entries s row) need 0 (slice_index deadlines (row * width + need))

-- by the plain rules, by the rules of a run, and the lists for greater needs
pub record AreAllDeadlines (s : System) (rules : Rules) (width : ℕ) (shorts dues : List ℕ) (far : List (List Reach)) : Type 0 where
  pub plain : AreDeadlines s Plain width shorts
  pub ruled : AreDeadlines s rules width dues
  pub lists : AreFar s width far

-- no need but 0 is met: its deadline is past all columns
pub record AreFirst (rows width never : ℕ) (deadlines : List ℕ) : Type 0 where
  pub long : length deadlines ≡ rows * width
  pub met : (row : ℕ) → row < rows → slice_index deadlines (row * width) ≡ never
  pub others : (row need : ℕ) → row < rows → 0 < need → need < width → slice_index deadlines (row * width + need) ≡ 0

-- the places from `start` up to `end` have the value, and the others what they had
pub record IsFilled (old new : List ℕ) (start end value : ℕ) : Type 0 where
  pub inside : (k : ℕ) → start ≤ k → k < end → slice_index new k ≡ value
  pub before : (k : ℕ) → k < start → slice_index new k ≡ slice_index old k
  pub past : (k : ℕ) → end ≤ k → slice_index new k ≡ slice_index old k

-- a row's deadlines where only some columns count, whose entries add up to `cap`: those of the needs up to it, as far as there is room, and 0 for the others
pub record IsReached (es : List ℕ) (width cap start count : ℕ) (deadlines : List ℕ) : Type 0 where
  pub within : count ≤ width
  pub low : count ≤ cap + 1
  pub full : count < width → count ≡ cap + 1
  pub done : (need : ℕ) → need < count → IsDeadline Plain es need 0 (slice_index deadlines (start + need))
  pub others : (need : ℕ) → count ≤ need → need < width → slice_index deadlines (start + need) ≡ 0

pub record AreReachedBy (s : System) (width : ℕ) (caps : ℕ → ℕ) (counts deadlines : List ℕ) : Type 0 where
  pub counted : length counts ≡ length s.targets
  pub long : length deadlines ≡ length s.targets * width
  pub each : (row : ℕ) → row < length s.targets → IsReached (entries s row) width (caps row) (row * width) (slice_index counts row) deadlines

-- the columns from this one on count
abbrev pub AreReached : System → ℕ → ℕ → List ℕ → List ℕ → Type 0
AreReached s width from counts deadlines = AreReachedBy s width (λ row. total (drop from (entries s row))) counts deadlines

-- the first rows have their deadlines by the rules
pub record AreRuled (s : System) (rules : Rules) (width rows : ℕ) (deadlines : List ℕ) : Type 0 where
  pub long : length deadlines ≡ rows * width
  pub each : (row need : ℕ) → row < rows → need < width → IsDeadline rules (entries s row) need 0 (slice_index deadlines (row * width + need))
