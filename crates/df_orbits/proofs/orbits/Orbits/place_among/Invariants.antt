use Rattle.std.proofs.Common.{◌≡◌, ◌<◌, ◌≤◌, ◌-◌, ℕ, [], true, false, length, get_or}
use Rattle.df_subsets.specs.Blocks.{before}
use Rattle.df_orbits.specs.Orbits.{listed_representatives}
use Rattle.df_orbits.proofs.orbits.Orbits.place_among.Given as goal

-- what lies before `low` is earlier, and what lies from `high` on is not
abbrev pub invariant-loop-low : goal.invariant-loop-low
invariant-loop-low l = record {
  order : l.low ≤ l.high;
  end : l.high ≤ length l.self;
  earlier : (i : ℕ) → i < l.low → before (get_or (listed_representatives l.self) i []) l.block ≡ true;
  later : (i : ℕ) → l.high ≤ i → i < length l.self → before (get_or (listed_representatives l.self) i []) l.block ≡ false;
}

abbrev pub decreases-loop-low : goal.decreases-loop-low
decreases-loop-low l = l.high - l.low
