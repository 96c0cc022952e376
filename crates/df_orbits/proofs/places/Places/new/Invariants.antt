use Rattle.std.proofs.Common.{◌≡◌, ◌<◌, ◌≤◌, ◌-◌, ◌+◌, ◌/◌, ◌%◌, ℕ, length, get_or}
use Rattle.df_subsets.specs.Subsets.{binomial}
use Rattle.df_orbits.proofs.places.Places.new.Given as goal

abbrev pub invariant-loop-place : goal.invariant-loop-place
invariant-loop-place l = record {
  long : length l.later.items ≡ l.place;
  later : (n : ℕ) → n < l.place → n / l.points ≤ n % l.points + 1 → get_or l.later.items n 0 ≡ binomial (l.points - 1 - n % l.points) (l.size - n / l.points);
}
