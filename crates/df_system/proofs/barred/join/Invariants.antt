use Rattle.std.proofs.Common.{◌≡◌, ℕ, ◌+◌, ◌*◌, ◌<◌, ◌≤◌, length, get_or}
use Rattle.std.specs.Int.RustNames.{bit_or}
use Rattle.df_system.proofs.barred.join.Given as goal

abbrev pub invariant-loop-k : goal.invariant-loop-k
invariant-loop-k l = record {
  long : length l.barred.items ≡ length l.initial.barred.items;
  before : (place : ℕ) → place < l.level * l.words → get_or l.barred.items place 0 ≡ get_or l.initial.barred.items place 0;
  after : (place : ℕ) → l.level * l.words + l.k ≤ place → get_or l.barred.items place 0 ≡ get_or l.initial.barred.items place 0;
  done : (k : ℕ) → k < l.k → get_or l.barred.items (l.level * l.words + k) 0 ≡ bit_or (get_or l.initial.barred.items (l.level * l.words + k) 0) (get_or l.sets (l.row * l.words + k) 0);
}
