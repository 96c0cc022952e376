-- The deadline that a column brings a need, and that of no need.
use Rattle.std.proofs.Common.{◌≡◌, ℕ, ◌+◌, ◌<◌, ◌≤◌, List, length, drop, arith}
use Rattle.df_walk.specs.declared.Rules.TheVariants.{Plain}
use Rattle.df_walk.specs.Assignments.{total}
use Rattle.df_system.specs.Deadlines.{IsDeadline}
use Rattle.df_system.proofs.RowNeeds.{total_drop_le, plain_deadline}

-- a need of 0 has no deadline
pub deadline_never : (es : List ℕ) (n d : ℕ) → n ≡ 0 → d ≡ length es + 1 → IsDeadline Plain es n 0 d
deadline_never es n d none is = plain_deadline es n d (λ from lt. omega arith) (λ from low high. absurd (omega arith)) (omega arith)

-- the columns past c miss the need, and with c they reach it
pub deadline_past : (es : List ℕ) (n c : ℕ) → c < length es → n ≤ total (drop c es) → total (drop (c + 1) es) < n → IsDeadline Plain es n 0 (c + 1)
deadline_past es n c within reaches misses = plain_deadline es n (c + 1) (λ from lt. omega (arith, total_drop_le es from c (omega arith))) (λ from low high. omega (arith, total_drop_le es (c + 1) from low)) (omega arith)
