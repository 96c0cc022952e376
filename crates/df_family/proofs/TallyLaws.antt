-- The numbers of rows while they are counted.
use Rattle.std.proofs.Common.{◌≡◌, sym, inr, inl, ◌≢◌, nat_lt, lt-ltb, le-ltb, ℕ, zero, suc, ◌+◌, ◌-◌, ◌*◌, ◌/◌, ◌%◌, ◌<◌, ◌≤◌, Bool, true, false, cond, eqb, eqb-true, ◌&&◌, List, [], ◌∷◌, length, get_or, sum_by, count_by, refl, ap, ◌∙◌, arith}
use Rattle.std.proofs.lemmas.List.Sums.{count_by-le-length}
use Rattle.std.proofs.Math.Nat.{div-le_self}
use Rattle.std.proofs.lemmas.Bool.{cases_lt}
use Rattle.df_lists.specs.NumberSets.{has_member}
use Rattle.df_lists.proofs.CountLaws.{list_total_is}
use Rattle.df_lists.proofs.ListTotals.{list_total}
use Rattle.df_group.specs.Elements.{order_of, group_of, minus}
use Rattle.df_lang.specs.declared.pieces.Kind.{Kind}
use Rattle.df_lang.specs.declared.pieces.Kind.TheVariants as kinds
use Rattle.df_lang.specs.Problems.{Stated}
use Rattle.df_lang.specs.Balance.{holds_both}
use Rattle.df_family.specs.declared.table.Row.{Row}
use Rattle.df_family.specs.declared.table.Row.TheVariants.{Diff, WithFixed, TwoFixed}
use Rattle.df_family.specs.declared.tally.Tally.{Tally}
use Rattle.df_family.specs.Translates.{stabilizer}
use Rattle.df_family.specs.Tables.{finite_points, occurs, summand_of}
use Rattle.df_family.specs.Tallies.{number_at, HasNumber, IsWithin}

list_total_small : (F : ℕ → ℕ) (m : ℕ) (xs : List ℕ) → ((x : ℕ) → F x ≤ m) → list_total F xs ≤ m * length xs
list_total_small F m [] h = omega arith
list_total_small F m (x ∷ xs) h = let ih = list_total_small F m xs h in let here = h x in omega arith

pub sum_small : (F : ℕ → ℕ) (m : ℕ) (xs : List ℕ) → ((x : ℕ) → F x ≤ m) → sum_by F xs ≤ m * length xs
sum_small F m xs h = omega (arith, list_total_small F m xs h, list_total_is F xs)

-- how often differences occur among at most 128 elements
pub differences_small : (s : Stated) (d : ℕ) (all some : List ℕ) → length all ≤ 128 → length some ≤ 128 → sum_by (λ b. count_by (λ a. eqb (minus (group_of s.group) a b) d) all) some ≤ 16384
differences_small s d all some h k =
    omega (arith, sum_small (λ b. count_by (λ a. eqb (minus (group_of s.group) a b) d) all) 128 some (λ b. omega (arith, count_by-le-length (λ a. eqb (minus (group_of s.group) a b) d) all)))

cond_small : (v : Bool) (n m : ℕ) → n ≤ m → cond v n 0 ≤ m
cond_small true n m h = h
cond_small false n m h = omega arith

-- a block has a row at most 16384 times
pub occurs_small : (s : Stated) (block : List ℕ) → length (finite_points s block) ≤ 128 → order_of s.group ≤ 128 → (row : Row) → occurs s row block ≤ 16384
occurs_small s block few small (Diff d) = differences_small s d (finite_points s block) (finite_points s block) few few
occurs_small s block few small (WithFixed i) = cond_small (has_member block (order_of s.group + (i - 1))) (length (finite_points s block)) 16384 (omega arith)
occurs_small s block few small (TwoFixed i j) = cond_small (holds_both block (order_of s.group + (i - 1)) (order_of s.group + (j - 1))) (order_of s.group) 16384 (omega arith)

pub summand_small : (s : Stated) (k : Kind) (block : List ℕ) (row : Row) → occurs s row block ≤ 16384 → summand_of s row k block ≤ 16384
summand_small s kinds.Base block row h = h
summand_small s kinds.Short block row h = omega (arith, div-le_self (occurs s row block) (stabilizer s block))

pub single_cell : (t : Tally) (i : ℕ) → number_at t (WithFixed (i + 1)) ≡ get_or t.singles i 0
single_cell t i = let e : i + 1 - 1 ≡ i = omega arith in ap (λ k. get_or t.singles k 0) e

pub pair_cell : (t : Tally) (c : ℕ) → number_at t (TwoFixed (c / 16 + 1) (c % 16 + 1)) ≡ get_or t.pairs c 0
pair_cell t c = let e : 16 * (c / 16 + 1 - 1) + (c % 16 + 1 - 1) ≡ c = omega arith in ap (λ k. get_or t.pairs k 0) e

pub within_singles : (s : Stated) (t : Tally) (b : ℕ) → IsWithin s t b → (i : ℕ) → i < s.fixed → get_or t.singles i 0 ≤ b
within_singles s t b h i l = omega (arith, h (WithFixed (i + 1)) (omega arith, omega arith), single_cell t i)

pub within_pairs : (s : Stated) (t : Tally) (b : ℕ) → IsWithin s t b → (c : ℕ) → c < 16 * s.fixed → get_or t.pairs c 0 ≤ b
within_pairs s t b h c l = omega (arith, h (TwoFixed (c / 16 + 1) (c % 16 + 1)) (omega arith, omega arith, omega arith, omega arith), pair_cell t c)

-- a block is counted, row by row
pub counted : (s : Stated) (block : List ℕ) (old new : Tally)
    → ((d : ℕ) → d < order_of s.group → get_or new.differences d 0 ≡ get_or old.differences d 0 + occurs s (Diff d) block)
    → ((i : ℕ) → i < s.fixed → get_or new.singles i 0 ≡ get_or old.singles i 0 + cond (has_member block (order_of s.group + i)) (length (finite_points s block)) 0)
    → ((c : ℕ) → c < 16 * s.fixed → get_or new.pairs c 0 ≡ get_or old.pairs c 0 + cond (holds_both block (order_of s.group + c / 16) (order_of s.group + c % 16)) (order_of s.group) 0)
    → (row : Row) → HasNumber s row → number_at new row ≡ number_at old row + occurs s row block
counted s block old new D S P (Diff d) h = D d h
counted s block old new D S P (WithFixed i) h = S (i - 1) (omega (arith, h.0, h.1))
counted s block old new D S P (TwoFixed i j) h =
    let a = h.0 in
    let b = h.1 in
    let k = h.2 in
    let l = h.3 in
    let c = 16 * (i - 1) + (j - 1) in
    let first : c / 16 ≡ i - 1 = omega arith in
    let second : c % 16 ≡ j - 1 = omega arith in
    P c (omega arith) ∙ ap (λ x. get_or old.pairs c 0 + cond (holds_both block (order_of s.group + x) (order_of s.group + c % 16)) (order_of s.group) 0) first
    ∙ ap (λ y. get_or old.pairs c 0 + cond (holds_both block (order_of s.group + (i - 1)) (order_of s.group + y)) (order_of s.group) 0) second

-- quotients are added, row by row
pub quotients_added : (s : Stated) (divisor : ℕ) (own old new : Tally)
    → ((d : ℕ) → d < order_of s.group → get_or new.differences d 0 ≡ get_or old.differences d 0 + get_or own.differences d 0 / divisor)
    → ((i : ℕ) → i < s.fixed → get_or new.singles i 0 ≡ get_or old.singles i 0 + get_or own.singles i 0 / divisor)
    → ((c : ℕ) → c < 16 * s.fixed → get_or new.pairs c 0 ≡ get_or old.pairs c 0 + get_or own.pairs c 0 / divisor)
    → (row : Row) → HasNumber s row → number_at new row ≡ number_at old row + number_at own row / divisor
quotients_added s divisor own old new D S P (Diff d) h = D d h
quotients_added s divisor own old new D S P (WithFixed i) h = S (i - 1) (omega (arith, h.0, h.1))
quotients_added s divisor own old new D S P (TwoFixed i j) h = let a = h.0 in let b = h.1 in let k = h.2 in let l = h.3 in P (16 * (i - 1) + (j - 1)) (omega arith)

-- whether each number is 0
abbrev pub all_zero : List ℕ → Bool
all_zero [] = true
all_zero (x ∷ xs) = eqb x 0 && all_zero xs

zero_here : (xs : List ℕ) (i : ℕ) → all_zero xs ≡ true → get_or xs i 0 ≡ 0
zero_here [] i h = refl
zero_here (x ∷ xs) zero h = eqb-true x 0 (first (eqb x 0) (all_zero xs) h)
  where
    first : (v w : Bool) → (v && w) ≡ true → v ≡ true
    first true w h = refl
    first false w h = h
zero_here (x ∷ xs) (suc i) h = zero_here xs i (second (eqb x 0) (all_zero xs) h)
  where
    second : (v w : Bool) → (v && w) ≡ true → w ≡ true
    second true w h = h
    second false w h = absurd (let z : ⊥ = cc in z)

pub zero_number : (t : Tally) → all_zero t.differences ≡ true → all_zero t.singles ≡ true → all_zero t.pairs ≡ true → (row : Row) → number_at t row ≡ 0
zero_number t d s p (Diff e) = zero_here t.differences e d
zero_number t d s p (WithFixed i) = zero_here t.singles (i - 1) s
zero_number t d s p (TwoFixed i j) = zero_here t.pairs (16 * (i - 1) + (j - 1)) p

-- a number that grows at one place of its row's turn
pub at_its_turn : (r i old now next amount : ℕ) → now ≡ old + cond (nat_lt r i) amount 0 → (r ≡ i → next ≡ now + amount) → (r ≢ i → next ≡ now) → next ≡ old + cond (nat_lt r (i + 1)) amount 0
at_its_turn r i old now next amount before here elsewhere =
    elim (cases_lt r i) [
      | inl l ↦
          let e : now ≡ old + amount = before ∙ ap (λ v. old + cond v amount 0) (lt-ltb r i l) in
          elsewhere (λ e. omega arith) ∙ e ∙ sym (ap (λ v. old + cond v amount 0) (lt-ltb r (i + 1) (omega arith)))
      | inr g ↦
          let e : now ≡ old + 0 = before ∙ ap (λ v. old + cond v amount 0) (le-ltb r i g) in
          elim (cases_lt i r) [
            | inl l ↦ elsewhere (λ e. omega arith) ∙ e ∙ sym (ap (λ v. old + cond v amount 0) (le-ltb r (i + 1) (omega arith)))
            | inr l ↦
                let same : r ≡ i = omega arith in
                let grown : next ≡ old + amount = omega (arith, here same) in
                grown ∙ sym (ap (λ v. old + cond v amount 0) (lt-ltb r (i + 1) (omega arith)))
          ]
    ]
