-- The row of two points, and how often a block has it.
use Rattle.std.proofs.Common.{◌≡◌, ℕ, ◌+◌, ◌-◌, ◌/◌, ◌<◌, ◌≤◌, cond, eqb, nat_lt, List, [], ◌∷◌, length, count_by, sum_by, refl, sym, ap, ◌∙◌, inl, inr, arith, lt-ltb, le-ltb}
use Rattle.std.proofs.lemmas.Bool.{cases_lt}
use Rattle.std.proofs.lemmas.List.FromFn.{length-range_with_len}
use Rattle.df_lists.specs.NumberSets.{has_member}
use Rattle.df_lists.proofs.CountLaws.{list_total_is}
use Rattle.df_lists.proofs.ListTotals.{list_total}
use Rattle.df_lists.proofs.SetLaws.{in_range}
use Rattle.df_group.specs.Elements.{order_of, group_of, IsGroup, minus}
use Rattle.df_lang.specs.declared.pieces.Kind.{Kind}
use Rattle.df_lang.specs.declared.pieces.Kind.TheVariants as kinds
use Rattle.df_lang.specs.declared.pieces.Member.{Member}
use Rattle.df_lang.specs.Problems.{Stated}
use Rattle.df_lang.specs.Balance.{holds_both}
use Rattle.df_family.specs.declared.table.Row.{Row}
use Rattle.df_family.specs.declared.table.Row.TheVariants.{Diff, WithFixed, TwoFixed}
use Rattle.df_family.specs.Translates.{elements, stabilizer}
use Rattle.df_family.specs.Tables.{fixed_point, finite_points, occurs, summand_of, summand, found}
use Rattle.df_family.specs.Covers.{coset_points, occurs_at, summand_at, found_at}
use Rattle.df_family.proofs.ShiftLaws.{all_pass}

-- the row of a pair of points
abbrev pub kind : Stated → ℕ → ℕ → Row
kind s p q = cond (nat_lt q (order_of s.group)) (Diff (minus (group_of s.group) q p)) (cond (nat_lt p (order_of s.group)) (WithFixed (q - order_of s.group + 1)) (TwoFixed (p - order_of s.group + 1) (q - order_of s.group + 1)))

pub fixed_back : (s : Stated) (p : ℕ) → order_of s.group ≤ p → fixed_point s (p - order_of s.group + 1) ≡ p
fixed_back s p h = omega arith

module _ (s : Stated) (is : IsGroup (group_of s.group)) where
  -- the whole group has one coset
  one_coset : (block : List ℕ) (p : ℕ) → coset_points s (elements s) block p ≡ finite_points s block
  one_coset block p = all_pass (λ b. has_member (elements s) (minus (group_of s.group) p b)) (finite_points s block) (λ b. in_range (order_of s.group) (minus (group_of s.group) p b) (is.within p ((group_of s.group).neg b)))

  -- a block has a row as often as it has two points of that kind
  pub occurs_kind : (block : List ℕ) (p q : ℕ) → p < q → occurs s (kind s p q) block ≡ occurs_at s (elements s) p q block
  occurs_kind block p q h =
      let n = order_of s.group in
      let here = one_coset block p in
      elim (cases_lt q n) [
        | inl l ↦ rw (lt-ltb q n l) (sym (ap (sum_by (λ b. count_by (λ a. eqb (minus (group_of s.group) a b) (minus (group_of s.group) q p)) (finite_points s block))) here))
        | inr r ↦
            elim (cases_lt p n) [
              | inl l ↦ rw (le-ltb q n r, lt-ltb p n l) (ap (λ x. cond (has_member block x) (length (finite_points s block)) 0) (fixed_back s q r) ∙ sym (ap (λ (l : List ℕ). cond (has_member block q) (length l) 0) here))
              | inr t ↦
                  rw (le-ltb q n r, le-ltb p n t)
                  (ap (λ x. cond (holds_both block x (fixed_point s (q - n + 1))) n 0) (fixed_back s p t) ∙ ap (λ x. cond (holds_both block p x) n 0) (fixed_back s q r) ∙ sym (ap (λ x. cond (holds_both block p q) x 0) (length-range_with_len 0 n)))
            ]
      ]

  summand_kind : (k : Kind) (block : List ℕ) (p q : ℕ) → p < q → summand_of s (kind s p q) k block ≡ summand_at s (elements s) p q k block
  summand_kind kinds.Base block p q h = occurs_kind block p q h
  summand_kind kinds.Short block p q h = ap (λ n. n / stabilizer s block) (occurs_kind block p q h)

  found_in : (ms : List Member) (p q : ℕ) → p < q → list_total (summand s (kind s p q)) ms ≡ list_total (λ (m : Member). summand_at s (elements s) p q m.kind m.block) ms
  found_in [] p q h = refl
  found_in (m ∷ ms) p q h = let here = summand_kind m.kind m.block p q h in let ih = found_in ms p q h in omega arith

  -- a row is found as often as two points of that kind
  pub found_kind : (p q : ℕ) → p < q → found s (kind s p q) ≡ found_at s (elements s) p q
  found_kind p q h = sym (list_total_is (summand s (kind s p q)) s.family) ∙ found_in s.family p q h ∙ list_total_is (λ (m : Member). summand_at s (elements s) p q m.kind m.block) s.family
