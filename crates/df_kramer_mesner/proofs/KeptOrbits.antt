-- Which orbits are kept.
use Rattle.std.proofs.Common.{◌≡◌, ℕ, suc, zero, ◌<◌, ◌≤◌, Bool, true, not, List, [], ◌∷◌, length, get_or, refl, sym, ◌∙◌, arith}
use Rattle.std.specs.Prelude.{nat_le}
use Rattle.std.specs.List.{list_all, zip}
use Rattle.std.proofs.lemmas.Bool.{and_parts, and_from, le-leb, leb-true, not-true, not_from_false}
use Rattle.df_lang.specs.Problems.{Stated}
use Rattle.df_kramer_mesner.specs.OrbitSystems.{has_in_orbit, entries_of, targets_of, is_kept}
use Rattle.df_kramer_mesner.specs.Laws.{IsKeptWhere}
use Rattle.df_kramer_mesner.proofs.RowLists.{are_rows}

abbrev all_within : List ℕ → List ℕ → Bool
all_within es ts = list_all (λ (e : ℕ × ℕ). nat_le e.0 e.1) (zip es ts)

each_within : (es ts : List ℕ) → length es ≡ length ts → all_within es ts ≡ true → (row : ℕ) → row < length ts → get_or es row 0 ≤ get_or ts row 0
each_within [] ts e h row l = absurd (omega (arith, e, l))
each_within (x ∷ es) [] e h row l = absurd (omega (arith, l))
each_within (x ∷ es) (t ∷ ts) e h zero l = leb-true x t (and_parts (nat_le x t) (all_within es ts) h).0
each_within (x ∷ es) (t ∷ ts) e h (suc row) l = each_within es ts (omega (arith, e)) (and_parts (nat_le x t) (all_within es ts) h).1 row (omega (arith, l))

within_from : (es ts : List ℕ) → length es ≡ length ts → ((row : ℕ) → row < length ts → get_or es row 0 ≤ get_or ts row 0) → all_within es ts ≡ true
within_from [] ts e h = refl
within_from (x ∷ es) [] e h = refl
within_from (x ∷ es) (t ∷ ts) e h = and_from (nat_le x t) (all_within es ts) (le-leb x t (h 0 (omega arith))) (within_from es ts (omega (arith, e)) (λ row l. h (suc row) (omega (arith, l))))

module _ (s : Stated) (b : List ℕ) where
  same_rows : length (entries_of s b) ≡ length (targets_of s)
  same_rows = (are_rows s b).entries ∙ sym (are_rows s b).targets

  parts : is_kept s b ≡ true → (all_within (entries_of s b) (targets_of s) ≡ true) × (not (has_in_orbit s s.forbidden b) ≡ true)
  parts h = and_parts (all_within (entries_of s b) (targets_of s)) (not (has_in_orbit s s.forbidden b)) h

  pub kept_where : IsKeptWhere s b
  kept_where = record {
    within = λ h row l. each_within (entries_of s b) (targets_of s) same_rows (parts h).0 row l;
    allowed = λ h. not-true (has_in_orbit s s.forbidden b) (parts h).1;
    kept = λ within allowed. and_from (all_within (entries_of s b) (targets_of s)) (not (has_in_orbit s s.forbidden b)) (within_from (entries_of s b) (targets_of s) same_rows within) (not_from_false (has_in_orbit s s.forbidden b) allowed);
  }
