-- The cells of an orbit: those of pairs, and then that of its own row.
use Rattle.std.proofs.Common.{◌≡◌, ℕ, zero, suc, ◌+◌, true, false, map, List, [], ◌∷◌, refl, sym, ap, ap₂, ◌∙◌, subst, arith, inl, inr, Some, slice_get, ◌++◌}
use Rattle.std.proofs.lemmas.Bool.{false≢true, false_from_ne_true}
use Rattle.std.proofs.lemmas.Option.{same_Some}
use Rattle.df_lists.specs.Membership.{In}
use Rattle.df_lists.specs.Orders.{IsEquality, IsOrder, IsSorted}
use Rattle.df_lists.proofs.ListPlaces.{In-slice_get}
use Rattle.df_subsets.specs.Blocks.{before}
use Rattle.df_subsets.specs.Subsets.{same_list}
use Rattle.df_system.specs.Storage.{positive_cells}
use Rattle.df_kramer_mesner.specs.OrbitSystems.{needed_entry}

module _ (E : IsEquality same_list) (O : IsOrder before) (b : List ℕ) where
  needed_none : (m : ℕ) (needed : List (List ℕ)) → ((c : List ℕ) → In needed c → b ≡ c → ⊥) → positive_cells m (map (needed_entry b) needed) ≡ []
  needed_none m [] h = refl
  needed_none m (c ∷ needed) h =
      let differs : same_list b c ≡ false = false_from_ne_true (same_list b c) (λ t. h c (inl refl) (E.same b c t)) in
      rw differs (needed_none (m + 1) needed (λ d i. h d (inr i)))

  pub no_own_row : (m : ℕ) (needed : List (List ℕ)) → ((c : List ℕ) → In needed c → b ≡ c → ⊥) → positive_cells m (map (needed_entry b) needed) ≡ []
  no_own_row m needed h = needed_none m needed h

  apart : (c : List ℕ) → before b c ≡ true → b ≡ c → ⊥
  apart c h e = false≢true (sym (O.unlike b) ∙ subst (λ d. before b d ≡ true) (sym e) h)

  apart_back : (c : List ℕ) → before c b ≡ true → b ≡ c → ⊥
  apart_back c h e = false≢true (sym (O.unlike b) ∙ subst (λ d. before d b ≡ true) (sym e) h)

  -- the row of a needed orbit is that of its place
  pub own_row : (m k : ℕ) (needed : List (List ℕ)) → IsSorted before needed → slice_get needed k ≡ Some b → positive_cells m (map (needed_entry b) needed) ≡ record { row = m + k; value = 1 } ∷ []
  own_row m k [] sorted h = absurd (let e = h in cc)
  own_row m zero (c ∷ needed) sorted h =
      let e = same_Some c b h in
      let same : same_list b c ≡ true = subst (λ d. same_list b d ≡ true) (sym e) (E.self b) in
      let rest = needed_none (m + 1) needed (λ d i. apart d (subst (λ c. before c d ≡ true) e (sorted.0 d i))) in
      rw same (ap₂ (λ r l. record { row = r; value = 1 } ∷ l) {x = m} {y = m + 0} (omega arith) rest)
  own_row m (suc k) (c ∷ needed) sorted h =
      let differs : same_list b c ≡ false = false_from_ne_true (same_list b c) (λ t. apart_back c (sorted.0 b (In-slice_get needed k b h)) (E.same b c t)) in
      let rest = own_row (m + 1) k needed sorted.1 h in
      rw differs (rest ∙ ap (λ r. record { row = r; value = 1 } ∷ []) {x = m + 1 + k} {y = m + suc k} (omega arith))
