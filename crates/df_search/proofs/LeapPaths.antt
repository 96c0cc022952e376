-- The entry of a path by the limit of its yes columns, and the leaps before the limit.
use Rattle.std.proofs.Common.{◌≡◌, ◌<◌, ℕ, zero, suc, ◌+◌, ◌≤◌, Bool, true, false, List, [], ◌∷◌, ◌++◌, length, Option, Some, None, refl, sym, ap, ◌∙◌, subst, arith, inl, inr, below_more}
use Rattle.std.specs.Prelude.{◌⊎◌, replicate, not, ◌||◌}
use Rattle.std.proofs.lemmas.Bool.{true≢false, false≢true, cases_lt, lt-ltb}
use Rattle.df_lists.proofs.RangeLaws.{none_in_range}
use Rattle.df_lists.proofs.TestLaws.{none_of_three}
use Rattle.df_walk.specs.declared.Rules.{Rules}
use Rattle.df_walk.specs.declared.Rules.TheVariants.{Plain, Divisor}
use Rattle.df_walk.specs.declared.Entry.TheVariants as entry
use Rattle.df_walk.specs.Systems.{System, entries, target}
use Rattle.df_walk.specs.Assignments.{taken, is_over, is_under, has_residue, is_settled, least_row, least_over, least_under, least_residue}
use Rattle.df_walk.specs.Walks.{decided, entry_at, entry_from, is_branch}
use Rattle.df_walk.proofs.RowTests.{least_row_none}
use Rattle.df_system.specs.PathRows.{Yeses, taken_by, has_residue_by, IsLimit, IsBarred}
use Rattle.df_search.specs.HeldPaths.{IsTrail}
use Rattle.df_search.specs.Leaps.{IsLeap, Leaps, is_leaf}
use Rattle.df_search.proofs.StandingPaths.{length-nos, trail_nos}
use Rattle.df_search.proofs.YesColumns.{taken-yes, trail_taken, same_over, same_short, same_residue, held_settled}

-- a row that passes is found
found_some : (s : System) (p : ℕ → Bool) (row : ℕ) → row < length s.targets → p row ≡ true → (r : ℕ) × (least_row s p ≡ Some r)
found_some s p row within passes = go (least_row s p) refl
  where
    go : (o : Option ℕ) → least_row s p ≡ o → (r : ℕ) × (least_row s p ≡ Some r)
    go (Some r) is = (r, is)
    go None is = absurd (true≢false (sym passes ∙ none_in_range p 0 (length s.targets) row is (omega arith) (omega arith)))

one_of_three : (a b c : Bool) → (a || b || c) ≡ true → (a ≡ true) ⊎ ((b ≡ true) ⊎ (c ≡ true))
one_of_three true b c h = inl refl
one_of_three false true c h = inr (inl refl)
one_of_three false false true h = inr (inr refl)
one_of_three false false false h = absurd (false≢true h)

leaf_over : (o u r : Option ℕ) (d : ℕ → ℕ) (met : Bool) (column x : ℕ) → o ≡ Some x → is_leaf (entry_from o u r d met column) ≡ true
leaf_over o u r d met column x h = rw h refl

leaf_under : (o u r : Option ℕ) (d : ℕ → ℕ) (met : Bool) (column x : ℕ) → u ≡ Some x → is_leaf (entry_from o u r d met column) ≡ true
leaf_under (Some y) u r d met column x h = refl
leaf_under None u r d met column x h = rw h refl

leaf_residue : (o u r : Option ℕ) (d : ℕ → ℕ) (met : Bool) (column x : ℕ) → r ≡ Some x → is_leaf (entry_from o u r d met column) ≡ true
leaf_residue (Some y) u r d met column x h = refl
leaf_residue None (Some y) r d met column x h = refl
leaf_residue None None r d met column x h = rw h refl

no_leaf : (o u r : Option ℕ) (d : ℕ → ℕ) (met : Bool) (column : ℕ) → o ≡ None → u ≡ None → r ≡ None → (is_leaf (entry_from o u r d met column) ≡ false) × (is_branch (entry_from o u r d met column) ≡ not met)
no_leaf o u r d true column a b c = rw (a, b, c) (refl, refl)
no_leaf o u r d false column a b c = rw (a, b, c) (refl, refl)

leaf_branch : (o u r : Option ℕ) (d : ℕ → ℕ) (met : Bool) (column : ℕ) → is_leaf (entry_from o u r d met column) ≡ true → is_branch (entry_from o u r d met column) ≡ false
leaf_branch (Some x) u r d met column h = refl
leaf_branch None (Some x) r d met column h = refl
leaf_branch None None (Some x) d met column h = refl
leaf_branch None None None d true column h = refl
leaf_branch None None None d false column h = absurd (false≢true h)

-- a path that is given up doesn't branch
pub leaf_no_branch : (rules : Rules) (s : System) (p : List Bool) → is_leaf (entry_at rules s p) ≡ true → is_branch (entry_at rules s p) ≡ false
leaf_no_branch rules s p h = leaf_branch (least_over s (decided p)) (least_under s (decided p)) (least_residue rules s (decided p)) _ (is_settled s (decided p)) (length p) h

branch_unmet : (o u r : Option ℕ) (d : ℕ → ℕ) (met : Bool) (column : ℕ) → is_branch (entry_from o u r d met column) ≡ true → met ≡ false
branch_unmet (Some x) u r d met column h = absurd (false≢true h)
branch_unmet None (Some x) r d met column h = absurd (false≢true h)
branch_unmet None None (Some x) d met column h = absurd (false≢true h)
branch_unmet None None None d true column h = absurd (false≢true h)
branch_unmet None None None d false column h = refl

-- a path that branches isn't settled
pub branch_open : (rules : Rules) (s : System) (p : List Bool) → is_branch (entry_at rules s p) ≡ true → is_settled s (decided p) ≡ false
branch_open rules s p h = branch_unmet (least_over s (decided p)) (least_under s (decided p)) (least_residue rules s (decided p)) _ (is_settled s (decided p)) (length p) h

-- no row gives the path up
pub record IsAlive (rules : Rules) (s : System) (p : List Bool) : Type 0 where
  pub over : least_over s (decided p) ≡ None
  pub under : least_under s (decided p) ≡ None
  pub residue : least_residue rules s (decided p) ≡ None
  pub no_leaf : is_leaf (entry_at rules s p) ≡ false
  pub branch : is_branch (entry_at rules s p) ≡ not (is_settled s (decided p))

module _ (y : Yeses) (q : List Bool) (t : IsTrail y.chosen q) (limit : ℕ) (ends : IsLimit y limit) where
  residue_none : (rules : Rules) → ((row : ℕ) → row < length y.system.targets → has_residue_by rules (entries y.system row) (length q) (target y.system row) (taken_by y row) ≡ false) → least_residue rules y.system (decided q) ≡ None
  residue_none Plain h = refl
  residue_none Divisor h = least_row_none y.system (has_residue y.system (decided q)) (length y.system.targets) (omega arith) (λ row lt. sym (same_residue y q t row) ∙ h row lt)

  residue_some : (rules : Rules) (row : ℕ) → row < length y.system.targets → has_residue_by rules (entries y.system row) (length q) (target y.system row) (taken_by y row) ≡ true → (r : ℕ) × (least_residue rules y.system (decided q) ≡ Some r)
  residue_some Plain row within h = absurd (false≢true h)
  residue_some Divisor row within h = found_some y.system (has_residue y.system (decided q)) row within (sym (same_residue y q t row) ∙ h)

  -- before the limit
  pub alive : length q < limit → IsAlive y.rules y.system q
  alive early =
      let s = y.system in
      let parts = λ (row : ℕ) (lt : row < length s.targets). none_of_three _ _ _ (ends.before row (length q) lt early) in
      let o : least_over s (decided q) ≡ None = least_row_none s (is_over s (decided q)) (length s.targets) (omega arith) (λ row lt. sym (same_over y q t row) ∙ (parts row lt).0) in
      let u : least_under s (decided q) ≡ None = least_row_none s (is_under s (decided q)) (length s.targets) (omega arith) (λ row lt. sym (same_short y q t row) ∙ (parts row lt).1) in
      let r = residue_none y.rules (λ row lt. (parts row lt).2) in
      let none = no_leaf (least_over s (decided q)) (least_under s (decided q)) (least_residue y.rules s (decided q)) _ (is_settled s (decided q)) (length q) o u r in
      record { over = o; under = u; residue = r; no_leaf = none.0; branch = none.1 }

  -- and from it on
  pub dead : length q ≤ length y.system.columns → limit ≤ length q → is_leaf (entry_at y.rules y.system q) ≡ true
  dead within late =
      let s = y.system in
      let f = ends.after (omega arith) in
      let row = f.0 in
      elim (one_of_three _ _ _ (f.2 (length q) late within)) [
        | inl over ↦ let r = found_some s (is_over s (decided q)) row f.1 (sym (same_over y q t row) ∙ over) in leaf_over (least_over s (decided q)) (least_under s (decided q)) (least_residue y.rules s (decided q)) _ (is_settled s (decided q)) (length q) r.0 r.1
        | inr other ↦ elim other [
          | inl short ↦ let r = found_some s (is_under s (decided q)) row f.1 (sym (same_short y q t row) ∙ short) in leaf_under (least_over s (decided q)) (least_under s (decided q)) (least_residue y.rules s (decided q)) _ (is_settled s (decided q)) (length q) r.0 r.1
          | inr residue ↦ let r = residue_some y.rules row f.1 residue in leaf_residue (least_over s (decided q)) (least_under s (decided q)) (least_residue y.rules s (decided q)) _ (is_settled s (decided q)) (length q) r.0 r.1
        ]
      ]

  -- whether the limit is reached says whether the path is given up
  pub leaf_is : length q ≤ length y.system.columns → (b : Bool) → (b ≡ true → limit ≤ length q) → (b ≡ false → length q < limit) → b ≡ is_leaf (entry_at y.rules y.system q)
  leaf_is within true late early = sym (dead within (late refl))
  leaf_is within false late early = sym (alive (early refl)).no_leaf

  -- a path that branches is before the limit
  pub branches_early : length q ≤ length y.system.columns → is_branch (entry_at y.rules y.system q) ≡ true → length q < limit
  branches_early within branch =
      elim (cases_lt (length q) limit) [
        | inl early ↦ early
        | inr late ↦ absurd (true≢false (sym branch ∙ leaf_no_branch y.rules y.system q (dead within late)))
      ]

-- a column above a need is over at once
over_at_once : (y : Yeses) (q : List Bool) → IsTrail y.chosen q → IsBarred y (length q) → (r : ℕ) × (entry_at y.rules y.system (q ++ true ∷ []) ≡ entry.Over r)
over_at_once y q t barred =
    let s = y.system in
    let row = barred.0 in
    let more = taken-yes (entries s row) q in
    let has = trail_taken s row y.chosen q t in
    let found = found_some s (is_over s (decided (q ++ true ∷ []))) row barred.1 (lt-ltb (target s row) (taken (entries s row) (decided (q ++ true ∷ []))) (omega (arith, barred.3, more, has))) in
    (found.0, rw (found.1))

module _ (y : Yeses) (p : List Bool) (t : IsTrail y.chosen p) (limit : ℕ) (ends : IsLimit y limit) where
  -- one leap more
  pub leap_more : (n : ℕ) → is_settled y.system (decided p) ≡ false → length p + n < limit → IsBarred y (length p + n) → Leaps y.rules y.system p n → Leaps y.rules y.system p (n + 1)
  leap_more n unsettled early barred h k lt = below_more (λ k. IsLeap y.rules y.system (p ++ replicate k false)) n h here k lt
    where
      here : IsLeap y.rules y.system (p ++ replicate n false)
      here =
          let q = p ++ replicate n false in
          let long : length q ≡ length p + n = length-nos p n in
          let tq = trail_nos y.chosen p n t in
          let live = alive y q tq limit ends (omega arith) in
          let open_still : is_settled y.system (decided q) ≡ false = sym (held_settled y q tq) ∙ held_settled y p t ∙ unsettled in
          (live.branch ∙ ap not open_still, over_at_once y q tq (subst (λ c. IsBarred y c) (sym long) barred))

  -- leaps more, one for each column that is barred
  pub leaps_more : (n m : ℕ) → is_settled y.system (decided p) ≡ false → length p + (n + m) ≤ limit → ((k : ℕ) → k < m → IsBarred y (length p + n + k)) → Leaps y.rules y.system p n → Leaps y.rules y.system p (n + m)
  leaps_more n zero unsettled early barred h = let e : n + 0 ≡ n = omega arith in rw e h
  leaps_more n (suc m) unsettled early barred h =
      let before = leaps_more n m unsettled (omega arith) (λ k lt. barred k (omega arith)) h in
      let e : n + suc m ≡ (n + m) + 1 = omega arith in
      let at : length p + n + m ≡ length p + (n + m) = omega arith in
      rw e (leap_more (n + m) unsettled (omega arith) (subst (λ c. IsBarred y c) at (barred m (omega arith))) before)
