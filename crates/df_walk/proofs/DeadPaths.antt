-- Below a path that is over or under, or has a residue, no path is live.
use Rattle.std.proofs.Common.{◌≡◌, ℕ, ◌+◌, ◌*◌, ◌%◌, ◌<◌, ◌≤◌, Bool, true, false, not, List, [], ◌∷◌, ◌++◌, refl, sym, ap, ◌∙◌, arith, inl, inr}
use Rattle.std.specs.Prelude.{◌&&◌}
use Rattle.std.specs.Int.{◌∣◌}
use Rattle.std.specs.List.{list_all, list_any}
use Rattle.std.proofs.lemmas.Bool.{le-ltb, lt-ltb, ltb-true, eqb-true, eq-eqb, ne_eqb, and_parts, and_from, and_left, and_right, or_parts, not_from_true, not_from_false, cases_eq, cases_order}
use Rattle.std.proofs.Math.Nat.{add-mul-mod_self_right, mod-mod_of_dvd}
use Rattle.std.proofs.lemmas.List.{append-nil}
use Rattle.std.proofs.lemmas.Nat.Gcd.{le_of_dvd}
use Rattle.df_walk.specs.declared.Rules.{Rules}
use Rattle.df_walk.specs.declared.Rules.TheVariants.{Plain, Divisor}
use Rattle.df_walk.specs.declared.Entry.{Entry}
use Rattle.df_walk.specs.declared.Entry.TheVariants.{Branch, Over, Under, Settled, Residue, Cut}
use Rattle.df_walk.specs.Systems.{System, rows_of, entries, target}
use Rattle.df_walk.specs.Assignments.{Decisions, open_values, is_multiple, taken, cap, divisor, is_over, is_under, is_met, leaves_rest, has_residue, is_settled}
use Rattle.df_walk.specs.Logs.{RowPasses}
use Rattle.df_walk.specs.Walks.{decided}
use Rattle.df_walk.specs.Paths.{is_live_row, is_live}
use Rattle.df_walk.proofs.CommonDivisors.{times_of, common_divisor_common, total_none}
use Rattle.df_walk.proofs.NoSolutions.{rests_differ}
use Rattle.df_walk.proofs.RowTests.{row_fails}
use Rattle.df_walk.proofs.EntryMeanings.{Says, NoResidue, HasResidue}

taken_grows : (es : List ℕ) (p q : List Bool) → taken es (decided p) ≤ taken es (decided (p ++ q))
taken_grows es [] q = omega arith
taken_grows [] (b ∷ p) q = omega arith
taken_grows (e ∷ es) (true ∷ p) q = omega (arith, taken_grows es p q)
taken_grows (e ∷ es) (false ∷ p) q = taken_grows es p q

reach_falls_here : (es : List ℕ) (q : List Bool) → taken es (decided q) + cap es (decided q) ≤ cap es []
reach_falls_here [] [] = omega arith
reach_falls_here [] (b ∷ q) = omega arith
reach_falls_here (e ∷ es) [] = omega arith
reach_falls_here (e ∷ es) (true ∷ q) = omega (arith, reach_falls_here es q)
reach_falls_here (e ∷ es) (false ∷ q) = omega (arith, reach_falls_here es q)

-- what is taken and may come falls
reach_falls : (es : List ℕ) (p q : List Bool) → taken es (decided (p ++ q)) + cap es (decided (p ++ q)) ≤ taken es (decided p) + cap es (decided p)
reach_falls es [] q = omega (arith, reach_falls_here es q)
reach_falls [] (b ∷ p) q = omega arith
reach_falls (e ∷ es) (true ∷ p) q = omega (arith, reach_falls es p q)
reach_falls (e ∷ es) (false ∷ p) q = omega (arith, reach_falls es p q)

-- a row that rules the decisions out
over_row : (rules : Rules) (s : System) (ds : Decisions) (row : ℕ) → is_over s ds row ≡ true → is_live_row rules s ds row ≡ false
over_row Plain s ds row h = rw h
over_row Divisor s ds row h = rw h

under_row : (rules : Rules) (s : System) (ds : Decisions) (row : ℕ) → is_under s ds row ≡ true → is_live_row rules s ds row ≡ false
under_row Plain s ds row h = rw h (and_right (not (is_over s ds row)) false refl)
under_row Divisor s ds row h = rw h (and_left (not (is_over s ds row) && false) _ (and_right (not (is_over s ds row)) false refl))

pub over_dead : (rules : Rules) (s : System) (p q : List Bool) (row : ℕ) → RowPasses s row (is_over s (decided p)) → is_live rules s (decided (p ++ q)) ≡ false
over_dead rules s p q row h =
    let low = ltb-true (target s row) (taken (entries s row) (decided p)) h.1 in
    let still = lt-ltb (target s row) (taken (entries s row) (decided (p ++ q))) (omega (arith, taken_grows (entries s row) p q)) in
    row_fails s (is_live_row rules s (decided (p ++ q))) row h.0 (over_row rules s (decided (p ++ q)) row still)

pub under_dead : (rules : Rules) (s : System) (p q : List Bool) (row : ℕ) → RowPasses s row (is_under s (decided p)) → is_live rules s (decided (p ++ q)) ≡ false
under_dead rules s p q row h =
    let high = ltb-true _ (target s row) h.1 in
    let still = lt-ltb (taken (entries s row) (decided (p ++ q)) + cap (entries s row) (decided (p ++ q))) (target s row) (omega (arith, reach_falls (entries s row) p q)) in
    row_fails s (is_live_row rules s (decided (p ++ q))) row h.0 (under_row rules s (decided (p ++ q)) row still)

-- what divides each undecided entry divides what more is taken, and each entry that is still undecided
pub record Divides (es : List ℕ) (p q : List Bool) (m : ℕ) : Type 0 where
  pub times : ℕ
  pub more : taken es (decided (p ++ q)) ≡ taken es (decided p) + times * m
  pub later : list_all (is_multiple m) (open_values es (decided (p ++ q))) ≡ true

divides_here : (es : List ℕ) (q : List Bool) (m : ℕ) → list_all (is_multiple m) (open_values es []) ≡ true → Divides es [] q m
divides_here [] [] m h = record { times = 0; more = omega arith; later = refl }
divides_here [] (b ∷ q) m h = record { times = 0; more = omega arith; later = refl }
divides_here (e ∷ es) [] m h = record { times = 0; more = omega arith; later = h }
divides_here (e ∷ es) (true ∷ q) m h =
    let parts = and_parts (is_multiple m e) _ h in
    let t = times_of m e parts.0 in
    let r = divides_here es q m parts.1 in
    record { times = t.0 + r.times; more = omega (arith, t.1, r.more); later = r.later }
divides_here (e ∷ es) (false ∷ q) m h =
    let parts = and_parts (is_multiple m e) _ h in
    let r = divides_here es q m parts.1 in
    record { times = r.times; more = omega (arith, r.more); later = r.later }

divides : (es : List ℕ) (p q : List Bool) (m : ℕ) → list_all (is_multiple m) (open_values es (decided p)) ≡ true → Divides es p q m
divides es [] q m h = divides_here es q m h
divides [] (b ∷ p) q m h = record { times = 0; more = omega arith; later = refl }
divides (e ∷ es) (true ∷ p) q m h =
    let r = divides es p q m h in
    record { times = r.times; more = omega (arith, r.more); later = r.later }
divides (e ∷ es) (false ∷ p) q m h =
    let r = divides es p q m h in
    record { times = r.times; more = r.more; later = r.later }

-- a row whose divisor is a multiple of m, at least 2, where the need is no multiple of m
residue_row : (s : System) (ds : Decisions) (row m : ℕ) → 1 < m → m ∣ divisor (entries s row) ds → (target s row % m ≡ taken (entries s row) ds % m → ⊥) → is_live_row Divisor s ds row ≡ false
residue_row s ds row m two divides_it differ =
    elim (cases_eq (divisor (entries s row) ds) 0) [
      | inl none ↦ no_cap (total_none (open_values (entries s row) ds) none)
      | inr some ↦ and_right _ (not (has_residue s ds row)) (not_from_true (has_residue s ds row) (and_from _ _ (lt-ltb 1 (divisor (entries s row) ds) (omega (arith, le_of_dvd (positive some) divides_it))) (not_from_false _ (ne_eqb _ _ (λ e. differ (smaller e))))))
    ]
  where
    positive : (divisor (entries s row) ds ≡ 0 → ⊥) → 0 < divisor (entries s row) ds
    positive some = omega (arith, some)

    smaller : target s row % divisor (entries s row) ds ≡ taken (entries s row) ds % divisor (entries s row) ds → target s row % m ≡ taken (entries s row) ds % m
    smaller e = sym (mod-mod_of_dvd m (target s row) divides_it) ∙ ap (λ n. n % m) e ∙ mod-mod_of_dvd m (taken (entries s row) ds) divides_it

    no_cap : cap (entries s row) ds ≡ 0 → is_live_row Divisor s ds row ≡ false
    no_cap none =
        elim (cases_order (target s row) (taken (entries s row) ds)) [
          | inl same ↦ absurd (differ (ap (λ n. n % m) same))
          | inr (inl less) ↦ over_row Divisor s ds row (lt-ltb (target s row) (taken (entries s row) ds) less)
          | inr (inr more) ↦ under_row Divisor s ds row (lt-ltb _ (target s row) (omega arith))
        ]

pub residue_dead : (rules : Rules) (s : System) (p q : List Bool) (row m : ℕ) → HasResidue rules s (decided p) row m → is_live rules s (decided (p ++ q)) ≡ false
residue_dead Plain s p q row m h = absurd (let e = h.0 in cc)
residue_dead Divisor s p q row m h =
    let d = divisor (entries s row) (decided p) in
    let parts = and_parts _ (leaves_rest s (decided p) d row) h.1.1 in
    let two = ltb-true 1 d parts.0 in
    let r = divides (entries s row) p q d (common_divisor_common (open_values (entries s row) (decided p))).divides in
    let common = (common_divisor_common (open_values (entries s row) (decided (p ++ q)))).greatest d r.later in
    row_fails s (is_live_row Divisor s (decided (p ++ q))) row h.1.0 (residue_row s (decided (p ++ q)) row d two common (λ e. rests_differ s (decided p) d row parts.1 (e ∙ ap (λ n. n % d) r.more ∙ add-mul-mod_self_right (taken (entries s row) (decided p)) r.times d)))

-- where no row is over or under or has a residue, the path is live
live_rows : (rules : Rules) (s : System) (ds : Decisions) (rs : List ℕ) → list_any (is_over s ds) rs ≡ false → list_any (is_under s ds) rs ≡ false → ((rules ≡ Divisor) → list_any (has_residue s ds) rs ≡ false) → list_all (is_live_row rules s ds) rs ≡ true
live_rows rules s ds [] o u r = refl
live_rows Plain s ds (row ∷ rs) o u r =
    let over = or_parts (is_over s ds row) (list_any (is_over s ds) rs) o in
    let under = or_parts (is_under s ds row) (list_any (is_under s ds) rs) u in
    rw (over.0, under.0) (live_rows Plain s ds rs over.1 under.1 (λ e. absurd (let f = e in cc)))
live_rows Divisor s ds (row ∷ rs) o u r =
    let over = or_parts (is_over s ds row) (list_any (is_over s ds) rs) o in
    let under = or_parts (is_under s ds row) (list_any (is_under s ds) rs) u in
    let residue = or_parts (has_residue s ds row) (list_any (has_residue s ds) rs) (r refl) in
    and_from (is_live_row Divisor s ds row) (list_all (is_live_row Divisor s ds) rs) (and_from _ _ (and_from _ _ (not_from_false _ over.0) (not_from_false _ under.0)) (not_from_false _ residue.0)) (live_rows Divisor s ds rs over.1 under.1 (λ e. residue.1))

no_residue_from : (rules : Rules) (s : System) (ds : Decisions) → NoResidue rules s ds → rules ≡ Divisor → list_any (has_residue s ds) (rows_of s) ≡ false
no_residue_from Plain s ds h e = absurd (let f = e in cc)
no_residue_from Divisor s ds h e = h

-- a row whose need is 0 rules nothing out
met_within : (s : System) (ds : Decisions) (row : ℕ) → target s row ≡ taken (entries s row) ds → (not (is_over s ds row) && not (is_under s ds row)) ≡ true
met_within s ds row e = and_from _ _ (not_from_false _ (le-ltb (target s row) (taken (entries s row) ds) (omega arith))) (not_from_false _ (le-ltb _ (target s row) (omega arith)))

met_row : (rules : Rules) (s : System) (ds : Decisions) (row : ℕ) → is_met s ds row ≡ true → is_live_row rules s ds row ≡ true
met_row Plain s ds row h = met_within s ds row (eqb-true (target s row) (taken (entries s row) ds) h)
met_row Divisor s ds row h =
    let e = eqb-true (target s row) (taken (entries s row) ds) h in
    and_from _ _ (met_within s ds row e) (not_from_false _ (and_right _ (leaves_rest s ds (divisor (entries s row) ds) row) (not_from_true _ (eq-eqb _ _ (ap (λ n. n % divisor (entries s row) ds) e)))))

met_rows : (rules : Rules) (s : System) (ds : Decisions) (rs : List ℕ) → list_all (is_met s ds) rs ≡ true → list_all (is_live_row rules s ds) rs ≡ true
met_rows rules s ds [] h = refl
met_rows rules s ds (row ∷ rs) h =
    let met = and_parts (is_met s ds row) (list_all (is_met s ds) rs) h in
    and_from (is_live_row rules s ds row) (list_all (is_live_row rules s ds) rs) (met_row rules s ds row met.0) (met_rows rules s ds rs met.1)

-- settled decisions are live
pub live_settled : (rules : Rules) (s : System) (ds : Decisions) → is_settled s ds ≡ true → is_live rules s ds ≡ true
live_settled rules s ds h = met_rows rules s ds (rows_of s) h

-- an entry that counts as a node
abbrev pub counts : Entry → Bool
counts (Branch column) = true
counts Settled = true
counts (Over row) = false
counts (Under row) = false
counts (Residue row m) = false
counts (Cut ws) = false

-- a path is live where its entry counts
pub live_counts : (rules : Rules) (s : System) (p : List Bool) (e : Entry) → Says rules s p e → is_live rules s (decided p) ≡ counts e
live_counts rules s p (Over row) h = rw (append-nil p) at (over_dead rules s p [] row h)
live_counts rules s p (Under row) h = rw (append-nil p) at (under_dead rules s p [] row h)
live_counts rules s p (Residue row m) h = rw (append-nil p) at (residue_dead rules s p [] row m h)
live_counts rules s p (Cut ws) h = absurd h
live_counts rules s p Settled h = live_settled rules s (decided p) h
live_counts rules s p (Branch column) h = live_rows rules s (decided p) (rows_of s) h.1 h.2 (no_residue_from rules s (decided p) h.3)
