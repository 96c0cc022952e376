-- When a row rules a path out, said of its need alone; and that it stays so from column to column.
use Rattle.std.proofs.Common.{◌≡◌, ℕ, zero, suc, ◌+◌, ◌*◌, ◌/◌, ◌%◌, ◌<◌, ◌≤◌, Bool, true, false, not, ◌&&◌, ◌||◌, ltb, eqb, List, [], ◌∷◌, length, get_or, drop, refl, sym, ap, ◌∙◌, arith, inl, inr, le-ltb, lt-ltb, ltb-true, eq-eqb, ne_eqb}
use Rattle.std.specs.List.{list_all}
use Rattle.std.specs.Int.{◌∣◌}
use Rattle.std.proofs.lemmas.Bool.{cases_lt, cases_eq, and_parts, and_from, and_left, and_right, not-true, eqb-false}
use Rattle.std.proofs.Math.Nat.{mod-add-div, add-mul-mod_self_left, mul-mod_right, zero-mod}
use Rattle.std.proofs.lemmas.Nat.Gcd.{dvd_trans, le_of_dvd, dvd_of_mod-eq-zero, mod-eq-zero_of_dvd}
use Rattle.df_lists.proofs.TestLaws.{none_of_three}
use Rattle.df_walk.specs.declared.Rules.{Rules}
use Rattle.df_walk.specs.declared.Rules.TheVariants.{Plain, Divisor}
use Rattle.df_walk.specs.Assignments.{total, common_divisor, is_multiple}
use Rattle.df_walk.proofs.CommonDivisors.{common_divisor_common, total_none}
use Rattle.df_system.specs.PathRows.{is_short, leaves_residue, has_residue_by, is_dead, IsFirstResidue}
use Rattle.df_system.specs.Deadlines.{IsTurn, IsDeadline}

-- what a list adds up to from a place on
total_drop_whole : (es : List ℕ) (j : ℕ) → total (drop j es) ≤ total es
total_drop_whole es zero = omega arith
total_drop_whole [] (suc j) = omega arith
total_drop_whole (e ∷ es) (suc j) = omega (arith, total_drop_whole es j)

-- from a later column on entries add up to no more
pub total_drop_le : (es : List ℕ) (i j : ℕ) → i ≤ j → total (drop j es) ≤ total (drop i es)
total_drop_le es zero j h = total_drop_whole es j
total_drop_le es (suc i) zero h = absurd (omega arith)
total_drop_le [] (suc i) (suc j) h = omega arith
total_drop_le (e ∷ es) (suc i) (suc j) h = total_drop_le es i j (omega arith)

-- one column
pub total_drop_step : (es : List ℕ) (k : ℕ) → k < length es → total (drop k es) ≡ get_or es k 0 + total (drop (k + 1) es)
total_drop_step [] k h = absurd (omega arith)
total_drop_step (e ∷ es) zero h = refl
total_drop_step (e ∷ es) (suc k) h = total_drop_step es k (omega arith) ∙ ap (λ n. get_or es k 0 + total (drop n (e ∷ es))) (let x : suc (k + 1) ≡ suc k + 1 = omega arith in x)

pub total_drop_end : (es : List ℕ) → total (drop (length es) es) ≡ 0
total_drop_end [] = refl
total_drop_end (e ∷ es) = total_drop_end es

-- three tests
pub none_of : (a b c : Bool) → a ≡ false → b ≡ false → c ≡ false → (a || b || c) ≡ false
none_of false false c x y z = z
none_of false true c x y z = absurd (let e = y in cc)
none_of true b c x y z = absurd (let e = x in cc)

pub first_of : (a b c : Bool) → a ≡ true → (a || b || c) ≡ true
first_of true b c h = refl
first_of false b c h = absurd (let e = h in cc)

pub second_of : (a b c : Bool) → b ≡ true → (a || b || c) ≡ true
second_of true b c h = refl
second_of false true c h = refl
second_of false false c h = absurd (let e = h in cc)

pub third_of : (a b c : Bool) → c ≡ true → (a || b || c) ≡ true
third_of true b c h = refl
third_of false true c h = refl
third_of false false c h = h

-- where nothing is taken: whether the entries from a column on reach the need
pub reaches_need : (es : List ℕ) (from need : ℕ) → need ≤ total (drop from es) → is_short es from need 0 ≡ false
reaches_need es from need h = le-ltb (0 + total (drop from es)) need (omega arith)

pub misses_need : (es : List ℕ) (from need : ℕ) → total (drop from es) < need → is_short es from need 0 ≡ true
misses_need es from need h = lt-ltb (0 + total (drop from es)) need (omega arith)

pub plain_live : (es : List ℕ) (from need : ℕ) → need ≤ total (drop from es) → is_dead Plain es from need 0 ≡ false
plain_live es from need h = none_of (ltb need 0) (is_short es from need 0) false (le-ltb need 0 (omega arith)) (reaches_need es from need h) refl

pub short_dead : (rules : Rules) (es : List ℕ) (from need : ℕ) → total (drop from es) < need → is_dead rules es from need 0 ≡ true
short_dead rules es from need h = second_of (ltb need 0) (is_short es from need 0) (has_residue_by rules es from need 0) (misses_need es from need h)

-- a deadline by the caps alone
pub plain_deadline : (es : List ℕ) (need d : ℕ) → ((from : ℕ) → from < d → need ≤ total (drop from es)) → ((from : ℕ) → d ≤ from → from ≤ length es → total (drop from es) < need) → d ≤ length es + 1 → IsDeadline Plain es need 0 d
plain_deadline es need d reaches misses few = record {
  before = λ from lt. plain_live es from need (reaches from lt);
  after = λ from low high. short_dead Plain es from need (misses from low high);
  few = few;
}

-- by the plain rules a row is dead where it is short
pub plain_is : (es : List ℕ) (from need : ℕ) → is_dead Plain es from need 0 ≡ is_short es from need 0
plain_is es from need = elim (cases_lt (total (drop from es)) need) [
  | inl less ↦ short_dead Plain es from need less ∙ sym (misses_need es from need less)
  | inr more ↦ plain_live es from need more ∙ sym (reaches_need es from need more)
]

-- a multiple that is added leaves the rest as it is, and only a multiple does
rest_kept : (t n m : ℕ) → n % m ≡ 0 → (t + n) % m ≡ t % m
rest_kept t n m h =
    let whole : n ≡ m * (n / m) = omega (arith, mod-add-div n m) in
    ap (λ k. (t + k) % m) whole ∙ add-mul-mod_self_left t m (n / m)

rest_same : (t n m : ℕ) → (t + n) % m ≡ t % m → n % m ≡ 0
rest_same t n m h =
    let more : n + m * (t / m) ≡ m * ((t + n) / m) = omega (arith, mod-add-div t m, mod-add-div (t + n) m) in
    sym (add-mul-mod_self_left n m (t / m)) ∙ ap (λ k. k % m) more ∙ mul-mod_right m ((t + n) / m)

-- whether the target and what is taken leave different rests is seen from the need
pub rests_by_need : (goal has need m : ℕ) → goal ≡ has + need → not (eqb (goal % m) (has % m)) ≡ not (eqb (need % m) 0)
rests_by_need goal has need m is = elim (cases_eq (need % m) 0) [
  | inl none ↦ ap not (eq-eqb (goal % m) (has % m) (ap (λ k. k % m) is ∙ rest_kept has need m none) ∙ sym (eq-eqb (need % m) 0 none))
  | inr some ↦ ap not (ne_eqb (goal % m) (has % m) (λ e. some (rest_same has need m (ap (λ k. k % m) (sym is) ∙ e))) ∙ sym (ne_eqb (need % m) 0 some))
]

-- the residue of a need
abbrev pub residue_of : List ℕ → ℕ → ℕ → Bool
residue_of es from need = ltb 1 (common_divisor (drop from es)) && not (eqb (need % common_divisor (drop from es)) 0)

pub residue_by_need : (es : List ℕ) (from goal has need : ℕ) → goal ≡ has + need → leaves_residue es from goal has ≡ residue_of es from need
residue_by_need es from goal has need is = ap (λ b. ltb 1 (common_divisor (drop from es)) && b) (rests_by_need goal has need (common_divisor (drop from es)) is)

residue_at : (rules : Rules) (es : List ℕ) (from goal has need : ℕ) → goal ≡ has + need → has_residue_by rules es from goal has ≡ has_residue_by rules es from need 0
residue_at Plain es from goal has need is = refl
residue_at Divisor es from goal has need is = residue_by_need es from goal has need is ∙ sym (residue_by_need es from need 0 need (omega arith))

short_at : (es : List ℕ) (from goal has need : ℕ) → goal ≡ has + need → is_short es from goal has ≡ is_short es from need 0
short_at es from goal has need is = elim (cases_lt (total (drop from es)) need) [
  | inl less ↦ lt-ltb (has + total (drop from es)) goal (omega arith) ∙ sym (misses_need es from need less)
  | inr more ↦ le-ltb (has + total (drop from es)) goal (omega arith) ∙ sym (reaches_need es from need more)
]

-- what rules a path out depends on the need alone
pub dead_at : (rules : Rules) (es : List ℕ) (from goal has need : ℕ) → goal ≡ has + need → is_dead rules es from goal has ≡ is_dead rules es from need 0
dead_at rules es from goal has need is =
    let over : ltb goal has ≡ ltb need 0 = le-ltb goal has (omega arith) ∙ sym (le-ltb need 0 (omega arith)) in
    ap (λ b. b || is_short es from goal has || has_residue_by rules es from goal has) over
    ∙ ap (λ b. ltb need 0 || b || has_residue_by rules es from goal has) (short_at es from goal has need is)
    ∙ ap (λ b. ltb need 0 || is_short es from need 0 || b) (residue_at rules es from goal has need is)

pub short_by_need : (es : List ℕ) (from goal has need : ℕ) → goal ≡ has + need → is_short es from goal has ≡ is_dead Plain es from need 0
short_by_need es from goal has need is = short_at es from goal has need is ∙ sym (plain_is es from need)

-- a turn of one test is that of another that agrees
pub turn_agrees : {columns turn : ℕ} (test other : ℕ → Bool) → ((from : ℕ) → other from ≡ test from) → IsTurn columns test turn → IsTurn columns other turn
turn_agrees test other same is = record { before = λ from lt. same from ∙ is.before from lt; after = λ from low high. same from ∙ is.after from low high; few = is.few }

-- the deadline of the need is the row's
pub deadline_by_need : (rules : Rules) (es : List ℕ) (goal has need d : ℕ) → goal ≡ has + need → IsDeadline rules es need 0 d → IsDeadline rules es goal has d
deadline_by_need rules es goal has need d is due = turn_agrees (λ from. is_dead rules es from need 0) (λ from. is_dead rules es from goal has) (λ from. dead_at rules es from goal has need is) due

-- a row that is over is dead from the first column on
pub deadline_over : (rules : Rules) (es : List ℕ) (goal has d : ℕ) → goal < has → d ≡ 0 → IsDeadline rules es goal has d
deadline_over rules es goal has d over none = record {
  before = λ from lt. absurd (omega arith);
  after = λ from low high. first_of (ltb goal has) (is_short es from goal has) (has_residue_by rules es from goal has) (lt-ltb goal has over);
  few = omega arith;
}

-- what divides the entries from a column on divides those from a later one on
all_later : (m : ℕ) (es : List ℕ) (j : ℕ) → list_all (is_multiple m) es ≡ true → list_all (is_multiple m) (drop j es) ≡ true
all_later m es zero h = h
all_later m [] (suc j) h = refl
all_later m (e ∷ es) (suc j) h = all_later m es j (and_parts (is_multiple m e) (list_all (is_multiple m) es) h).1

all_drops : (m : ℕ) (es : List ℕ) (i j : ℕ) → i ≤ j → list_all (is_multiple m) (drop i es) ≡ true → list_all (is_multiple m) (drop j es) ≡ true
all_drops m es zero j h all = all_later m es j all
all_drops m es (suc i) zero h all = absurd (omega arith)
all_drops m [] (suc i) (suc j) h all = refl
all_drops m (e ∷ es) (suc i) (suc j) h all = all_drops m es i j (omega arith) all

-- the divisor from a column on divides that from a later one on
pub divisor_grows : (es : List ℕ) (i j : ℕ) → i ≤ j → common_divisor (drop i es) ∣ common_divisor (drop j es)
divisor_grows es i j h = (common_divisor_common (drop j es)).greatest (common_divisor (drop i es)) (all_drops (common_divisor (drop i es)) es i j h (common_divisor_common (drop i es)).divides)

-- from a residue on the need is missed
pub residue_stays : (es : List ℕ) (i j need : ℕ) → i ≤ j → residue_of es i need ≡ true → is_dead Divisor es j need 0 ≡ true
residue_stays es i j need h is =
    let g = common_divisor (drop i es) in
    let k = common_divisor (drop j es) in
    let parts = and_parts (ltb 1 g) (not (eqb (need % g) 0)) is in
    let two = ltb-true 1 g parts.0 in
    let some : need % g ≡ 0 → ⊥ = eqb-false (need % g) 0 (not-true (eqb (need % g) 0) parts.1) in
    elim (cases_eq k 0) [
      | inl none ↦ short_dead Divisor es j need (elim (cases_eq need 0) [
        | inl zero_need ↦ absurd (some (ap (λ n. n % g) zero_need ∙ zero-mod g))
        | inr other ↦ omega (arith, total_none (drop j es) none)
      ])
      | inr more ↦
          let low = le_of_dvd (omega arith) (divisor_grows es i j h) in
          third_of (ltb need 0) (is_short es j need 0) (leaves_residue es j need 0) (residue_by_need es j need 0 need (omega arith) ∙ and_from (ltb 1 k) (not (eqb (need % k) 0)) (lt-ltb 1 k (omega arith)) (ap not (ne_eqb (need % k) 0 (λ e. some (mod-eq-zero_of_dvd g (dvd_trans g (divisor_grows es i j h) (dvd_of_mod-eq-zero k e)))))))
    ]

-- by the divisor's rules a need is missed from the lesser of the two columns on
module _ (es : List ℕ) (need short residue : ℕ) (plain : IsDeadline Plain es need 0 short) (first : IsFirstResidue es need residue) where
  live_before : (from : ℕ) → from < short → from < residue → is_dead Divisor es from need 0 ≡ false
  live_before from s r =
      let parts = none_of_three (ltb need 0) (is_short es from need 0) false (plain.before from s) in
      none_of (ltb need 0) (is_short es from need 0) (leaves_residue es from need 0) parts.0 parts.1 (first.before from r)

  pub residue_first : residue < short → IsDeadline Divisor es need 0 residue
  residue_first less = record {
    before = λ from lt. live_before from (omega arith) lt;
    after = λ from low high. residue_stays es residue from need low (sym (residue_by_need es residue need 0 need (omega arith)) ∙ first.here (omega (arith, plain.few)));
    few = first.few;
  }

  pub short_first : short ≤ residue → IsDeadline Divisor es need 0 short
  short_first less = record {
    before = λ from lt. live_before from lt (omega arith);
    after = λ from low high.
        let parts : is_short es from need 0 ≡ true = sym (plain_is es from need) ∙ plain.after from low high in
        second_of (ltb need 0) (is_short es from need 0) (leaves_residue es from need 0) parts;
    few = plain.few;
  }

-- past the columns that were looked at there is none
pub residue_none : (es : List ℕ) (need low column : ℕ) → ((from : ℕ) → from < low → from ≤ length es → leaves_residue es from need 0 ≡ false) → length es < low → column ≡ length es + 1 → IsFirstResidue es need column
residue_none es need low column before past is = record { before = λ from lt. before from (omega arith) (omega arith); here = λ high. absurd (omega arith); few = omega arith }

pub residue_here : (es : List ℕ) (need low divisor : ℕ) → ((from : ℕ) → from < low → from ≤ length es → leaves_residue es from need 0 ≡ false) → low ≤ length es → common_divisor (drop low es) ≡ divisor → 1 < divisor → (need % divisor ≡ 0 → ⊥) → IsFirstResidue es need low
residue_here es need low divisor before within is two some = record {
  before = λ from lt. before from lt (omega arith);
  here = λ high. residue_by_need es low need 0 need (omega arith) ∙ and_from (ltb 1 (common_divisor (drop low es))) (not (eqb (need % common_divisor (drop low es)) 0)) (lt-ltb 1 (common_divisor (drop low es)) (omega arith)) (ap not (ne_eqb (need % common_divisor (drop low es)) 0 (λ e. some (ap (λ d. need % d) (sym is) ∙ e))));
  few = omega arith;
}

-- no residue, by the divisor or by the rest
pub residue_absent : (es : List ℕ) (from need divisor : ℕ) → common_divisor (drop from es) ≡ divisor → (1 < divisor → need % divisor ≡ 0) → leaves_residue es from need 0 ≡ false
residue_absent es from need divisor is none =
    residue_by_need es from need 0 need (omega arith)
    ∙ elim (cases_lt 1 divisor) [
      | inl two ↦ and_right (ltb 1 (common_divisor (drop from es))) (not (eqb (need % common_divisor (drop from es)) 0)) (ap not (eq-eqb (need % common_divisor (drop from es)) 0 (ap (λ d. need % d) is ∙ none two)))
      | inr small ↦ and_left (ltb 1 (common_divisor (drop from es))) (not (eqb (need % common_divisor (drop from es)) 0)) (le-ltb 1 (common_divisor (drop from es)) (omega arith))
    ]

-- whether there is a residue, where the need is known
pub residue_told : (es : List ℕ) (from goal has need divisor : ℕ) → goal ≡ has + need → divisor ≡ common_divisor (drop from es) → 1 < divisor → (need % divisor ≡ 0 → ⊥) → leaves_residue es from goal has ≡ true
residue_told es from goal has need divisor is d two some =
    residue_by_need es from goal has need is ∙ and_from (ltb 1 (common_divisor (drop from es))) (not (eqb (need % common_divisor (drop from es)) 0)) (lt-ltb 1 (common_divisor (drop from es)) (omega arith)) (ap not (ne_eqb (need % common_divisor (drop from es)) 0 (λ e. some (ap (λ m. need % m) d ∙ e))))

pub residue_untold : (es : List ℕ) (from goal has need divisor : ℕ) → goal ≡ has + need → divisor ≡ common_divisor (drop from es) → (1 < divisor → need % divisor ≡ 0) → leaves_residue es from goal has ≡ false
residue_untold es from goal has need divisor is d none =
    residue_by_need es from goal has need is ∙ sym (residue_by_need es from need 0 need (omega arith)) ∙ residue_absent es from need divisor (sym d) none
