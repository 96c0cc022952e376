-- The elements of a subgroup as shifts: sums over them, and those that give the same translate.
use Rattle.std.proofs.Common.{◌≡◌, ℕ, zero, suc, ◌*◌, ◌<◌, ◌≤◌, Bool, true, false, cond, eqb, not, ◌&&◌, ◌||◌, nat_lt, List, [], ◌∷◌, filter, refl, sym, ap, ◌∙◌, inl, inr, arith, subst, lt-ltb, le-ltb, eq-eqb, ne_eqb}
use Rattle.std.specs.List.{range_with_len, list_any}
use Rattle.std.proofs.lemmas.Bool.{cases_lt, eqb-true}
use Rattle.std.proofs.lemmas.Map.Views.{any-filter_same}
use Rattle.std.proofs.lemmas.Slice.Eq.{bytes_eq-Decides}
use Rattle.df_lists.proofs.SetLaws.{set_picked}
use Rattle.df_lists.specs.NumberSets.{has_member, IsSet}
use Rattle.df_lists.specs.Totals.{total, one}
use Rattle.df_lists.specs.LeastMembers.{any_below, is_least, IsSameness}
use Rattle.df_lists.proofs.TotalLaws.{total_same, total_turn}
use Rattle.df_lists.proofs.LeastLaws.{leasts}
use Rattle.df_lists.proofs.CountLaws.{list_count_is, list_total_filter, list_total_range}
use Rattle.df_lists.proofs.ListTotals.{list_total}
use Rattle.df_lists.proofs.TestLaws.{same_tests}
use Rattle.df_group.specs.Elements.{order_of, group_of, IsGroup, minus}
use Rattle.df_group.specs.ClosedSets.{IsClosed}
use Rattle.df_group.proofs.GroupLaws.{far, less_more, minus_minus, minus_self, neg_is, plus_four, turns_less}
use Rattle.df_lang.specs.declared.pieces.Kind.TheVariants as kinds
use Rattle.df_lang.specs.Problems.{Stated, point_count}
use Rattle.df_family.specs.Translates.{translate, same_translate, fixes, stabilizer_under}
use Rattle.df_family.specs.Developments.{is_listed}
use Rattle.df_family.proofs.TranslateLaws.{same_by_stabilizer, translate_zero}

-- a sum over a set is one over all numbers below its bound
pub list_total_set : (n : ℕ) (set : List ℕ) (F : ℕ → ℕ) → IsSet n set → list_total F set ≡ total (λ x. cond (has_member set x) (F x) 0) n
list_total_set n set F is = ap (list_total F) (set_picked n set is) ∙ list_total_filter (has_member set) F (range_with_len 0 n) ∙ list_total_range (λ x. cond (has_member set x) (F x) 0) n

total_has : (F : ℕ → ℕ) (c n : ℕ) → c < n → F c ≤ total F n
total_has F c zero h = absurd (omega arith)
total_has F c (suc n) h =
    elim (cases_lt c n) [
      | inl l ↦ let ih = total_has F c n l in omega arith
      | inr r ↦ let e : c ≡ n = omega arith in let k = ap F e in omega arith
    ]

both : (a b : Bool) → a ≡ true → b ≡ true → (a && b) ≡ true
both true b e h = h
both false b e h = absurd cc

each : (a b : Bool) → (a && b) ≡ true → (a ≡ true) × (b ≡ true)
each true b h = (refl, h)
each false b h = absurd cc

pub one_both : (a b : Bool) → one (a && b) ≡ cond a (one b) 0
one_both true b = refl
one_both false b = refl

pub filter_filter : (t u : ℕ → Bool) (xs : List ℕ) → filter t (filter u xs) ≡ filter (λ x. u x && t x) xs
filter_filter t u [] = refl
filter_filter t u (x ∷ xs) =
    let ih = filter_filter t u xs in
    elim (u x) as (λ v. filter t (cond v (x ∷ filter u xs) (filter u xs)) ≡ cond (v && t x) (x ∷ filter (λ x. u x && t x) xs) (filter (λ x. u x && t x) xs)) [
      | true ↦ ap (λ l. cond (t x) (x ∷ l) l) ih
      | false ↦ ih
    ]

-- what a test picks from a set, as what it picks from all numbers below the bound
pub filter_set : (n : ℕ) (set : List ℕ) (t : ℕ → Bool) → IsSet n set → filter t set ≡ filter (λ x. has_member set x && t x) (range_with_len 0 n)
filter_set n set t is = ap (filter t) (set_picked n set is) ∙ filter_filter t (has_member set) (range_with_len 0 n)

pub has_filtered : (t : ℕ → Bool) (xs : List ℕ) (p : ℕ) → has_member (filter t xs) p ≡ (t p && has_member xs p)
has_filtered t xs p = any-filter_same (λ q. eqb q p) t (t p) (λ k e. ap t (eqb-true k p e)) xs

-- some lower number of a list passes
any_or : (t u : ℕ → Bool) (n : ℕ) → any_below (λ h. t h || u h) n ≡ (any_below t n || any_below u n)
any_or t u zero = refl
any_or t u (suc n) = ap (λ v. v || (t n || u n)) (any_or t u n) ∙ mixed (any_below t n) (any_below u n) (t n) (u n)
  where
    mixed : (a b c d : Bool) → ((a || b) || (c || d)) ≡ ((a || c) || (b || d))
    mixed true b c d = refl
    mixed false true true d = refl
    mixed false true false d = refl
    mixed false false c d = refl

pub any_below_same : (t u : ℕ → Bool) (n : ℕ) → ((j : ℕ) → j < n → t j ≡ u j) → any_below t n ≡ any_below u n
any_below_same t u zero h = refl
any_below_same t u (suc n) h = ap (λ v. v || t n) (any_below_same t u n (λ j l. h j (omega arith))) ∙ ap (λ v. any_below u n || v) (h n (omega arith))

any_none : (n : ℕ) → any_below (λ h. false) n ≡ false
any_none zero = refl
any_none (suc n) = ap (λ v. v || false) (any_none n)

any_at : (t : ℕ → Bool) (x n : ℕ) → any_below (λ h. eqb x h && t h) n ≡ (nat_lt x n && t x)
any_at t x zero = rw (le-ltb x 0 (omega arith)) refl
any_at t x (suc n) =
    elim (cases_lt x n) [
      | inl l ↦ ap (λ v. v || (eqb x n && t n)) (any_at t x n) ∙ rw (lt-ltb x n l, lt-ltb x (suc n) (omega arith), ne_at x n (omega arith)) (or_false (t x))
      | inr r ↦
          elim (cases_lt n x) [
            | inl l ↦ ap (λ v. v || (eqb x n && t n)) (any_at t x n) ∙ rw (le-ltb x n r, le-ltb x (suc n) (omega arith), ne_at x n (omega arith)) refl
            | inr k ↦
                let e : n ≡ x = omega arith in
                ap (λ v. v || (eqb x n && t n)) (any_at t x n) ∙ rw (le-ltb x n r, lt-ltb x (suc n) (omega arith), e, eq_at x) refl
          ]
    ]
  where
    or_false : (v : Bool) → (v || false) ≡ v
    or_false true = refl
    or_false false = refl

    eq_at : (x : ℕ) → eqb x x ≡ true
    eq_at x = eq-eqb x x refl

    ne_at : (x n : ℕ) → (x ≡ n → ⊥) → eqb x n ≡ false
    ne_at x n h = ne_eqb x n h

pub any_lower : (t : ℕ → Bool) (xs : List ℕ) (g : ℕ) → list_any (λ h. nat_lt h g && t h) xs ≡ any_below (λ h. has_member xs h && t h) g
any_lower t [] g = sym (any_none g)
any_lower t (x ∷ xs) g =
    ap (λ v. (nat_lt x g && t x) || v) (any_lower t xs g) ∙ ap (λ v. v || any_below (λ h. has_member xs h && t h) g) (sym (any_at t x g))
    ∙ sym (any_or (λ h. eqb x h && t h) (λ h. has_member xs h && t h) g)
    ∙ any_below_same (λ h. (eqb x h && t h) || (has_member xs h && t h)) (λ h. (eqb x h || has_member xs h) && t h) g (λ h l. out (eqb x h) (has_member xs h) (t h))
  where
    out : (a b c : Bool) → ((a && c) || (b && c)) ≡ ((a || b) && c)
    out true true true = refl
    out true true false = refl
    out true false true = refl
    out true false false = refl
    out false b c = refl

module _ (s : Stated) (is : IsGroup (group_of s.group)) (shifts : List ℕ) (closed : IsClosed s.group shifts) where
  less : (a b : ℕ) → has_member shifts a ≡ true → has_member shifts b ≡ true → has_member shifts (minus (group_of s.group) a b) ≡ true
  less a b h k = closed.plus a ((group_of s.group).neg b) h (closed.neg b k)

  minus_turned : (g h : ℕ) → minus (group_of s.group) h g ≡ (group_of s.group).neg (minus (group_of s.group) g h)
  minus_turned g h =
      let G = group_of s.group in
      neg_is G is (minus G g h) (minus G h g) (is.within h (G.neg g))
      (ap (G.plus (minus G g h)) (is.comm h (G.neg g)) ∙ plus_four G is g (G.neg h) (G.neg g) h ∙ ap (λ x. G.plus x (G.plus (G.neg h) h)) (is.neg g)
      ∙ ap (G.plus 0) (is.comm (G.neg h) h ∙ is.neg h) ∙ is.zero 0 is.some)

  -- of two elements of one coset of the subgroup both are shifts or neither is
  coset_both : (g h : ℕ) → g < order_of s.group → h < order_of s.group → has_member shifts (minus (group_of s.group) g h) ≡ true → has_member shifts g ≡ has_member shifts h
  coset_both g h k l e =
      let G = group_of s.group in
      same_tests (has_member shifts g) (has_member shifts h) (λ i. subst (λ x. has_member shifts x ≡ true) (minus_minus G is g h k l) (less g (minus G g h) i e))
      (λ i. subst (λ x. has_member shifts x ≡ true) (less_more G is g h k) (closed.plus (minus G g h) h e i))

  -- of a shift, the shifts are its coset
  pub coset_of_shift : (g h : ℕ) → g < order_of s.group → h < order_of s.group → has_member shifts g ≡ true → has_member shifts h ≡ has_member shifts (minus (group_of s.group) g h)
  coset_of_shift g h k l i =
      let G = group_of s.group in
      same_tests (has_member shifts h) (has_member shifts (minus G g h)) (λ j. less g h i j) (λ e. subst (λ x. has_member shifts x ≡ true) (minus_minus G is g h k l) (less g (minus G g h) i e))

  module _ (block : List ℕ) where
    -- two elements of one coset that give the same translate
    abbrev same_under : ℕ → ℕ → Bool
    same_under h g = has_member shifts (minus (group_of s.group) g h) && same_translate s block h g

    sameness : IsSameness (order_of s.group) same_under
    sameness =
        let G = group_of s.group in
        let at = λ (i j : ℕ). bytes_eq-Decides (translate s block i) (translate s block j) in
        record {
          self = λ i l. both _ _ (ap (has_member shifts) (minus_self G is i) ∙ closed.zero) ((at i i).1 refl);
          turned = λ i j l m e.
              let r = each _ _ e in
              both _ _ (ap (has_member shifts) (minus_turned j i) ∙ closed.neg (minus G j i) r.0) ((at j i).1 (sym ((at i j).0 r.1)));
          joined = λ i j k l m o d e.
              let a = each _ _ d in
              let b = each _ _ e in
              both _ _ (ap (has_member shifts) (far G is j k i o) ∙ closed.plus (minus G j i) (minus G k j) a.0 b.0) ((at i k).1 ((at i j).0 a.1 ∙ (at j k).0 b.1));
        }

    -- of a short block those shifts are listed that are the least to give their translate
    listed_least : (g : ℕ) → g < order_of s.group → has_member shifts g ≡ true → is_listed s shifts kinds.Short block g ≡ is_least same_under g
    listed_least g l i =
        ap not (any_lower (λ h. same_translate s block h g) shifts g
        ∙ any_below_same (λ h. has_member shifts h && same_translate s block h g) (λ h. same_under h g) g (λ h k. ap (λ v. v && same_translate s block h g) (coset_of_shift g h l (omega arith) i)))

    module _ (set : IsSet (point_count s) block) where
      stabilizer_total : stabilizer_under s shifts block ≡ total (λ x. one (has_member shifts x && fixes s block x)) (order_of s.group)
      stabilizer_total =
          let n = order_of s.group in
          sym (list_count_is (fixes s block) shifts) ∙ list_total_set n shifts (λ x. one (fixes s block x)) closed.set
          ∙ total_same (λ x. cond (has_member shifts x) (one (fixes s block x)) 0) (λ x. one (has_member shifts x && fixes s block x)) n (λ x h. sym (one_both (has_member shifts x) (fixes s block x)))

      -- as many shifts give a translate as fix the block
      same_size : (h : ℕ) → total (λ g. one (same_under h g)) (order_of s.group) ≡ stabilizer_under s shifts block
      same_size h =
          let G = group_of s.group in
          let n = order_of s.group in
          let fixing : ℕ → ℕ = λ x. one (has_member shifts x && fixes s block x) in
          total_same (λ g. one (same_under h g)) (λ g. fixing (minus G g h)) n (λ g l. ap (λ v. one (has_member shifts (minus G g h) && v)) (same_by_stabilizer s is block set h g l))
          ∙ total_turn fixing n (λ g. minus G g h) (λ g. G.plus g h) (turns_less G is h) ∙ sym stabilizer_total

      -- 0 fixes each block
      pub stabilizer_some : 0 < stabilizer_under s shifts block
      stabilizer_some =
          let at = total_has (λ x. one (has_member shifts x && fixes s block x)) 0 (order_of s.group) is.some in
          let e : one (has_member shifts 0 && fixes s block 0) ≡ 1 = ap one (both _ _ closed.zero ((bytes_eq-Decides (translate s block 0) block).1 (translate_zero s is block set))) in
          let k = stabilizer_total in
          omega arith

      -- a sum over the shifts, of numbers that the translates tell, is one over the listed shifts, each as often as shifts fix the block
      pub sum_listed : (W : ℕ → ℕ) → ((g h : ℕ) → same_translate s block h g ≡ true → W g ≡ W h)
          → list_total W shifts ≡ stabilizer_under s shifts block * list_total W (filter (is_listed s shifts kinds.Short block) shifts)
      sum_listed W agree_here =
          let n = order_of s.group in
          let F : ℕ → ℕ = λ x. cond (has_member shifts x) (W x) 0 in
          let L = is_listed s shifts kinds.Short block in
          list_total_set n shifts W closed.set
          ∙ leasts n same_under sameness F (stabilizer_under s shifts block) (λ g h l m e. let r = each _ _ e in ap (λ v. cond v (W g) 0) (coset_both g h l m r.0) ∙ ap (λ x. cond (has_member shifts h) x 0) (agree_here g h r.1)) (λ h l. same_size h)
          ∙ ap (λ x. stabilizer_under s shifts block * x)
          (total_same (λ x. cond (is_least same_under x) (F x) 0) (λ x. cond (has_member shifts x) (cond (L x) (W x) 0) 0) n (λ x l. swapped x l (has_member shifts x) refl)
          ∙ sym (list_total_filter L W shifts ∙ list_total_set n shifts (λ x. cond (L x) (W x) 0) closed.set))
        where
          nothing : (v : Bool) (z : ℕ) → z ≡ 0 → cond v z 0 ≡ 0
          nothing true z h = h
          nothing false z h = refl

          swapped : (x : ℕ) → x < order_of s.group → (v : Bool) → has_member shifts x ≡ v
              → cond (is_least same_under x) (cond v (W x) 0) 0 ≡ cond v (cond (is_listed s shifts kinds.Short block x) (W x) 0) 0
          swapped x l true e = ap (λ v. cond v (W x) 0) (sym (listed_least x l e))
          swapped x l false e = nothing (is_least same_under x) 0 refl

-- a test that each number passes
pub all_pass : (t : ℕ → Bool) (xs : List ℕ) → ((x : ℕ) → t x ≡ true) → filter t xs ≡ xs
all_pass t [] h = refl
all_pass t (x ∷ xs) h = rw (h x) (ap (λ l. x ∷ l) (all_pass t xs h))
