-- How many translates of a block hold two points.
use Rattle.std.proofs.Common.{◌≡◌, ℕ, zero, suc, ◌+◌, ◌*◌, ◌/◌, ◌<◌, ◌≤◌, Bool, true, false, cond, eqb, nat_lt, ◌&&◌, List, [], ◌∷◌, filter, length, refl, sym, ap, ◌∙◌, inl, inr, arith, lt-ltb, le-ltb, mul_comm, mul-div_cancel, count_by, sum_by}
use Rattle.std.specs.List.{range_with_len}
use Rattle.std.proofs.lemmas.Slice.Eq.{bytes_eq-Decides}
use Rattle.std.proofs.lemmas.Bool.{cases_lt}
use Rattle.std.proofs.lemmas.List.{length-map}
use Rattle.df_lists.proofs.SetLaws.{set_picked}
use Rattle.df_lists.specs.NumberSets.{has_member, IsSet}
use Rattle.df_lists.specs.Totals.{total, one}
use Rattle.df_lists.proofs.TotalLaws.{total_same, total_turn, total_at, total_zero}
use Rattle.df_lists.proofs.CountLaws.{list_count, list_count_is, list_total_is, list_count_map, list_total_filter, list_total_range}
use Rattle.df_lists.proofs.ListTotals.{list_total, length_total, list_total_none}
use Rattle.df_group.specs.Elements.{order_of, group_of, IsGroup, minus}
use Rattle.df_group.specs.Subgroups.{same_coset}
use Rattle.df_group.specs.ClosedSets.{IsClosed}
use Rattle.df_group.proofs.GroupLaws.{far, same_test, turns_minus, minus_minus}
use Rattle.df_lang.specs.declared.pieces.Kind.{Kind}
use Rattle.df_lang.specs.declared.pieces.Kind.TheVariants as kinds
use Rattle.df_lang.specs.Problems.{Stated, point_count}
use Rattle.df_lang.specs.Balance.{holds_both}
use Rattle.df_family.specs.Translates.{translate, stabilizer_under}
use Rattle.df_family.specs.Developments.{is_listed, translates_under}
use Rattle.df_family.specs.Tables.{finite_points}
use Rattle.df_family.specs.Covers.{coset_points, occurs_at, summand_at}
use Rattle.df_family.proofs.TranslateLaws.{shifted_finite, shifted_fixed, hit}
use Rattle.df_family.proofs.ShiftLaws.{all_pass, one_both, list_total_set, sum_listed, stabilizer_some}

nothing : (v : Bool) (z : ℕ) → z ≡ 0 → cond v z 0 ≡ 0
nothing true z h = h
nothing false z h = refl

-- what is nothing past n
total_front : (b : ℕ → Bool) (F : ℕ → ℕ) (n m : ℕ) → total (λ x. cond (b x) (cond (nat_lt x n) (F x) 0) 0) (m + n) ≡ total (λ x. cond (b x) (F x) 0) n
total_front b F n zero =
    let e : zero + n ≡ n = omega arith in
    ap (total (λ x. cond (b x) (cond (nat_lt x n) (F x) 0) 0)) e ∙ total_same (λ x. cond (b x) (cond (nat_lt x n) (F x) 0) 0) (λ x. cond (b x) (F x) 0) n (λ x h. rw (lt-ltb x n h) refl)
total_front b F n (suc m) =
    let e : suc m + n ≡ suc (m + n) = omega arith in
    let ih = total_front b F n m in
    let past : cond (b (m + n)) (cond (nat_lt (m + n) n) (F (m + n)) 0) 0 ≡ 0 = nothing (b (m + n)) (cond (nat_lt (m + n) n) (F (m + n)) 0) (rw (le-ltb (m + n) n (omega arith)) refl) in
    ap (total (λ x. cond (b x) (cond (nat_lt x n) (F x) 0) 0)) e ∙ (omega arith)

list_total_same : {X : Type 0} (f g : X → ℕ) (xs : List X) → ((x : X) → f x ≡ g x) → list_total f xs ≡ list_total g xs
list_total_same f g [] h = refl
list_total_same f g (x ∷ xs) h = let e = h x in let ih = list_total_same f g xs h in omega arith

both_turned : (v w : Bool) (z : ℕ) → cond v (cond w z 0) 0 ≡ cond w (cond v z 0) 0
both_turned true w z = refl
both_turned false true z = refl
both_turned false false z = refl

module _ (s : Stated) (is : IsGroup (group_of s.group)) (shifts : List ℕ) (closed : IsClosed s.group shifts) (block : List ℕ) (set : IsSet (point_count s) block) where
  list_total_finite : (F : ℕ → ℕ) → list_total F (finite_points s block) ≡ total (λ x. cond (has_member block x) (F x) 0) (order_of s.group)
  list_total_finite F =
      let n = order_of s.group in
      let whole : n + s.fixed ≡ s.fixed + n = omega arith in
      list_total_filter (λ x. nat_lt x n) F block ∙ ap (list_total (λ x. cond (nat_lt x n) (F x) 0)) (set_picked (point_count s) block set) ∙ list_total_filter (has_member block) (λ x. cond (nat_lt x n) (F x) 0) (range_with_len 0 (point_count s))
      ∙ list_total_range (λ x. cond (has_member block x) (cond (nat_lt x n) (F x) 0) 0) (point_count s)
      ∙ ap (total (λ x. cond (has_member block x) (cond (nat_lt x n) (F x) 0) 0)) whole
      ∙ total_front (has_member block) F n s.fixed

  list_total_coset : (F : ℕ → ℕ) (p : ℕ) → list_total F (coset_points s shifts block p) ≡ total (λ x. cond (same_coset s.group shifts p x) (cond (has_member block x) (F x) 0) 0) (order_of s.group)
  list_total_coset F p =
      let n = order_of s.group in
      list_total_filter (same_coset s.group shifts p) F (finite_points s block) ∙ list_total_finite (λ x. cond (same_coset s.group shifts p x) (F x) 0)
      ∙ total_same (λ x. cond (has_member block x) (cond (same_coset s.group shifts p x) (F x) 0) 0) (λ x. cond (same_coset s.group shifts p x) (cond (has_member block x) (F x) 0) 0) n (λ x h.
      both_turned (has_member block x) (same_coset s.group shifts p x) (F x))

  -- how many shifts give a translate that holds both points
  abbrev pub covers : ℕ → ℕ → ℕ
  covers p q = list_total (λ g. one (holds_both (translate s block g) p q)) shifts

  from_finite : (g p : ℕ) → p < order_of s.group → has_member (translate s block g) p ≡ has_member block (minus (group_of s.group) p g)
  from_finite g p h = hit s is block g p (omega arith) ∙ ap (has_member block) (shifted_finite s is ((group_of s.group).neg g) p h)

  from_fixed : (g p : ℕ) → order_of s.group ≤ p → p < point_count s → has_member (translate s block g) p ≡ has_member block p
  from_fixed g p h k = hit s is block g p k ∙ ap (has_member block) (shifted_fixed s is ((group_of s.group).neg g) p h)

  -- a sum over the shifts, along the points that they carry to p
  along : (T : ℕ → ℕ) (p : ℕ) → p < order_of s.group → list_total (λ g. T (minus (group_of s.group) p g)) shifts ≡ total (λ x. cond (same_coset s.group shifts p x) (T x) 0) (order_of s.group)
  along T p h =
      let G = group_of s.group in
      let n = order_of s.group in
      let U : ℕ → ℕ = λ x. cond (same_coset s.group shifts p x) (T x) 0 in
      list_total_set n shifts (λ g. T (minus G p g)) closed.set
      ∙ total_same (λ g. cond (has_member shifts g) (T (minus G p g)) 0) (λ g. U (minus G p g)) n (λ g l. ap (λ x. cond (has_member shifts x) (T (minus G p g)) 0) (sym (minus_minus G is p g h l)))
      ∙ total_turn U n (minus G p) (minus G p) (turns_minus G is p h)

  -- how many points have the difference d from x
  partners : (x d : ℕ) → d < order_of s.group → count_by (λ a. eqb (minus (group_of s.group) a x) d) (finite_points s block) ≡ one (has_member block ((group_of s.group).plus x d))
  partners x d h =
      let n = order_of s.group in
      let t : ℕ → Bool = λ a. eqb (minus (group_of s.group) a x) d in
      let c = (group_of s.group).plus x d in
      sym (list_count_is t (finite_points s block)) ∙ list_total_finite (λ a. one (t a))
      ∙ total_same (λ a. cond (has_member block a) (one (t a)) 0) (λ a. cond (eqb a c) (one (has_member block a)) 0) n (λ a l. ap (λ v. cond (has_member block a) (one v) 0) (same_test (group_of s.group) is a x d l h) ∙ turn_cond (has_member block a) (eqb a c))
      ∙ total_at (λ a. one (has_member block a)) c n (is.within x d)
    where
      turn_cond : (v w : Bool) → cond v (one w) 0 ≡ cond w (one v) 0
      turn_cond true true = refl
      turn_cond true false = refl
      turn_cond false true = refl
      turn_cond false false = refl

  covers_diff : (p q : ℕ) → p < order_of s.group → q < order_of s.group
      → covers p q ≡ sum_by (λ b. count_by (λ a. eqb (minus (group_of s.group) a b) (minus (group_of s.group) q p)) (finite_points s block)) (coset_points s shifts block p)
  covers_diff p q h k =
      let G = group_of s.group in
      let n = order_of s.group in
      let d = minus G q p in
      let T : ℕ → ℕ = λ x. one (has_member block x && has_member block (G.plus x d)) in
      let F : ℕ → ℕ = λ x. count_by (λ a. eqb (minus G a x) d) (finite_points s block) in
      list_total_same (λ g. one (holds_both (translate s block g) p q)) (λ g. T (minus G p g)) shifts hits
      ∙ along T p h
      ∙ total_same (λ x. cond (same_coset s.group shifts p x) (T x) 0) (λ x. cond (same_coset s.group shifts p x) (cond (has_member block x) (F x) 0) 0) n (λ x l.
      ap (λ z. cond (same_coset s.group shifts p x) z 0)
      (one_both (has_member block x) (has_member block (G.plus x d)) ∙ ap (λ m. cond (has_member block x) m 0) (sym (partners x d (is.within q (G.neg p))))))
      ∙ sym (list_total_coset F p) ∙ list_total_is F (coset_points s shifts block p)
    where
      hits : (g : ℕ) → one (holds_both (translate s block g) p q) ≡ one (has_member block (minus (group_of s.group) p g) && has_member block ((group_of s.group).plus (minus (group_of s.group) p g) (minus (group_of s.group) q p)))
      hits g =
          ap (λ v. one (v && has_member (translate s block g) q)) (from_finite g p h)
          ∙ ap (λ v. one (has_member block (minus (group_of s.group) p g) && v)) (from_finite g q k ∙ ap (has_member block) (far (group_of s.group) is p q g k))

  covers_fixed : (p q : ℕ) → p < order_of s.group → order_of s.group ≤ q → q < point_count s → covers p q ≡ cond (has_member block q) (length (coset_points s shifts block p)) 0
  covers_fixed p q h k l =
      let T : ℕ → ℕ = λ x. one (has_member block x && has_member block q) in
      list_total_same (λ g. one (holds_both (translate s block g) p q)) (λ g. T (minus (group_of s.group) p g)) shifts (λ g.
      ap (λ v. one (v && has_member (translate s block g) q)) (from_finite g p h) ∙ ap (λ v. one (has_member block (minus (group_of s.group) p g) && v)) (from_fixed g q k l))
      ∙ along T p h
      ∙ by (has_member block q)
    where
      all_in : (v : Bool) → one (v && true) ≡ cond v 1 0
      all_in true = refl
      all_in false = refl

      none_in : (u v : Bool) → cond u (one (v && false)) 0 ≡ 0
      none_in true true = refl
      none_in true false = refl
      none_in false v = refl

      by : (v : Bool) → total (λ x. cond (same_coset s.group shifts p x) (one (has_member block x && v)) 0) (order_of s.group) ≡ cond v (length (coset_points s shifts block p)) 0
      by true =
          total_same (λ x. cond (same_coset s.group shifts p x) (one (has_member block x && true)) 0) (λ x. cond (same_coset s.group shifts p x) (cond (has_member block x) 1 0) 0) (order_of s.group) (λ x m.
          ap (λ z. cond (same_coset s.group shifts p x) z 0) (all_in (has_member block x)))
          ∙ sym (list_total_coset (λ x. 1) p) ∙ sym (length_total (coset_points s shifts block p))
      by false =
          total_same (λ x. cond (same_coset s.group shifts p x) (one (has_member block x && false)) 0) (λ x. 0) (order_of s.group) (λ x m. none_in (same_coset s.group shifts p x) (has_member block x)) ∙ total_zero (order_of s.group)

  covers_two : (p q : ℕ) → order_of s.group ≤ p → p < point_count s → order_of s.group ≤ q → q < point_count s → covers p q ≡ cond (holds_both block p q) (length shifts) 0
  covers_two p q h i k l =
      list_total_same (λ g. one (holds_both (translate s block g) p q)) (λ g. one (holds_both block p q)) shifts (λ g.
      ap (λ v. one (v && has_member (translate s block g) q)) (from_fixed g p h i) ∙ ap (λ v. one (has_member block p && v)) (from_fixed g q k l))
      ∙ by (holds_both block p q)
    where
      by : (v : Bool) → list_total (λ g. one v) shifts ≡ cond v (length shifts) 0
      by true = sym (length_total shifts)
      by false = list_total_none shifts

  -- as many shifts give a translate that holds two points as the block has them
  pub covers_occurs : (p q : ℕ) → p < q → q < point_count s → covers p q ≡ occurs_at s shifts p q block
  covers_occurs p q h k =
      elim (cases_lt q (order_of s.group)) [
        | inl l ↦ rw (lt-ltb q (order_of s.group) l) (covers_diff p q (omega arith) l)
        | inr r ↦
            elim (cases_lt p (order_of s.group)) [
              | inl l ↦ rw (le-ltb q (order_of s.group) r, lt-ltb p (order_of s.group) l) (covers_fixed p q l r k)
              | inr t ↦ rw (le-ltb q (order_of s.group) r, le-ltb p (order_of s.group) t) (covers_two p q t (omega arith) r k)
            ]
      ]

  -- how many different translates hold both points
  abbrev pub different : ℕ → ℕ → ℕ
  different p q = list_total (λ g. one (holds_both (translate s block g) p q)) (filter (is_listed s shifts kinds.Short block) shifts)

  -- each translate is given by as many shifts as fix the block
  pub covers_different : (p q : ℕ) → covers p q ≡ stabilizer_under s shifts block * different p q
  covers_different p q =
      sum_listed s is shifts closed block set (λ g. one (holds_both (translate s block g) p q)) (λ g h e.
      ap (λ b. one (holds_both b p q)) (sym ((bytes_eq-Decides (translate s block h) (translate s block g)).0 e)))

  translates_hold : (k : Kind) (p q : ℕ) → list_count (λ b. holds_both b p q) (translates_under s shifts record { kind = k; block = block }) ≡ list_total (λ g. one (holds_both (translate s block g) p q)) (filter (is_listed s shifts k block) shifts)
  translates_hold k p q =
      list_count_map (λ b. holds_both b p q) (translate s block) (filter (is_listed s shifts k block) shifts)

  -- the translates of a member of the family hold a pair as often as the member adds
  pub member_covers : (k : Kind) (p q : ℕ) → p < q → q < point_count s → list_count (λ b. holds_both b p q) (translates_under s shifts record { kind = k; block = block }) ≡ summand_at s shifts p q k block
  member_covers kinds.Base p q h l = translates_hold kinds.Base p q ∙ ap (list_total (λ g. one (holds_both (translate s block g) p q))) (all_pass (λ g. true) shifts (λ g. refl)) ∙ covers_occurs p q h l
  member_covers kinds.Short p q h l =
      let m = stabilizer_under s shifts block in
      translates_hold kinds.Short p q
      ∙ sym (ap (λ x. x / m) (sym (covers_occurs p q h l) ∙ covers_different p q ∙ mul_comm m (different p q)) ∙ mul-div_cancel (different p q) (stabilizer_some s is shifts closed block set))

  -- all translates of a block, and the different ones
  pub translates_length : length shifts ≡ stabilizer_under s shifts block * length (translates_under s shifts record { kind = kinds.Short; block = block })
  translates_length =
      let listed = filter (is_listed s shifts kinds.Short block) shifts in
      length_total shifts ∙ sum_listed s is shifts closed block set (λ g. 1) (λ g h e. refl)
      ∙ ap (λ m. stabilizer_under s shifts block * m) (sym (length-map listed (translate s block) ∙ length_total listed))
