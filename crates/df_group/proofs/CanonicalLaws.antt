-- Canonical generators: they generate the subgroup, and each one at least doubles it.
use Rattle.std.proofs.Common.{All, get_or, ◌≡◌, ℕ, zero, suc, ◌+◌, ◌-◌, ◌*◌, ◌^◌, ◌<◌, ◌≤◌, Bool, true, false, List, [], ◌∷◌, ◌++◌, length, filter, if◌then◌else◌, ◌⊎◌, refl, sym, ap, ◌∙◌, inl, inr, ⊎_elim, subst, arith, append_assoc, length-append}
use Rattle.std.proofs.Math.Nat.{pow-suc, pow-le-pow_right}
use Rattle.std.proofs.lemmas.Bool.{both_ways, cases_lt}
use Rattle.std.specs.Cmp.{both_ways as same_tests}
use Rattle.std.specs.List.{range_with_len}
use Rattle.df_lists.specs.Membership.{In}
use Rattle.df_lists.specs.NumberSets.{has_member, IsSet}
use Rattle.df_lists.specs.Totals.{total, one}
use Rattle.df_lists.proofs.TotalLaws.{total_add, total_turn}
use Rattle.df_lists.proofs.MemberLaws.{In-append_cases, In-append_left, In-append_right}
use Rattle.df_lists.proofs.SetLaws.{same_sets, set_picked}
use Rattle.df_lists.proofs.TestLaws.{has_from, has_gives}
use Rattle.df_group.specs.Elements.{group_of, order_of, minus, IsShape}
use Rattle.df_group.specs.Subgroups.{sums, generated, canonical_from, canonical_of, IsSubgroup}
use Rattle.df_group.proofs.ElementLaws.{is_group}
use Rattle.df_group.proofs.GroupLaws.{turns_less, minus_minus, less_more}
use Rattle.df_group.proofs.SumLaws.{sum_tail, sum_within, sum_generator, sum_plus, sum_minus, sum_least, sum_among}
use Rattle.df_group.proofs.GeneratedSets.{generated_set, generated_none, generated_turn, sum_member, member_sum}
use Rattle.df_lists.proofs.CountLaws.{length_picked}
use Rattle.df_lists.proofs.ListPlaces.{In-get_or}
use Rattle.df_lists.proofs.TotalLaws.{total_within}

ones_within : (t : ℕ → Bool) (n : ℕ) → total (λ i. one (t i)) n ≤ n
ones_within t zero = omega arith
ones_within t (suc n) = let a = ones_within t n in elim (t n) as (λ v. total (λ i. one (t i)) n + one v ≤ suc n) [ true ↦ omega arith | false ↦ omega arith ]

-- what the generators that were taken meet: each one at least doubled the subgroup
pub record AreTaken (fs taken : List ℕ) : Type 0 where
  pub below : (g : ℕ) → In taken g → g < order_of fs
  pub doubled : 2 ^ length taken ≤ length (generated fs taken)

module _ (fs : List ℕ) (is : IsShape fs) where
  pub generated_size : (gs : List ℕ) → length (generated fs gs) ≡ total (λ i. one (has_member (sums fs gs) i)) (order_of fs)
  unfolding generated
  generated_size gs = length_picked (has_member (sums fs gs)) (order_of fs)

  pub generated_within : (gs : List ℕ) → length (generated fs gs) ≤ order_of fs
  generated_within gs = omega (arith, generated_size gs, ones_within (has_member (sums fs gs)) (order_of fs))

  -- a generator from outside at least doubles the subgroup
  pub doubles : (g : ℕ) (gs : List ℕ) → g < order_of fs → has_member (generated fs gs) g ≡ false → 2 * length (generated fs gs) ≤ length (generated fs (g ∷ gs))
  doubles g gs l out =
      let n = order_of fs in
      let S : ℕ → ℕ = λ i. one (has_member (sums fs gs) i) in
      let T : ℕ → ℕ = λ i. one (has_member (sums fs gs) (minus (group_of fs) i g)) in
      let U : ℕ → ℕ = λ i. one (has_member (sums fs (g ∷ gs)) i) in
      let turned : total T n ≡ total S n = total_turn S n (λ i. minus (group_of fs) i g) (λ i. (group_of fs).plus i g) (turns_less (group_of fs) (is_group fs is) g) in
      let both : total (λ i. S i + T i) n ≤ total U n = total_within (λ i. S i + T i) U n (λ i k. part i k (has_member (sums fs gs) i) (has_member (sums fs gs) (minus (group_of fs) i g)) refl refl) in
      omega (arith, generated_size gs, generated_size (g ∷ gs), total_add S T n, turned, both)
    where
      inside : (i : ℕ) → In (sums fs (g ∷ gs)) i → (k : ℕ) → k ≤ 1 → k ≤ one (has_member (sums fs (g ∷ gs)) i)
      inside i j k m = let e = ap one (has_from (sums fs (g ∷ gs)) i j) in omega arith

      through : (i : ℕ) → i < order_of fs → In (sums fs gs) (minus (group_of fs) i g) → In (sums fs (g ∷ gs)) i
      through i k j =
          let own = sum_generator fs is (g ∷ gs) g l (inl refl) in
          let rest = sum_tail fs is g gs (minus (group_of fs) i g) j in
          subst (In (sums fs (g ∷ gs))) (less_more (group_of fs) (is_group fs is) i g k) (sum_plus fs is (g ∷ gs) (minus (group_of fs) i g) g rest own)

      part : (i : ℕ) → i < order_of fs → (v w : Bool) → has_member (sums fs gs) i ≡ v → has_member (sums fs gs) (minus (group_of fs) i g) ≡ w → one v + one w ≤ one (has_member (sums fs (g ∷ gs)) i)
      part i k true true e f =
          let j = sum_minus fs is gs i (minus (group_of fs) i g) (has_gives (sums fs gs) i e) (has_gives (sums fs gs) (minus (group_of fs) i g) f) in
          let own = subst (In (sums fs gs)) (minus_minus (group_of fs) (is_group fs is) i g k l) j in
          absurd (both_ways (has_member (generated fs gs) g) out (sum_member fs is gs g own))
      part i k true false e f = inside i (sum_tail fs is g gs i (has_gives (sums fs gs) i e)) 1 (omega arith)
      part i k false true e f = inside i (through i k (has_gives (sums fs gs) (minus (group_of fs) i g) f)) 1 (omega arith)
      part i k false false e f = omega arith

  -- more generators, more members
  sum_front : (gs hs : List ℕ) → ((g : ℕ) → In (gs ++ hs) g → g < order_of fs) → (x : ℕ) → In (sums fs gs) x → In (sums fs (gs ++ hs)) x
  sum_front gs hs below = sum_among fs is gs (gs ++ hs) (λ g i. let j = In-append_left gs hs g i in sum_generator fs is (gs ++ hs) g (below g j) j)

  -- the generators that are taken are among those given
  canonical_among : (taken es : List ℕ) (g : ℕ) → In (canonical_from fs taken es) g → In (taken ++ es) g
  canonical_among taken [] g i = In-append_left taken [] g i
  canonical_among taken (e ∷ es) g i = go (has_member (generated fs taken) e) (canonical_among taken es g) (canonical_among (taken ++ e ∷ []) es g) i
    where
      go : (v : Bool) → (In (canonical_from fs taken es) g → In (taken ++ es) g) → (In (canonical_from fs (taken ++ e ∷ []) es) g → In ((taken ++ e ∷ []) ++ es) g)
          → In (canonical_from fs (if v then taken else taken ++ e ∷ []) es) g → In (taken ++ e ∷ es) g
      go true more other j = ⊎_elim (λ k. In-append_left taken (e ∷ es) g k) (λ k. In-append_right taken (e ∷ es) g (inr k)) (In-append_cases taken es g (more j))
      go false more other j =
          ⊎_elim
          (λ k. ⊎_elim (λ m. In-append_left taken (e ∷ es) g m) (λ m. ⊎_elim (λ x. In-append_right taken (e ∷ es) g (inl x)) (λ n. absurd n) m) (In-append_cases taken (e ∷ []) g k))
          (λ k. In-append_right taken (e ∷ es) g (inr k))
          (In-append_cases (taken ++ e ∷ []) es g (other j))

  -- nothing that was generated is lost, and each element that was looked at is generated
  canonical_covers : (taken es : List ℕ) → ((g : ℕ) → In (taken ++ es) g → g < order_of fs) → (x : ℕ) → In (sums fs taken) x ⊎ In es x → In (sums fs (canonical_from fs taken es)) x
  canonical_covers taken [] below x (inl i) = i
  canonical_covers taken [] below x (inr i) = absurd i
  canonical_covers taken (e ∷ es) below x i =
      go (has_member (generated fs taken) e) refl (canonical_covers taken es (λ g j. below g (wider g j))) (canonical_covers (taken ++ e ∷ []) es (λ g j. below g (moved g j))) i
    where
      wider : (g : ℕ) → In (taken ++ es) g → In (taken ++ e ∷ es) g
      wider g j = ⊎_elim (λ k. In-append_left taken (e ∷ es) g k) (λ k. In-append_right taken (e ∷ es) g (inr k)) (In-append_cases taken es g j)

      moved : (g : ℕ) → In ((taken ++ e ∷ []) ++ es) g → In (taken ++ e ∷ es) g
      moved g j = subst (λ l. In l g) (append_assoc taken (e ∷ []) es) j

      small : (g : ℕ) → In (taken ++ e ∷ []) g → g < order_of fs
      small g j = below g (⊎_elim (λ k. In-append_left taken (e ∷ es) g k) (λ k. ⊎_elim (λ x. In-append_right taken (e ∷ es) g (inl x)) (λ n. absurd n) k) (In-append_cases taken (e ∷ []) g j))

      go : (v : Bool) → has_member (generated fs taken) e ≡ v
          → ((x : ℕ) → In (sums fs taken) x ⊎ In es x → In (sums fs (canonical_from fs taken es)) x)
          → ((x : ℕ) → In (sums fs (taken ++ e ∷ [])) x ⊎ In es x → In (sums fs (canonical_from fs (taken ++ e ∷ []) es)) x)
          → In (sums fs taken) x ⊎ In (e ∷ es) x → In (sums fs (canonical_from fs (if v then taken else taken ++ e ∷ []) es)) x
      go true h more other (inl i) = more x (inl i)
      go true h more other (inr (inl y)) = more x (inl (subst (In (sums fs taken)) y (member_sum fs is taken e h)))
      go true h more other (inr (inr i)) = more x (inr i)
      go false h more other (inl i) = other x (inl (sum_front taken (e ∷ []) small x i))
      go false h more other (inr (inl y)) =
          let own = In-append_right taken (e ∷ []) e (inl refl) in
          other x (inl (subst (In (sums fs (taken ++ e ∷ []))) y (sum_generator fs is (taken ++ e ∷ []) e (small e own) own)))
      go false h more other (inr (inr i)) = other x (inr i)

  -- a set with 0 that sums don't leave is generated by its members
  pub generates_closed : (members : List ℕ) → IsSet (order_of fs) members → has_member members 0 ≡ true
      → ((a b : ℕ) → has_member members a ≡ true → has_member members b ≡ true → has_member members ((group_of fs).plus a b) ≡ true) → generated fs members ≡ members
  generates_closed members set none plus =
      same_sets (order_of fs) (generated fs members) members (generated_set fs members) set
      (λ x l. same_tests (has_member (generated fs members) x) (has_member members x)
      (λ h. sum_least fs is (λ a. has_member members a ≡ true) none plus members (λ g i. has_from members g i) x (member_sum fs is members x h))
      (λ h. sum_member fs is members x (sum_generator fs is members x l (has_gives members x h))))

  -- canonical generators generate the subgroup
  pub canonical_generates : (members : List ℕ) → IsSubgroup fs members → generated fs (canonical_of fs members) ≡ members
  unfolding canonical_of
  canonical_generates members (gs, e) =
      same_sets (order_of fs) (generated fs (canonical_from fs [] members)) members (generated_set fs (canonical_from fs [] members)) (subst (IsSet (order_of fs)) e (generated_set fs gs))
      (λ x l. same_tests (has_member (generated fs (canonical_from fs [] members)) x) (has_member members x) (there x) (back x))
    where
      known : (x : ℕ) → has_member members x ≡ true → In (sums fs gs) x
      known x h = member_sum fs is gs x (ap (λ l. has_member l x) e ∙ h)

      there : (x : ℕ) → has_member (generated fs (canonical_from fs [] members)) x ≡ true → has_member members x ≡ true
      there x h =
          sym (ap (λ l. has_member l x) e)
          ∙ sum_member fs is gs x (sum_among fs is (canonical_from fs [] members) gs (λ g i. known g (has_from members g (canonical_among [] members g i))) x (member_sum fs is (canonical_from fs [] members) x h))

      back : (x : ℕ) → has_member members x ≡ true → has_member (generated fs (canonical_from fs [] members)) x ≡ true
      back x h =
          sum_member fs is (canonical_from fs [] members) x
          (canonical_covers [] members (λ g i. sum_within fs is gs g (known g (has_from members g i))) x (inr (has_gives members x h)))

  -- so there are at most 7
  few_from_size : (k size : ℕ) → 2 ^ k ≤ size → size ≤ 128 → k ≤ 7
  few_from_size k size h l =
      elim (cases_lt 7 k) [
        | inl more ↦ let big : 2 ^ 8 ≤ 2 ^ k = pow-le-pow_right (omega arith) {i = 8} {j = k} (omega arith) in absurd (omega (arith, big))
        | inr less ↦ less
      ]

  pub none_taken : AreTaken fs []
  none_taken = record { below = λ g i. absurd i; doubled = rw (generated_none fs is) (omega arith) }

  pub more_taken : (taken : List ℕ) (e : ℕ) → AreTaken fs taken → e < order_of fs → has_member (generated fs taken) e ≡ false → AreTaken fs (taken ++ e ∷ [])
  more_taken taken e are l out = record {
    below = λ g i. ⊎_elim (λ j. are.below g j) (λ j. ⊎_elim (λ x. subst (λ n. n < order_of fs) x l) (λ n. absurd n) j) (In-append_cases taken (e ∷ []) g i);
    doubled =
        let twice = doubles e taken l out in
        let size = ap length (generated_turn fs is e taken l are.below) in
        let long : length (taken ++ e ∷ []) ≡ suc (length taken) = omega (arith, length-append taken (e ∷ [])) in
        rw (long, pow-suc 2 (length taken)) (omega (arith, twice, size, are.doubled));
  }

  pub taken_few : (taken : List ℕ) → AreTaken fs taken → length taken ≤ 7
  taken_few taken are = few_from_size (length taken) (length (generated fs taken)) are.doubled (omega (arith, generated_within taken, is.small))

  -- the same by places
  pub taken_below : (taken : List ℕ) → AreTaken fs taken → All (λ g. g < order_of fs) taken
  taken_below taken are k d l = are.below (get_or taken k d) (In-get_or taken k d l)

  -- one more generator still fits
  pub taken_fewer : (taken : List ℕ) (e : ℕ) → AreTaken fs taken → e < order_of fs → has_member (generated fs taken) e ≡ false → length taken < 7
  taken_fewer taken e are l out = omega (arith, taken_few (taken ++ e ∷ []) (more_taken taken e are l out), length-append taken (e ∷ []))

  canonical_taken : (taken es : List ℕ) → AreTaken fs taken → ((g : ℕ) → In es g → g < order_of fs) → AreTaken fs (canonical_from fs taken es)
  canonical_taken taken [] are below = are
  canonical_taken taken (e ∷ es) are below =
      go (has_member (generated fs taken) e) refl (canonical_taken taken es are (λ g i. below g (inr i))) (λ more. canonical_taken (taken ++ e ∷ []) es more (λ g i. below g (inr i)))
    where
      go : (v : Bool) → has_member (generated fs taken) e ≡ v → AreTaken fs (canonical_from fs taken es) → (AreTaken fs (taken ++ e ∷ []) → AreTaken fs (canonical_from fs (taken ++ e ∷ []) es))
          → AreTaken fs (canonical_from fs (if v then taken else taken ++ e ∷ []) es)
      go true h same more = same
      go false h same more = more (more_taken taken e are (below e (inl refl)) h)

  pub canonical_few : (members : List ℕ) → IsSubgroup fs members → length (canonical_of fs members) ≤ 7
  unfolding canonical_of
  canonical_few members (gs, e) =
      taken_few (canonical_from fs [] members)
      (canonical_taken [] members none_taken (λ g i. sum_within fs is gs g (member_sum fs is gs g (ap (λ l. has_member l g) e ∙ has_from members g i))))

  -- one more element of the group: not a member, generated already, or one more generator
  pub from_outside : (members taken : List ℕ) (e : ℕ) → e < order_of fs → has_member members e ≡ false
      → canonical_from fs taken (filter (has_member members) (range_with_len e (order_of fs - e))) ≡ canonical_from fs taken (filter (has_member members) (range_with_len (e + 1) (order_of fs - (e + 1))))
  from_outside members taken e l h =
      let n : order_of fs - e ≡ suc (order_of fs - (e + 1)) = omega arith in
      rw (n, h) refl

  pub from_generated : (members taken : List ℕ) (e : ℕ) → e < order_of fs → has_member members e ≡ true → has_member (generated fs taken) e ≡ true
      → canonical_from fs taken (filter (has_member members) (range_with_len e (order_of fs - e))) ≡ canonical_from fs taken (filter (has_member members) (range_with_len (e + 1) (order_of fs - (e + 1))))
  from_generated members taken e l h k =
      let n : order_of fs - e ≡ suc (order_of fs - (e + 1)) = omega arith in
      rw (n, h) (ap (λ v. canonical_from fs (if v then taken else taken ++ e ∷ []) (filter (has_member members) (range_with_len (e + 1) (order_of fs - (e + 1))))) k)

  pub from_new : (members taken : List ℕ) (e : ℕ) → e < order_of fs → has_member members e ≡ true → has_member (generated fs taken) e ≡ false
      → canonical_from fs taken (filter (has_member members) (range_with_len e (order_of fs - e))) ≡ canonical_from fs (taken ++ e ∷ []) (filter (has_member members) (range_with_len (e + 1) (order_of fs - (e + 1))))
  from_new members taken e l h k =
      let n : order_of fs - e ≡ suc (order_of fs - (e + 1)) = omega arith in
      rw (n, h) (ap (λ v. canonical_from fs (if v then taken else taken ++ e ∷ []) (filter (has_member members) (range_with_len (e + 1) (order_of fs - (e + 1))))) k)

  pub from_start : (members : List ℕ) → IsSubgroup fs members → canonical_from fs [] (filter (has_member members) (range_with_len 0 (order_of fs - 0))) ≡ canonical_of fs members
  unfolding canonical_of
  from_start members (gs, e) =
      let n : order_of fs - 0 ≡ order_of fs = omega arith in
      let set = subst (IsSet (order_of fs)) e (generated_set fs gs) in
      rw n (ap (canonical_from fs []) (sym (set_picked (order_of fs) members set)))

  pub from_end : (members taken whole : List ℕ) (e : ℕ) → order_of fs ≤ e → canonical_from fs taken (filter (has_member members) (range_with_len e (order_of fs - e))) ≡ whole → taken ≡ whole
  from_end members taken whole e l h =
      let n : order_of fs - e ≡ 0 = omega arith in
      sym (ap (λ k. canonical_from fs taken (filter (has_member members) (range_with_len e k))) n) ∙ h
