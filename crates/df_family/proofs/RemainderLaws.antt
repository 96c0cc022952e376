-- What remains of a development, one block on.
use Rattle.std.proofs.Common.{◌≡◌, ℕ, zero, suc, ◌+◌, ◌-◌, ◌<◌, Bool, true, false, cond, not, ◌&&◌, nat_lt, List, [], ◌∷◌, ◌++◌, map, filter, find, length, get_or, All, None, Some, refl, sym, ap, ◌∙◌, inl, inr, arith}
use Rattle.std.specs.List.{range_with_len, flat_map, list_any}
use Rattle.df_lists.specs.Membership.{In}
use Rattle.df_lists.specs.NumberSets.{has_member, IsSet}
use Rattle.df_lists.specs.LeastMembers.{any_below}
use Rattle.df_lists.proofs.RisingLists.{point_below}
use Rattle.df_lists.proofs.MemberLaws.{In-filter_gives}
use Rattle.df_group.specs.Elements.{order_of, group_of, IsGroup, minus}
use Rattle.df_group.specs.ClosedSets.{IsClosed}
use Rattle.df_lang.specs.declared.pieces.Kind.{Kind}
use Rattle.df_lang.specs.declared.pieces.Kind.TheVariants as kinds
use Rattle.df_lang.specs.declared.pieces.Member.{Member}
use Rattle.df_lang.specs.Problems.{Stated, point_count}
use Rattle.df_family.specs.Translates.{translate, same_translate, fixes}
use Rattle.df_family.specs.Developments.{is_listed, translates_under}
use Rattle.df_family.specs.Remainders.{is_listed_shift, rest_from, IsListedOf}
use Rattle.df_family.proofs.TranslateLaws.{same_by_stabilizer}
use Rattle.df_family.proofs.ShiftLaws.{any_below_same, any_lower, coset_of_shift, filter_set, has_filtered}

pub In-get_or : (xs : List ℕ) (k d : ℕ) → k < length xs → In xs (get_or xs k d)
In-get_or [] k d h = absurd (omega arith)
In-get_or (x ∷ xs) zero d h = inl refl
In-get_or (x ∷ xs) (suc k) d h = inr (In-get_or xs k d (omega arith))

-- the members of a set of numbers below v
pub set_below : (v : ℕ) (set : List ℕ) → IsSet v set → All (λ p. p < v) set
set_below v set is k d h = point_below 0 v set k d is h

-- what a test picks passes it
pub picks_pass : (t : ℕ → Bool) (xs : List ℕ) (k d : ℕ) → k < length (filter t xs) → t (get_or (filter t xs) k d) ≡ true
picks_pass t xs k d h = (In-filter_gives t xs (get_or (filter t xs) k d) (In-get_or (filter t xs) k d h)).1

-- the translate by a shift is listed where the difference of it from no lower element is a shift that fixes the block
pub first_least : (s : Stated) (is : IsGroup (group_of s.group)) (shifts : List ℕ) (closed : IsClosed s.group shifts) (block : List ℕ) → IsSet (point_count s) block → (fixing : List ℕ) → fixing ≡ filter (fixes s block) shifts
    → (g : ℕ) → g < order_of s.group → has_member shifts g ≡ true → not (any_below (λ h. has_member fixing (minus (group_of s.group) g h)) g) ≡ is_listed s shifts kinds.Short block g
first_least s is shifts closed block set fixing e g l i =
    ap not
    (any_below_same (λ h. has_member fixing (minus (group_of s.group) g h)) (λ h. has_member shifts h && same_translate s block h g) g (λ h k.
    ap (λ f. has_member f (minus (group_of s.group) g h)) e ∙ has_filtered (fixes s block) shifts (minus (group_of s.group) g h)
    ∙ and_turned (fixes s block (minus (group_of s.group) g h)) (has_member shifts (minus (group_of s.group) g h))
    ∙ ap (λ v. v && fixes s block (minus (group_of s.group) g h)) (sym (coset_of_shift s is shifts closed g h l (omega arith) i))
    ∙ ap (λ v. has_member shifts h && v) (sym (same_by_stabilizer s is block set h g l)))
    ∙ sym (any_lower (λ h. same_translate s block h g) shifts g))
  where
    and_turned : (a b : Bool) → (a && b) ≡ (b && a)
    and_turned true true = refl
    and_turned true false = refl
    and_turned false true = refl
    and_turned false false = refl

pub range_step : (a n : ℕ) → a < n → range_with_len a (n - a) ≡ a ∷ range_with_len (a + 1) (n - (a + 1))
range_step a n h = let e : n - a ≡ suc (n - (a + 1)) = omega arith in ap (range_with_len a) e

-- x is the first number from a on, below n, that passes
pub record Found (t : ℕ → Bool) (a n x : ℕ) : Type 0 where
  pub same : filter t (range_with_len a (n - a)) ≡ filter t (range_with_len x (n - x))
  pub passes : t x ≡ true
  pub within : x < n

found_in : (t : ℕ → Bool) (n k a x : ℕ) → k ≡ n - a → find t (range_with_len a k) ≡ Some x → Found t a n x
found_in t n zero a x e h = absurd (let z : ⊥ = cc in z)
found_in t n (suc k) a x e h = go (t a) refl h (found_in t n k (a + 1) x (omega arith))
  where
    go : (v : Bool) → t a ≡ v → cond v (Some a) (find t (range_with_len (a + 1) k)) ≡ Some x → (find t (range_with_len (a + 1) k) ≡ Some x → Found t (a + 1) n x) → Found t a n x
    go true p q more = let is : a ≡ x = cc in record { same = ap (λ y. filter t (range_with_len y (n - y))) is; passes = sym (ap t is) ∙ p; within = omega arith }
    go false p q more =
        let f = more q in
        let rest = filter t (range_with_len (a + 1) (n - (a + 1))) in
        record { same = ap (filter t) (range_step a n (omega arith)) ∙ ap (λ v. cond v (a ∷ rest) rest) p ∙ f.same; passes = f.passes; within = f.within }

pub found : (t : ℕ → Bool) (a n x : ℕ) → find t (range_with_len a (n - a)) ≡ Some x → Found t a n x
found t a n x h = found_in t n (n - a) a x refl h

pub none_found : (t : ℕ → Bool) (xs : List ℕ) → find t xs ≡ None → filter t xs ≡ []
none_found t [] h = refl
none_found t (x ∷ xs) h = go (t x) refl h (none_found t xs)
  where
    go : (v : Bool) → t x ≡ v → cond v (Some x) (find t xs) ≡ None → (find t xs ≡ None → filter t xs ≡ []) → cond v (x ∷ filter t xs) (filter t xs) ≡ []
    go true p q more = absurd (let z : ⊥ = cc in z)
    go false p q more = more q

-- the first number of a range passes, or the rest decides
pub find_here : (t : ℕ → Bool) (a n : ℕ) → a < n → t a ≡ true → find t (range_with_len a (n - a)) ≡ Some a
find_here t a n h e = ap (find t) (range_step a n h) ∙ ap (λ v. cond v (Some a) (find t (range_with_len (a + 1) (n - (a + 1))))) e

pub find_on : (t : ℕ → Bool) (a n : ℕ) → a < n → t a ≡ false → find t (range_with_len a (n - a)) ≡ find t (range_with_len (a + 1) (n - (a + 1)))
find_on t a n h e = ap (find t) (range_step a n h) ∙ ap (λ v. cond v (Some a) (find t (range_with_len (a + 1) (n - (a + 1))))) e

listed_first : (s : Stated) (shifts : List ℕ) (k : Kind) (block : List ℕ) → has_member shifts 0 ≡ true → is_listed_shift s shifts k block 0 ≡ true
listed_first s shifts kinds.Base block h = ap (λ v. v && true) h
listed_first s shifts kinds.Short block h =
    ap (λ v. v && not (list_any (λ g. nat_lt g 0 && same_translate s block g 0) shifts)) h ∙ ap not (any_lower (λ g. same_translate s block g 0) shifts 0)

pub listed_at_start : (s : Stated) (shifts : List ℕ) (ms : List Member) → has_member shifts 0 ≡ true → IsListedOf s shifts ms 0
listed_at_start s shifts [] h = tt
listed_at_start s shifts (m ∷ ms) h = listed_first s shifts m.kind m.block h

pub rest_at_start : (s : Stated) (shifts : List ℕ) → IsSet (order_of s.group) shifts → (ms : List Member) → rest_from s shifts ms 0 ≡ flat_map (translates_under s shifts) ms
rest_at_start s shifts set [] = refl
rest_at_start s shifts set (m ∷ ms) =
    let e : order_of s.group - 0 ≡ order_of s.group = omega arith in
    ap (λ k. map (translate s m.block) (filter (is_listed_shift s shifts m.kind m.block) (range_with_len 0 k)) ++ flat_map (translates_under s shifts) ms) e
    ∙ ap (λ l. map (translate s m.block) l ++ flat_map (translates_under s shifts) ms) (sym (filter_set (order_of s.group) shifts (is_listed s shifts m.kind m.block) set))

module _ (s : Stated) (shifts : List ℕ) (m : Member) (ms : List Member) (g : ℕ) (below : g < order_of s.group) (listed : is_listed_shift s shifts m.kind m.block g ≡ true) where
  abbrev later : List ℕ
  later = filter (is_listed_shift s shifts m.kind m.block) (range_with_len (g + 1) (order_of s.group - (g + 1)))

  rest_here : rest_from s shifts (m ∷ ms) g ≡ translate s m.block g ∷ (map (translate s m.block) later ++ flat_map (translates_under s shifts) ms)
  rest_here =
      ap (λ r. map (translate s m.block) (filter (is_listed_shift s shifts m.kind m.block) r) ++ flat_map (translates_under s shifts) ms) (range_step g (order_of s.group) below)
      ∙ ap (λ v. map (translate s m.block) (cond v (g ∷ later) later) ++ flat_map (translates_under s shifts) ms) listed

  -- a later shift of the member is listed
  pub rest_later : (x : ℕ) → Found (is_listed_shift s shifts m.kind m.block) (g + 1) (order_of s.group) x → rest_from s shifts (m ∷ ms) g ≡ translate s m.block g ∷ rest_from s shifts (m ∷ ms) x
  rest_later x f = rest_here ∙ ap (λ r. translate s m.block g ∷ (map (translate s m.block) r ++ flat_map (translates_under s shifts) ms)) f.same

  -- none is
  pub rest_last : IsSet (order_of s.group) shifts → later ≡ [] → rest_from s shifts (m ∷ ms) g ≡ translate s m.block g ∷ rest_from s shifts ms 0
  rest_last set e =
      rest_here ∙ ap (λ r. translate s m.block g ∷ (map (translate s m.block) r ++ flat_map (translates_under s shifts) ms)) e ∙ ap (λ l. translate s m.block g ∷ l) (sym (rest_at_start s shifts set ms))
