use Rattle.std.proofs.Common.{◌≡◌, ℕ, ◌+◌, ◌<◌, ◌≤◌, ◌⊎◌, inl, inr, true, false, not, cond, ◌&&◌, ◌++◌, ◌∷◌, [], List, length, take, drop, get_or, ltb, refl, sym, ap, ◌∙◌, subst, lt-ltb, le-ltb, Some, None}
use Rattle.std.proofs.lemmas.Bool.{and_left, and_right, cases_lt}
use Rattle.std.proofs.lemmas.List.{take_more, take-append-drop, take_all}
use Rattle.df_lists.specs.NumberSets.{has_member, with_member, set_of, IsSet}
use Rattle.df_lists.proofs.CountLaws.{has_filter}
use Rattle.df_lists.proofs.SetLaws.{set_more}
use Rattle.df_subsets.specs.Blocks.{are_apart}
use Rattle.df_subsets.proofs.BlockLaws.{apart_more, apart_front, length_gathered, gathered_below}
use Rattle.df_subsets.proofs.block.Block.from_points.Goals as goal
use Rattle.df_subsets.proofs.block.Block.from_points.Goals.{then-p-ge128-via-then-p-ge128, then-p-ge128-via-else-p-ge128+then-has}

-- a point that isn't below v or was there before
stopped : (v i x : ℕ) (xs b : List ℕ) → i < length xs → x ≡ get_or xs i x → b ≡ set_of v (take i xs) → (ltb x v && not (has_member b x)) ≡ false → are_apart v xs ≡ false
stopped v i x xs b l at is bad =
    sym (ap (are_apart v) (take-append-drop (i + 1) xs))
    ∙ apart_front v (take (i + 1) xs) (drop (i + 1) xs)
    (ap (are_apart v) (take_more xs i x l ∙ ap (λ y. take i xs ++ y ∷ []) (sym at))
    ∙ apart_more v (take i xs) x
    ∙ and_right (are_apart v (take i xs)) (ltb x v && not (has_member (take i xs) x)) (by (cases_lt x v)))
  where
    by : (x < v) ⊎ (v ≤ x) → (ltb x v && not (has_member (take i xs) x)) ≡ false
    by (inl l) = ap (λ t. ltb x v && not t) (sym (has_filter (has_member (take i xs)) v x l) ∙ sym (ap (λ l. has_member l x) is)) ∙ bad
    by (inr g) = and_left (ltb x v) (not (has_member (take i xs) x)) (le-ltb x v g)

-- a point that is below v and new
still_apart : (v i x : ℕ) (xs b : List ℕ) → i < length xs → x ≡ get_or xs i x → b ≡ set_of v (take i xs) → are_apart v (take i xs) ≡ true → x < v → has_member b x ≡ false
    → (with_member x b ≡ set_of v (take (i + 1) xs)) × (are_apart v (take (i + 1) xs) ≡ true)
still_apart v i x xs b l at is apart h new =
    let next = take_more xs i x l ∙ ap (λ y. take i xs ++ y ∷ []) (sym at) in
    let absent = sym (has_filter (has_member (take i xs)) v x h) ∙ sym (ap (λ l. has_member l x) is) ∙ new in (
      ap (with_member x) is ∙ set_more v (take i xs) x h ∙ sym (ap (set_of v) next),
      ap (are_apart v) next ∙ apart_more v (take i xs) x ∙ (rw (apart, lt-ltb x v h, absent) refl),
    )

-- all points are gathered
all_gathered : (v i : ℕ) (xs b : List ℕ) → b ≡ set_of v (take i xs) → take i xs ≡ xs → are_apart v (take i xs) ≡ true → Some b ≡ cond (are_apart v xs) (Some (set_of v xs)) None
all_gathered v i xs b is whole apart = ap Some (is ∙ ap (set_of v) whole) ∙ sym (ap (λ t. cond t (Some (set_of v xs)) None) (sym (ap (are_apart v) whole) ∙ apart))

pub returns-clause-value : goal.returns-clause-value
returns-clause-value c =
    let xs = c.args.points.now in
    all_gathered 128 c.loop-p.p-index xs c.loop-p.block c.loop-p.invariant.0 (take_all c.loop-p.p-index xs c.loop-p-test.false) c.loop-p.invariant.1

pub returns-then-p-ge128-clause-value : goal.returns-then-p-ge128-clause-value
returns-then-p-ge128-clause-value c =
    let xs = c.args.points.now in
    let i = c.loop-p.p-index in
    let x = c.p.inside.0 in
    let b = c.loop-p.block in
    let at = subst (λ y. y ≡ get_or xs i y) (sym c.p.view_is) c.p-item.is in
    let bad : (ltb x 128 && not (has_member b x)) ≡ false =
    elim c.then-p-ge128.branch [
      | then-p-ge128-via-then-p-ge128 w ↦ and_left (ltb x 128) (not (has_member b x)) (le-ltb x 128 w.if-p-ge128.true)
      | then-p-ge128-via-else-p-ge128+then-has w ↦ and_right (ltb x 128) (not (has_member b x)) (ap not (sym w.has.ensures ∙ w.if-has.true))
    ] in
    sym (ap (λ t. cond t (Some (set_of 128 xs)) None) (stopped 128 i x xs b c.loop-p-test.true at c.loop-p.invariant.0 bad))

pub loop-p-preserved : goal.loop-p-preserved
loop-p-preserved c =
    let xs = c.args.points.now in
    let i = c.loop-p.p-index in
    let x = c.p.inside.0 in
    let b = c.loop-p.block in
    let at = subst (λ y. y ≡ get_or xs i y) (sym c.p.view_is) c.p-item.is in
    let r = still_apart 128 i x xs b c.loop-p-test.true at c.loop-p.invariant.0 c.loop-p.invariant.1 c.if-p-ge128.false (sym c.has.ensures ∙ c.if-has.false) in
    (c.insert.ensures.list ∙ r.0, r.1)

pub returns-clause-size : goal.returns-clause-size
returns-clause-size c =
    let xs = c.args.points.now in
    let whole = take_all c.loop-p.p-index xs c.loop-p-test.false in
    ap length (c.loop-p.invariant.0 ∙ ap (set_of 128) whole) ∙ length_gathered 128 xs (sym (ap (are_apart 128) whole) ∙ c.loop-p.invariant.1)

pub returns-clause-within : goal.returns-clause-within
returns-clause-within c =
    let xs = c.args.points.now in
    let whole = take_all c.loop-p.p-index xs c.loop-p-test.false in
    λ v h. subst (IsSet v) (sym (c.loop-p.invariant.0 ∙ ap (set_of 128) whole)) (gathered_below v 128 xs h)
