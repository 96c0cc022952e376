-- Blocks as sets of points.
use Rattle.std.proofs.Common.{◌≡◌, ℕ, suc, ◌+◌, ◌<◌, Bool, true, false, cond, not, ◌&&◌, ◌||◌, ◌++◌, List, [], ◌∷◌, length, refl, sym, ap, ◌∙◌, inl, inr, ◌⊎◌, arith, eqb, ltb, ⊎_elim, eq-eqb, ne_eqb, lt-ltb, le-ltb}
use Rattle.std.proofs.lemmas.Bool.{false≢true, and_parts, not-true, ltb-true, cases_eq, cases_order}
use Rattle.std.specs.List.{range_with_len}
use Rattle.df_lists.specs.NumberSets.{has_member, with_member, set_of, IsSet, Rises}
use Rattle.df_lists.proofs.CountLaws.{has_filter}
use Rattle.df_lists.specs.Membership.{In}
use Rattle.df_lists.proofs.MemberLaws.{In-filter_gives}
use Rattle.df_lists.proofs.TestLaws.{has_gives}
use Rattle.df_lists.proofs.SetLaws.{filter_is_set, set_none, set_put}
use Rattle.df_subsets.specs.Blocks.{are_apart}
use Rattle.df_lists.proofs.RisingLists.{Rises-below, none_below}

pub length_more : (low v p : ℕ) (b : List ℕ) → Rises low v b → length (with_member p b) ≡ cond (has_member b p) (length b) (length b + 1)
length_more low v p [] r = refl
length_more low v p (q ∷ b) r = go (cases_order p q) (length_more (q + 1) v p b r.2)
  where
    step : (t : Bool) (n m : ℕ) → n ≡ cond t m (m + 1) → suc n ≡ cond t (suc m) (suc m + 1)
    step true n m e = ap suc e
    step false n m e = omega (arith, e)

    go : (p ≡ q) ⊎ ((p < q) ⊎ (q < p)) → length (with_member p b) ≡ cond (has_member b p) (length b) (length b + 1) → length (with_member p (q ∷ b)) ≡ cond (has_member (q ∷ b) p) (length (q ∷ b)) (length (q ∷ b) + 1)
    go (inl e) ih = rw (le-ltb p q (omega arith), eq-eqb p q e, eq-eqb q p (sym e)) refl
    go (inr (inl l)) ih = rw (lt-ltb p q l, ne_eqb q p (λ e. absurd (omega (arith, e, l))), none_below (q + 1) v b p r.2 (omega arith)) (omega arith)
    go (inr (inr l)) ih = rw (le-ltb p q (omega arith), ne_eqb p q (λ e. absurd (omega (arith, e, l))), ne_eqb q p (λ e. absurd (omega (arith, e, l)))) (step (has_member b p) (length (with_member p b)) (length b) ih)

pub has_append : (xs ys : List ℕ) (q : ℕ) → has_member (xs ++ ys) q ≡ (has_member xs q || has_member ys q)
has_append [] ys q = refl
has_append (x ∷ xs) ys q = ap (λ t. eqb x q || t) (has_append xs ys q) ∙ or_assoc (eqb x q) (has_member xs q) (has_member ys q)
  where
    or_assoc : (x y z : Bool) → (x || (y || z)) ≡ ((x || y) || z)
    or_assoc true y z = refl
    or_assoc false y z = refl

-- points that are apart: each is below v, and none follows again
apart_parts : (v p : ℕ) (ps : List ℕ) → are_apart v (p ∷ ps) ≡ true → (p < v) × (has_member ps p ≡ false) × (are_apart v ps ≡ true)
apart_parts v p ps h =
    let r = and_parts (ltb p v && not (has_member ps p)) (are_apart v ps) h in
    let s = and_parts (ltb p v) (not (has_member ps p)) r.0 in
    (ltb-true p v s.0, not-true (has_member ps p) s.1, r.1)

pub apart_below : (v : ℕ) (ps : List ℕ) → are_apart v ps ≡ true → (p : ℕ) → In ps p → p < v
apart_below v [] h p i = absurd i
apart_below v (q ∷ ps) h p (inl e) = let r = apart_parts v q ps h in omega (arith, r.0, e)
apart_below v (q ∷ ps) h p (inr i) = apart_below v ps (apart_parts v q ps h).2 p i

-- the set of points that are apart has as many points
pub length_gathered : (v : ℕ) (ps : List ℕ) → are_apart v ps ≡ true → length (set_of v ps) ≡ length ps
length_gathered v [] h = ap length (set_none v)
length_gathered v (p ∷ ps) h =
    let r = apart_parts v p ps h in
    let ih = length_gathered v ps r.2 in
    let more = set_put v p ps r.0 in
    ap length (sym more) ∙ length_more 0 v p (set_of v ps) (filter_is_set (has_member ps) v)
    ∙ ap (λ t. cond t (length (set_of v ps)) (length (set_of v ps) + 1)) (has_filter (has_member ps) v p r.0 ∙ r.1) ∙ omega (arith, ih)

-- the set of points that lie below w lies below w
pub gathered_below : (w v : ℕ) (ps : List ℕ) → ((p : ℕ) → In ps p → p < w) → IsSet w (set_of v ps)
gathered_below w v ps h = Rises-below 0 w v (set_of v ps) (filter_is_set (has_member ps) v) (λ p i. h p (has_gives ps p (In-filter_gives (has_member ps) (range_with_len 0 v) p i).1))

-- one more point that is below v and not among them
pub apart_more : (v : ℕ) (ps : List ℕ) (p : ℕ) → are_apart v (ps ++ p ∷ []) ≡ (are_apart v ps && (ltb p v && not (has_member ps p)))
apart_more v [] p = step (ltb p v)
  where
    step : (x : Bool) → ((x && true) && true) ≡ (x && true)
    step true = refl
    step false = refl
apart_more v (q ∷ ps) p =
    ap (λ t. (ltb q v && not t) && are_apart v (ps ++ p ∷ [])) (has_append ps (p ∷ []) q)
    ∙ ap (λ t. (ltb q v && not (has_member ps q || (eqb p q || false))) && t) (apart_more v ps p)
    ∙ ⊎_elim (λ e. agree_here (eqb p q) (eqb q p) (eq-eqb p q e) (eq-eqb q p (sym e))) (λ ne. unlike (eqb p q) (eqb q p) (ne_eqb p q ne) (ne_eqb q p (λ e. ne (sym e)))) (cases_eq p q)
  where
    same : (a b c d e : Bool) → ((a && not (b || (true || false))) && (c && (d && not e))) ≡ (((a && not b) && c) && (d && not (true || e)))
    same true true c d e = refl
    same true false true true e = refl
    same true false true false e = refl
    same true false false d e = refl
    same false b c d e = refl

    other : (a b c d e : Bool) → ((a && not (b || (false || false))) && (c && (d && not e))) ≡ (((a && not b) && c) && (d && not (false || e)))
    other true true c d e = refl
    other true false true d e = refl
    other true false false d e = refl
    other false b c d e = refl

    agree_here : (x y : Bool) → x ≡ true → y ≡ true → ((ltb q v && not (has_member ps q || (x || false))) && (are_apart v ps && (ltb p v && not (has_member ps p)))) ≡ (((ltb q v && not (has_member ps q)) && are_apart v ps) && (ltb p v && not (y || has_member ps p)))
    agree_here x y e f = rw (e, f) (same (ltb q v) (has_member ps q) (are_apart v ps) (ltb p v) (has_member ps p))

    unlike : (x y : Bool) → x ≡ false → y ≡ false → ((ltb q v && not (has_member ps q || (x || false))) && (are_apart v ps && (ltb p v && not (has_member ps p)))) ≡ (((ltb q v && not (has_member ps q)) && are_apart v ps) && (ltb p v && not (y || has_member ps p)))
    unlike x y e f = rw (e, f) (other (ltb q v) (has_member ps q) (are_apart v ps) (ltb p v) (has_member ps p))

pub apart_front : (v : ℕ) (ps qs : List ℕ) → are_apart v ps ≡ false → are_apart v (ps ++ qs) ≡ false
apart_front v [] qs h = absurd (false≢true (sym h))
apart_front v (p ∷ ps) qs h =
    ap (λ t. (ltb p v && not t) && are_apart v (ps ++ qs)) (has_append ps qs p) ∙ go (ltb p v) (has_member ps p) (has_member qs p) (are_apart v ps) (are_apart v (ps ++ qs)) h (apart_front v ps qs)
  where
    go : (a b c d e : Bool) → ((a && not b) && d) ≡ false → (d ≡ false → e ≡ false) → ((a && not (b || c)) && e) ≡ false
    go true true c d e h f = refl
    go true false true d e h f = refl
    go true false false d e h f = f h
    go false b c d e h f = refl

pub block_of_below : (v w : ℕ) (b : List ℕ) → IsSet w b → ((p : ℕ) → In b p → p < v) → IsSet v b
block_of_below v w b r h = Rises-below 0 v w b r h
