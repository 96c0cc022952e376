-- The earliest of the blocks that were met, up to a number of them: what a block more makes of them, and that they begin the list of all of them.
use Rattle.std.proofs.Common.{◌≡◌, ℕ, suc, zero, ◌+◌, ◌-◌, ◌<◌, ◌≤◌, Bool, true, false, List, [], ◌∷◌, ◌++◌, length, get_or, take, drop, refl, sym, ap, ap₂, ◌∙◌, subst, inl, inr, ◌⊎◌, ⊎_elim, arith, length-append, append_assoc, ◌≢◌, ◌&&◌, eqb, eq-eqb, eqb-true, Option, None, Some}
use Rattle.std.specs.Prelude.{option_to_list}
use Rattle.std.proofs.lemmas.Bool.{false≢true, and_parts, cases_eq}
use Rattle.std.proofs.lemmas.List.{take-append-drop, take-append-le, drop-append-le}
use Rattle.df_lists.specs.Membership.{In}
use Rattle.df_lists.specs.Orders.{IsOrder, IsSorted}
use Rattle.df_lists.proofs.MemberLaws.{In-append_cases, In-append_left, In-append_right}
use Rattle.df_lists.proofs.ListPlaces.{In-get_or}
use Rattle.df_lists.proofs.SortedLists.{sorted-append}
use Rattle.df_subsets.specs.Blocks.{before}
use Rattle.df_design.specs.LeftBlocks.{IsSettled, IsPlaceFor, IsMet}
use Rattle.df_design.specs.declared.blocks.TheConstants.{READY}

-- parts of a sorted list
sorted_left : (xs ys : List (List ℕ)) → IsSorted before (xs ++ ys) → IsSorted before xs
sorted_left [] ys s = tt
sorted_left (x ∷ xs) ys s = (λ y i. s.0 y (In-append_left xs ys y i), sorted_left xs ys s.1)

sorted_right : (xs ys : List (List ℕ)) → IsSorted before (xs ++ ys) → IsSorted before ys
sorted_right [] ys s = s
sorted_right (x ∷ xs) ys s = sorted_right xs ys s.1

pub sorted_across : (xs ys : List (List ℕ)) (x y : List ℕ) → IsSorted before (xs ++ ys) → In xs x → In ys y → before x y ≡ true
sorted_across [] ys x y s i j = absurd i
sorted_across (z ∷ xs) ys x y s (inl e) j = subst (λ w. before w y ≡ true) e (s.0 y (In-append_right xs ys y j))
sorted_across (z ∷ xs) ys x y s (inr i) j = sorted_across xs ys x y s.1 i j

-- what holds at each of the first places holds of each of the first members
pub take_before : (xs : List (List ℕ)) (i : ℕ) (y : List ℕ) → ((j : ℕ) → j < i → before (get_or xs j []) y ≡ true) → (z : List ℕ) → In (take i xs) z → before z y ≡ true
take_before [] zero y h z i = absurd i
take_before [] (suc n) y h z i = absurd i
take_before (x ∷ xs) zero y h z i = absurd i
take_before (x ∷ xs) (suc n) y h z (inl e) = subst (λ w. before w y ≡ true) e (h 0 (omega arith))
take_before (x ∷ xs) (suc n) y h z (inr i) = take_before xs n y (λ j l. h (suc j) (omega (arith, l))) z i

and_second : (a b : Bool) → a ≡ true → (a && b) ≡ false → b ≡ false
and_second true b e h = h
and_second false b e h = absurd (false≢true e)

-- what holds at each place from one on holds of each member past those before it
drop_after : (xs : List (List ℕ)) (i : ℕ) (y : List ℕ) → ((j : ℕ) → i ≤ j → j < length xs → before y (get_or xs j []) ≡ true) → (z : List ℕ) → In (drop i xs) z → before y z ≡ true
drop_after [] zero y h z i = absurd i
drop_after [] (suc n) y h z i = absurd i
drop_after (x ∷ xs) zero y h z (inl e) = subst (λ w. before y w ≡ true) e (h 0 (omega arith) (omega arith))
drop_after (x ∷ xs) zero y h z (inr i) = drop_after xs zero y (λ j m l. h (suc j) (omega arith) (omega (arith, l))) z i
drop_after (x ∷ xs) (suc n) y h z i = drop_after xs n y (λ j m l. h (suc j) (omega (arith, m)) (omega (arith, l))) z i

module _ (O : IsOrder before) where
  -- what comes after the last member comes after all
  pub late : (xs : List (List ℕ)) (n : ℕ) (y : List ℕ) → IsSorted before xs → length xs ≡ n + 1 → before (get_or xs n []) y ≡ true → (z : List ℕ) → In xs z → before z y ≡ true
  late [] n y s e h z i = absurd i
  late (x ∷ []) zero y s e h z (inl k) = subst (λ w. before w y ≡ true) k h
  late (x ∷ []) zero y s e h z (inr i) = absurd i
  late (x ∷ (w ∷ xs)) zero y s e h z i = absurd (omega (arith, e))
  late (x ∷ xs) (suc n) y s e h z (inl k) = subst (λ w. before w y ≡ true) k (O.onward x (get_or xs n []) y (s.0 (get_or xs n []) (In-get_or xs n [] (omega (arith, e)))) h)
  late (x ∷ xs) (suc n) y s e h z (inr i) = late xs n y s.1 (omega (arith, e)) h z i

  -- a member is not before itself
  not_self : (x y : List ℕ) → x ≡ y → before x y ≡ true → ⊥
  not_self x y e h = false≢true (sym (O.unlike x) ∙ subst (λ w. before x w ≡ true) (sym e) h)

  pub not_both : (x y : List ℕ) → before x y ≡ true → before y x ≡ true → ⊥
  not_both x y h k = false≢true (sym (O.unlike x) ∙ O.onward x y x h k)

  -- a block that is put between those before it and those after it
  pub put_sorted : (xs ys : List (List ℕ)) (y : List ℕ) → IsSorted before (xs ++ ys) → ((z : List ℕ) → In xs z → before z y ≡ true) → ((z : List ℕ) → In ys z → before y z ≡ true) → IsSorted before (xs ++ y ∷ ys)
  put_sorted xs ys y s low high =
      sorted-append before xs (y ∷ ys) (sorted_left xs ys s) (high, sorted_right xs ys s)
      (λ a b i j. ⊎_elim (λ e. subst (λ w. before a w ≡ true) e (low a i)) (λ k. sorted_across xs ys a b s i k) j)

  put_inside : (xs ys : List (List ℕ)) (y z : List ℕ) → In (xs ++ y ∷ ys) z → In (xs ++ ys) z ⊎ (z ≡ y)
  put_inside xs ys y z i =
      ⊎_elim (λ j. inl (In-append_left xs ys z j)) (λ j. ⊎_elim (λ e. inr (sym e)) (λ k. inl (In-append_right xs ys z k)) j) (In-append_cases xs (y ∷ ys) z i)

  put_here : (xs ys : List (List ℕ)) (y : List ℕ) → In (xs ++ y ∷ ys) y
  put_here xs ys y = In-append_right xs (y ∷ ys) y (inl refl)

  put_still : (xs ys : List (List ℕ)) (y z : List ℕ) → In (xs ++ ys) z → In (xs ++ y ∷ ys) z
  put_still xs ys y z i = ⊎_elim (λ j. In-append_left xs (y ∷ ys) z j) (λ j. In-append_right xs (y ∷ ys) z (inr j)) (In-append_cases xs ys z i)

  -- there is room for it
  pub put : (xs ys : List (List ℕ)) (y : List ℕ) → IsSorted before (xs ++ ys) → length (xs ++ ys) < READY → ((z : List ℕ) → In xs z → before z y ≡ true) → ((z : List ℕ) → In ys z → before y z ≡ true)
      → IsMet (xs ++ ys) y (xs ++ y ∷ ys)
  put xs ys y s room low high = record {
    sorted = put_sorted xs ys y s low high;
    inside = λ z i. put_inside xs ys y z i;
    here = inl (put_here xs ys y);
    still = λ z h. ⊎_elim (λ i. inl (put_still xs ys y z i)) (λ f. absurd (omega (arith, f.0, room))) h;
  }

  -- there is room for it once the last one is given up
  pub put_full : (xs ys : List (List ℕ)) (last y : List ℕ) → IsSorted before (xs ++ (ys ++ last ∷ [])) → length (xs ++ (ys ++ last ∷ [])) ≡ READY → ((z : List ℕ) → In xs z → before z y ≡ true) → ((z : List ℕ) → In (ys ++ last ∷ []) z → before y z ≡ true)
      → IsMet (xs ++ (ys ++ last ∷ [])) y (xs ++ y ∷ ys)
  put_full xs ys last y s full low high = record {
    sorted = put_sorted xs ys y (shorter s) low (λ z i. high z (In-append_left ys (last ∷ []) z i));
    inside = λ z i. ⊎_elim (λ j. inl (longer z j)) (λ e. inr e) (put_inside xs ys y z i);
    here = inl (put_here xs ys y);
    still = λ z h. ⊎_elim (λ i. met z i) (λ f. inr (long, λ w i. O.onward w last z (ends w i) (f.1 last at_end))) h;
  }
    where
      shorter : IsSorted before (xs ++ (ys ++ last ∷ [])) → IsSorted before (xs ++ ys)
      shorter t = sorted_left (xs ++ ys) (last ∷ []) (subst (IsSorted before) (sym (append_assoc xs ys (last ∷ []))) t)

      longer : (z : List ℕ) → In (xs ++ ys) z → In (xs ++ (ys ++ last ∷ [])) z
      longer z i = ⊎_elim (λ j. In-append_left xs (ys ++ last ∷ []) z j) (λ j. In-append_right xs (ys ++ last ∷ []) z (In-append_left ys (last ∷ []) z j)) (In-append_cases xs ys z i)

      at_end : In (xs ++ (ys ++ last ∷ [])) last
      at_end = In-append_right xs (ys ++ last ∷ []) last (In-append_right ys (last ∷ []) last (inl refl))

      long : length (xs ++ y ∷ ys) ≡ READY
      long = omega (arith, full, length-append xs (ys ++ last ∷ []), length-append ys (last ∷ []), length-append xs (y ∷ ys))

      -- all are before the one that is given up
      ends : (w : List ℕ) → In (xs ++ y ∷ ys) w → before w last ≡ true
      ends w i =
          ⊎_elim (λ j. sorted_across xs (ys ++ last ∷ []) w last s j (In-append_right ys (last ∷ []) last (inl refl)))
          (λ j. ⊎_elim (λ e. subst (λ u. before u last ≡ true) e (high last (In-append_right ys (last ∷ []) last (inl refl)))) (λ k. sorted_across ys (last ∷ []) w last (sorted_right xs (ys ++ last ∷ []) s) k (inl refl)) j)
          (In-append_cases xs (y ∷ ys) w i)

      met : (z : List ℕ) → In (xs ++ (ys ++ last ∷ [])) z → IsSettled (xs ++ y ∷ ys) z
      met z i =
          ⊎_elim (λ j. inl (In-append_left xs (y ∷ ys) z j))
          (λ j. ⊎_elim (λ k. inl (In-append_right xs (y ∷ ys) z (inr k))) (λ k. ⊎_elim (λ e. inr (long, λ w l. subst (λ u. before w u ≡ true) e (ends w l))) (λ none. absurd none) k) (In-append_cases ys (last ∷ []) z j))
          (In-append_cases xs (ys ++ last ∷ []) z i)

  -- there is none: it comes after all
  pub left_out : (xs : List (List ℕ)) (y : List ℕ) → IsSorted before xs → length xs ≡ READY → ((z : List ℕ) → In xs z → before z y ≡ true) → IsMet xs y xs
  left_out xs y s full low = record { sorted = s; inside = λ z i. inl i; here = inr (full, low); still = λ z h. h }

  -- it is there already
  pub met_before : (xs : List (List ℕ)) (y : List ℕ) → IsSorted before xs → In xs y → IsMet xs y xs
  met_before xs y s i = record { sorted = s; inside = λ z j. inl j; here = inl i; still = λ z h. h }

  -- it comes after as many as there may be
  pub met_late : (xs : List (List ℕ)) (y : List ℕ) → IsSorted before xs → (eqb (length xs) READY && before (get_or xs (READY - 1) []) y) ≡ true → IsMet xs y xs
  met_late xs y s h =
      let p = and_parts (eqb (length xs) READY) (before (get_or xs (READY - 1) []) y) h in
      let full = eqb-true (length xs) READY p.0 in
      left_out xs y s full (λ z i. late xs (READY - 1) y s full p.1 z i)

  -- there is room for it at its place
  pub met_room : (xs : List (List ℕ)) (place : ℕ) (y : List ℕ) → IsSorted before xs → length xs < READY → IsPlaceFor xs y place → IsMet xs y (take place xs ++ y ∷ drop place xs)
  met_room xs place y s room p =
      let whole = take-append-drop place xs in
      subst (λ l. IsMet l y (take place xs ++ y ∷ drop place xs)) whole
      (put (take place xs) (drop place xs) y (subst (IsSorted before) (sym whole) s) (subst (λ l. length l < READY) (sym whole) room) (take_before xs place y p.earlier) (drop_after xs place y p.later))

  -- and there is room for it once the last one is given up
  pub met_full : (xs ys : List (List ℕ)) (popped : Option (List ℕ)) (place : ℕ) (y : List ℕ) → IsSorted before xs → length xs ≡ READY → xs ≡ ys ++ option_to_list popped → length ys + 1 ≡ length xs → place ≤ length ys → IsPlaceFor xs y place
      → IsMet xs y (take place ys ++ y ∷ drop place ys)
  met_full xs ys None place y s full e long l p = absurd (omega (arith, ap length e, length-append ys [], long))
  met_full xs ys (Some last) place y s full e long l p =
      let whole : take place ys ++ (drop place ys ++ last ∷ []) ≡ xs = sym (append_assoc (take place ys) (drop place ys) (last ∷ [])) ∙ ap (λ l. l ++ last ∷ []) (take-append-drop place ys) ∙ sym e in
      subst (λ l. IsMet l y (take place ys ++ y ∷ drop place ys)) whole
      (put_full (take place ys) (drop place ys) last y (subst (IsSorted before) (sym whole) s) (ap length whole ∙ full)
      (λ z i. take_before xs place y p.earlier z (subst (λ l. In l z) (sym (ap (take place) e ∙ take-append-le place ys (last ∷ []) l)) i))
      (λ z i. drop_after xs place y p.later z (subst (λ l. In l z) (sym (ap (drop place) e ∙ drop-append-le place ys (last ∷ []) l)) i)))

  -- a full list that a block doesn't come late for has a place for it before its last
  pub place_early : (xs : List (List ℕ)) (place : ℕ) (y : List ℕ) → length xs ≡ READY → IsPlaceFor xs y place → (eqb (length xs) READY && before (get_or xs (READY - 1) []) y) ≡ false → place ≤ READY - 1
  place_early xs place y full p h = go (cases_eq place READY)
    where
      go : (place ≡ READY) ⊎ (place ≢ READY) → place ≤ READY - 1
      go (inl e) = absurd (false≢true (sym (and_second (eqb (length xs) READY) (before (get_or xs (READY - 1) []) y) (eq-eqb (length xs) READY full) h) ∙ p.earlier (READY - 1) (omega (arith, e))))
      go (inr ne) = omega (arith, p.within, full, ne)

  -- an increasing list begins with the earliest of its members
  pub begins : (all ready : List (List ℕ)) → IsSorted before all → IsSorted before ready → ((y : List ℕ) → In ready y → In all y) → ((y : List ℕ) → In all y → In ready y ⊎ ((z : List ℕ) → In ready z → before z y ≡ true))
      → (rest : List (List ℕ)) × (all ≡ ready ++ rest)
  begins all [] s t inside met = (all, refl)
  begins [] (r ∷ ready) s t inside met = absurd (inside r (inl refl))
  begins (a ∷ all) (r ∷ ready) s t inside met =
      let same = heads (inside r (inl refl)) (met a (inl refl)) in
      let more =
      begins all ready s.1 t.1 (λ y i. ⊎_elim (λ e. absurd (not_self r y (sym same ∙ e) (t.0 y i))) (λ j. j) (inside y (inr i)))
      (λ y i. ⊎_elim (λ j. ⊎_elim (λ e. absurd (not_self a y (same ∙ e) (s.0 y i))) (λ k. inl k) j) (λ f. inr (λ z k. f z (inr k))) (met y (inr i))) in
      (more.0, ap₂ (λ x l. x ∷ l) same more.1)
    where
      heads : In (a ∷ all) r → In (r ∷ ready) a ⊎ ((z : List ℕ) → In (r ∷ ready) z → before z a ≡ true) → a ≡ r
      heads (inl e) h = e
      heads (inr i) (inl (inl e)) = sym e
      heads (inr i) (inl (inr j)) = absurd (not_both a r (s.0 r i) (t.0 a j))
      heads (inr i) (inr f) = absurd (not_both a r (s.0 r i) (f r (inl refl)))

  -- and it is all of it where each of its members is there
  pub no_rest : (all ready rest : List (List ℕ)) → IsSorted before all → all ≡ ready ++ rest → ((y : List ℕ) → In all y → In ready y) → rest ≡ []
  no_rest all ready [] s e have = refl
  no_rest all ready (r ∷ rest) s e have =
      let here = have r (subst (λ l. In l r) (sym e) (In-append_right ready (r ∷ rest) r (inl refl))) in
      absurd (not_self r r refl (sorted_across ready (r ∷ rest) r r (subst (IsSorted before) e s) here (inl refl)))
