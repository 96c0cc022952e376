-- A list of blocks that the prescribed maps don't lead out of, the full maps don't, and the other way round.
use Rattle.std.proofs.Common.{◌≡◌, ℕ, ◌*◌, ◌%◌, ◌<◌, ◌≤◌, List, [], ◌∷◌, refl, sym, ap, ◌∙◌, subst, arith, ⊎_elim, lt-ltb, le-ltb, mul-one}
use Rattle.std.proofs.lemmas.Bool.{cases_lt}
use Rattle.df_lists.specs.Membership.{In}
use Rattle.df_lists.specs.NumberSets.{IsSet}
use Rattle.df_group.specs.Elements.{Group, IsGroup, shifted}
use Rattle.df_group.specs.Multiples.{AreMultiples}
use Rattle.df_acting.specs.Images.{image, IsInvariant}
use Rattle.df_acting.proofs.ImageLaws.{image_by_agree, image_by_same, image_by_twice}
use Rattle.df_maps.specs.Products.{product_of, AllIn, AreProducts}
use Rattle.df_maps.specs.FullMaps.{moved, multiplied}
use Rattle.df_maps.proofs.NumberLaws.{pairs, In-pairs, In-pairs_gives}

module _ (G : Group) (e : ℕ) (g : IsGroup G) (A : AreMultiples G e) where
  multiplied_in : (m p v : ℕ) → G.order ≤ v → p < v → multiplied G m p < v
  multiplied_in m p v wide h =
      ⊎_elim (λ k. let x : multiplied G m p ≡ G.times m p = rw (lt-ltb p G.order k) refl in let l = A.within m p in omega (arith, x, l, wide))
      (λ k. let x : multiplied G m p ≡ p = rw (le-ltb p G.order k) refl in omega (arith, x, h)) (cases_lt p G.order)

  -- a product multiplies as one multiplier after another
  multiplied_twice : (m l p : ℕ) → multiplied G (m * l) p ≡ multiplied G m (multiplied G l p)
  multiplied_twice m l p =
      ⊎_elim (λ k. let inside = A.within l p in rw (lt-ltb p G.order k, lt-ltb (G.times l p) G.order inside) (A.product m l p))
      (λ k. rw (le-ltb p G.order k, le-ltb p G.order k) refl) (cases_lt p G.order)

  moved_is : (m h p : ℕ) → moved G (m, h) p ≡ shifted G h (multiplied G m p)
  moved_is m h p =
      ⊎_elim (λ k. let inside = A.within m p in rw (lt-ltb p G.order k, lt-ltb (G.times m p) G.order inside) refl)
      (λ k. rw (le-ltb p G.order k, le-ltb p G.order k) refl) (cases_lt p G.order)

  -- only the residue counts
  multiplied_reduced : (m p : ℕ) → multiplied G (m % e) p ≡ multiplied G m p
  multiplied_reduced m p = ⊎_elim (λ k. rw (lt-ltb p G.order k) (A.reduced m p)) (λ k. rw (le-ltb p G.order k) refl) (cases_lt p G.order)

  multiplied_one : (p : ℕ) → multiplied G 1 p ≡ p
  multiplied_one p = ⊎_elim (λ k. rw (lt-ltb p G.order k) (A.one p k)) (λ k. rw (le-ltb p G.order k) refl) (cases_lt p G.order)

  shifted_zero : (p : ℕ) → shifted G 0 p ≡ p
  shifted_zero p = ⊎_elim (λ k. rw (lt-ltb p G.order k) (g.zero p k)) (λ k. rw (le-ltb p G.order k) refl) (cases_lt p G.order)

  module _ (v : ℕ) (wide : G.order ≤ v) (shifts stated products : List ℕ) (zero : In shifts 0) (P : AreProducts e stated products) (blocks : List (List ℕ)) (B : (b : List ℕ) → In blocks b → IsSet v b) where
    product_invariant : IsInvariant (multiplied G) v stated blocks → (ms : List ℕ) → AllIn stated ms → (b : List ℕ) → In blocks b → In blocks (image (multiplied G) v (product_of ms) b)
    product_invariant invariant [] i b j = subst (In blocks) (sym (image_by_same v (multiplied G 1) b (λ p h. multiplied_one p) (B b j))) j
    product_invariant invariant (m ∷ ms) i b j =
        subst (In blocks) (sym (image_by_agree v (multiplied G (m * product_of ms)) (λ p. multiplied G m (multiplied G (product_of ms) p)) b (λ p h. multiplied_twice m (product_of ms) p) (B b j) ∙ image_by_twice v (multiplied G m) (multiplied G (product_of ms)) b (λ p h. multiplied_in (product_of ms) p v wide h) (B b j)))
        (invariant m i.0 (image (multiplied G) v (product_of ms) b) (product_invariant invariant ms i.1 b j))

    pub full_from_prescribed : IsInvariant (shifted G) v shifts blocks → IsInvariant (multiplied G) v stated blocks → IsInvariant (moved G) v (pairs products shifts) blocks
    full_from_prescribed by_shift by_mult f i b j = here f.0 f.1 (In-pairs_gives products shifts f i)
      where
        here : (m h : ℕ) → In products m × In shifts h → In blocks (image (moved G) v (m, h) b)
        here m h r =
            let ms = P.inside m r.0 in
            let same : (p : ℕ) → multiplied G m p ≡ multiplied G (product_of ms.0) p = λ p. ap (λ n. multiplied G n p) (sym ms.2) ∙ multiplied_reduced (product_of ms.0) p in
            subst (In blocks) (sym (image_by_agree v (moved G (m, h)) (λ p. shifted G h (multiplied G (product_of ms.0) p)) b (λ p k. moved_is m h p ∙ ap (shifted G h) (same p)) (B b j) ∙ image_by_twice v (shifted G h) (multiplied G (product_of ms.0)) b (λ p k. multiplied_in (product_of ms.0) p v wide k) (B b j)))
            (by_shift h r.1 (image (multiplied G) v (product_of ms.0) b) (product_invariant by_mult ms.0 ms.1 b j))

    pub prescribed_from_full : IsInvariant (moved G) v (pairs products shifts) blocks → IsInvariant (shifted G) v shifts blocks × IsInvariant (multiplied G) v stated blocks
    prescribed_from_full invariant = (by_shift, by_mult)
      where
        by_shift : IsInvariant (shifted G) v shifts blocks
        by_shift h i b j =
            let r = P.all [] tt in
            subst (In blocks) (image_by_agree v (moved G (1 % e, h)) (shifted G h) b (λ p k. moved_is (1 % e) h p ∙ ap (shifted G h) (multiplied_reduced 1 p ∙ multiplied_one p)) (B b j)) (invariant (1 % e, h) (In-pairs products shifts (1 % e) h r i) b j)

        by_mult : IsInvariant (multiplied G) v stated blocks
        by_mult m i b j =
            let r : In products (m % e) = subst (λ n. In products (n % e)) (mul-one m) (P.all (m ∷ []) (i, tt)) in
            subst (In blocks) (image_by_agree v (moved G (m % e, 0)) (multiplied G m) b (λ p k. moved_is (m % e) 0 p ∙ shifted_zero (multiplied G (m % e) p) ∙ multiplied_reduced m p) (B b j)) (invariant (m % e, 0) (In-pairs products shifts (m % e) 0 r zero) b j)
