-- Images of sets of points.
use Rattle.std.proofs.Common.{◌≡◌, ℕ, ◌<◌, true, map, List, length, sym, ap, ◌∙◌, subst, arith, eqb}
use Rattle.std.specs.List.{range_with_len, list_any}
use Rattle.df_lists.specs.Membership.{In}
use Rattle.df_lists.specs.NumberSets.{has_member, set_of, IsSet}
use Rattle.df_lists.proofs.MemberLaws.{In-map, In-map_gives, In-filter, In-filter_gives}
use Rattle.df_lists.proofs.ListTotals.{count_agree}
use Rattle.df_acting.specs.Orbits.{IsMapGroup, IsSpread}
use Rattle.df_acting.specs.Images.{image, contains}
use Rattle.df_lists.proofs.TestLaws.{same_tests, all_from, all_gives, filter_agree, map_agree, map_fixed, has_from, has_gives, any_map}
use Rattle.df_acting.proofs.OrbitLaws.{permutes}
use Rattle.df_lists.proofs.SetLaws.{In-points, In-points_gives, filter_is_set, set_picked, In-set, range_once, numbers_equal}

-- the image under one function
abbrev pub image_by : ℕ → (ℕ → ℕ) → List ℕ → List ℕ
image_by v f b = set_of v (map f b)

pub In-image_by : (v : ℕ) (f : ℕ → ℕ) (b : List ℕ) (p : ℕ) → f p < v → In b p → In (image_by v f b) (f p)
In-image_by v f b p h j = In-filter (has_member (map f b)) (range_with_len 0 v) (f p) (In-points v (f p) h) (has_from (map f b) (f p) (In-map f b p j))

pub In-image_by_gives : (v : ℕ) (f : ℕ → ℕ) (b : List ℕ) (q : ℕ) → In (image_by v f b) q → (p : ℕ) × In b p × (f p ≡ q)
In-image_by_gives v f b q i = In-map_gives f b q (has_gives (map f b) q (In-filter_gives (has_member (map f b)) (range_with_len 0 v) q i).1)

pub image_by_agree : (v : ℕ) (f g : ℕ → ℕ) (b : List ℕ) → ((p : ℕ) → p < v → f p ≡ g p) → IsSet v b → image_by v f b ≡ image_by v g b
image_by_agree v f g b h r = ap (set_of v) (map_agree f g b (λ p i. h p (In-set v b p r i)))

pub image_by_same : (v : ℕ) (f : ℕ → ℕ) (b : List ℕ) → ((p : ℕ) → p < v → f p ≡ p) → IsSet v b → image_by v f b ≡ b
image_by_same v f b h r = ap (set_of v) (map_fixed f b (λ p i. h p (In-set v b p r i))) ∙ sym (set_picked v b r)

-- the image of an image
pub image_by_twice : (v : ℕ) (f g : ℕ → ℕ) (b : List ℕ) → ((p : ℕ) → p < v → g p < v) → IsSet v b → image_by v (λ p. f (g p)) b ≡ image_by v f (image_by v g b)
image_by_twice v f g b stays r =
    filter_agree (has_member (map (λ p. f (g p)) b)) (has_member (map f (image_by v g b))) (range_with_len 0 v)
    (λ q j. same_tests (has_member (map (λ p. f (g p)) b) q) (has_member (map f (image_by v g b)) q) (one_way q) (other_way q))
  where
    one_way : (q : ℕ) → has_member (map (λ p. f (g p)) b) q ≡ true → has_member (map f (image_by v g b)) q ≡ true
    one_way q k =
        let p = In-map_gives (λ p. f (g p)) b q (has_gives (map (λ p. f (g p)) b) q k) in
        has_from (map f (image_by v g b)) q (subst (In (map f (image_by v g b))) p.2 (In-map f (image_by v g b) (g p.0) (In-image_by v g b p.0 (stays p.0 (In-set v b p.0 r p.1)) p.1)))

    other_way : (q : ℕ) → has_member (map f (image_by v g b)) q ≡ true → has_member (map (λ p. f (g p)) b) q ≡ true
    other_way q k =
        let s = In-map_gives f (image_by v g b) q (has_gives (map f (image_by v g b)) q k) in
        let p = In-image_by_gives v g b s.0 s.1 in
        has_from (map (λ p. f (g p)) b) q (subst (In (map (λ p. f (g p)) b)) (ap f p.2 ∙ s.2) (In-map (λ p. f (g p)) b p.0 p.1))

module _ {M : Type 0} (act : M → ℕ → ℕ) (v : ℕ) (maps : List M) (G : IsMapGroup act (λ p. p < v) maps) where
  -- which points an image has
  pub In-image : (g : M) (b : List ℕ) (p : ℕ) → In maps g → IsSet v b → In b p → In (image act v g b) (act g p)
  In-image g b p i r j = In-image_by v (act g) b p (G.stays g i p (In-set v b p r j)) j

  pub In-image_gives : (g : M) (b : List ℕ) (q : ℕ) → In (image act v g b) q → (p : ℕ) × In b p × (act g p ≡ q)
  In-image_gives g b q i = In-image_by_gives v (act g) b q i

  pub image_is_set : (g : M) (b : List ℕ) → IsSet v (image act v g b)
  image_is_set g b = filter_is_set (has_member (map (act g) b)) v

  pub image_times : (f g h : M) (b : List ℕ) → In maps g → ((p : ℕ) → p < v → act h p ≡ act f (act g p)) → IsSet v b → image act v h b ≡ image act v f (image act v g b)
  image_times f g h b i e r = image_by_agree v (act h) (λ p. act f (act g p)) b e r ∙ image_by_twice v (act f) (act g) b (G.stays g i) r

  pub image_back : (f g : M) (b : List ℕ) → In maps g → ((p : ℕ) → p < v → act f (act g p) ≡ p) → IsSet v b → image act v f (image act v g b) ≡ b
  image_back f g b i e r = sym (image_by_twice v (act f) (act g) b (G.stays g i) r) ∙ image_by_same v (λ p. act f (act g p)) b e r

  -- the maps are a group on blocks too
  pub image_group : IsMapGroup (image act v) (IsSet v) maps
  image_group = record {
    stays = λ g i b r. image_is_set g b;
    one = let e = G.one in (e.0, e.1, λ b r. image_by_same v (act e.0) b e.2 r);
    times = λ f g i j. let h = G.times f g i j in (h.0, h.1, λ b r. image_times f g h.0 b j h.2 r);
    back = λ g i. let h = G.back g i in (h.0, h.1, (λ b r. image_back h.0 g b i h.2 r), (λ b r. image_back g h.0 b h.1 h.3 r));
  }

  pub points_spread : IsSpread eqb act (λ p. p < v) maps (range_with_len 0 v)
  points_spread = record {
    inside = λ p i. In-points_gives v p i;
    once = λ p i. range_once 0 v p (omega arith) (let h = In-points_gives v p i in omega (arith, h));
    moves = λ g i p j. In-points v (act g p) (G.stays g i p (In-points_gives v p j));
  }

  -- an image has as many points
  pub length-image : (g : M) (b : List ℕ) → In maps g → IsSet v b → length (image act v g b) ≡ length b
  length-image g b i r =
      let h = G.back g i in
      count_agree (has_member (map (act g) b)) (λ q. has_member b (act h.0 q)) (range_with_len 0 v) (λ q j. turned q (In-points_gives v q j))
      ∙ sym (permutes eqb act (λ p. p < v) maps numbers_equal G (range_with_len 0 v) points_spread (has_member b) h.0 h.1)
      ∙ ap length (sym (set_picked v b r))
    where
      back : (h : M) × In maps h × ((p : ℕ) → p < v → act h (act g p) ≡ p) × ((p : ℕ) → p < v → act g (act h p) ≡ p)
      back = G.back g i

      turned : (q : ℕ) → q < v → has_member (map (act g) b) q ≡ has_member b (act back.0 q)
      turned q k =
          same_tests (has_member (map (act g) b) q) (has_member b (act back.0 q))
          (λ h. let p = In-map_gives (act g) b q (has_gives (map (act g) b) q h) in has_from b (act back.0 q) (subst (In b) (sym (back.2 p.0 (In-set v b p.0 r p.1)) ∙ ap (act back.0) p.2) p.1))
          (λ h. has_from (map (act g) b) q (subst (In (map (act g) b)) (back.3 q k) (In-map (act g) b (act back.0 q) (has_gives b (act back.0 q) h))))

  pub holds_kept : (g : M) → In maps g → (b c : List ℕ) → IsSet v b → IsSet v c → contains (image act v g b) (image act v g c) ≡ contains b c
  holds_kept g i b c r s =
      same_tests (contains (image act v g b) (image act v g c)) (contains b c)
      (λ h. all_from (has_member b) c (λ p j. has_from b p (down p (In-set v c p s j) (In-image_gives g b (act g p) (has_gives (image act v g b) (act g p) (all_gives (has_member (image act v g b)) (image act v g c) h (act g p) (In-image g c p i s j)))))))
      (λ h. all_from (has_member (image act v g b)) (image act v g c) (λ q j. let p = In-image_gives g c q j in has_from (image act v g b) q (subst (In (image act v g b)) p.2 (In-image g b p.0 i r (has_gives b p.0 (all_gives (has_member b) c h p.0 p.1))))))
    where
      down : (p : ℕ) → p < v → (o : ℕ) × In b o × (act g o ≡ act g p) → In b p
      down p k o = let h = G.back g i in subst (In b) (sym (h.2 o.0 (In-set v b o.0 r o.1)) ∙ ap (act h.0) o.2 ∙ h.2 p k) o.1

-- a set with the points' images and no other points is the image
pub image_done : (v : ℕ) (f : ℕ → ℕ) (b c : List ℕ) → IsSet v c → ((q : ℕ) → has_member c q ≡ list_any (λ p. eqb (f p) q) b) → c ≡ image_by v f b
image_done v f b c is has = set_picked v c is ∙ filter_agree (has_member c) (has_member (map f b)) (range_with_len 0 v) (λ q i. has q ∙ sym (any_map (λ x. eqb x q) f b))
