use Rattle.std.proofs.Common.{◌≡◌, ◌<◌, ◌∙◌, ◌+◌, ◌-◌, ◌||◌, ◌++◌, ◌∷◌, ℕ, List, [], true, false, ap, ap₂, sym, subst, arith, length, get_or, map, filter, take, slice_get, Some, append_assoc}
use Rattle.std.proofs.lemmas.List.{map-append, take_all}
use Rattle.std.proofs.lemmas.Option.{get_or_from_slice_get}
use Rattle.std.specs.List.{list_any}
use Rattle.df_lists.specs.Membership.{count as count_of}
use Rattle.df_lists.specs.NumberSets.{IsSet}
use Rattle.df_subsets.specs.Blocks.{before}
use Rattle.df_subsets.specs.Subsets.{subsets, binomial as binomial_of}
use Rattle.df_acting.specs.Representatives.{is_representative}
use Rattle.df_maps.specs.FullMaps.{MapGroup, point_count, image, full_maps}
use Rattle.df_orbits.specs.Orbits.{are_in_one_orbit, orbit_size_in}
use Rattle.df_orbits.specs.declared.orbits.Orbit.{Orbit}
use Rattle.df_orbits.proofs.FoundOrbits.{covered, marked_more, found_more, found_same, size_turned}
use Rattle.df_subsets.proofs.SubsetLists.{subsets_long}
use Rattle.df_orbits.proofs.orbits.find.Goals as goal

abbrev shown : Orbit → List ℕ × ℕ
shown f = (f.block, f.size)

abbrev orbit : MapGroup → ℕ → List ℕ → List ℕ × ℕ
orbit M k b = (b, orbit_size_in M (subsets (point_count M) k) b)

-- one more of the list
grown : {X Y Z : Type 0} (sh : X → Y) (cl : Z → Y) (items new : List X) (o : X) (old : List Y) (F G : List Z) (x : Z) → new ≡ items ++ o ∷ [] → map sh items ≡ old ++ map cl F → G ≡ F ++ x ∷ [] → sh o ≡ cl x → map sh new ≡ old ++ map cl G
grown sh cl items new o old F G x put is more same =
    ap (map sh) put ∙ map-append sh items (o ∷ []) ∙ ap (λ l. l ++ sh o ∷ []) is ∙ append_assoc old (map cl F) (sh o ∷ []) ∙ ap (λ y. old ++ (map cl F ++ y ∷ [])) same
    ∙ ap (λ l. old ++ l) (sym (map-append cl F (x ∷ [])) ∙ sym (ap (map cl) more))

-- where a block stands, told of the next place
stands : (v p : ℕ) (old b : List ℕ) → length b ≡ length old → slice_get (subsets v (length old)) p ≡ Some b → slice_get (subsets v (length b)) (p + 1 - 1) ≡ Some b
stands v p old b long at = let same : p ≡ p + 1 - 1 = omega arith in subst (λ i. slice_get (subsets v (length b)) i ≡ Some b) same (subst (λ n. slice_get (subsets v n) p ≡ Some b) (sym long) at)

pub loop-place-preserved : goal.loop-place-preserved
loop-place-preserved c =
    let M = c.args.images.now in
    let k = c.args.size in
    let v = point_count M in
    let L = subsets v k in
    let p = c.loop-place.place in
    let b = c.stepped-block.result in
    let count : c.count-count.result ≡ binomial_of v k = c.count-count.ensures.count ∙ ap (λ (p : ℕ × ℕ). binomial_of p.0 p.1) c.in_ok-places.ensures ∙ ap (λ n. binomial_of n k) c.points-points.ensures.points in
    let within : p < length L = omega (arith, c.loop-place-test.true, count, subsets_long v k) in
    let long : length b ≡ k = c.stepped-block.ensures.size ∙ c.loop-place.invariant.long in
    let there : slice_get L p ≡ Some b = subst (λ n. slice_get (subsets n k) p ≡ Some b) c.points-points.ensures.points (subst (λ n. slice_get (subsets c.points-points.result n) p ≡ Some b) c.loop-place.invariant.long c.stepped-block.ensures.place) in
    let at : b ≡ get_or L p [] = sym (get_or_from_slice_get L p b [] there) in
    let free : list_any (λ d. are_in_one_orbit M d (get_or L p [])) (take p L) ≡ false = sym (c.loop-place.invariant.marks p (omega (arith, c.loop-place-test.true, count))) ∙ sym c.has.ensures ∙ c.if-has.false in
    let set = (subst (λ n. IsSet n b) c.points-points.ensures.points c.stepped-block.ensures.block) in
    let size : c.mark-size.result ≡ orbit_size_in M L (get_or L p []) = c.mark-size.ensures.size ∙ ap (λ n. count_of (are_in_one_orbit M b) (subsets v n)) long ∙ size_turned M c.points-points.ensures.maps k b set ∙ ap (orbit_size_in M L) at in
    record {
      block = c.stepped-block.ensures.block;
      long = long;
      at = stands c.points-points.result p c.loop-place.block b c.stepped-block.ensures.size c.stepped-block.ensures.place;
      room = omega (arith, c.mark-size.ensures.room, c.loop-place.invariant.room);
      marks = λ j h.
          c.mark-size.ensures.marks j (subst (λ n. j < binomial_of v n) (sym long) h)
          ∙ ap₂ (λ s t. s || t) (c.loop-place.invariant.marks j h) (ap₂ (λ n x. are_in_one_orbit M x (get_or (subsets v n) j [])) long at)
          ∙ sym (marked_more M c.points-points.ensures.maps k p within (get_or L j []));
      found = grown shown (orbit M k) c.loop-place.found.items c.push.new.self.items (record { block = b; size = c.mark-size.result }) (map shown c.args.found.now.items) (filter (is_representative before (image M) (full_maps M)) (take p L)) (filter (is_representative before (image M) (full_maps M)) (take (p + 1) L)) (get_or L p [])
          c.in_ok-push.ensures.items c.loop-place.invariant.found (found_more M c.points-points.ensures.maps k p within free) (ap₂ (λ (x : List ℕ) (n : ℕ). (x, n)) at size);
    }

pub loop-place-preserved-then-has : goal.loop-place-preserved-then-has
loop-place-preserved-then-has c =
    let M = c.args.images.now in
    let k = c.args.size in
    let v = point_count M in
    let L = subsets v k in
    let p = c.loop-place.place in
    let count : c.count-count.result ≡ binomial_of v k = c.count-count.ensures.count ∙ ap (λ (p : ℕ × ℕ). binomial_of p.0 p.1) c.in_ok-places.ensures ∙ ap (λ n. binomial_of n k) c.points-points.ensures.points in
    let within : p < length L = omega (arith, c.loop-place-test.true, count, subsets_long v k) in
    let marked : list_any (λ d. are_in_one_orbit M d (get_or L p [])) (take p L) ≡ true = sym (c.loop-place.invariant.marks p (omega (arith, c.loop-place-test.true, count))) ∙ sym c.has.ensures ∙ c.if-has.true in
    record {
      block = c.stepped-block.ensures.block;
      long = c.stepped-block.ensures.size ∙ c.loop-place.invariant.long;
      at = stands c.points-points.result p c.loop-place.block c.stepped-block.result c.stepped-block.ensures.size c.stepped-block.ensures.place;
      room = c.loop-place.invariant.room;
      marks = λ j h. c.loop-place.invariant.marks j h ∙ sym (covered M c.points-points.ensures.maps k p within (get_or L j []) marked);
      found = c.loop-place.invariant.found ∙ ap (λ l. map shown c.args.found.now.items ++ map (orbit M k) l) (sym (found_same M c.points-points.ensures.maps k p within marked));
    }

pub returns : goal.returns
returns c =
    let M = c.args.images.now in
    let k = c.args.size in
    let v = point_count M in
    let count : c.count-count.result ≡ binomial_of v k = c.count-count.ensures.count ∙ ap (λ (p : ℕ × ℕ). binomial_of p.0 p.1) c.in_ok-places.ensures ∙ ap (λ n. binomial_of n k) c.points-points.ensures.points in
    let all = take_all c.loop-place.place (subsets v k) (omega (arith, c.loop-place-test.false, count, subsets_long v k)) in
    c.loop-place.invariant.found ∙ ap (λ l. map shown c.args.found.now.items ++ map (orbit M k) (filter (is_representative before (image M) (full_maps M)) l)) all
