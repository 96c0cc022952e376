use Rattle.std.proofs.Common.{◌≡◌, ◌<◌, ◌+◌, ◌*◌, ◌∙◌, ◌∷◌, ◌++◌, [], ℕ, List, cond, ap, ap₂, sym, subst, arith, length, get_or, take, drop}
use Rattle.std.proofs.lemmas.List.{take_all, take-append-le}
use Rattle.df_lists.specs.NumberSets.{IsSet}
use Rattle.df_maps.specs.FullMaps.{MapGroup, point_count}
use Rattle.df_maps.specs.Laws.{AreGroup}
use Rattle.df_orbits.specs.Orbits.{pair_orbits, listed_representatives, are_in_one_orbit}
use Rattle.df_orbits.specs.LookupTables.{AreNumbered, IsPairNumber}
use Rattle.df_orbits.proofs.PairCounts.{few_pairs}
use Rattle.df_orbits.proofs.PairNumbering.{AreWritten, representatives, representatives_long, representatives_few, first_is_pair, written_more, numbered}
use Rattle.df_orbits.proofs.numbers.PairNumbers.new.Goals as goal

-- what is written back into a vector
back : (items new : List ℕ) (n : ℕ) → length items ≡ n → length new ≡ length items → take n (new ++ drop (length new) items) ≡ new
back items new n long same = take-append-le n new (drop (length new) items) (omega (arith, long, same)) ∙ take_all n new (omega (arith, long, same))

-- the representative of an orbit, and that there is such an orbit
first_of : (M : MapGroup) (pairs : List (List ℕ × ℕ)) (i : ℕ) (b : List ℕ) → pairs ≡ pair_orbits M → b ≡ get_or (listed_representatives pairs) i [] → get_or (representatives M) i [] ≡ b
first_of M pairs i b is at = ap (λ l. get_or (listed_representatives l) i []) (sym is) ∙ sym at

counted : (M : MapGroup) → AreGroup M → (pairs : List (List ℕ × ℕ)) (i : ℕ) → pairs ≡ pair_orbits M → i < length pairs → i < length (representatives M)
counted M A pairs i is h = omega (arith, h, ap length is, representatives_long M A)

-- the numbers of one orbit are written
abbrev Writes : MapGroup → List ℕ → List ℕ → List ℕ → ℕ → Type 0
Writes M b old new i = (p q : ℕ) → p < q → q < point_count M → get_or new (p * point_count M + q) 0 ≡ cond (are_in_one_orbit M b (p ∷ q ∷ [])) i (get_or old (p * point_count M + q) 0)

moved : (M : MapGroup) (b d old items new : List ℕ) (i : ℕ) → b ≡ d → old ≡ items → Writes M b old new i → Writes M d items new i
moved M b d old items new i f g h = subst (λ b. Writes M b items new i) f (subst (λ l. Writes M b l new i) g h)

pub overflow_cast-i : goal.overflow_cast-i
overflow_cast-i c =
    let M = c.args.images.now in
    let A = c.points-points.ensures.maps in
    let small = c.points-points.ensures.small in
    let few = few_pairs (point_count M) (omega (arith, c.points-points.ensures.points, small)) in
    omega (arith, c.loop-i-test.true, c.len-i-end.ensures, ap length c.requires.orbits, representatives_long M A, representatives_few M A, few)

pub number_orbit-requires-clause-pair : goal.number_orbit-requires-clause-pair
number_orbit-requires-clause-pair c =
    let M = c.args.images.now in
    let A = c.points-points.ensures.maps in
    let i = c.loop-i.i in
    let inside = counted M A c.args.pairs.now i c.requires.orbits (omega (arith, c.loop-i-test.true, c.len-i-end.ensures)) in
    subst (IsSet (point_count M)) (first_of M c.args.pairs.now i c.rep.result c.requires.orbits c.rep.ensures) (first_is_pair M A i inside).0

pub number_orbit-requires-clause-two : goal.number_orbit-requires-clause-two
number_orbit-requires-clause-two c =
    let M = c.args.images.now in
    let A = c.points-points.ensures.maps in
    let i = c.loop-i.i in
    let inside = counted M A c.args.pairs.now i c.requires.orbits (omega (arith, c.loop-i-test.true, c.len-i-end.ensures)) in
    subst (λ b. length b ≡ 2) (first_of M c.args.pairs.now i c.rep.result c.requires.orbits c.rep.ensures) (first_is_pair M A i inside).1

pub loop-i-preserved : goal.loop-i-preserved
loop-i-preserved c =
    let M = c.args.images.now in
    let A = c.points-points.ensures.maps in
    let i = c.loop-i.i in
    let items = c.loop-i.numbers.items in
    let new = c.number_orbit.new.numbers in
    let inside = counted M A c.args.pairs.now i c.requires.orbits (omega (arith, c.loop-i-test.true, c.len-i-end.ensures)) in
    let first = first_of M c.args.pairs.now i c.rep.result c.requires.orbits c.rep.ensures in
    let same = c.number_orbit.ensures.long ∙ ap length c.deref_mut.ensures.value in
    let put = moved M c.rep.result (get_or (representatives M) i []) c.deref_mut.result.now items new i (sym first) c.deref_mut.ensures.value c.number_orbit.ensures.written in
    let is = back items new c.loop-i.numbers.len (omega (arith, c.loop-i.numbers.ok.0)) same in
    record {
      long = ap length is ∙ same ∙ c.loop-i.invariant.long;
      written = subst (λ l. AreWritten M l (i + 1)) (sym is) (written_more M A items new i inside put c.loop-i.invariant.written);
    }

pub invariant_of-result : goal.invariant_of-result
invariant_of-result c =
    let M = c.args.images.now in
    let A = c.points-points.ensures.maps in
    let v = c.points-points.result in
    let width : v ≡ point_count M = c.points-points.ensures.points in
    let items = c.loop-i.numbers.items in
    let end : c.loop-i.i ≡ length (representatives M) = omega (arith, c.loop-i-test.false, c.len-i-end.ensures, ap length c.requires.orbits, representatives_long M A) in
    let all = subst (AreWritten M items) end c.loop-i.invariant.written in
    subst (λ N. AreNumbered N v items) (sym c.maps.ensures) record {
      points_are = width;
      long = c.loop-i.invariant.long ∙ sym (ap₂ (λ a b. a * b) width width);
      numbered = λ p q l h. subst (λ w. IsPairNumber M (p ∷ q ∷ []) (get_or items (p * w + q) 0)) (sym width) (numbered M A p q l (omega (arith, h, width)) items all);
    }
