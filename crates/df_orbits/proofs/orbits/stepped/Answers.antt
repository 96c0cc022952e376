use Rattle.std.proofs.Common.{◌≡◌, ◌+◌, ◌-◌, ◌∙◌, ℕ, List, [], ap, sym, arith, length, get_or, slice_get, Some, None}
use Rattle.std.proofs.lemmas.Option.{slice_get-get_or}
use Rattle.df_subsets.specs.Subsets.{subsets, rank}
use Rattle.df_subsets.proofs.Places.{rank_of}
use Rattle.df_subsets.proofs.SubsetLists.{subsets_long}
use Rattle.df_orbits.proofs.orbits.stepped.Goals as goal

-- the place after that of the block
one_more : (v k place : ℕ) (b : List ℕ) → slice_get (subsets v k) (place - 1) ≡ Some b → (place ≡ 0 → ⊥) → rank v b + 1 ≡ place
one_more v k place b at some = let r = rank_of v k (place - 1) b at in omega (arith, r, some)

pub unreachable-requires : goal.unreachable-requires
unreachable-requires c =
    let v = c.args.points in
    let k = length c.args.block.now in
    let place = c.args.place in
    let next = one_more v k place c.args.block.now c.requires.before c.if-place-eq0.false in
    let there = slice_get-get_or (subsets v k) place [] (omega (arith, c.requires.below, subsets_long v k)) in
    let none : None ≡ Some (get_or (subsets v k) place []) = sym c.in-None.is ∙ c.next.ensures.next ∙ ap (slice_get (subsets v k)) next ∙ there in
    cc

pub returns-clause-place : goal.returns-clause-place
returns-clause-place c =
    let v = c.args.points in
    let k = length c.args.block.now in
    let next = one_more v k c.args.place c.args.block.now c.requires.before c.if-place-eq0.false in
    sym (c.next.ensures.next ∙ ap (slice_get (subsets v k)) next) ∙ c.in-Some.is
