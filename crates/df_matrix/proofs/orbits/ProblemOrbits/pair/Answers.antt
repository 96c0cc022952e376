use Rattle.std.proofs.Common.{◌≡◌, [], ◌∷◌, length, sym, ap, ap₂, arith, ◌∙◌, slice_index}
use Rattle.df_lang.specs.Problems.{point_count}
use Rattle.df_kramer_mesner.specs.Laws.{IsPair}
use Rattle.df_matrix.specs.MatrixParts.{AreOrbits}
use Rattle.df_matrix.proofs.OrbitParts.{shown, pairs_long, row_at, row_pair, read_first, read_second}
use Rattle.df_matrix.proofs.orbits.ProblemOrbits.pair.Goals as goal

pub bounds-deref-0 : goal.bounds-deref-0
bounds-deref-0 c =
    let K : AreOrbits c.args.self.now c.self.inside.maps c.self.inside.pairs c.self.inside.numbers c.self.inside.blocks = shown c.self.view_is c.self.invariant in
    let P = row_pair c.args.self.now K c.numbers_are_few.ensures c.args.row c.rep.result c.rep.ensures c.requires in
    omega (arith, ap length (c.deref.ensures.0 ∙ c.points-points.ensures.list ∙ P.points))

pub bounds-deref-1 : goal.bounds-deref-1
bounds-deref-1 c =
    let K : AreOrbits c.args.self.now c.self.inside.maps c.self.inside.pairs c.self.inside.numbers c.self.inside.blocks = shown c.self.view_is c.self.invariant in
    let P = row_pair c.args.self.now K c.numbers_are_few.ensures c.args.row c.rep.result c.rep.ensures c.requires in
    omega (arith, ap length (c.deref-2.ensures.0 ∙ c.points-points.ensures.list ∙ P.points))

-- the pair that was found
module _ (c : goal.After-index-deref-1) where
  are : AreOrbits c.args.self.now c.self.inside.maps c.self.inside.pairs c.self.inside.numbers c.self.inside.blocks
  are = shown c.self.view_is c.self.invariant

  is_pair : IsPair (point_count c.args.self.now) c.rep.result
  is_pair = row_pair c.args.self.now are c.numbers_are_few.ensures c.args.row c.rep.result c.rep.ensures c.requires

  first : c.index-deref-0.result ≡ slice_index c.rep.result 0
  first = read_first (point_count c.args.self.now) c.index-deref-0.result c.deref.result.now c.rep.result is_pair (c.deref.ensures.0 ∙ c.points-points.ensures.list) c.index-deref-0.is

  second : c.index-deref-1.result ≡ slice_index c.rep.result 1
  second = read_second (point_count c.args.self.now) c.index-deref-1.result c.deref-2.result.now c.rep.result is_pair (c.deref-2.ensures.0 ∙ c.points-points.ensures.list) c.index-deref-1.is

pub returns-clause-pair : goal.returns-clause-pair
returns-clause-pair c = ap₂ (λ p q. p ∷ q ∷ []) (first c) (second c) ∙ sym (is_pair c).points ∙ row_at c.args.self.now (are c) c.args.row c.rep.result c.rep.ensures

pub returns-clause-order : goal.returns-clause-order
returns-clause-order c = let P = is_pair c in omega (arith, first c, second c, P.order)

pub returns-clause-within : goal.returns-clause-within
returns-clause-within c = let P = is_pair c in omega (arith, second c, P.within)

pub rep-requires : goal.rep-requires
rep-requires c =
    let K : AreOrbits c.args.self.now c.self.inside.maps c.self.inside.pairs c.self.inside.numbers c.self.inside.blocks = shown c.self.view_is c.self.invariant in
    omega (arith, c.requires, pairs_long c.args.self.now K)
