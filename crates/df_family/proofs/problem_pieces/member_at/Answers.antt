use Rattle.std.proofs.Common.{ℕ, ◌+◌, ◌<◌, List, All, ap, sym, subst, arith}
use Rattle.df_lists.specs.NumberSets.{IsSet}
use Rattle.df_group.specs.Elements.{order_of}
use Rattle.df_lang.specs.declared.pieces.Member.{Member}
use Rattle.df_lang.specs.Problems.{point_count}
use Rattle.df_family.proofs.RemainderLaws.{set_below}
use Rattle.df_family.proofs.problem_pieces.member_at.Goals as goal

pub returns-then-place-len-clause-points : goal.returns-then-place-len-clause-points
returns-then-place-len-clause-points c =
    let m = c.index.result.now in
    let v = order_of c.problem.inside.shape + c.problem.inside.fixed in
    let set = (c.problem.invariant.family c.args.place m (omega arith)).set in
    let here = subst (λ (b : List ℕ). IsSet v b) (sym (ap (λ (x : Member). x.block) c.index.ensures)) set in
    subst (λ (n : ℕ). All (λ p. p < n) m.block) (ap point_count c.problem.view_is) (set_below v m.block here)
