use Rattle.std.proofs.Common.{◌≡◌, ◌+◌, ◌/◌, ◌%◌, get_or, drop, ap, ◌∙◌, arith, mod-lt, sym, subst}
use Rattle.df_group.specs.Elements.{IsElement, order_of, residues}
use Rattle.df_group.proofs.ElementLaws.{positive_shape, residues_are}
use Rattle.df_group.proofs.PlaceSteps.{order_less, order_drop, residues_at, put_on, put_all, drop_end}
use Rattle.df_group.proofs.residues.residues_of.Goals as goal

pub loop-i-preserved : goal.loop-i-preserved
loop-i-preserved c =
    let fs = c.args.factors.now in
    let i = c.loop-i.i in
    let o = order_of (drop (i + 1) fs) in
    let less : c.loop-i.below / get_or fs i 0 ≡ o = ap (λ n. n / get_or fs i 0) c.loop-i.invariant.below ∙ order_less fs i c.requires.shape (omega arith) in
    let first = residues_at fs i c.loop-i.rest c.requires.shape (omega arith) (omega (arith, c.loop-i.invariant.rest, c.loop-i.invariant.below)) in
    record {
      whole = rw (c.push.ensures.items, less) (put_on c.loop-i.residues.items (residues (drop i fs) c.loop-i.rest) (residues fs c.args.number) (residues (drop (i + 1) fs) (c.loop-i.rest % o)) (c.loop-i.rest / o) c.loop-i.invariant.whole first);
      below = less;
      rest = rw less (mod-lt c.loop-i.rest (order_drop fs (i + 1) c.requires.shape));
      places = omega arith;
    }

pub returns-clause-element : goal.returns-clause-element
returns-clause-element c =
    let fs = c.args.factors.now in
    let none = ap (λ l. residues l c.loop-i.rest) (drop_end fs c.loop-i.i (omega arith)) in
    let all = put_all c.loop-i.residues.items (residues (drop c.loop-i.i fs) c.loop-i.rest) (residues c.args.factors.now c.args.number) c.loop-i.invariant.whole none in
    subst (IsElement fs) (sym all) (residues_are c.args.factors.now (positive_shape c.args.factors.now c.requires.shape) c.args.number)
