use Rattle.std.proofs.Common.{◌≡◌, ◌<◌, ◌%◌, ap, ◌∙◌, sym, subst, arith}
use Rattle.df_group.specs.Elements.{IsShape}
use Rattle.df_group.specs.Subgroups.{exponent_of}
use Rattle.df_group.proofs.ElementLaws.{positive_shape}
use Rattle.df_group.proofs.ExponentLaws.{exponent_some}
use Rattle.df_group.proofs.UnitLaws.{ArePrime, prime_unit, prime_below, not_unit}
use Rattle.df_group.proofs.shape.Shape.is_unit.Goals as goal
use Rattle.df_group.proofs.shape.Shape.is_unit.Goals.{Then-m-d-eq0, After-loop-d}

some_exponent : (c : After-loop-d) → 0 < exponent_of c.args.self.now
some_exponent c = exponent_some c.args.self.now (positive_shape c.args.self.now (subst IsShape c.self.view_is c.self.invariant.2))

prime : (c : After-loop-d) → ArePrime (exponent_of c.args.self.now) c.args.m
prime c =
    let e : c.from-exponent.result ≡ exponent_of c.args.self.now = c.from-exponent.ensures ∙ c.self.invariant.1 ∙ ap exponent_of c.self.view_is in
    let some = some_exponent c in
    subst (λ n. ArePrime n c.args.m) e (prime_below c.from-exponent.result c.args.m (omega arith) (λ d l h. c.loop-d.invariant d l (omega arith)))

pub returns-then-m-d-eq0-clause-unit : goal.returns-then-m-d-eq0-clause-unit
returns-then-m-d-eq0-clause-unit c =
    let fs = c.args.self.now in
    let some = exponent_some fs (positive_shape fs (subst IsShape c.self.view_is c.self.invariant.2)) in
    let e : c.from-exponent.result ≡ exponent_of fs = c.from-exponent.ensures ∙ c.self.invariant.1 ∙ ap exponent_of c.self.view_is in
    sym (not_unit (exponent_of fs) c.args.m c.loop-d.d some (omega arith) (ap (λ n. n % c.loop-d.d) (sym e) ∙ c.if-exponent-d-eq0.true) c.if-m-d-eq0.true)

pub returns-clause-unit : goal.returns-clause-unit
returns-clause-unit c = sym (prime_unit (exponent_of c.args.self.now) c.args.m (prime c))

pub returns-clause-prime : goal.returns-clause-prime
returns-clause-prime c = prime c
