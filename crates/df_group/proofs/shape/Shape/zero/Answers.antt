use Rattle.std.proofs.Common.{arith, ap}
use Rattle.df_group.specs.Elements.{order_of}
use Rattle.df_group.proofs.ElementLaws.{positive_shape, order_some}
use Rattle.df_group.proofs.shape.Shape.zero.Goals as goal

pub returns-clause-below : goal.returns-clause-below
returns-clause-below c =
    let fs = c.self.inside.factors.items in
    omega (arith, order_some fs (positive_shape fs c.self.invariant.2), ap order_of c.self.view_is)
