use Rattle.std.proofs.Common.{refl, sym, subst}
use Rattle.df_io.specs.LineSteps.{Passes}
use Rattle.df_io.proofs.StreamLaws.{passes_then}
use Rattle.df_io.proofs.reading.Reading.finish.Goals as goal

pub loop-self-preserved : goal.loop-self-preserved
loop-self-preserved g c =
    let before = subst (λ s. Passes g.S.Source.left g.S.Source.faults c.args.self.now s c.args.input.now c.loop-self.input) (sym c.self.view_is) c.loop-self.invariant in
    passes_then g.S.Source.left g.S.Source.faults c.args.self.now _ _ c.refill.new.self c.args.input.now c.loop-self.input c.refill.new.input record { limit = refl; taken = refl; ended = refl } c.in_default.is before c.refill.ensures
