use Rattle.std.proofs.Common.{refl, ap, sym, subst, Ok}
use Rattle.df_io.specs.LineSteps.{Searches}
use Rattle.df_io.proofs.StreamLaws.{none_of, finds, searches_on, searches_stopped}
use Rattle.df_io.proofs.reading.Reading.find_line.Goals as goal

pub returns-in-Ok-true : goal.returns-in-Ok-true
returns-in-Ok-true g c =
    let before = subst (λ s. Searches g.S.Source.left g.S.Source.faults c.args.self.now s c.args.input.now c.loop-self.input) (sym c.self.view_is) c.loop-self.invariant in
    finds g.S.Source.left g.S.Source.faults c.args.self.now _ _ c.args.input.now c.loop-self.input record { limit = refl; taken = refl; ended = refl } (none_of c.self.inside.ended c.is_none.result c.is_none.ensures c.loop-self-test.true)
    refl before (c.in-Ok-true.ensures.found (ap Ok c.in-Ok-true.field-0-test))

pub loop-self-preserved-in-Ok-false : goal.loop-self-preserved-in-Ok-false
loop-self-preserved-in-Ok-false g c =
    let before = subst (λ s. Searches g.S.Source.left g.S.Source.faults c.args.self.now s c.args.input.now c.loop-self.input) (sym c.self.view_is) c.loop-self.invariant in
    let none = ap Ok c.in-Ok-false.field-0-test in
    searches_on g.S.Source.left g.S.Source.faults c.args.self.now _ _ c.refill.new.self c.args.input.now c.loop-self.input c.refill.new.input record { limit = refl; taken = refl; ended = refl }
    (none_of c.self.inside.ended c.is_none.result c.is_none.ensures c.loop-self-test.true) refl (c.in-Ok-false.ensures.empty none) before (c.in-Ok-false.ensures.all none) c.refill.ensures

pub loop-self-preserved : goal.loop-self-preserved
loop-self-preserved g c =
    let before = subst (λ s. Searches g.S.Source.left g.S.Source.faults c.args.self.now s c.args.input.now c.loop-self.input) (sym c.self.view_is) c.loop-self.invariant in
    searches_stopped g.S.Source.left g.S.Source.faults c.args.self.now _ _ c.args.input.now c.loop-self.input (none_of c.self.inside.ended c.is_none.result c.is_none.ensures c.loop-self-test.true) refl refl refl refl
    c.in-Err.ensures.kept c.in-Err.ensures.line_kept before
