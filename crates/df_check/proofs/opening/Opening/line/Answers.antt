use Rattle.std.proofs.Common.{length, sym, subst}
use Rattle.df_check.specs.Openings.{FitsBehind}
use Rattle.df_check.proofs.OpeningSteps.{line_fits}
use Rattle.df_check.proofs.opening.Opening.line.Goals as goal

-- what the line is fits what is awaited behind it
pub piece-requires-clause-place : goal.piece-requires-clause-place
piece-requires-clause-place c =
    let o = c.args.self in
    subst (λ after. FitsBehind c.in-Some.piece after o.at (length o.source) c.args.number) (sym c.line.ensures.next)
    (line_fits o.at (length o.source) c.args.number o.judge.awaits c.args.line.now c.in-Some.piece c.in-Some.ensures.piece c.requires.unfinished c.requires.place)
