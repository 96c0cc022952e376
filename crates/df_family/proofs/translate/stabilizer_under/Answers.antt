use Rattle.std.proofs.Common.{ap, length, ◌∙◌, arith}
use Rattle.std.proofs.lemmas.List.Sums.{length-filter, count_by-le-length}
use Rattle.df_family.specs.Translates.{fixes}
use Rattle.df_family.proofs.translate.stabilizer_under.Goals as goal

pub returns : goal.returns
returns c =
    let test = fixes c.args.problem.now c.args.block.now in
    let shifts = c.args.shifts.now in
    let count = c.len.ensures.length ∙ ap length c.fixing.ensures ∙ length-filter test shifts in
    record { count = count; some = omega (arith, count, count_by-le-length test shifts) }
