use Rattle.std.proofs.Common.{◌++◌, ◌∷◌, [], ◌∙◌, arith}
use Rattle.df_lang.specs.Canonical.{canonical}
use Rattle.df_io.proofs.Writing.{writes_line_stopped}
use Rattle.df_tell.proofs.canonical.write_canonical.Goals as goal

pub returns-in_err-write_all : goal.returns-in_err-write_all
returns-in_err-write_all g c =
    writes_line_stopped (λ line. line ++ 10 ∷ []) (canonical c.args.problem.now) c.loop-number.number [] c.loop-number.invariant c.in_err-write_all.ensures (c.as_slice.ensures.value ∙ c.fill_canonical.ensures) (omega arith) c.from_residual.ensures.0
