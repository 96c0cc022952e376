use Rattle.std.proofs.Common.{◌∙◌, ap, length, drop, ◌≤◌, subst, sym}
use Rattle.df_io.proofs.Slices.{slice_rest}
use Rattle.df_io.proofs.ahead.Ahead.pass.Goals as goal

pub returns : goal.returns
returns c =
    rw (← c.self.view_is)
    (slice_rest c.self.inside.piece c.self.inside.start c.self.inside.end c.args.count (subst (λ l. c.args.count ≤ length l) (sym c.self.view_is) c.requires))
