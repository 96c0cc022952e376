use Rattle.std.proofs.Common.{Err, ap, subst}
use Rattle.df_dossier.specs.declared.paths.PathRead.{PathRead}
use Rattle.df_dossier.specs.Reads.{ReadsPath}
use Rattle.df_dossier.proofs.PathTests.{path_said, path_none}
use Rattle.df_check.specs.Judging.{read_or}
use Rattle.df_check.proofs.running.path_of.Goals as goal

pub returns-in-Ok : goal.returns-in-Ok
returns-in-Ok c = ap (read_or c.args.number c.args.fault) (path_said c.args.line.now c.in-Ok.path c.in-Ok.ensures)

pub returns-in-Err-Bad : goal.returns-in-Err-Bad
returns-in-Err-Bad c =
    ap (read_or c.args.number c.args.fault) (path_none c.args.line.now (subst (λ (r : PathRead). ReadsPath c.args.line.now (Err r)) c.in-Err-Bad.field-0-is c.in-Err-Bad.ensures))
