use Rattle.std.proofs.Common.{sym, subst, arith}
use Rattle.std.proofs.lemmas.List.{length-map}
use Rattle.df_system.specs.declared.limits.TheConstants.{MOST_COLUMNS}
use Rattle.df_walk.specs.Systems.{IsSystem}
use Rattle.df_runs.specs.WeightedSums.{IsBounded}
use Rattle.df_kramer_mesner.specs.OrbitSystems.{orbit_system, columns_of, cells_of}
use Rattle.df_check.specs.declared.TheConstants.{MOST_VALUE}
use Rattle.df_check.proofs.BoundedSystems.{bounded}
use Rattle.df_check.proofs.design_checker.Checker.new.Goals as goal

pub new-requires : goal.new-requires
new-requires c =
    let s = c.args.matrix.now in
    let low = c.matrix_is_bounded.ensures in
    let many = length-map (columns_of s) (cells_of s) in
    subst (λ t. IsBounded t MOST_COLUMNS MOST_VALUE MOST_VALUE) (sym c.system-system.ensures)
    (bounded (orbit_system s) MOST_COLUMNS MOST_VALUE (subst IsSystem c.system-system.ensures c.columns-columns.ensures.system) (omega (arith, low.columns, many))
    (λ row there. omega (arith, low.targets row there))
    (λ row column within there. omega (arith, low.entries row column there (omega (arith, within, many)))))
