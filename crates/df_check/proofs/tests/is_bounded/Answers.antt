use Rattle.std.proofs.Common.{◌≡◌, ◌≤◌, length, true, false, arith}
use Rattle.df_system.specs.declared.limits.TheConstants.{MOST_COLUMNS}
use Rattle.df_check.specs.declared.TheConstants.{MOST_VALUE}
use Rattle.df_check.proofs.BoundedSystems.{bounded}
use Rattle.df_check.proofs.tests.is_bounded.Goals as goal

pub returns : goal.returns
returns g c = λ low.
    let few : length c.args.system.now.columns ≤ MOST_COLUMNS = omega (arith, c.columns.ensures.value, c.if-columns-gt-MOST_COLUMNS.false) in
    let all : c.are_targets_low.result ≡ true = cc in
    bounded c.args.system.now MOST_COLUMNS MOST_VALUE c.columns.ensures.system few (c.are_targets_low.ensures all) (c.are_entries_low.ensures low)
