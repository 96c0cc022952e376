use Rattle.std.proofs.Common.{arith}
use Rattle.df_group.specs.Elements.{group_of}
use Rattle.df_group.specs.Subgroups.{exponent_of}
use Rattle.df_group.proofs.ElementLaws.{is_group, positive_shape}
use Rattle.df_group.proofs.ExponentLaws.{exponent_some}
use Rattle.df_group.proofs.MultipleLaws.{are_multiples}
use Rattle.df_maps.specs.Products.{products}
use Rattle.df_maps.proofs.ProductLaws.{products_are}
use Rattle.df_maps.proofs.SubgroupSums.{subgroup_has}
use Rattle.df_maps.proofs.InvariantLaws.{full_from_prescribed, prescribed_from_full}
use Rattle.df_maps.proofs.laws.prescribed_are_enough.Goals as goal

pub returns : goal.returns
returns c = λ fs fixed shifts stated is s blocks B.
    let e = exponent_of fs in
    let P = products_are e stated (exponent_some fs (positive_shape fs is)) in
    let zero = (subgroup_has fs is shifts s).zero in
    record {
      full = full_from_prescribed (group_of fs) e (is_group fs is) (are_multiples fs is) _ (omega arith) shifts stated (products e stated) zero P blocks B;
      prescribed = prescribed_from_full (group_of fs) e (is_group fs is) (are_multiples fs is) _ (omega arith) shifts stated (products e stated) zero P blocks B;
    }
