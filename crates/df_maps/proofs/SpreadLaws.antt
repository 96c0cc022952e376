-- Lists of blocks that no group of maps leads out of.
use Rattle.std.proofs.Common.{ℕ, ◌<◌, List, ap, ◌∙◌}
use Rattle.std.specs.List.{list_any}
use Rattle.df_lists.specs.NumberSets.{IsSet}
use Rattle.df_subsets.specs.Subsets.{subsets, candidates, same_list}
use Rattle.df_subsets.proofs.SubsetLists.{same_list-gives, same_list-self, subsets_inside, subsets_once, subsets_have}
use Rattle.df_subsets.proofs.SizedLists.{candidates_inside, candidates_once, candidates_have}
use Rattle.std.proofs.Common.{eqb}
use Rattle.df_lists.specs.Orders.{IsEquality}
use Rattle.df_acting.specs.Orbits.{IsMapGroup, IsSpread}
use Rattle.df_acting.specs.Images.{image}
use Rattle.df_acting.proofs.ImageLaws.{image_is_set, length-image}

pub lists_equal : IsEquality same_list
lists_equal = record { same = same_list-gives; self = same_list-self }

module _ {M : Type 0} (act : M → ℕ → ℕ) (v : ℕ) (maps : List M) (G : IsMapGroup act (λ p. p < v) maps) where
  pub subsets_spread : (k : ℕ) → IsSpread same_list (image act v) (IsSet v) maps (subsets v k)
  subsets_spread k = record {
    inside = λ b i. (subsets_inside v k b i).0;
    once = λ b i. let r = subsets_inside v k b i in subsets_once v k b r.0 r.1;
    moves = λ g i b j.
        let r = subsets_inside v k b j in
        subsets_have v k (image act v g b) (image_is_set act v maps G g b) (length-image act v maps G g b i r.0 ∙ r.1);
  }

  pub candidates_spread : (sizes : List ℕ) → IsSpread same_list (image act v) (IsSet v) maps (candidates v sizes)
  candidates_spread sizes = record {
    inside = λ b i. (candidates_inside v sizes b i).0;
    once = λ b i. let r = candidates_inside v sizes b i in candidates_once v sizes b r.0 r.1;
    moves = λ g i b j.
        let r = candidates_inside v sizes b j in
        candidates_have v sizes (image act v g b) (image_is_set act v maps G g b) (ap (λ n. list_any (λ k. eqb k n) sizes) (length-image act v maps G g b i r.0) ∙ r.1);
  }
