use Rattle.std.proofs.Common.{sym, length, eqb, eq-eqb, eqb-true}
use Rattle.df_lists.proofs.TestLaws.{any_from, any_gives}
use Rattle.df_subsets.proofs.SubsetLists.{subsets_inside, subsets_have}
use Rattle.df_subsets.proofs.SizedLists.{candidates_sorted, candidates_inside, candidates_have, candidates_once}
use Rattle.df_subsets.proofs.laws.candidates_are_all.Goals as goal

pub returns : goal.returns
returns c = λ v sizes. record {
  sorted = candidates_sorted v sizes;
  inside = λ b i.
      let r = candidates_inside v sizes b i in
      let k = any_gives (λ k. eqb k (length b)) sizes r.1 in
      (k.0, k.1, subsets_have v k.0 b r.0 (sym (eqb-true k.0 (length b) k.2)));
  have = λ b k i j.
      let r = subsets_inside v k b j in
      candidates_have v sizes b r.0 (any_from (λ k. eqb k (length b)) sizes k i (eq-eqb k (length b) (sym r.1)));
  once = λ b i. let r = candidates_inside v sizes b i in candidates_once v sizes b r.0 r.1;
}
