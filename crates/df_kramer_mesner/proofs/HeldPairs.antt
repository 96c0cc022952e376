-- The choices from a list that lie in a block are the choices from the block.
use Rattle.std.proofs.Common.{◌≡◌, ℕ, suc, zero, Bool, true, false, cond, ◌&&◌, ◌++◌, map, filter, List, [], ◌∷◌, refl, sym, ap, ap₂, ◌∙◌}
use Rattle.std.proofs.lemmas.List.Elements.{filter-append}
use Rattle.std.proofs.Math.Bool.{and_comm}
use Rattle.df_lists.proofs.SetLaws.{set_picked}
use Rattle.df_lists.specs.Membership.{count}
use Rattle.df_lists.specs.NumberSets.{has_member, IsSet}
use Rattle.df_lists.proofs.ListTotals.{count_agree}
use Rattle.df_lists.proofs.TestLaws.{filter-map, filter_never}
use Rattle.df_lists.proofs.MemberLaws.{count-filter}
use Rattle.df_subsets.specs.Subsets.{choose, subsets, points}
use Rattle.df_acting.specs.Images.{contains}

pub choose_held : (b ps : List ℕ) (k : ℕ) → filter (contains b) (choose ps k) ≡ choose (filter (has_member b) ps) k
choose_held b ps zero = refl
choose_held b [] (suc k) = refl
choose_held b (p ∷ ps) (suc k) =
    filter-append (contains b) (map (λ c. p ∷ c) (choose ps k)) (choose ps (suc k))
    ∙ ap₂ (λ l m. l ++ m) (filter-map (contains b) (λ c. p ∷ c) (choose ps k)) (choose_held b ps (suc k))
    ∙ front (has_member b p) (choose_held b ps k)
  where
    front : (t : Bool) → filter (contains b) (choose ps k) ≡ choose (filter (has_member b) ps) k → map (λ c. p ∷ c) (filter (λ c. t && contains b c) (choose ps k)) ++ choose (filter (has_member b) ps) (suc k) ≡ choose (cond t (p ∷ filter (has_member b) ps) (filter (has_member b) ps)) (suc k)
    front true rest = ap (λ l. map (λ c. p ∷ c) l ++ choose (filter (has_member b) ps) (suc k)) rest
    front false rest = ap (λ l. map (λ c. p ∷ c) l ++ choose (filter (has_member b) ps) (suc k)) (filter_never (choose ps k))

-- the chosen of all points that pass a test and lie in a block
pub held_count : (v k : ℕ) (t : List ℕ → Bool) (b : List ℕ) → IsSet v b → count (λ p. t p && contains b p) (subsets v k) ≡ count t (choose b k)
held_count v k t b set =
    count_agree (λ p. t p && contains b p) (λ p. contains b p && t p) (subsets v k) (λ p i. and_comm (t p) (contains b p))
    ∙ sym (count-filter (contains b) t (subsets v k))
    ∙ ap (count t) (choose_held b (points v) k ∙ ap (λ l. choose l k) (sym (set_picked v b set)))
