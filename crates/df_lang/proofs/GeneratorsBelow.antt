-- The canonical generators of a subgroup are elements.
use Rattle.std.proofs.Common.{ℕ, ◌<◌, true, false, cond, List, [], ◌∷◌, ◌++◌, All}
use Rattle.df_io.specs.Joined.{Each}
use Rattle.df_lists.specs.NumberSets.{has_member}
use Rattle.df_group.specs.Elements.{order_of, IsShape}
use Rattle.df_group.specs.Subgroups.{generated, IsSubgroup, canonical_from, canonical_of}
use Rattle.df_group.proofs.SubgroupLaws.{are_subgroups}
use Rattle.df_lang.proofs.EachMember.{each_append, all_from}
use Rattle.df_lang.proofs.SetsBelow.{set_below}

from_below : (n : ℕ) (fs taken es : List ℕ) → Each (λ e. e < n) taken → Each (λ e. e < n) es → Each (λ e. e < n) (canonical_from fs taken es)
from_below n fs taken [] t each = t
from_below n fs taken (e ∷ es) t each =
    elim (has_member (generated fs taken) e) as (λ v. Each (λ e. e < n) (canonical_from fs (cond v taken (taken ++ e ∷ [])) es)) [
      | true ↦ from_below n fs taken es t each.1
      | false ↦ from_below n fs (taken ++ e ∷ []) es (each_append (λ e. e < n) taken (e ∷ []) t (each.0, tt)) each.1
    ]

pub canonical_each : (fs members : List ℕ) → IsShape fs → IsSubgroup fs members → Each (λ e. e < order_of fs) (canonical_of fs members)
unfolding canonical_of
canonical_each fs members is group =
    let closed = (are_subgroups fs is).closed members group in
    from_below (order_of fs) fs [] members tt (set_below (order_of fs) members closed.set)

pub canonical_below : (fs members : List ℕ) → IsShape fs → IsSubgroup fs members → All (λ e. e < order_of fs) (canonical_of fs members)
canonical_below fs members is group = all_from (λ e. e < order_of fs) (canonical_of fs members) (canonical_each fs members is group)
