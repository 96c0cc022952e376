-- The rows of a cut, read one after the other.
use Rattle.std.proofs.Common.{◌≡◌, ◌≤◌, ◌&&◌, ℕ, ℤ, Bool, true, false, ltb, List, [], ◌∷◌, ◌++◌, length, Some, refl, arith, tests, length-append}
use Rattle.df_walk.specs.declared.CutRow.{CutRow}
use Rattle.df_dossier.specs.Tokens.{place_of}
use Rattle.df_dossier.specs.Entries.{weight_of, may_follow, cut_from}

-- one row more
pub cut_step : (ws : List CutRow) (weight row : List ℕ) (tokens : List (List ℕ)) (z : ℤ) (r : ℕ) → weight_of weight ≡ Some z → place_of row ≡ Some r → may_follow ws r ≡ true
    → cut_from ws (weight ∷ row ∷ tokens) ≡ cut_from (ws ++ record { weight = z; row = r } ∷ []) tokens
unfolding cut_from
cut_step ws weight row tokens z r first second follows = rw (first, second, follows) refl

and_first : (a b : Bool) → (a && b) ≡ true → a ≡ true
and_first true b is = refl
and_first false b is = absurd (cc)

pub room : (ws : List CutRow) (w : CutRow) (r : ℕ) → may_follow ws r ≡ true → length (ws ++ w ∷ []) ≤ 16
room ws w r follows =
    let few = and_first (ltb (length ws) 16) _ follows in
    let size = length-append ws (w ∷ []) in
    grind (arith, tests)
