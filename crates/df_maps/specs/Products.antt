-- Products of multipliers, reduced by the exponent of the group.
use Rattle.std.specs.Prelude.{◌≡◌, ℕ, zero, suc, ◌*◌, ◌%◌, List, [], ◌∷◌, map}
use Rattle.std.specs.List.{flat_map}
use Rattle.df_lists.specs.Membership.{In}
use Rattle.df_lists.specs.NumberSets.{IsSet, set_of}

-- the product of a list of multipliers; that of none is 1
abbrev pub product_of : List ℕ → ℕ
product_of [] = 1
product_of (m ∷ ms) = m * product_of ms

-- each of the list is one of the stated
abbrev pub AllIn : List ℕ → List ℕ → Type 0
AllIn stated [] = Unit {0}
AllIn stated (m ∷ ms) = In stated m × AllIn stated ms

-- the residues by e of the products of at most n of the stated multipliers, increasing
abbrev pub products_within : ℕ → List ℕ → ℕ → List ℕ
products_within e stated zero = set_of e (1 % e ∷ [])
products_within e stated (suc n) = set_of e (1 % e ∷ flat_map (λ m. map (λ r. (m * r) % e) (products_within e stated n)) stated)

-- those of the products of any list: there are e residues at most, so that lists of more than e multipliers give no more
unfoldable pub products : ℕ → List ℕ → List ℕ
products e stated = products_within e stated e

-- the list has the residues of the products of every list of stated multipliers, and no other number, increasing
pub record AreProducts (e : ℕ) (stated residues : List ℕ) : Type 0 where
  pub set : IsSet e residues
  pub inside : (r : ℕ) → In residues r → (ms : List ℕ) × AllIn stated ms × (product_of ms % e ≡ r)
  pub all : (ms : List ℕ) → AllIn stated ms → In residues (product_of ms % e)
