-- How long the vectors of a length are.
use Rattle.std.proofs.Common.{◌≡◌, ℕ, zero, suc, Bool, true, false, List, [], ◌∷◌, map, length, inl, inr, sym, ap, ◌∙◌, ⊎_elim}
use Rattle.df_lists.specs.Membership.{In}
use Rattle.df_lists.proofs.MemberLaws.{In-append_cases, In-map_gives}
use Rattle.df_walk.specs.Solutions.{vectors}

pub vectors_long : (n : ℕ) (x : List Bool) → In (vectors n) x → length x ≡ n
vectors_long zero x (inl e) = sym (ap length e)
vectors_long zero x (inr i) = absurd i
vectors_long (suc n) x i = ⊎_elim (of true (vectors_long n)) (of false (vectors_long n)) (In-append_cases (map (λ y. true ∷ y) (vectors n)) (map (λ y. false ∷ y) (vectors n)) x i)
  where
    of : (b : Bool) → ((y : List Bool) → In (vectors n) y → length y ≡ n) → In (map (λ y. b ∷ y) (vectors n)) x → length x ≡ suc n
    of b more j = let r = In-map_gives (λ y. b ∷ y) (vectors n) x j in sym (ap length r.2) ∙ ap suc (more r.0 r.1)
