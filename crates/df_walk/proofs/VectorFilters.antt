-- Filters over all 0-1 vectors of a length, by induction on the length.
use Rattle.std.proofs.Common.{◌≡◌, ℕ, suc, zero, Bool, true, false, List, [], ◌∷◌, ◌++◌, length, map, refl, ap, arith}
use Rattle.std.specs.Prelude.{filter}
use Rattle.std.proofs.lemmas.List.Elements.{filter-append}
use Rattle.std.proofs.lemmas.Bool.{false_from_ne_true}
use Rattle.df_lists.proofs.TestLaws.{filter-map}
use Rattle.df_walk.specs.Solutions.{vectors}

-- the two halves of a filter over all vectors
pub filter-vectors : (p : List Bool → Bool) (n : ℕ) → filter p (vectors (suc n)) ≡ map (λ x. true ∷ x) (filter (λ x. p (true ∷ x)) (vectors n)) ++ map (λ x. false ∷ x) (filter (λ x. p (false ∷ x)) (vectors n))
filter-vectors p n = rw (filter-append, filter-map, filter-map)

-- two tests that agree on the vectors of this length
pub vectors_agree : (n : ℕ) (p q : List Bool → Bool) → ((x : List Bool) → length x ≡ n → p x ≡ q x) → filter p (vectors n) ≡ filter q (vectors n)
vectors_agree zero p q h = rw (h [] refl)
vectors_agree (suc n) p q h =
    rw (filter-vectors p n, filter-vectors q n, vectors_agree n (λ x. p (true ∷ x)) (λ x. q (true ∷ x)) (λ x l. h (true ∷ x) (ap suc l)), vectors_agree n (λ x. p (false ∷ x)) (λ x. q (false ∷ x)) (λ x l. h (false ∷ x) (ap suc l)))

-- none passes
pub vectors_none : (n : ℕ) (p : List Bool → Bool) → ((x : List Bool) → length x ≡ n → p x ≡ false) → filter p (vectors n) ≡ []
vectors_none zero p h = rw (h [] refl)
vectors_none (suc n) p h =
    rw (filter-vectors p n, vectors_none n (λ x. p (true ∷ x)) (λ x l. h (true ∷ x) (ap suc l)), vectors_none n (λ x. p (false ∷ x)) (λ x l. h (false ∷ x) (ap suc l)))

-- exactly one passes
pub vectors_one : (n : ℕ) (p : List Bool → Bool) (v : List Bool) → length v ≡ n → p v ≡ true → ((x : List Bool) → length x ≡ n → p x ≡ true → x ≡ v) → filter p (vectors n) ≡ v ∷ []
vectors_one zero p [] l t only = rw t
vectors_one zero p (b ∷ v) l t only = absurd (omega arith)
vectors_one (suc n) p [] l t only = absurd (omega arith)
vectors_one (suc n) p (true ∷ v) l t only =
    rw (filter-vectors p n, vectors_one n (λ x. p (true ∷ x)) v (omega arith) t (λ x m h. let e = only (true ∷ x) (ap suc m) h in cc), vectors_none n (λ x. p (false ∷ x)) (λ x m. false_from_ne_true (p (false ∷ x)) (λ h. let e = only (false ∷ x) (ap suc m) h in cc)))
vectors_one (suc n) p (false ∷ v) l t only =
    rw (filter-vectors p n, vectors_one n (λ x. p (false ∷ x)) v (omega arith) t (λ x m h. let e = only (false ∷ x) (ap suc m) h in cc), vectors_none n (λ x. p (true ∷ x)) (λ x m. false_from_ne_true (p (true ∷ x)) (λ h. let e = only (true ∷ x) (ap suc m) h in cc)))
