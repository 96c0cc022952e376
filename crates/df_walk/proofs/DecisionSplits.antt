-- The solutions with given decisions, split by one more decision.
use Rattle.std.proofs.Common.{◌≡◌, ℕ, suc, zero, ◌<◌, Bool, true, false, not, List, [], ◌∷◌, ◌++◌, length, get_or, set, map, Some, None, refl, sym, ap, ◌∙◌, arith}
use Rattle.std.specs.Prelude.{filter, slice_get, ◌&&◌}
use Rattle.std.specs.List.Sorted.{IsPermutation}
use Rattle.std.proofs.lemmas.List.Sorted.{IsPermutation-filter_both}
use Rattle.std.proofs.lemmas.List.{map-append, append-nil}
use Rattle.std.proofs.lemmas.List.Elements.{filter_agree}
use Rattle.std.proofs.Math.Bool.{and_comm, and_assoc}
use Rattle.df_lists.proofs.TestLaws.{filter-filter, filter_never}
use Rattle.df_walk.specs.Systems.{System}
use Rattle.df_walk.specs.Assignments.{Decisions}
use Rattle.df_walk.specs.Solutions.{keeps, is_solution, solutions_with, vectors}
use Rattle.df_walk.proofs.VectorFilters.{filter-vectors}

filter_yes : (ds : Decisions) (t : List Bool → Bool) (n : ℕ) → filter (λ x. keeps (Some true ∷ ds) x && t x) (vectors (suc n)) ≡ map (λ x. true ∷ x) (filter (λ x. keeps ds x && t (true ∷ x)) (vectors n))
filter_yes ds t n = rw (filter-vectors (λ x. keeps (Some true ∷ ds) x && t x) n, filter_never (vectors n), append-nil)

filter_no : (ds : Decisions) (t : List Bool → Bool) (n : ℕ) → filter (λ x. keeps (Some false ∷ ds) x && t x) (vectors (suc n)) ≡ map (λ x. false ∷ x) (filter (λ x. keeps ds x && t (false ∷ x)) (vectors n))
filter_no ds t n = rw (filter-vectors (λ x. keeps (Some false ∷ ds) x && t x) n, filter_never (vectors n))

-- a path is shorter than the vectors: first those that go on with yes, then those with no
pub filter_path : (p : List Bool) (t : List Bool → Bool) (n : ℕ) → length p < n → filter (λ x. keeps (map Some p) x && t x) (vectors n) ≡ filter (λ x. keeps (map Some (p ++ true ∷ [])) x && t x) (vectors n) ++ filter (λ x. keeps (map Some (p ++ false ∷ [])) x && t x) (vectors n)
filter_path p t zero h = absurd (omega arith)
filter_path [] t (suc n) h = rw (filter_yes [] t n, filter_no [] t n, filter-vectors t n)
filter_path (true ∷ p) t (suc n) h =
    rw (filter_yes (map Some p) t n, filter_yes (map Some (p ++ true ∷ [])) t n, filter_yes (map Some (p ++ false ∷ [])) t n, filter_path p (λ x. t (true ∷ x)) n (omega arith)) (map-append (λ x. true ∷ x) (filter (λ x. keeps (map Some (p ++ true ∷ [])) x && t (true ∷ x)) (vectors n)) (filter (λ x. keeps (map Some (p ++ false ∷ [])) x && t (true ∷ x)) (vectors n)))
filter_path (false ∷ p) t (suc n) h =
    rw (filter_no (map Some p) t n, filter_no (map Some (p ++ true ∷ [])) t n, filter_no (map Some (p ++ false ∷ [])) t n, filter_path p (λ x. t (false ∷ x)) n (omega arith)) (map-append (λ x. false ∷ x) (filter (λ x. keeps (map Some (p ++ true ∷ [])) x && t (false ∷ x)) (vectors n)) (filter (λ x. keeps (map Some (p ++ false ∷ [])) x && t (false ∷ x)) (vectors n)))

pub path_split : (s : System) (p : List Bool) → length p < (length s.columns) → solutions_with s (map Some p) ≡ solutions_with s (map Some (p ++ true ∷ [])) ++ solutions_with s (map Some (p ++ false ∷ []))
path_split s p h = filter_path p (is_solution s) (length s.columns) h

-- the vector's value at a column
abbrev bit : List Bool → ℕ → Bool
bit x c = get_or x c false

keeps-set : (ds : Decisions) (c : ℕ) (x : List Bool) → slice_get ds c ≡ Some None → (keeps (set ds c (Some true)) x ≡ (keeps ds x && bit x c)) × (keeps (set ds c (Some false)) x ≡ (keeps ds x && not (bit x c)))
keeps-set [] c x h = absurd (let e = h in cc)
keeps-set (d ∷ ds) zero [] h = (refl, refl)
keeps-set (None ∷ ds) zero (b ∷ x) h = (and_comm b (keeps ds x), and_comm (not b) (keeps ds x))
keeps-set (Some y ∷ ds) zero (b ∷ x) h = absurd (let e = h in cc)
keeps-set (d ∷ ds) (suc c) [] h = (refl, refl)
keeps-set (None ∷ ds) (suc c) (b ∷ x) h = keeps-set ds c x h
keeps-set (Some true ∷ ds) (suc c) (true ∷ x) h = keeps-set ds c x h
keeps-set (Some true ∷ ds) (suc c) (false ∷ x) h = (refl, refl)
keeps-set (Some false ∷ ds) (suc c) (true ∷ x) h = (refl, refl)
keeps-set (Some false ∷ ds) (suc c) (false ∷ x) h = keeps-set ds c x h

-- a conjunct moved to the end
and_last : (a b c : Bool) → ((a && b) && c) ≡ ((a && c) && b)
and_last a b c = and_assoc a b c ∙ ap (λ y. a && y) (and_comm b c) ∙ sym (and_assoc a c b)

-- the solutions with one more decision, in any column that has none yet, in some order
pub column_split : (s : System) (ds : Decisions) (c : ℕ) → slice_get ds c ≡ Some None → IsPermutation (solutions_with s ds) (solutions_with s (set ds c (Some true)) ++ solutions_with s (set ds c (Some false)))
column_split s ds c h =
    let with_yes = filter-filter (λ x. bit x c) (λ x. keeps ds x && is_solution s x) (vectors (length s.columns)) ∙ filter_agree _ (λ x. keeps (set ds c (Some true)) x && is_solution s x) (λ x. and_last (keeps ds x) (is_solution s x) (bit x c) ∙ ap (λ y. y && is_solution s x) (sym ((keeps-set ds c x h).0))) (vectors (length s.columns)) in
    let with_no = filter-filter (λ x. not (bit x c)) (λ x. keeps ds x && is_solution s x) (vectors (length s.columns)) ∙ filter_agree _ (λ x. keeps (set ds c (Some false)) x && is_solution s x) (λ x. and_last (keeps ds x) (is_solution s x) (not (bit x c)) ∙ ap (λ y. y && is_solution s x) (sym ((keeps-set ds c x h).1))) (vectors (length s.columns)) in
    rw (← with_yes, ← with_no) (IsPermutation-filter_both (λ x. bit x c) (λ x. not (bit x c)) (λ x. refl) (solutions_with s ds))
