-- The walk's entries are a log that proves its solutions.
use Rattle.std.proofs.Common.{◌≡◌, ℕ, suc, zero, ◌+◌, ◌-◌, ◌<◌, ◌≤◌, Bool, true, false, List, [], ◌∷◌, ◌++◌, length, map, Some, None, refl, ap, ◌∙◌, subst, arith, length-append}
use Rattle.std.specs.Prelude.{replicate}
use Rattle.std.proofs.lemmas.List.{map-append, length-map}
use Rattle.std.proofs.lemmas.List.Elements.{filter_map-append}
use Rattle.df_walk.specs.declared.Rules.{Rules}
use Rattle.df_walk.specs.declared.Entry.{Entry}
use Rattle.df_walk.specs.declared.Entry.TheVariants.{Branch, Over, Under, Settled, Residue, Cut}
use Rattle.df_walk.specs.Systems.{System}
use Rattle.df_walk.specs.Solutions.{yes_columns_from, yes_columns, chosen_columns}
use Rattle.df_walk.specs.Walks.{Step, decided, walk_from, walk, below, entry_at, solution_of, solutions_in, entries_in}
use Rattle.df_walk.specs.Remains.{padded}
use Rattle.df_walk.specs.Logs.{Proves, over, under, residue, settled, branch}
use Rattle.df_walk.proofs.PaddedPaths.{is_over-padded, is_under-padded, is_residue-padded, padded_settled, padded_free, padded_push}
use Rattle.df_walk.proofs.EntryMeanings.{Says, entry_says, branch_short, residue_passes}
use Rattle.df_walk.proofs.LogSoundness.{chosen_columns-yes_vector}

yes_columns-none : (column k : ℕ) → yes_columns_from column (replicate k None) ≡ []
yes_columns-none column zero = refl
yes_columns-none column (suc k) = yes_columns-none (column + 1) k

yes_columns-open : (column : ℕ) (p : List Bool) (k : ℕ) → yes_columns_from column (decided p ++ replicate k None) ≡ yes_columns_from column (decided p)
yes_columns-open column [] k = yes_columns-none column k
yes_columns-open column (true ∷ p) k = ap (λ l. column ∷ l) (yes_columns-open (column + 1) p k)
yes_columns-open column (false ∷ p) k = yes_columns-open (column + 1) p k

-- the columns of the solutions of a part of a walk
abbrev pub chosen_in : System → List Step → List (List ℕ)
chosen_in s steps = map chosen_columns (solutions_in s steps)

-- the columns of a settled path
settled_columns : (s : System) (p : List Bool) → length p ≤ length s.columns → chosen_in s ((p, Settled) ∷ []) ≡ yes_columns (padded (length s.columns) p) ∷ []
settled_columns s p short =
    rw (chosen_columns-yes_vector (length s.columns) (decided p) (omega (arith, length-map p Some)), yes_columns-open 0 p (length s.columns - length p))

leaf : (rules : Rules) (s : System) (p : List Bool) (e : Entry) → length p ≤ length s.columns → Says rules s p e → ((c : ℕ) → e ≡ Branch c → ⊥) → Proves s (padded (length s.columns) p) (e ∷ []) (chosen_in s ((p, e) ∷ []))
leaf rules s p (Over row) short h no_branch = over (h.0, is_over-padded s (length s.columns) p row ∙ h.1)
leaf rules s p (Under row) short h no_branch = under (h.0, is_under-padded s (length s.columns) p row ∙ h.1)
leaf rules s p (Residue row m) short h no_branch = let r = residue_passes rules s (decided p) row m h in residue (r.0, is_residue-padded s (length s.columns) p m row ∙ r.1)
leaf rules s p (Cut ws) short h no_branch = absurd h
leaf rules s p Settled short h no_branch = rw (settled_columns s p short) (settled (padded_settled s p ∙ h))
leaf rules s p (Branch c) short h no_branch = absurd (no_branch c refl)

pub walk_from-proves : (rules : Rules) (s : System) (left : ℕ) (p : List Bool) → length p + left ≡ length s.columns → Proves s (padded (length s.columns) p) (entries_in (walk_from rules s left p)) (chosen_in s (walk_from rules s left p))
walk_from-proves rules s zero p long = go (entry_at rules s p) (entry_says rules s p)
  where
    go : (e : Entry) → Says rules s p e → Proves s (padded (length s.columns) p) (e ∷ []) (chosen_in s ((p, e) ∷ []))
    go (Over row) h = leaf rules s p (Over row) (omega arith) h (λ c e. cc)
    go (Under row) h = leaf rules s p (Under row) (omega arith) h (λ c e. cc)
    go (Residue row m) h = leaf rules s p (Residue row m) (omega arith) h (λ c e. cc)
    go (Cut ws) h = absurd h
    go Settled h = leaf rules s p Settled (omega arith) h (λ c e. cc)
    go (Branch c) h = absurd (branch_short rules s p c h (omega arith))
walk_from-proves rules s (suc left) p long =
    go (entry_at rules s p) (entry_says rules s p) (walk_from-proves rules s left (p ++ true ∷ []) (omega (arith, length-append p (true ∷ [])))) (walk_from-proves rules s left (p ++ false ∷ []) (omega (arith, length-append p (false ∷ []))))
  where
    A : List Step
    A = walk_from rules s left (p ++ true ∷ [])

    B : List Step
    B = walk_from rules s left (p ++ false ∷ [])

    go : (e : Entry) → Says rules s p e → Proves s (padded (length s.columns) (p ++ true ∷ [])) (entries_in A) (chosen_in s A) → Proves s (padded (length s.columns) (p ++ false ∷ [])) (entries_in B) (chosen_in s B) → Proves s (padded (length s.columns) p) (entries_in ((p, e) ∷ below e (A ++ B))) (chosen_in s ((p, e) ∷ below e (A ++ B)))
    go (Over row) h a b = leaf rules s p (Over row) (omega arith) h (λ c e. cc)
    go (Under row) h a b = leaf rules s p (Under row) (omega arith) h (λ c e. cc)
    go (Residue row m) h a b = leaf rules s p (Residue row m) (omega arith) h (λ c e. cc)
    go (Cut ws) h a b = absurd h
    go Settled h a b = leaf rules s p Settled (omega arith) h (λ c e. cc)
    go (Branch c) h a b =
        let short : length p < length s.columns = omega arith in
        let first = rw (← padded_push (length s.columns) p true short) at a in
        let second = rw (← padded_push (length s.columns) p false short) at b in
        rw (map-append (λ step. step.1) A B, filter_map-append (solution_of s) A B, map-append chosen_columns (solutions_in s A) (solutions_in s B), h.0) (branch (padded_free (length s.columns) p short) first second)

-- the whole walk
pub walk-proves : (rules : Rules) (s : System) → Proves s (replicate (length s.columns) None) (entries_in (walk rules s [])) (chosen_in s (walk rules s []))
walk-proves rules s =
    let all : length s.columns - 0 ≡ length s.columns = omega arith in
    subst (λ n. Proves s (replicate n None) (entries_in (walk rules s [])) (chosen_in s (walk rules s []))) all (walk_from-proves rules s (length s.columns - 0) [] (omega arith))
