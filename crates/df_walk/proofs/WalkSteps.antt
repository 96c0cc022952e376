-- The first entry of what remains of the walk, and what remains after it.
use Rattle.std.proofs.Common.{◌≡◌, ℕ, suc, zero, ◌-◌, ◌<◌, Bool, true, false, List, [], ◌∷◌, ◌++◌, length, Option, Some, None, refl, sym, ap, ◌∙◌, subst, arith, length-append, inl, inr}
use Rattle.std.proofs.lemmas.Bool.{cases_lt}
use Rattle.std.proofs.lemmas.List.{append_assoc, append-nil}
use Rattle.df_walk.specs.declared.Rules.{Rules}
use Rattle.df_walk.specs.declared.Entry.{Entry}
use Rattle.df_walk.specs.declared.Entry.TheVariants.{Branch, Over, Under, Settled, Residue}
use Rattle.df_walk.specs.Systems.{System}
use Rattle.df_walk.specs.Walks.{Step, entry_at, below, walk_from, walk}
use Rattle.df_walk.specs.Remains.{later_walk, walk_on, after_first, turned}
use Rattle.df_walk.proofs.EntryMeanings.{Says, entry_says, branch_short}
use Rattle.df_walk.proofs.WalkOrder.{walk_is}

later_walk_yes : (rules : Rules) (s : System) (before p : List Bool) → later_walk rules s before (p ++ true ∷ []) ≡ walk rules s (before ++ (p ++ false ∷ [])) ++ later_walk rules s before p
later_walk_yes rules s before [] = sym (append-nil (walk rules s (before ++ false ∷ [])))
later_walk_yes rules s before (true ∷ p) = rw (later_walk_yes rules s (before ++ true ∷ []) p, append_assoc before (true ∷ []) (p ++ false ∷ [])) (append_assoc (walk rules s (before ++ true ∷ (p ++ false ∷ []))) (later_walk rules s (before ++ true ∷ []) p) (walk rules s (before ++ false ∷ [])))
later_walk_yes rules s before (false ∷ p) = rw (later_walk_yes rules s (before ++ false ∷ []) p, append_assoc before (false ∷ []) (p ++ false ∷ []))

later_walk_no : (rules : Rules) (s : System) (before p : List Bool) → later_walk rules s before (p ++ false ∷ []) ≡ later_walk rules s before p
later_walk_no rules s before [] = refl
later_walk_no rules s before (true ∷ p) = rw (later_walk_no rules s (before ++ true ∷ []) p)
later_walk_no rules s before (false ∷ p) = later_walk_no rules s (before ++ false ∷ []) p

-- past a path that ends with yes the walk goes on with no
pub past_yes : (rules : Rules) (s : System) (p : List Bool) → later_walk rules s [] (p ++ true ∷ []) ≡ walk_on rules s (p ++ false ∷ [])
past_yes rules s p = later_walk_yes rules s [] p ∙ ap (λ l. walk rules s (p ++ false ∷ []) ++ l) (sym (later_walk_no rules s [] p))

pub past_no : (rules : Rules) (s : System) (p : List Bool) → later_walk rules s [] (p ++ false ∷ []) ≡ later_walk rules s [] p
past_no rules s p = later_walk_no rules s [] p

walk_from_leaf : (rules : Rules) (s : System) (left : ℕ) (p : List Bool) (e : Entry) → ((more : List Step) → below e more ≡ []) → entry_at rules s p ≡ e → walk_from rules s left p ≡ (p, e) ∷ []
walk_from_leaf rules s zero p e leaf h = ap (λ e. (p, e) ∷ []) h
walk_from_leaf rules s (suc left) p e leaf h =
    let more = walk_from rules s left (p ++ true ∷ []) ++ walk_from rules s left (p ++ false ∷ []) in
    ap (λ e. (p, e) ∷ below e more) h ∙ ap (λ l. (p, e) ∷ l) (leaf more)

pub walk_on_over : (rules : Rules) (s : System) (p : List Bool) (r : ℕ) → entry_at rules s p ≡ Over r → walk_on rules s p ≡ (p, Over r) ∷ later_walk rules s [] p
walk_on_over rules s p r h = ap (λ l. l ++ later_walk rules s [] p) (walk_from_leaf rules s ((length s.columns) - length p) p (Over r) (λ more. refl) h)

pub walk_on_under : (rules : Rules) (s : System) (p : List Bool) (r : ℕ) → entry_at rules s p ≡ Under r → walk_on rules s p ≡ (p, Under r) ∷ later_walk rules s [] p
walk_on_under rules s p r h = ap (λ l. l ++ later_walk rules s [] p) (walk_from_leaf rules s ((length s.columns) - length p) p (Under r) (λ more. refl) h)

pub walk_on_settled : (rules : Rules) (s : System) (p : List Bool) → entry_at rules s p ≡ Settled → walk_on rules s p ≡ (p, Settled) ∷ later_walk rules s [] p
walk_on_settled rules s p h = ap (λ l. l ++ later_walk rules s [] p) (walk_from_leaf rules s ((length s.columns) - length p) p Settled (λ more. refl) h)

pub walk_on_residue : (rules : Rules) (s : System) (p : List Bool) (r m : ℕ) → entry_at rules s p ≡ Residue r m → walk_on rules s p ≡ (p, Residue r m) ∷ later_walk rules s [] p
walk_on_residue rules s p r m h = ap (λ l. l ++ later_walk rules s [] p) (walk_from_leaf rules s ((length s.columns) - length p) p (Residue r m) (λ more. refl) h)

-- a path that branches leaves a column
pub branch_leaves : (rules : Rules) (s : System) (p : List Bool) (c : ℕ) → entry_at rules s p ≡ Branch c → (length p < length s.columns) × (c ≡ length p)
branch_leaves rules s p c h =
    let says = subst (λ e. Says rules s p e) h (entry_says rules s p) in
    elim (cases_lt (length p) (length s.columns)) [
      | inl short ↦ (short, says.0)
      | inr long ↦ absurd (branch_short rules s p c says long)
    ]

pub walk_on_branch : (rules : Rules) (s : System) (p : List Bool) (c : ℕ) → entry_at rules s p ≡ Branch c → walk_on rules s p ≡ (p, Branch c) ∷ walk_on rules s (p ++ true ∷ [])
walk_on_branch rules s p c h =
    let short = (branch_leaves rules s p c h).0 in
    let left = (length s.columns) - length (p ++ true ∷ []) in
    let at = walk_is rules s p (suc left) (omega (arith, length-append p (true ∷ []))) in
    let no = walk_is rules s (p ++ false ∷ []) left (omega (arith, length-append p (true ∷ []), length-append p (false ∷ []))) in
    let here : walk rules s p ≡ (p, Branch c) ∷ (walk rules s (p ++ true ∷ []) ++ walk rules s (p ++ false ∷ [])) = at ∙ ap (λ e. (p, e) ∷ below e (walk_from rules s left (p ++ true ∷ []) ++ walk_from rules s left (p ++ false ∷ []))) h ∙ ap (λ l. (p, Branch c) ∷ (walk rules s (p ++ true ∷ []) ++ l)) (sym no) in
    rw (here, later_walk_yes rules s [] p) (ap (λ l. (p, Branch c) ∷ l) (append_assoc (walk rules s (p ++ true ∷ [])) (walk rules s (p ++ false ∷ [])) (later_walk rules s [] p)))

-- the walk on from a path after the given one, if there is one
abbrev pub walk_on_from : Rules → System → List Bool → Option (List Bool) → List Step
walk_on_from rules s before None = []
walk_on_from rules s before (Some q) = walk rules s (before ++ q) ++ later_walk rules s before q

later_walk-after : (rules : Rules) (s : System) (before : List Bool) (b : Bool) (p : List Bool) (o : Option (List Bool)) → later_walk rules s (before ++ b ∷ []) p ≡ walk_on_from rules s (before ++ b ∷ []) o → later_walk rules s before (b ∷ p) ≡ walk_on_from rules s before (after_first b o)
later_walk-after rules s before true p None h = ap (λ l. l ++ walk rules s (before ++ false ∷ [])) h ∙ sym (append-nil (walk rules s (before ++ false ∷ [])))
later_walk-after rules s before false p None h = h
later_walk-after rules s before true p (Some q) h = ap (λ l. l ++ walk rules s (before ++ false ∷ [])) h ∙ rw (append_assoc before (true ∷ []) q) (append_assoc (walk rules s (before ++ true ∷ q)) (later_walk rules s (before ++ true ∷ []) q) (walk rules s (before ++ false ∷ [])))
later_walk-after rules s before false p (Some q) h = h ∙ rw (append_assoc before (false ∷ []) q)

-- past a path the walk goes on at the path that is its last yes turned to no
pub later_walk-turned : (rules : Rules) (s : System) (before p : List Bool) → later_walk rules s before p ≡ walk_on_from rules s before (turned p)
later_walk-turned rules s before [] = refl
later_walk-turned rules s before (b ∷ p) = later_walk-after rules s before b p (turned p) (later_walk-turned rules s (before ++ b ∷ []) p)

-- what remains at a path begins with its own entry
pub walk_on_first : (rules : Rules) (s : System) (p : List Bool) → (more : List Step) × (walk_on rules s p ≡ (p, entry_at rules s p) ∷ more)
walk_on_first rules s p = go (length s.columns - length p)
  where
    go : (left : ℕ) → (more : List Step) × (walk_from rules s left p ++ later_walk rules s [] p ≡ (p, entry_at rules s p) ∷ more)
    go zero = (later_walk rules s [] p, refl)
    go (suc left) = (below (entry_at rules s p) (walk_from rules s left (p ++ true ∷ []) ++ walk_from rules s left (p ++ false ∷ [])) ++ later_walk rules s [] p, refl)
