-- The walk keeps the order of paths: what isn't before a path that it comes by is what remains there.
use Rattle.std.proofs.Common.{◌≡◌, ℕ, suc, zero, ◌+◌, ◌-◌, ◌≤◌, Bool, true, false, List, [], ◌∷◌, ◌++◌, length, refl, ap, ◌∙◌, arith, length-append}
use Rattle.std.specs.Prelude.{filter}
use Rattle.std.proofs.lemmas.Bool.{false≢true}
use Rattle.std.proofs.lemmas.List.{append_assoc, append-nil}
use Rattle.std.proofs.lemmas.List.Elements.{filter-append}
use Rattle.df_walk.specs.declared.Rules.{Rules}
use Rattle.df_walk.specs.declared.Entry.{Entry}
use Rattle.df_walk.specs.declared.Entry.TheVariants.{Branch, Over, Under, Settled, Residue, Cut}
use Rattle.df_walk.specs.Systems.{System}
use Rattle.df_walk.specs.Walks.{Step, entry_at, is_branch, below, walk_from, walk}
use Rattle.df_walk.specs.Paths.{not_before}
use Rattle.df_walk.specs.Remains.{remaining, later_walk, walk_on, IsVisitedFrom, IsVisited, IsStart}

-- the test of a path
abbrev pub on_path : (List Bool → Bool) → Step → Bool
on_path t step = t step.0

-- all entries of a walk stand at extensions of its start
pub walk_passes : (rules : Rules) (s : System) (left : ℕ) (p : List Bool) (t : List Bool → Bool) → ((q : List Bool) → t (p ++ q) ≡ true) → filter (on_path t) (walk_from rules s left p) ≡ walk_from rules s left p
walk_passes rules s zero p t h = let here = rw (append-nil p) at (h []) in rw here
walk_passes rules s (suc left) p t h =
    let here = rw (append-nil p) at (h []) in
    let yes = walk_passes rules s left (p ++ true ∷ []) t (λ q. rw (append_assoc p (true ∷ []) q) (h (true ∷ q))) in
    let no = walk_passes rules s left (p ++ false ∷ []) t (λ q. rw (append_assoc p (false ∷ []) q) (h (false ∷ q))) in
    rw here (ap (λ l. (p, entry_at rules s p) ∷ l) (go (entry_at rules s p) (walk_from rules s left (p ++ true ∷ [])) (walk_from rules s left (p ++ false ∷ [])) yes no))
  where
    go : (e : Entry) (A B : List Step) → filter (on_path t) A ≡ A → filter (on_path t) B ≡ B → filter (on_path t) (below e (A ++ B)) ≡ below e (A ++ B)
    go (Over r) A B a b = refl
    go (Under r) A B a b = refl
    go (Residue r m) A B a b = refl
    go (Cut ws) A B a b = refl
    go Settled A B a b = refl
    go (Branch c) A B a b = filter-append (on_path t) A B ∙ rw (a, b)

pub walk_fails : (rules : Rules) (s : System) (left : ℕ) (p : List Bool) (t : List Bool → Bool) → ((q : List Bool) → t (p ++ q) ≡ false) → filter (on_path t) (walk_from rules s left p) ≡ []
walk_fails rules s zero p t h = let here = rw (append-nil p) at (h []) in rw here
walk_fails rules s (suc left) p t h =
    let here = rw (append-nil p) at (h []) in
    let yes = walk_fails rules s left (p ++ true ∷ []) t (λ q. rw (append_assoc p (true ∷ []) q) (h (true ∷ q))) in
    let no = walk_fails rules s left (p ++ false ∷ []) t (λ q. rw (append_assoc p (false ∷ []) q) (h (false ∷ q))) in
    rw here (go (entry_at rules s p) (walk_from rules s left (p ++ true ∷ [])) (walk_from rules s left (p ++ false ∷ [])) yes no)
  where
    go : (e : Entry) (A B : List Step) → filter (on_path t) A ≡ [] → filter (on_path t) B ≡ [] → filter (on_path t) (below e (A ++ B)) ≡ []
    go (Over r) A B a b = refl
    go (Under r) A B a b = refl
    go (Residue r m) A B a b = refl
    go (Cut ws) A B a b = refl
    go Settled A B a b = refl
    go (Branch c) A B a b = filter-append (on_path t) A B ∙ rw (a, b)

pub not_before_self : (p q : List Bool) → not_before p (p ++ q) ≡ true
not_before_self [] q = refl
not_before_self (true ∷ p) q = not_before_self p q
not_before_self (false ∷ p) q = not_before_self p q

pub not_before_prefix : (p : List Bool) (b : Bool) (q : List Bool) → not_before (p ++ b ∷ q) p ≡ false
not_before_prefix [] b q = refl
not_before_prefix (true ∷ p) b q = not_before_prefix p b q
not_before_prefix (false ∷ p) b q = not_before_prefix p b q

pub not_before_no : (p q r : List Bool) → not_before (p ++ true ∷ q) ((p ++ false ∷ []) ++ r) ≡ true
not_before_no [] q r = refl
not_before_no (true ∷ p) q r = not_before_no p q r
not_before_no (false ∷ p) q r = not_before_no p q r

pub not_before_yes : (p q r : List Bool) → not_before (p ++ false ∷ q) ((p ++ true ∷ []) ++ r) ≡ false
not_before_yes [] q r = refl
not_before_yes (true ∷ p) q r = not_before_yes p q r
not_before_yes (false ∷ p) q r = not_before_yes p q r

-- the walk from a path, whichever way the columns left are counted
pub walk_is : (rules : Rules) (s : System) (p : List Bool) (left : ℕ) → length p + left ≡ (length s.columns) → walk rules s p ≡ walk_from rules s left p
walk_is rules s p left h = let e : (length s.columns) - length p ≡ left = omega arith in ap (λ n. walk_from rules s n p) e

pub below_branch : (e : Entry) (more : List Step) → is_branch e ≡ true → below e more ≡ more
below_branch (Branch c) more h = refl
below_branch Settled more h = absurd (false≢true h)
below_branch (Over r) more h = absurd (false≢true h)
below_branch (Under r) more h = absurd (false≢true h)
below_branch (Residue r m) more h = absurd (false≢true h)
below_branch (Cut ws) more h = absurd (false≢true h)

-- the entries that aren't before a path that the walk comes by
walk_from-not_before : (rules : Rules) (s : System) (left : ℕ) (before p : List Bool) → length before + left ≡ (length s.columns) → length p ≤ left → IsVisitedFrom rules s before p → filter (on_path (not_before (before ++ p))) (walk_from rules s left before) ≡ walk rules s (before ++ p) ++ later_walk rules s before p
walk_from-not_before rules s left before [] long short v =
    rw (append-nil before, append-nil (walk rules s before), walk_is rules s before left long) (walk_passes rules s left before (not_before before) (not_before_self before))
walk_from-not_before rules s zero before (b ∷ p) long short v = absurd (omega arith)
walk_from-not_before rules s (suc left) before (true ∷ p) long short v =
    let t = not_before (before ++ true ∷ p) in
    let A = walk_from rules s left (before ++ true ∷ []) in
    let B = walk_from rules s left (before ++ false ∷ []) in
    let first = rw (append_assoc before (true ∷ []) p) at (walk_from-not_before rules s left (before ++ true ∷ []) p (omega (arith, length-append before (true ∷ []))) (omega arith) v.1) in
    let second = walk_passes rules s left (before ++ false ∷ []) t (not_before_no before p) in
    let joined = filter-append (on_path t) A B ∙ ap (λ l. l ++ filter (on_path t) B) first ∙ ap (λ l. (walk rules s (before ++ true ∷ p) ++ later_walk rules s (before ++ true ∷ []) p) ++ l) second in
    let B_is = walk_is rules s (before ++ false ∷ []) left (omega (arith, length-append before (false ∷ []))) in
    rw (not_before_prefix before true p, below_branch (entry_at rules s before) (A ++ B) v.0, B_is) (joined ∙ append_assoc (walk rules s (before ++ true ∷ p)) (later_walk rules s (before ++ true ∷ []) p) B)
walk_from-not_before rules s (suc left) before (false ∷ p) long short v =
    let t = not_before (before ++ false ∷ p) in
    let A = walk_from rules s left (before ++ true ∷ []) in
    let B = walk_from rules s left (before ++ false ∷ []) in
    let first = walk_fails rules s left (before ++ true ∷ []) t (not_before_yes before p) in
    let second = rw (append_assoc before (false ∷ []) p) at (walk_from-not_before rules s left (before ++ false ∷ []) p (omega (arith, length-append before (false ∷ []))) (omega arith) v.1) in
    rw (not_before_prefix before false p, below_branch (entry_at rules s before) (A ++ B) v.0) (filter-append (on_path t) A B ∙ rw (first, second))

-- what remains of the walk is those steps that aren't before p
pub walk-not_before : (rules : Rules) (s : System) (p : List Bool) → length p ≤ (length s.columns) → IsVisited rules s p → filter (on_path (not_before p)) (walk rules s []) ≡ walk_on rules s p
walk-not_before rules s p short v = rw (walk_is rules s [] (length s.columns) (omega arith)) (walk_from-not_before rules s (length s.columns) [] p (omega arith) short v)

pub remains_is : (rules : Rules) (s : System) (p : List Bool) → IsStart rules s p → remaining rules s p ≡ walk_on rules s p
remains_is rules s p at = walk-not_before rules s p at.short at.visited
