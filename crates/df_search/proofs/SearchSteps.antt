-- The entry that is answered where a search stands, and what is left then.
use Rattle.std.proofs.Common.{◌≡◌, ℕ, suc, zero, ◌-◌, ◌≤◌, Bool, true, false, List, [], ◌∷◌, ◌++◌, length, Option, Some, None, refl, sym, ap, ◌∙◌, subst, arith, inl, inr, length-append}
use Rattle.std.specs.Prelude.{IsSome, replicate}
use Rattle.std.proofs.lemmas.List.{append_assoc, append-nil}
use Rattle.std.proofs.lemmas.Bool.{false≢true, true≢false}
use Rattle.df_walk.specs.declared.Rules.{Rules}
use Rattle.df_walk.specs.declared.Entry.{Entry}
use Rattle.df_walk.specs.declared.Entry.TheVariants as entry
use Rattle.df_walk.specs.Systems.{System}
use Rattle.df_walk.specs.Solutions.{yes_vector}
use Rattle.df_walk.specs.Walks.{Step, decided, entry_at, is_branch}
use Rattle.df_walk.specs.Remains.{walk_on, IsVisitedFrom, IsVisited, after_first, turned}
use Rattle.df_walk.proofs.WalkSteps.{walk_on_from, walk_on_first, later_walk-turned, walk_on_over, walk_on_under, walk_on_residue, walk_on_settled, walk_on_branch, branch_leaves}
use Rattle.df_walk.proofs.PaddedPaths.{turned_yes}
use Rattle.df_search.specs.declared.Event.{Event}
use Rattle.df_search.specs.declared.Event.TheVariants.{Branch, Over, Under, Residue, Solution, Spent}
use Rattle.df_search.specs.declared.search.State.{State}
use Rattle.df_search.specs.declared.search.State.TheVariants.{Here, Below, Tried, Past, Solved, Done}
use Rattle.df_search.specs.declared.held_path.Verdict.{Verdict}
use Rattle.df_search.specs.declared.held_path.Verdict.TheVariants as verdict
use Rattle.df_search.specs.HeldPaths.{Held, TurnsTo, as_entry}
use Rattle.df_search.specs.Searches.{Searching, rest_of, chosen_of, search_of, next_path_of, Answers, AdvancesBy, Advances, PassesOver, stopped, ended, place_of, path_at, IsReady, IsFit, IsOnWalk}

-- what is left goes on at the next path
left_is : (st : State) (rules : Rules) (s : System) (p : List Bool) → rest_of st rules s p ≡ walk_on_from rules s [] (next_path_of st p)
left_is Here rules s p = refl
left_is Below rules s p = refl
left_is Tried rules s p = later_walk-turned rules s [] (p ++ true ∷ []) ∙ ap (walk_on_from rules s []) (turned_yes p)
left_is Past rules s p = later_walk-turned rules s [] p
left_is Solved rules s p = later_walk-turned rules s [] p
left_is Done rules s p = refl

-- the walk comes by the path that is one column longer, where it branches
pub visited_more : (rules : Rules) (s : System) (before p : List Bool) (b : Bool) → IsVisitedFrom rules s before p → is_branch (entry_at rules s (before ++ p)) ≡ true → IsVisitedFrom rules s before (p ++ b ∷ [])
visited_more rules s before [] b v h = (rw (append-nil before) at h, tt)
visited_more rules s before (a ∷ p) b v h = (v.0, visited_more rules s (before ++ a ∷ []) p b v.1 (rw (append_assoc before (a ∷ []) p) h))

-- and by the path with its last yes turned to no
visited_turned : (rules : Rules) (s : System) (before p q : List Bool) → turned p ≡ Some q → IsVisitedFrom rules s before p → IsVisitedFrom rules s before q
visited_turned rules s before [] q h v = absurd (let e = h in cc)
visited_turned rules s before (b ∷ p) q h v = go b (turned p) h v (λ r is. visited_turned rules s (before ++ b ∷ []) p r is v.1) refl
  where
    go : (b : Bool) (o : Option (List Bool)) → after_first b o ≡ Some q → IsVisitedFrom rules s before (b ∷ p) → ((r : List Bool) → turned p ≡ Some r → IsVisitedFrom rules s (before ++ b ∷ []) r) → turned p ≡ o → IsVisitedFrom rules s before q
    go b (Some r) h v ih is =
        let e : b ∷ r ≡ q = cc in
        let w : IsVisitedFrom rules s before (b ∷ r) = (v.0, ih r is) in
        subst (λ l. IsVisitedFrom rules s before l) e w
    go true None h v ih is =
        let e : false ∷ [] ≡ q = cc in
        let w : IsVisitedFrom rules s before (false ∷ []) = (v.0, tt) in
        subst (λ l. IsVisitedFrom rules s before l) e w
    go false None h v ih is = absurd (let e = h in cc)

next_visited : (st : State) (rules : Rules) (s : System) (p q : List Bool) → next_path_of st p ≡ Some q → IsVisited rules s p → IsFit st rules s p → IsVisited rules s q
next_visited Here rules s p q h v f = let e : p ≡ q = cc in subst (λ l. IsVisited rules s l) e v
next_visited Below rules s p q h v f = let e : p ++ true ∷ [] ≡ q = cc in subst (λ l. IsVisited rules s l) e (visited_more rules s [] p true v f)
next_visited Tried rules s p q h v f = let e : p ++ false ∷ [] ≡ q = cc in subst (λ l. IsVisited rules s l) e (visited_more rules s [] p false v f)
next_visited Past rules s p q h v f = visited_turned rules s [] p q h v
next_visited Solved rules s p q h v f = visited_turned rules s [] p q h v
next_visited Done rules s p q h v f = absurd (let e = h in cc)

-- the search came to a path
pub record Came (left : List Step) (rules : Rules) (s : System) (q : List Bool) : Type 0 where
  pub left_on : left ≡ walk_on rules s q
  pub visited : IsVisited rules s q

pub came : (st : State) (rules : Rules) (s : System) (p q : List Bool) → IsVisited rules s p → IsFit st rules s p → TurnsTo (next_path_of st p) true q → Came (rest_of st rules s p) rules s q
came st rules s p q visited fit turns = go (next_path_of st p) (left_is st rules s p) (λ r h. next_visited st rules s p r h visited fit) turns refl
  where
    go : (o : Option (List Bool)) → rest_of st rules s p ≡ walk_on_from rules s [] o → ((r : List Bool) → next_path_of st p ≡ Some r → IsVisited rules s r) → TurnsTo o true q → next_path_of st p ≡ o → Came (rest_of st rules s p) rules s q
    go None left seen t is = absurd (true≢false t.0)
    go (Some r) left seen t is = record { left_on = left ∙ ap (walk_on rules s) (sym t.1); visited = subst (λ l. IsVisited rules s l) (sym t.1) (seen r is) }

pub came_none : (st : State) (rules : Rules) (s : System) (p q : List Bool) → TurnsTo (next_path_of st p) false q → (rest_of st rules s p ≡ []) × (q ≡ [])
came_none st rules s p q turns = go (next_path_of st p) (left_is st rules s p) turns
  where
    go : (o : Option (List Bool)) → rest_of st rules s p ≡ walk_on_from rules s [] o → TurnsTo o false q → (rest_of st rules s p ≡ []) × (q ≡ [])
    go None left t = (left, t.1)
    go (Some r) left t = absurd (false≢true t.0)

pub is_branch_is : (e : Entry) → is_branch e ≡ true → (c : ℕ) × (e ≡ entry.Branch c)
is_branch_is (entry.Branch c) h = (c, refl)
is_branch_is entry.Settled h = absurd (false≢true h)
is_branch_is (entry.Over r) h = absurd (false≢true h)
is_branch_is (entry.Under r) h = absurd (false≢true h)
is_branch_is (entry.Residue r m) h = absurd (false≢true h)
is_branch_is (entry.Cut ws) h = absurd (false≢true h)

-- a search that fits its path may go on
pub ready : (st : State) (rules : Rules) (s : System) (p : List Bool) → IsFit st rules s p → IsReady st s p
ready Below rules s p h = let b = is_branch_is (entry_at rules s p) h in (branch_leaves rules s p b.0 b.1).0
ready Tried rules s p h = let b = is_branch_is (entry_at rules s p) h in (branch_leaves rules s p b.0 b.1).0
ready Here rules s p h = tt
ready Past rules s p h = tt
ready Solved rules s p h = tt
ready Done rules s p h = h

module _ (old : Searching) (held : Held) (on : old.rest ≡ walk_on old.rules old.system held.path) (same : held.system ≡ old.system) where
  becomes : (st : State) (more : List Step) (budget after : ℕ) (event : Event) (e : Entry) → old.rest ≡ (held.path, e) ∷ more → AdvancesBy old ((held.path, e) ∷ more) budget event (search_of st old.rules (record { system = old.system; rules = held.rules; path = held.path })) after → Advances old budget event (search_of st old.rules held) after
  becomes st more budget after event e left h =
      let first : AdvancesBy old old.rest budget event (search_of st old.rules (record { system = old.system; rules = held.rules; path = held.path })) after = subst (λ l. AdvancesBy old l budget event (search_of st old.rules (record { system = old.system; rules = held.rules; path = held.path })) after) (sym left) h in
      rw same first

  -- the search that stays
  pub same_search : search_of Here old.rules held ≡ stopped old held.path
  same_search =
      let f : List Step → Searching = λ l. record { system = old.system; rules = old.rules; rest = l; path = held.path; place = Some held.path; chosen = None } in
      rw same (ap f (sym on))

  stays : (e : Entry) (budget : ℕ) → entry_at old.rules old.system held.path ≡ e → ((more : List Step) → AdvancesBy old ((held.path, e) ∷ more) 0 Spent (stopped old held.path) 0) → budget ≡ 0 → Advances old budget Spent (search_of Here old.rules held) 0
  stays e budget is stops none =
      let first = walk_on_first old.rules old.system held.path in
      let left : old.rest ≡ (held.path, e) ∷ first.0 = on ∙ first.1 ∙ ap (λ x. (held.path, x) ∷ first.0) is in
      let h : AdvancesBy old old.rest 0 Spent (stopped old held.path) 0 = subst (λ l. AdvancesBy old l 0 Spent (stopped old held.path) 0) (sym left) (stops first.0) in
      let k : AdvancesBy old old.rest 0 Spent (search_of Here old.rules held) 0 = subst (λ q. AdvancesBy old old.rest 0 Spent q 0) (sym same_search) h in
      subst (λ n. AdvancesBy old old.rest n Spent (search_of Here old.rules held) 0) (sym none) k

  pub advances : (v : Verdict) (budget after : ℕ) (st : State) (event : Event) → as_entry v (length held.path) ≡ entry_at old.rules old.system held.path → Answers v (length held.path) budget st event after → Advances old budget event (search_of st old.rules held) after
  advances (verdict.Over r) budget after st event is a =
      rw (a.0, a.1, a.2) (becomes Past _ budget budget (Over r) (entry.Over r) (on ∙ walk_on_over old.rules old.system held.path r (sym is)) (refl, refl, refl))
  advances (verdict.Under r) budget after st event is a =
      rw (a.0, a.1, a.2) (becomes Past _ budget budget (Under r) (entry.Under r) (on ∙ walk_on_under old.rules old.system held.path r (sym is)) (refl, refl, refl))
  advances (verdict.Residue r m) budget after st event is a =
      rw (a.0, a.1, a.2) (becomes Past _ budget budget (Residue r m) (entry.Residue r m) (on ∙ walk_on_residue old.rules old.system held.path r m (sym is)) (refl, refl, refl))
  advances verdict.Settled budget after st event is (inl a) = rw (a.1, a.2, a.3) (stays entry.Settled budget (sym is) (λ more. (refl, refl, refl)) a.0)
  advances verdict.Settled budget after st event is (inr a) =
      let n : budget ≡ suc after = omega arith in
      rw (a.1, a.2, n) (becomes Solved _ (suc after) after Solution entry.Settled (on ∙ walk_on_settled old.rules old.system held.path (sym is)) (refl, refl, refl))
  advances verdict.Branch budget after st event is (inl a) = rw (a.1, a.2, a.3) (stays (entry.Branch (length held.path)) budget (sym is) (λ more. (refl, refl, refl)) a.0)
  advances verdict.Branch budget after st event is (inr a) =
      let n : budget ≡ suc after = omega arith in
      rw (a.1, a.2, n) (becomes Below _ (suc after) after (Branch (length held.path)) (entry.Branch (length held.path)) (on ∙ walk_on_branch old.rules old.system held.path (length held.path) (sym is)) (refl, refl, refl))

-- nothing is left
pub same_end : (old : Searching) (held : Held) → held.system ≡ old.system → held.path ≡ [] → search_of Done old.rules held ≡ ended old
same_end old held same none = rw (same, none) refl

-- what is left where a search may be asked for its place
pub asked_on : (st : State) (rules : Rules) (s : System) (p : List Bool) → IsSome (place_of st p) → rest_of st rules s p ≡ walk_on rules s p
asked_on Here rules s p h = refl
asked_on Below rules s p h = absurd (let e = h in cc)
asked_on Tried rules s p h = absurd (let e = h in cc)
asked_on Past rules s p h = absurd (let e = h in cc)
asked_on Solved rules s p h = absurd (let e = h in cc)
asked_on Done rules s p h = absurd (let e = h in cc)

-- its path is then the one that is held
pub asked_path : (st : State) (p : List Bool) → IsSome (place_of st p) → path_at st p ≡ p
asked_path Here p h = refl
asked_path Below p h = refl
asked_path Tried p h = absurd (let e = h in cc)
asked_path Past p h = refl
asked_path Solved p h = refl
asked_path Done p h = refl

-- which is never longer
pub path_longer : (st : State) (p : List Bool) → length p ≤ length (path_at st p)
path_longer Here p = omega arith
path_longer Below p = omega arith
path_longer Tried p = omega (arith, length-append p (true ∷ []))
path_longer Past p = omega arith
path_longer Solved p = omega arith
path_longer Done p = omega arith

-- it may be asked at another path too, and fits it
pub asked_again : (st : State) (p q : List Bool) → IsSome (place_of st p) → IsSome (place_of st q)
asked_again Here p q h = refl
asked_again Below p q h = absurd (let e = h in cc)
asked_again Tried p q h = absurd (let e = h in cc)
asked_again Past p q h = absurd (let e = h in cc)
asked_again Solved p q h = absurd (let e = h in cc)
asked_again Done p q h = absurd (let e = h in cc)

pub asked_fit : (st : State) (rules : Rules) (s : System) (p q : List Bool) → IsSome (place_of st p) → IsFit st rules s q
asked_fit Here rules s p q h = tt
asked_fit Below rules s p q h = absurd (let e = h in cc)
asked_fit Tried rules s p q h = absurd (let e = h in cc)
asked_fit Past rules s p q h = absurd (let e = h in cc)
asked_fit Solved rules s p q h = absurd (let e = h in cc)
asked_fit Done rules s p q h = absurd (let e = h in cc)

-- and its path is the one that is held
pub answers_path : (v : Verdict) (column budget after : ℕ) (st : State) (event : Event) (p : List Bool) → Answers v column budget st event after → path_at st p ≡ p
answers_path (verdict.Over r) column budget after st event p a = rw a.0 refl
answers_path (verdict.Under r) column budget after st event p a = rw a.0 refl
answers_path (verdict.Residue r m) column budget after st event p a = rw a.0 refl
answers_path verdict.Settled column budget after st event p (inl a) = rw a.2 refl
answers_path verdict.Settled column budget after st event p (inr a) = rw a.1 refl
answers_path verdict.Branch column budget after st event p (inl a) = rw a.2 refl
answers_path verdict.Branch column budget after st event p (inr a) = rw a.1 refl

-- a row is over with the next yes, which is told without taking it
pub tried : (rules : Rules) (held : Held) (row : ℕ) → entry_at rules held.system (held.path ++ true ∷ []) ≡ entry.Over row → PassesOver (search_of Below rules held) (search_of Tried rules held) row
tried rules held row is = record { first = walk_on_over rules held.system (held.path ++ true ∷ []) row is; same = refl }

pub over_advances : {q new : Searching} {row : ℕ} (budget : ℕ) → PassesOver q new row → Advances q budget (Over row) new budget
over_advances {q} {new} {row} budget passes =
    subst (λ l. AdvancesBy q l budget (Over row) new budget) (sym passes.first) (refl, passes.same, refl)

-- the search goes on from there
pub on_walk : (rules : Rules) (held : Held) (v : Verdict) (budget after : ℕ) (st : State) (event : Event) → IsVisited rules held.system held.path → as_entry v (length held.path) ≡ entry_at rules held.system held.path → Answers v (length held.path) budget st event after → IsOnWalk rules held st
on_walk rules held (verdict.Over r) budget after st event seen is a = record { visited = seen; fit = rw a.0 tt }
on_walk rules held (verdict.Under r) budget after st event seen is a = record { visited = seen; fit = rw a.0 tt }
on_walk rules held (verdict.Residue r m) budget after st event seen is a = record { visited = seen; fit = rw a.0 tt }
on_walk rules held verdict.Settled budget after st event seen is (inl a) = record { visited = seen; fit = rw a.2 tt }
on_walk rules held verdict.Settled budget after st event seen is (inr a) = record { visited = seen; fit = rw a.1 tt }
on_walk rules held verdict.Branch budget after st event seen is (inl a) = record { visited = seen; fit = rw a.2 tt }
on_walk rules held verdict.Branch budget after st event seen is (inr a) = record { visited = seen; fit = rw a.1 (ap is_branch (sym is)) }

yes_vector-none : (n : ℕ) → yes_vector n [] ≡ replicate n false
yes_vector-none zero = refl
yes_vector-none (suc n) = ap (λ x. false ∷ x) (yes_vector-none n)

yes_vector-decided : (n : ℕ) (q : List Bool) → length q ≤ n → yes_vector n (decided q) ≡ q ++ replicate (n - length q) false
yes_vector-decided n [] h = rw (yes_vector-none n) (ap (λ k. replicate k false) (let e : n ≡ n - 0 = omega arith in e))
yes_vector-decided zero (b ∷ q) h = absurd (omega arith)
yes_vector-decided (suc n) (b ∷ q) h = ap (λ x. b ∷ x) (yes_vector-decided n q (omega arith) ∙ ap (λ k. q ++ replicate k false) (let e : n - length q ≡ suc n - suc (length q) = omega arith in e))

-- the solution that was answered is the path, with no for the columns past it
pub chosen_is : (st : State) (s : System) (p : List Bool) → IsSome (chosen_of st s p) → length p ≤ length s.columns → chosen_of st s p ≡ Some (p ++ replicate (length s.columns - length p) false)
chosen_is Here s p h short = absurd (let e = h in cc)
chosen_is Below s p h short = absurd (let e = h in cc)
chosen_is Tried s p h short = absurd (let e = h in cc)
chosen_is Past s p h short = absurd (let e = h in cc)
chosen_is Solved s p h short = ap Some (yes_vector-decided (length s.columns) p short)
chosen_is Done s p h short = absurd (let e = h in cc)
