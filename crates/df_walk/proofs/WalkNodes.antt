-- The walk has the nodes, in order, and what remains has the load.
use Rattle.std.proofs.Common.{◌≡◌, ℕ, suc, zero, ◌≤◌, Bool, true, false, not, cond, List, [], ◌∷◌, ◌++◌, length, map, Some, None, refl, sym, ap, ◌∙◌, arith}
use Rattle.std.specs.Prelude.{filter, ◌&&◌, ◌||◌}
use Rattle.std.proofs.lemmas.List.{append_assoc, append-nil, map-append}
use Rattle.std.proofs.lemmas.Simd.{map-map}
use Rattle.std.proofs.lemmas.List.Elements.{filter_agree, filter-append, filter_map-append}
use Rattle.std.proofs.Math.Bool.{or_assoc, and-false, and-true}
use Rattle.df_lists.proofs.TestLaws.{filter-map, filter_never}
use Rattle.df_walk.specs.declared.Rules.{Rules}
use Rattle.df_walk.specs.declared.Entry.{Entry}
use Rattle.df_walk.specs.declared.Entry.TheVariants.{Branch, Over, Under, Settled, Residue, Cut}
use Rattle.df_walk.specs.Systems.{System}
use Rattle.df_walk.specs.Assignments.{is_settled}
use Rattle.df_walk.specs.Walks.{Step, decided, entry_at, below, walk_from, walk, node_of, nodes_in}
use Rattle.df_walk.specs.Paths.{is_live, settled_between, is_node, paths, nodes, not_before, load}
use Rattle.df_walk.specs.Remains.{walk_on, IsVisited}
use Rattle.df_walk.proofs.EntryMeanings.{Says, entry_says}
use Rattle.df_walk.proofs.DeadPaths.{over_dead, under_dead, residue_dead, counts, live_counts}
use Rattle.df_walk.proofs.WalkOrder.{on_path, walk_is, walk-not_before}

-- a settled proper prefix of the joined path is one of the first path or comes later
settled_between-append : (s : System) (before p q : List Bool) → settled_between s before (p ++ q) ≡ (settled_between s before p || settled_between s (before ++ p) q)
settled_between-append s before [] q = rw (append-nil before)
settled_between-append s before (b ∷ p) q =
    let later = rw (append_assoc before (b ∷ []) p) at (settled_between-append s (before ++ b ∷ []) p q) in
    rw later (sym (or_assoc (is_settled s (decided before)) (settled_between s (before ++ b ∷ []) p) (settled_between s (before ++ b ∷ p) q)))

-- no path passes a test that always fails
filter_none : {X : Type 0} (t : X → Bool) (xs : List X) → ((x : X) → t x ≡ false) → filter t xs ≡ []
filter_none t xs h = filter_agree t (λ x. false) h xs ∙ filter_never xs

module _ (rules : Rules) (s : System) (p : List Bool) (v : settled_between s [] p ≡ false) where
  node_is : (q : List Bool) → is_node rules s (p ++ q) ≡ (is_live rules s (decided (p ++ q)) && not (settled_between s p q))
  node_is q = let e = settled_between-append s [] p q in rw (e, v)

  node_here : (e : Entry) → Says rules s p e → is_node rules s (p ++ []) ≡ counts e
  node_here e h = rw (append-nil p, v, live_counts rules s p e h) (and-true (counts e))

  dead : ((q : List Bool) → is_live rules s (decided (p ++ q)) ≡ false) → (xs : List (List Bool)) → filter (λ q. is_node rules s (p ++ q)) xs ≡ []
  dead h xs = filter_none (λ q. is_node rules s (p ++ q)) xs (λ q. rw (h q))

  ended : is_settled s (decided p) ≡ true → (b : Bool) (q : List Bool) → is_node rules s (p ++ b ∷ q) ≡ false
  ended h b q = node_is (b ∷ q) ∙ rw h (and-false (is_live rules s (decided (p ++ b ∷ q))))

  -- the nodes one column further
  further : (b : Bool) (xs : List (List Bool)) → map (λ q. (p ++ b ∷ []) ++ q) (filter (λ q. is_node rules s ((p ++ b ∷ []) ++ q)) xs) ≡ map (λ q. p ++ q) (filter (λ q. is_node rules s (p ++ q)) (map (λ q. b ∷ q) xs))
  further b xs = rw (filter-map) (simp (append_assoc, map-map))

  both_further : (xs : List (List Bool)) → map (λ q. p ++ q) (filter (λ q. is_node rules s (p ++ q)) (map (λ q. true ∷ q) xs ++ map (λ q. false ∷ q) xs)) ≡ map (λ q. (p ++ true ∷ []) ++ q) (filter (λ q. is_node rules s ((p ++ true ∷ []) ++ q)) xs) ++ map (λ q. (p ++ false ∷ []) ++ q) (filter (λ q. is_node rules s ((p ++ false ∷ []) ++ q)) xs)
  both_further xs =
      ap (map (λ q. p ++ q)) (filter-append (λ q. is_node rules s (p ++ q)) (map (λ q. true ∷ q) xs) (map (λ q. false ∷ q) xs)) ∙ map-append (λ q. p ++ q) (filter (λ q. is_node rules s (p ++ q)) (map (λ q. true ∷ q) xs)) (filter (λ q. is_node rules s (p ++ q)) (map (λ q. false ∷ q) xs)) ∙ rw (further true xs, further false xs)

  none_further : is_settled s (decided p) ≡ true → (xs : List (List Bool)) → filter (λ q. is_node rules s (p ++ q)) (map (λ q. true ∷ q) xs ++ map (λ q. false ∷ q) xs) ≡ []
  none_further h xs =
      filter-append (λ q. is_node rules s (p ++ q)) (map (λ q. true ∷ q) xs) (map (λ q. false ∷ q) xs) ∙ rw (filter-map (λ q. is_node rules s (p ++ q)) (λ q. true ∷ q) xs, filter-map (λ q. is_node rules s (p ++ q)) (λ q. false ∷ q) xs, filter_none (λ q. is_node rules s (p ++ true ∷ q)) xs (ended h true), filter_none (λ q. is_node rules s (p ++ false ∷ q)) xs (ended h false))

  goes_on : settled_between s [] p ≡ false → is_settled s (decided p) ≡ false → (b : Bool) → settled_between s [] (p ++ b ∷ []) ≡ false
  goes_on v h b = let e = settled_between-append s [] p (b ∷ []) in rw (e, v, h)

-- the nodes of the walk from p, in order
nodes_in-walk_from : (rules : Rules) (s : System) (left : ℕ) (p : List Bool) → settled_between s [] p ≡ false → nodes_in (walk_from rules s left p) ≡ map (λ q. p ++ q) (filter (λ q. is_node rules s (p ++ q)) (paths left))
nodes_in-walk_from rules s zero p v = go (entry_at rules s p) (entry_says rules s p)
  where
    go : (e : Entry) → Says rules s p e → nodes_in ((p, e) ∷ []) ≡ map (λ q. p ++ q) (filter (λ q. is_node rules s (p ++ q)) (paths 0))
    go (Over r) h = rw (node_here rules s p v (Over r) h)
    go (Under r) h = rw (node_here rules s p v (Under r) h)
    go (Residue r m) h = rw (node_here rules s p v (Residue r m) h)
    go (Cut ws) h = absurd h
    go Settled h = rw (node_here rules s p v Settled h, append-nil p)
    go (Branch c) h = rw (node_here rules s p v (Branch c) h, append-nil p)
nodes_in-walk_from rules s (suc left) p v =
    go (entry_at rules s p) (entry_says rules s p) (λ h. nodes_in-walk_from rules s left (p ++ true ∷ []) h) (λ h. nodes_in-walk_from rules s left (p ++ false ∷ []) h)
  where
    A : List Step
    A = walk_from rules s left (p ++ true ∷ [])

    B : List Step
    B = walk_from rules s left (p ++ false ∷ [])

    below_are : (b : Bool) → List (List Bool)
    below_are b = map (λ q. (p ++ b ∷ []) ++ q) (filter (λ q. is_node rules s ((p ++ b ∷ []) ++ q)) (paths left))

    go : (e : Entry) → Says rules s p e → (settled_between s [] (p ++ true ∷ []) ≡ false → nodes_in A ≡ map (λ q. (p ++ true ∷ []) ++ q) (filter (λ q. is_node rules s ((p ++ true ∷ []) ++ q)) (paths left))) → (settled_between s [] (p ++ false ∷ []) ≡ false → nodes_in B ≡ map (λ q. (p ++ false ∷ []) ++ q) (filter (λ q. is_node rules s ((p ++ false ∷ []) ++ q)) (paths left))) → nodes_in ((p, e) ∷ below e (A ++ B)) ≡ map (λ q. p ++ q) (filter (λ q. is_node rules s (p ++ q)) (paths (suc left)))
    go (Over r) h a b = rw (dead rules s p v (λ q. over_dead rules s p q r h) (paths (suc left)))
    go (Under r) h a b = rw (dead rules s p v (λ q. under_dead rules s p q r h) (paths (suc left)))
    go (Residue r m) h a b = rw (dead rules s p v (λ q. residue_dead rules s p q r m h) (paths (suc left)))
    go (Cut ws) h a b = absurd h
    go Settled h a b = rw (node_here rules s p v Settled h, none_further rules s p v h (paths left), append-nil p)
    go (Branch c) h a b =
        let first = a (goes_on rules s p v v h.4 true) in
        let second = b (goes_on rules s p v v h.4 false) in
        rw (node_here rules s p v (Branch c) h, append-nil p, filter_map-append node_of A B, first, second, both_further rules s p v (paths left))

-- the nodes of the whole walk, in order
pub nodes_in-walk : (rules : Rules) (s : System) → nodes_in (walk rules s []) ≡ nodes rules s
nodes_in-walk rules s = rw (walk_is rules s [] (length s.columns) (omega arith)) (nodes_in-walk_from rules s (length s.columns) [] refl ∙ map_id (nodes rules s))
  where
    map_id : (xs : List (List Bool)) → map (λ q. q) xs ≡ xs
    map_id [] = refl
    map_id (x ∷ xs) = ap (λ l. x ∷ l) (map_id xs)

-- an entry that counts no node, kept or not
passes_over : (b : Bool) (kept : List Step) (e : Step) → node_of e ≡ None → nodes_in (cond b (e ∷ kept) kept) ≡ nodes_in kept
passes_over true kept e h = rw h
passes_over false kept e h = refl

-- an entry that counts one
keeps_node : (b : Bool) (kept : List Step) (e : Step) (p : List Bool) → node_of e ≡ Some p → nodes_in (cond b (e ∷ kept) kept) ≡ cond b (p ∷ nodes_in kept) (nodes_in kept)
keeps_node true kept e p h = rw h
keeps_node false kept e p h = refl

-- a filter by paths, of entries and of their nodes
nodes_in-filter : (t : List Bool → Bool) (entries : List Step) → nodes_in (filter (on_path t) entries) ≡ filter t (nodes_in entries)
nodes_in-filter t [] = refl
nodes_in-filter t ((p, Over r) ∷ entries) = passes_over (t p) (filter (on_path t) entries) (p, Over r) refl ∙ nodes_in-filter t entries
nodes_in-filter t ((p, Under r) ∷ entries) = passes_over (t p) (filter (on_path t) entries) (p, Under r) refl ∙ nodes_in-filter t entries
nodes_in-filter t ((p, Residue r m) ∷ entries) = passes_over (t p) (filter (on_path t) entries) (p, Residue r m) refl ∙ nodes_in-filter t entries
nodes_in-filter t ((p, Cut ws) ∷ entries) = passes_over (t p) (filter (on_path t) entries) (p, Cut ws) refl ∙ nodes_in-filter t entries
nodes_in-filter t ((p, Settled) ∷ entries) = keeps_node (t p) (filter (on_path t) entries) (p, Settled) p refl ∙ ap (λ l. cond (t p) (p ∷ l) l) (nodes_in-filter t entries)
nodes_in-filter t ((p, Branch c) ∷ entries) = keeps_node (t p) (filter (on_path t) entries) (p, Branch c) p refl ∙ ap (λ l. cond (t p) (p ∷ l) l) (nodes_in-filter t entries)

-- what is left of the walk has the load's nodes
pub nodes_in-walk_on : (rules : Rules) (s : System) (p : List Bool) → length p ≤ (length s.columns) → IsVisited rules s p → length (nodes_in (walk_on rules s p)) ≡ load rules s p
nodes_in-walk_on rules s p short v =
    ap (λ l. length (nodes_in l)) (sym (walk-not_before rules s p short v)) ∙ ap length (nodes_in-filter (not_before p) (walk rules s []) ∙ ap (filter (not_before p)) (nodes_in-walk rules s))
