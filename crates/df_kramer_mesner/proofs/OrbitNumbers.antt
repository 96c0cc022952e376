-- The numbers of orbits and columns, and the entries of the system.
use Rattle.std.proofs.Common.{◌≡◌, ℕ, suc, ◌+◌, ◌<◌, Bool, true, false, cond, map, List, [], ◌∷◌, length, refl, sym, ap, ◌∙◌, subst, arith, Some, None, inl, inr, slice_get}
use Rattle.std.proofs.lemmas.List.{length-map, get_or-map}
use Rattle.std.proofs.lemmas.Option.{same_Some}
use Rattle.df_system.proofs.PositiveCells.{entry_of-positive_cells}
use Rattle.df_lists.specs.Membership.{In}
use Rattle.df_lists.specs.Orders.{IsSorted}
use Rattle.df_lists.proofs.MemberLaws.{In-filter, In-filter_gives}
use Rattle.df_lists.proofs.TestLaws.{has_gives}
use Rattle.df_lists.proofs.ListPlaces.{In-slice_get}
use Rattle.df_lists.proofs.SortedLists.{sorted-filter}
use Rattle.df_subsets.specs.Blocks.{before}
use Rattle.df_subsets.specs.Subsets.{place_of}
use Rattle.df_subsets.specs.SetLaws.{AreSets}
use Rattle.df_maps.specs.Laws.{AreGroup}
use Rattle.df_lang.specs.Problems.{Stated}
use Rattle.df_orbits.specs.Laws.{AreRepresentatives, RepresentativesTellOrbits, PlacesAreFound}
use Rattle.df_walk.specs.Systems.{entry, entry_of}
use Rattle.df_kramer_mesner.specs.OrbitSystems.{maps_of_problem, orbits_of, columns_of, targets_of, is_kept, entries_of, cells_of, entry_at, column_at, column_number, orbit_system}
use Rattle.df_kramer_mesner.specs.Laws.{AreNumbered}
use Rattle.df_kramer_mesner.proofs.RowLists.{are_rows}

-- a member stands somewhere
pub In-get : {X : Type 0} (xs : List X) (x : X) → In xs x → (k : ℕ) × (slice_get xs k ≡ Some x)
In-get [] x i = absurd i
In-get (y ∷ xs) x (inl e) = (0, ap Some e)
In-get (y ∷ xs) x (inr i) = let r = In-get xs x i in (suc r.0, r.1)

-- in a list in order a member stands at its place
place_there : PlacesAreFound → (blocks : List (List ℕ)) (b : List ℕ) → IsSorted before blocks → In blocks b → slice_get blocks (place_of b blocks) ≡ Some b
place_there found blocks b s i =
    let at = In-get blocks b i in
    subst (λ k. slice_get blocks k ≡ Some b) (sym (found blocks s at.0 b at.1)) at.1

module _ (sets : AreSets) (tell : RepresentativesTellOrbits) (found : PlacesAreFound) (s : Stated) (A : AreGroup (maps_of_problem s)) where
  are : AreRepresentatives (maps_of_problem s) s.sizes
  are = tell (maps_of_problem s) A s.sizes

  columns_sorted : IsSorted before (columns_of s)
  columns_sorted = sorted-filter before (is_kept s) (orbits_of s) are.sorted

  of_kept : (b : List ℕ) → is_kept s b ≡ true → column_number s b ≡ Some (place_of b (columns_of s))
  of_kept b kept = ap (λ t. cond t (Some (place_of b (columns_of s))) None) kept

  kept_at : (i : ℕ) (b : List ℕ) → In (orbits_of s) b → (t : Bool) → is_kept s b ≡ t → cond t (Some (place_of b (columns_of s))) None ≡ Some i → slice_get (columns_of s) i ≡ Some b
  kept_at i b listed true kept is = subst (λ k. slice_get (columns_of s) k ≡ Some b) (same_Some (place_of b (columns_of s)) i is) (place_there found (columns_of s) b columns_sorted (In-filter (is_kept s) (orbits_of s) b listed kept))
  kept_at i b listed false kept is = absurd (let f = is in cc)

  pub are_numbered : AreNumbered s
  are_numbered = record {
    listed = λ b block. are.listed b block.set (has_gives s.sizes (length b) block.size);
    place = λ b block. place_there found (orbits_of s) _ are.sorted (are.listed b block.set (has_gives s.sizes (length b) block.size));
    alone = λ b c block i. are.alone b c block.set (has_gives s.sizes (length b) block.size) i;
    own = are.own;
    orbit = λ i b at. ap (λ c. place_of c (orbits_of s)) (are.own b (In-slice_get (orbits_of s) i b at)) ∙ found (orbits_of s) are.sorted i b at;
    column = λ i b at. of_kept b (In-filter_gives (is_kept s) (orbits_of s) b (In-slice_get (columns_of s) i b at)).1 ∙ ap Some (found (columns_of s) columns_sorted i b at);
    kept = λ i b listed is. kept_at i b listed (is_kept s b) refl is;
  }

-- the entry of a row is found among the cells of an orbit
pub entry_found : (s : Stated) (b : List ℕ) (row : ℕ) → row < length (targets_of s) → entry_of (cells_of s b) row ≡ entry_at s row b
entry_found s b row h =
    let rows = are_rows s b in
    ap (entry_of (cells_of s b)) {x = row} {y = 0 + row} (omega arith) ∙ entry_of-positive_cells 0 row (entries_of s b)

-- so the entries of the system are those of the definition
pub entry_counted : (s : Stated) (row column : ℕ) → row < length (targets_of s) → column < length (columns_of s) → entry (orbit_system s) row column ≡ entry_at s row (column_at s column)
entry_counted s row column h k =
    let stored = map (cells_of s) (columns_of s) in
    get_or-map (λ cells. entry_of cells row) stored column [] 0 (omega (arith, k, length-map (columns_of s) (cells_of s)))
    ∙ ap (λ cells. entry_of cells row) (get_or-map (cells_of s) (columns_of s) column [] [] k)
    ∙ entry_found s (column_at s column) row h
