-- What an answer of `advance` says, by the answer.
use Rattle.std.proofs.Common.{◌≡◌, ℕ, suc, zero, ◌+◌, ◌≤◌, Bool, true, List, [], ◌∷◌, ◌++◌, length, Some, refl, sym, ap, ◌∙◌, subst, arith}
use Rattle.std.specs.Prelude.{IsSome}
use Rattle.df_walk.specs.declared.Rules.{Rules}
use Rattle.df_walk.specs.declared.Entry.{Entry}
use Rattle.df_walk.specs.declared.Entry.TheVariants as entry
use Rattle.df_walk.specs.Systems.{IsSystem}
use Rattle.df_walk.specs.Walks.{Step, nodes_in}
use Rattle.df_walk.specs.Remains.{IsVisited}
use Rattle.df_walk.proofs.WalkOrder.{remains_is}
use Rattle.df_walk.proofs.RestSolutions.{solutions_in-walk_on}
use Rattle.df_walk.proofs.WalkNodes.{nodes_in-walk_on}
use Rattle.df_search.specs.declared.Event.{Event}
use Rattle.df_search.specs.declared.Event.TheVariants.{Over, Solution, Spent, Finished}
use Rattle.df_search.specs.declared.search.State.{State}
use Rattle.df_search.specs.declared.search.State.TheVariants.{Here, Below, Tried, Past, Solved, Done}
use Rattle.df_search.specs.HeldPaths.{Held}
use Rattle.df_search.specs.Searches.{Searching, StandsBefore, PassesOver, AdvancesBy, Advances, Gives, IsAnswer, place_of, path_at, search_of, answered, stopped}
use Rattle.df_search.proofs.PassedSteps.{passes_of, none_passed, finds_next, stops, ends}

-- a search that may be asked for its place has the rest and the load of its path
pub stands : (st : State) (rules : Rules) (held : Held) (p : List Bool) → IsSystem held.system → length held.path ≤ length held.system.columns → IsVisited rules held.system held.path → place_of st held.path ≡ Some p → StandsBefore (search_of st rules held) (path_at st held.path)
stands Here rules held p ok short seen h = record {
  place = refl;
  start = record { short = short; visited = seen };
  entries = sym (remains_is rules held.system held.path (record { short = short; visited = seen }));
  goes_on = refl;
  solutions = solutions_in-walk_on rules held.system held.path ok short;
  nodes = nodes_in-walk_on rules held.system held.path short seen;
}
stands Below rules held p ok short seen h = absurd (let e = h in cc)
stands Tried rules held p ok short seen h = absurd (let e = h in cc)
stands Past rules held p ok short seen h = absurd (let e = h in cc)
stands Solved rules held p ok short seen h = absurd (let e = h in cc)
stands Done rules held p ok short seen h = absurd (let e = h in cc)

pub stands_asked : (st : State) (rules : Rules) (held : Held) → IsSystem held.system → length held.path ≤ length held.system.columns → IsVisited rules held.system held.path → IsSome (place_of st held.path) → StandsBefore (search_of st rules held) held.path
stands_asked Here rules held ok short seen h = stands Here rules held held.path ok short seen refl
stands_asked Below rules held ok short seen h = absurd (let e = h in cc)
stands_asked Tried rules held ok short seen h = absurd (let e = h in cc)
stands_asked Past rules held ok short seen h = absurd (let e = h in cc)
stands_asked Solved rules held ok short seen h = absurd (let e = h in cc)
stands_asked Done rules held ok short seen h = absurd (let e = h in cc)

-- the first entry is answered
gives_one : {q new : Searching} {b after : ℕ} (p : List Bool) (e : Entry) (more : List Step) → q.rest ≡ (p, e) ∷ more → new.rest ≡ more → new.path ≡ p → new.system ≡ q.system → new.rules ≡ q.rules → b ≡ length (nodes_in ((p, e) ∷ [])) + after → Gives q b e new after
gives_one {q} {new} {b} {after} p e more is left path system rules paid =
    let first : q.rest ≡ (new.path, e) ∷ new.rest = rw (path, left) is in
    let pays : b ≡ length (nodes_in ((new.path, e) ∷ [])) + after = subst (λ r. b ≡ length (nodes_in ((r, e) ∷ [])) + after) (sym path) paid in
    record { first = first; passes = passes_of ((new.path, e) ∷ []) first refl pays system rules; paid = pays }

gives_answered : {q new : Searching} {b after : ℕ} (p : List Bool) (e : Entry) (more : List Step) → q.rest ≡ (p, e) ∷ more → new ≡ answered q p more → b ≡ length (nodes_in ((p, e) ∷ [])) + after → Gives q b e new after
gives_answered p e more is new_is paid = gives_one p e more is (ap (λ n. n.rest) new_is) (ap (λ n. n.path) new_is) (ap (λ n. n.system) new_is) (ap (λ n. n.rules) new_is) paid

-- the search stays
stays : (q new : Searching) (after : ℕ) (e : Event) (p : List Bool) → e ≡ Spent → new ≡ stopped q p → Advances q 0 Spent new after → (new.place ≡ Some new.path → StandsBefore new new.path) → IsAnswer q 0 e new after
stays q new after e p is new_is h at_place =
    let here : new.place ≡ Some new.path = ap (λ n. n.place) new_is ∙ ap Some (sym (ap (λ n. n.path) new_is)) in
    rw is (record { same = ap (λ n. n.rest) new_is; stops = stops q new 0 after (none_passed q 0) h (at_place here) })

pub answer_of : (q new : Searching) (b after : ℕ) (e : Event) → Advances q b e new after → (new.place ≡ Some new.path → StandsBefore new new.path) → IsAnswer q b e new after
answer_of q new b after e a at_place = go q.rest b refl a
  where
    go : (l : List Step) (b : ℕ) → q.rest ≡ l → AdvancesBy q l b e new after → IsAnswer q b e new after
    go [] b is a =
        let h : Advances q b Finished new after = subst (λ l. AdvancesBy q l b Finished new after) (sym is) (refl, a.1, a.2) in
        rw a.0 (record { none = is; ends = (ends q new b after (none_passed q b) h).0 })
    go ((p, entry.Over r) ∷ more) b is a = rw a.0 (gives_answered p (entry.Over r) more is a.1 (omega (arith, a.2)))
    go ((p, entry.Under r) ∷ more) b is a = rw a.0 (gives_answered p (entry.Under r) more is a.1 (omega (arith, a.2)))
    go ((p, entry.Residue r m) ∷ more) b is a = rw a.0 (gives_answered p (entry.Residue r m) more is a.1 (omega (arith, a.2)))
    go ((p, entry.Cut ws) ∷ more) b is a = absurd a
    go ((p, entry.Settled) ∷ more) zero is a =
        let h : Advances q 0 Spent new after = subst (λ l. AdvancesBy q l 0 Spent new after) (sym is) (refl, a.1, a.2) in
        stays q new after e p a.0 a.1 h at_place
    go ((p, entry.Settled) ∷ more) (suc b) is a =
        let h : Advances q (suc b) Solution new after = subst (λ l. AdvancesBy q l (suc b) Solution new after) (sym is) (refl, a.1, a.2) in
        rw a.0 (record {
          gives = gives_one p entry.Settled more is (ap (λ n. n.rest) a.1) (ap (λ n. n.path) a.1) (ap (λ n. n.system) a.1) (ap (λ n. n.rules) a.1) (omega (arith, a.2));
          finds = (finds_next q new (suc b) after (none_passed q (suc b)) h).finds;
        })
    go ((p, entry.Branch c) ∷ more) zero is a =
        let h : Advances q 0 Spent new after = subst (λ l. AdvancesBy q l 0 Spent new after) (sym is) (refl, a.1, a.2) in
        stays q new after e p a.0 a.1 h at_place
    go ((p, entry.Branch c) ∷ more) (suc b) is a = rw a.0 (gives_answered p (entry.Branch c) more is a.1 (omega (arith, a.2)))

-- a row that is over with the next yes was told
pub over_answer : {q new : Searching} {row : ℕ} (b : ℕ) → PassesOver q new row → IsAnswer q b (Over row) new b
over_answer {q} {new} {row} b passes = gives_answered (q.path ++ true ∷ []) (entry.Over row) new.rest passes.first passes.same (omega arith)
