-- The walk comes by each node, and a path that it comes by is a node where its entry counts as one.
use Rattle.std.proofs.Common.{◌≡◌, Bool, true, false, not, List, [], ◌∷◌, ◌++◌, Some, refl, sym, ◌∙◌}
use Rattle.std.proofs.lemmas.Bool.{false≢true, and_parts, or_parts, not-true}
use Rattle.std.proofs.lemmas.List.{append_assoc}
use Rattle.df_walk.specs.declared.Rules.{Rules}
use Rattle.df_walk.specs.declared.Entry.{Entry}
use Rattle.df_walk.specs.declared.Entry.TheVariants.{Branch, Over, Under, Settled, Residue, Cut}
use Rattle.df_walk.specs.Systems.{System}
use Rattle.df_walk.specs.Assignments.{is_settled}
use Rattle.df_walk.specs.Walks.{decided, entry_at, is_branch, node_of}
use Rattle.df_walk.specs.Paths.{is_live, settled_between, settled_before, is_node, IsNode}
use Rattle.df_walk.specs.Remains.{IsVisitedFrom, IsVisited, IsStart}
use Rattle.df_walk.proofs.EntryMeanings.{Says, entry_says}
use Rattle.df_walk.proofs.DeadPaths.{over_dead, under_dead, residue_dead, counts, live_counts}

branches : (rules : Rules) (s : System) (before : List Bool) (b : Bool) (p : List Bool) (e : Entry) → Says rules s before e → is_live rules s (decided (before ++ b ∷ p)) ≡ true → is_settled s (decided before) ≡ false → is_branch e ≡ true
branches rules s before b p (Over row) h live unsettled = absurd (false≢true (sym (over_dead rules s before (b ∷ p) row h) ∙ live))
branches rules s before b p (Under row) h live unsettled = absurd (false≢true (sym (under_dead rules s before (b ∷ p) row h) ∙ live))
branches rules s before b p (Residue row m) h live unsettled = absurd (false≢true (sym (residue_dead rules s before (b ∷ p) row m h) ∙ live))
branches rules s before b p (Cut ws) h live unsettled = absurd h
branches rules s before b p Settled h live unsettled = absurd (false≢true (sym unsettled ∙ h))
branches rules s before b p (Branch column) h live unsettled = refl

live_visited : (rules : Rules) (s : System) (before p : List Bool) → is_live rules s (decided (before ++ p)) ≡ true → settled_between s before p ≡ false → IsVisitedFrom rules s before p
live_visited rules s before [] live unsettled = tt
live_visited rules s before (b ∷ p) live unsettled =
    let parts = or_parts (is_settled s (decided before)) (settled_between s (before ++ b ∷ []) p) unsettled in
    (branches rules s before b p (entry_at rules s before) (entry_says rules s before) live parts.0, live_visited rules s (before ++ b ∷ []) p (rw (append_assoc before (b ∷ []) p) live) parts.1)

pub node_visited : (rules : Rules) (s : System) (p : List Bool) → is_node rules s p ≡ true → IsVisited rules s p
node_visited rules s p node =
    let parts = and_parts (is_live rules s (decided p)) (not (settled_before s p)) node in
    live_visited rules s [] p parts.0 (not-true (settled_before s p) parts.1)

pub start_of : (rules : Rules) (s : System) (p : List Bool) → IsNode rules s p → IsStart rules s p
start_of rules s p at = record { short = at.short; visited = node_visited rules s p at.node }

branch_unsettled : (rules : Rules) (s : System) (p : List Bool) (e : Entry) → Says rules s p e → is_branch e ≡ true → is_settled s (decided p) ≡ false
branch_unsettled rules s p (Over row) h branch = absurd (false≢true branch)
branch_unsettled rules s p (Under row) h branch = absurd (false≢true branch)
branch_unsettled rules s p (Residue row m) h branch = absurd (false≢true branch)
branch_unsettled rules s p (Cut ws) h branch = absurd (false≢true branch)
branch_unsettled rules s p Settled h branch = absurd (false≢true branch)
branch_unsettled rules s p (Branch column) h branch = h.4

unsettled_between : (rules : Rules) (s : System) (before p : List Bool) → IsVisitedFrom rules s before p → settled_between s before p ≡ false
unsettled_between rules s before [] v = refl
unsettled_between rules s before (b ∷ p) v =
    let here = branch_unsettled rules s before (entry_at rules s before) (entry_says rules s before) v.0 in
    rw (here, unsettled_between rules s (before ++ b ∷ []) p v.1)

-- no proper prefix of a path that the walk comes by is settled
pub visited_unsettled : (rules : Rules) (s : System) (p : List Bool) → IsVisited rules s p → settled_before s p ≡ false
visited_unsettled rules s p v = unsettled_between rules s [] p v

-- an entry that counts as a node
counted : (p : List Bool) (e : Entry) → node_of (p, e) ≡ Some p → counts e ≡ true
counted p (Over row) h = absurd (let e = h in cc)
counted p (Under row) h = absurd (let e = h in cc)
counted p (Residue row m) h = absurd (let e = h in cc)
counted p (Cut ws) h = absurd (let e = h in cc)
counted p Settled h = refl
counted p (Branch column) h = refl

pub node_of_start : (rules : Rules) (s : System) (p : List Bool) → IsStart rules s p → node_of (p, entry_at rules s p) ≡ Some p → IsNode rules s p
node_of_start rules s p at counts_here =
    let live : is_live rules s (decided p) ≡ true = live_counts rules s p (entry_at rules s p) (entry_says rules s p) ∙ counted p (entry_at rules s p) counts_here in
    record { short = at.short; node = rw (live, visited_unsettled rules s p at.visited) refl }
