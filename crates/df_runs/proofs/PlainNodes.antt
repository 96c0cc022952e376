-- By the plain rules no fewer paths are nodes.
use Rattle.std.proofs.Common.{◌≡◌, ℕ, Bool, true, false, not, List, [], ◌∷◌, refl}
use Rattle.std.specs.Prelude.{◌&&◌}
use Rattle.std.specs.List.{list_all}
use Rattle.std.proofs.lemmas.Bool.{and_parts}
use Rattle.df_walk.specs.declared.Rules.TheVariants.{Plain, Divisor}
use Rattle.df_walk.specs.Systems.{System, rows_of}
use Rattle.df_walk.specs.Assignments.{Decisions, is_over, is_under, has_residue}
use Rattle.df_walk.specs.Walks.{decided}
use Rattle.df_walk.specs.Paths.{is_live_row, is_live, settled_before, IsNode}

first_two : (a b c : Bool) → (a && b && c) ≡ true → (a && b) ≡ true
first_two true true c h = refl
first_two true false c h = h
first_two false b c h = h

rows_live : (s : System) (ds : Decisions) (rows : List ℕ) → list_all (is_live_row Divisor s ds) rows ≡ true → list_all (is_live_row Plain s ds) rows ≡ true
rows_live s ds [] h = refl
rows_live s ds (r ∷ rows) h =
    let parts = and_parts (is_live_row Divisor s ds r) (list_all (is_live_row Divisor s ds) rows) h in
    let here = first_two (not (is_over s ds r)) (not (is_under s ds r)) (not (has_residue s ds r)) parts.0 in
    let more = rows_live s ds rows parts.1 in
    rw (here, more)

pub plain_node : (s : System) (p : List Bool) → IsNode Divisor s p → IsNode Plain s p
plain_node s p h =
    let parts = and_parts (is_live Divisor s (decided p)) (not (settled_before s p)) h.node in
    let live = rows_live s (decided p) (rows_of s) parts.0 in
    let unsettled = parts.1 in
    record { short = h.short; node = rw (live, unsettled) }
