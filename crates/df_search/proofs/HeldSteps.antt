-- A path that is held grows by a yes or by no's, and goes back to its last yes.
use Rattle.std.proofs.Common.{◌≡◌, ℕ, ◌+◌, ◌<◌, ◌≤◌, Bool, true, false, List, [], ◌∷◌, ◌++◌, length, set, take, Some, None, refl, sym, ap, subst, arith, length-append}
use Rattle.std.specs.Prelude.{replicate}
use Rattle.std.proofs.lemmas.List.{length-take-le}
use Rattle.df_walk.specs.Systems.{IsSystem}
use Rattle.df_walk.specs.Remains.{turned}
use Rattle.df_system.specs.declared.limits.TheConstants.{MOST_ENTRIES}
use Rattle.df_system.specs.PathRows.{Yeses, IsLimit}
use Rattle.df_search.specs.HeldPaths.{IsTrail, StandsAt, IsHeld}
use Rattle.df_search.proofs.StandingPaths.{StandsAt-push, StandsAt-nos, StandsAt-turn, StandsAt-none, StandsAt-empty, StandsAt-values, front_is, length-nos}

-- the length of the path
pub held_length : {y : Yeses} {values : List Bool} {count limit : ℕ} → IsHeld y values count limit → length (take count values) ≡ count
held_length {y} {values} {count} h = length-take-le count values h.short

pub held_within : {y : Yeses} {values : List Bool} {count limit : ℕ} → IsHeld y values count limit → count ≤ length y.system.columns
held_within h = omega (arith, h.at.within, held_length h)

pub held_values : {y : Yeses} {values : List Bool} {count limit : ℕ} → IsHeld y values count limit → length values ≡ length y.system.columns
held_values h = StandsAt-values h.at

-- what is held then, and its path
pub record Moves (y : Yeses) (values : List Bool) (count limit : ℕ) (q : List Bool) : Type 0 where
  pub held : IsHeld y values count limit
  pub front : take count values ≡ q

moves_by : {y : Yeses} {values q : List Bool} {limit : ℕ} (count : ℕ) → IsSystem y.system → length y.system.columns ≤ MOST_ENTRIES → StandsAt (length y.system.columns) y.chosen values q → count ≡ length q → IsLimit y limit → Moves y values count limit q
moves_by {y} {values} {q} {limit} count ok few at is ends =
    let front = front_is count at is in
    record {
      held = record {
        is_system = ok;
        few = few;
        short = omega (arith, at.within, StandsAt-values at);
        at = rw front at;
        limit_is = ends;
      };
      front = front;
    }

-- no column is taken
pub moves_new : {y : Yeses} {values : List Bool} {limit : ℕ} → IsSystem y.system → length y.system.columns ≤ MOST_ENTRIES → y.chosen ≡ [] → values ≡ replicate (length y.system.columns) false → IsLimit y limit → Moves y values 0 limit []
moves_new {y} {values} {limit} ok few none all ends = moves_by 0 ok few (rw (none, all) (StandsAt-empty (length y.system.columns))) refl ends

-- by a yes
pub moves_yes : {y : Yeses} {values : List Bool} {count limit : ℕ} (z : Yeses) (l : ℕ) → IsHeld y values count limit → count < length y.system.columns → z ≡ record y { chosen = count ∷ y.chosen } → IsLimit z l → Moves z (set values count true) (count + 1) l (take count values ++ true ∷ [])
moves_yes {y} {values} {count} {limit} z l h short is ends =
    let q = take count values in
    let n = held_length h in
    let pushed = rw n at (StandsAt-push h.at (omega arith)) in
    rw is (moves_by (count + 1) h.is_system h.few pushed (omega (arith, length-append q (true ∷ []))) (rw is at ends))

-- by no's
pub moves_nos : {y : Yeses} {values : List Bool} {count limit : ℕ} (m next : ℕ) → IsHeld y values count limit → next ≡ count + m → next ≤ length y.system.columns → Moves y values next limit (take count values ++ replicate m false)
moves_nos {y} {values} {count} {limit} m next h is short =
    let q = take count values in
    moves_by next h.is_system h.few (StandsAt-nos m h.at (omega (arith, held_length h))) (omega (arith, length-nos q m, held_length h)) h.limit_is

-- back to the empty path, where there is no yes
pub moves_none : {y : Yeses} {values : List Bool} {count limit : ℕ} → IsHeld y values count limit → y.chosen ≡ [] → Moves y values 0 limit [] × (turned (take count values) ≡ None)
moves_none {y} {values} {count} {limit} h none =
    let none_at : StandsAt (length y.system.columns) [] values (take count values) = subst (λ t. StandsAt (length y.system.columns) t values (take count values)) none h.at in
    let back = StandsAt-none none_at in
    (moves_by 0 h.is_system h.few (subst (λ t. StandsAt (length y.system.columns) t values []) (sym none) back.0) refl h.limit_is, back.1)

-- back to the last yes, which is turned to no
pub record Turns (z : Yeses) (values : List Bool) (count limit column : ℕ) : Type 0 where
  pub before : List Bool
  pub long : length before ≡ column
  pub shorter : column + 1 ≤ count
  pub turned_is : turned (take count values) ≡ Some (before ++ false ∷ [])
  pub moves : Moves z (set values column false) (column + 1) limit (before ++ false ∷ [])

pub moves_turned : {y : Yeses} {values : List Bool} {count limit : ℕ} (z : Yeses) (l column : ℕ) → IsHeld y values count limit → y ≡ record z { chosen = column ∷ z.chosen } → IsLimit z l → Turns z values count l column
moves_turned {y} {values} {count} {limit} z l column h is ends =
    let held : IsHeld (record z { chosen = column ∷ z.chosen }) values count limit = subst (λ t. IsHeld t values count limit) is h in
    let back = StandsAt-turn column z.chosen held.at in
    record {
      before = back.before;
      long = back.long;
      shorter = omega (arith, back.shorter, back.long, held_length h);
      turned_is = back.turned_is;
      moves = moves_by (column + 1) held.is_system held.few back.at (omega (arith, back.long, length-append back.before (false ∷ []))) ends;
    }

-- there are no more yes columns than columns
trail_few : (t : List ℕ) (q : List Bool) → IsTrail t q → length t ≤ length q
trail_few [] q h = omega arith
trail_few (c ∷ t) q h = omega (arith, trail_few t h.0 h.4, ap length h.2, length-nos (h.0 ++ true ∷ []) h.1, length-append h.0 (true ∷ []))

pub held_room : {y : Yeses} {values : List Bool} {count limit : ℕ} → IsHeld y values count limit → count < length y.system.columns → length y.chosen < length y.system.columns
held_room {y} {values} {count} h short = omega (arith, trail_few y.chosen (take count values) h.at.trail, held_length h)
