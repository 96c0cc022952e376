use Rattle.std.proofs.Common.{◌≡◌, ℕ, suc, zero, ◌+◌, ◌-◌, ◌<◌, ◌≤◌, ◌++◌, ◌∷◌, [], List, ap, ap₂, sym, subst, ◌∙◌, arith, get_or, slice_get, Some, append-nil}
use Rattle.std.specs.List.{range_with_len}
use Rattle.std.proofs.lemmas.List.{append_assoc}
use Rattle.std.proofs.lemmas.Option.{slice_get-get_or}
use Rattle.df_lists.specs.NumberSets.{with_member, Rises}
use Rattle.df_subsets.specs.Subsets.{choose, subsets, binomial}
use Rattle.df_lists.proofs.RisingLists.{Rises-wider, Rises-more}
use Rattle.df_subsets.proofs.BlockBits.{with_last}
use Rattle.df_subsets.proofs.SubsetLists.{subsets_long}
use Rattle.df_subsets.proofs.Places.{inside_at, rank_of, with_first_at, without_first_at}
use Rattle.df_subsets.proofs.subsets.unrank.Goals as goal
use Rattle.df_subsets.proofs.subsets.unrank.Goals.{then-left-gt0+then-place-with_point, then-left-gt0+else-place-with_point, else-left-gt0}

-- what is still to be chosen: `left` points from p on, at a place among these choices
abbrev rest : ℕ → ℕ → ℕ → ℕ → List ℕ
rest v p left place = get_or (choose (range_with_len p (v - p)) left) place []

-- the state of the loop, where the block sought is b
record State (b : List ℕ) (v p left place : ℕ) (block : List ℕ) : Type 0 where
  stands : b ≡ block ++ rest v p left place
  below : place < binomial (v - p) left
  rises : Rises 0 p block

from : (v p : ℕ) → p < v → v - p ≡ suc (v - (p + 1))
from v p h = omega arith

-- the point is taken
taken : (b : List ℕ) (v p left place : ℕ) (block : List ℕ) → p < v → State b v p (suc left) place block → place < binomial (v - (p + 1)) left → State b v (p + 1) left place (with_member p block)
taken b v p left place block h s l =
    let last = with_last 0 p block s.rises in
    record {
      stands = s.stands
          ∙ ap (λ n. block ++ get_or (choose (range_with_len p n) (suc left)) place []) (from v p h)
          ∙ ap (λ r. block ++ r) (with_first_at (v - (p + 1)) p left place l)
          ∙ sym (append_assoc block (p ∷ []) (rest v (p + 1) left place))
          ∙ ap (λ a. a ++ rest v (p + 1) left place) (sym last);
      below = l;
      rises = Rises-more 0 (p + 1) p block (omega arith) (omega arith) (Rises-wider 0 0 p (p + 1) block (omega arith) (omega arith) s.rises);
    }

-- the point is left out
left_out : (b : List ℕ) (v p left place : ℕ) (block : List ℕ) → p < v → State b v p (suc left) place block → binomial (v - (p + 1)) left ≤ place → State b v (p + 1) (suc left) (place - binomial (v - (p + 1)) left) block
left_out b v p left place block h s l =
    let row : binomial (v - p) (suc left) ≡ binomial (v - (p + 1)) left + binomial (v - (p + 1)) (suc left) = ap (λ n. binomial n (suc left)) (from v p h) in
    record {
      stands = s.stands
          ∙ ap (λ n. block ++ get_or (choose (range_with_len p n) (suc left)) place []) (from v p h)
          ∙ ap (λ r. block ++ r) (without_first_at (v - (p + 1)) p left place l);
      below = omega (arith, row, s.below, l);
      rises = Rises-wider 0 0 p (p + 1) block (omega arith) (omega arith) s.rises;
    }

-- all points are chosen
passed : (b : List ℕ) (v p place : ℕ) (block : List ℕ) → State b v p 0 place block → State b v (p + 1) 0 place block
passed b v p place block s = record { stands = s.stands; below = s.below; rises = Rises-wider 0 0 p (p + 1) block (omega arith) (omega arith) s.rises }

ended : (b : List ℕ) (v p left place : ℕ) (block : List ℕ) → v ≤ p → State b v p left place block → b ≡ block
ended b v p zero place block h s =
    let none : place ≡ 0 = omega (arith, s.below) in
    s.stands ∙ ap (λ i. block ++ get_or ([] ∷ []) i []) none ∙ append-nil block
ended b v p (suc left) place block h s =
    let none : binomial (v - p) (suc left) ≡ 0 = ap (λ n. binomial n (suc left)) {x = v - p} {y = 0} (omega arith) in
    absurd (omega (arith, none, s.below))

-- the two ways of a step, as the code takes them
step_in : (b : List ℕ) (v p left next place spot count : ℕ) (block more : List ℕ) → p < v → State b v p left place block → 0 < left → count ≡ binomial (v - 1 - p) (left - 1) → place < count
    → more ≡ with_member p block → next ≡ left - 1 → spot ≡ place → State b v (p + 1) next spot more
step_in b v p zero next place spot count block more h s pos e l eb el ep = absurd (omega arith)
step_in b v p (suc left) next place spot count block more h s pos e l eb el ep =
    let next_is : next ≡ left = omega (arith, el) in
    let count_is : count ≡ binomial (v - (p + 1)) left = e ∙ ap₂ binomial (omega arith) (omega arith) in
    rw (eb, next_is, ep) (taken b v p left place block h s (omega (arith, count_is, l)))

step_out : (b : List ℕ) (v p left next place spot count : ℕ) (block more : List ℕ) → p < v → State b v p left place block → 0 < left → count ≡ binomial (v - 1 - p) (left - 1) → count ≤ place
    → more ≡ block → next ≡ left → spot ≡ place - count → State b v (p + 1) next spot more
step_out b v p zero next place spot count block more h s pos e l eb el ep = absurd (omega arith)
step_out b v p (suc left) next place spot count block more h s pos e l eb el ep =
    let count_is : count ≡ binomial (v - (p + 1)) left = e ∙ ap₂ binomial (omega arith) (omega arith) in
    let spot_is : spot ≡ place - binomial (v - (p + 1)) left = ep ∙ ap (λ n. place - n) count_is in
    rw (eb, el, spot_is) (left_out b v p left place block h s (omega (arith, count_is, l)))

step_past : (b : List ℕ) (v p left next place spot : ℕ) (block more : List ℕ) → State b v p left place block → left ≤ 0 → more ≡ block → next ≡ left → spot ≡ place → State b v (p + 1) next spot more
step_past b v p zero next place spot block more s none eb el ep = rw (eb, el, ep) (passed b v p place block s)
step_past b v p (suc left) next place spot block more s none eb el ep = absurd (omega arith)

pub loop-p-init : goal.loop-p-init
loop-p-init c =
    let v = c.args.v in
    let k = c.args.k in
    let same : v ≡ v - 0 = omega arith in
    rw c.empty-block.ensures record {
      stands = ap (λ n. get_or (choose (range_with_len 0 n) k) c.args.place []) same;
      below = subst (λ n. c.args.place < binomial n k) same c.requires.below;
      rises = tt;
    }

pub loop-p-preserved : goal.loop-p-preserved
loop-p-preserved c =
    let v = c.args.v in
    let p = c.loop-p.p in
    let left = c.loop-p.left in
    let next = c.if-left-gt0.left in
    let place = c.loop-p.place in
    let spot = c.if-left-gt0.place in
    let block = c.loop-p.block in
    let more = c.if-left-gt0.block in
    let b = get_or (subsets c.args.v c.args.k) c.args.place [] in
    let before : State b c.args.v c.loop-p.p c.loop-p.left c.loop-p.place c.loop-p.block = record { stands = c.loop-p.invariant.stands; below = c.loop-p.invariant.below; rises = c.loop-p.invariant.rises } in
    let after : State b c.args.v (c.loop-p.p + 1) c.if-left-gt0.left c.if-left-gt0.place c.if-left-gt0.block =
    elim c.if-left-gt0.branch [
      | then-left-gt0+then-place-with_point w ↦ step_in b v p left next place spot w.choices-with_point.result block more c.loop-p-test.true before w.if-left-gt0.true w.choices-with_point.ensures w.if-place-with_point.true (w.block-is ∙ w.insert.ensures.list) w.left-is w.place-is
      | then-left-gt0+else-place-with_point w ↦ step_out b v p left next place spot w.choices-with_point.result block more c.loop-p-test.true before w.if-left-gt0.true w.choices-with_point.ensures w.if-place-with_point.false w.block-is w.left-is w.place-is
      | else-left-gt0 w ↦ step_past b v p left next place spot block more before w.if-left-gt0.false w.block-is w.left-is w.place-is
    ] in
    record { stands = after.stands; below = after.below; rises = after.rises }

pub returns : goal.returns
returns c =
    let v = c.args.v in
    let k = c.args.k in
    let b = get_or (subsets v k) c.args.place [] in
    let end : State b v c.loop-p.p c.loop-p.left c.loop-p.place c.loop-p.block = record { stands = c.loop-p.invariant.stands; below = c.loop-p.invariant.below; rises = c.loop-p.invariant.rises } in
    let is : slice_get (subsets v k) c.args.place ≡ Some c.loop-p.block =
    slice_get-get_or (subsets v k) c.args.place [] (omega (arith, c.requires.below, subsets_long v k)) ∙ ap Some (ended b v c.loop-p.p c.loop-p.left c.loop-p.place c.loop-p.block c.loop-p-test.false end) in
    let inside = inside_at v k c.args.place c.loop-p.block is in
    record { place = is; rank = rank_of v k c.args.place c.loop-p.block is; block = inside.0; size = inside.1 }
