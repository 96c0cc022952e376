-- The run from where a search stands, and how it ended.
use Rattle.std.proofs.Common.{◌≡◌, ◌++◌, [], ℕ, Bool, List, length, Option, None, Some, Result, Ok, Err, refl, sym, ap, ◌∙◌, append_assoc, append-nil}
use Rattle.std.specs.Prelude.{IsSome}
use Rattle.std.specs.Result.{IsErr}
use Rattle.std.specs.List.{flat_map}
use Rattle.df_io.specs.Writing.{Writes}
use Rattle.df_io.specs.declared.bytes.WriteFault.{WriteFault}
use Rattle.df_io.proofs.Writing.{writes_as, writes_then, writes_stopped, writes_stopped_then}
use Rattle.df_walk.specs.declared.Rules.{Rules}
use Rattle.df_walk.specs.Walks.{solutions_in, nodes_in}
use Rattle.df_runs.specs.Runs.{Run, run_of}
use Rattle.df_search.specs.Searches.{Searching, StandsBefore}
use Rattle.df_lang.specs.Problems.{Stated}
use Rattle.df_kramer_mesner.specs.OrbitSystems.{orbit_system}
use Rattle.df_design.specs.RemainingDesigns.{Remaining}
use Rattle.df_tell.specs.declared.run.Shown.{Shown}
use Rattle.df_tell.specs.declared.run.Ran.{Ran}
use Rattle.df_tell.specs.declared.run.RunEnd.{RunEnd}
use Rattle.df_tell.specs.declared.run.RunEnd.TheVariants.{Finished, Spent}
use Rattle.df_tell.specs.Run.{head_text, source_text, from_text, step_lines, end_text, end_line, run_text, run_end, MayRun}
use Rattle.df_tell.specs.RunSteps.{run_left, stop_at, IsRan}
use Rattle.df_tell.proofs.RunSteps.{stands_run}

-- the place is one
pub same_place : {p q : List Bool} {place : Option (List Bool)} → place ≡ Some p → place ≡ Some q → p ≡ q
same_place here there = cc

pub run_here : (rules : Rules) (s : Stated) (r : Remaining) (p q : List Bool) (n : ℕ) → MayRun rules s r → StandsBefore r.search q → r.search.place ≡ Some p → run_left r.search n ≡ run_of rules (orbit_system s) p n
run_here rules s r p q n may stands here =
    stands_run r.search q n stands
    ∙ ap (λ t. run_of t r.search.system q n) may.rules_are
    ∙ ap (λ y. run_of rules y q n) may.system
    ∙ ap (λ t. run_of rules (orbit_system s) t n) (same_place stands.place here)

-- three texts, and then another
pub start_then : (a b c d : List ℕ) → (a ++ (b ++ c)) ++ d ≡ a ++ (b ++ (c ++ d))
start_then a b c d = append_assoc a (b ++ c) d ∙ ap (λ l. a ++ l) (append_assoc b c d)

-- the end line
pub end_is : (s : Stated) (run : Run) (q : Searching) (ran : Ran) → IsRan s run q ran → end_text ran.designs ran.nodes (stop_at ran.end q) ≡ end_line s run
end_is s run q ran is =
    ap (λ d. end_text d ran.nodes (stop_at ran.end q)) is.designs
    ∙ ap (λ n. end_text (length (solutions_in (orbit_system s) run.taken)) n (stop_at ran.end q)) is.nodes
    ∙ ap (end_text (length (solutions_in (orbit_system s) run.taken)) (length (nodes_in run.taken))) (sym is.stop)

-- and how the run ended
pub ended : (end : RunEnd) (q : Searching) (stop : Option (List Bool)) → stop ≡ stop_at end q → (end ≡ Spent → IsSome q.place) → end ≡ run_end stop
ended Finished q stop is some = rw is refl
ended Spent q stop is some = go q.place refl
  where
    go : (o : Option (List Bool)) → q.place ≡ o → Spent ≡ run_end stop
    go None none = absurd (let h = some refl in cc)
    go (Some p) there = ap run_end (sym (is ∙ there))

-- a text that was stopped, by any error
pub writes_err : {K : Type 0} {w : K → Option (List ℕ)} {f : K → ℕ} {a b : K} {s : List ℕ} {e : WriteFault} {r : Result (Unit {0}) WriteFault} → Writes w f a b s (Err e) → IsErr r → Writes w f a b s r
writes_err {s = s} stopped err = writes_as (append-nil s) (writes_stopped [] stopped err)

-- the text of a run, as it is written: its start, its steps, and its end
module _ (rules : Rules) (s : Stated) (shown : Shown) (r : Remaining) (p q : List Bool) (n : ℕ) (may : MayRun rules s r) (stands : StandsBefore r.search q) (here : r.search.place ≡ Some p) where
  abbrev start : List Bool → List ℕ
  start t = head_text rules ++ (source_text s ++ from_text t)

  abbrev R : Run
  R = run_of rules (orbit_system s) p n

  abbrev lines : Run → List ℕ
  lines run = flat_map (step_lines shown s) run.taken

  is_run : run_left r.search n ≡ R
  is_run = run_here rules s r p q n may stands here

  same_start : start q ≡ start p
  same_start = ap start (same_place stands.place here)

  whole : start p ++ (lines R ++ end_line s R) ≡ run_text rules s shown p R
  whole = start_then (head_text rules) (source_text s) (from_text p) (lines R ++ end_line s R)

  pub start_stopped : {K : Type 0} {w : K → Option (List ℕ)} {f : K → ℕ} {a b : K} {e : WriteFault} {t : Result (Unit {0}) WriteFault} → Writes w f a b (start q) (Err e) → IsErr t → Writes w f a b (run_text rules s shown p R) t
  start_stopped first err = writes_as whole (writes_stopped (lines R ++ end_line s R) (writes_as same_start first) err)

  pub steps_stopped : {K : Type 0} {w : K → Option (List ℕ)} {f : K → ℕ} {a b c : K} {e : WriteFault} {t : Result (Unit {0}) WriteFault} → Writes w f a b (start q) (Ok tt) → Writes w f b c (lines (run_left r.search n)) (Err e) → IsErr t → Writes w f a c (run_text rules s shown p R) t
  steps_stopped first second err = writes_as whole (writes_stopped_then (end_line s R) (writes_as same_start first) (writes_as (ap lines is_run) second) err)

  pub all_written : {K : Type 0} {w : K → Option (List ℕ)} {f : K → ℕ} {a b c d : K} {t : Result (Unit {0}) WriteFault} {new : Searching} {ran : Ran} → Writes w f a b (start q) (Ok tt) → Writes w f b c (lines (run_left r.search n)) (Ok tt) → IsRan s (run_left r.search n) new ran
      → Writes w f c d (end_text ran.designs ran.nodes (stop_at ran.end new)) t → Writes w f a d (run_text rules s shown p R) t
  all_written {new = new} {ran = ran} first second is last =
      writes_as whole (writes_then (writes_as same_start first) (writes_then (writes_as (ap lines is_run) second) (writes_as (end_is s (run_left r.search n) new ran is ∙ ap (end_line s) is_run) last)))

  pub run_ended : (new : Searching) (ran : Ran) → IsRan s (run_left r.search n) new ran → ran.end ≡ run_end R.stop
  run_ended new ran is = ended ran.end new R.stop (sym (ap (λ run. run.stop) is_run) ∙ is.stop) is.place
