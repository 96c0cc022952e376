use Rattle.std.proofs.Common.{map, ap, ◌∙◌, Result, Ok, Err}
use Rattle.std.specs.Prelude.{IfOk}
use Rattle.df_lang.specs.Problems.{Stated}
use Rattle.df_kramer_mesner.specs.OrbitSystems.{has_in_orbit, orbits_of}
use Rattle.df_matrix.proofs.PlaceLists.{places_marked}
use Rattle.df_matrix.proofs.matrix.needed_numbers.Goals as goal

ok_then : {A E : Type 0} (r : Result A E) {P Q : A → Type 0} → IfOk r P → ((x : A) → P x → Q x) → IfOk r Q
ok_then (Ok x) h f = f x h
ok_then (Err e) h f = h

pub returns : goal.returns
returns c =
    let s = c.args.orbits.now in
    let marks = c.deref.ensures.value ∙ c.in_ok-marks.ensures ∙ ap (λ l. map (has_in_orbit s l) (orbits_of s)) (c.required_of.ensures.blocks ∙ ap (λ (t : Stated). t.required) c.problem.ensures) in
    ok_then c.numbers_of.result c.numbers_of.ensures (λ needed h. h ∙ places_marked (has_in_orbit s s.required) (orbits_of s) c.deref.result.now marks)
