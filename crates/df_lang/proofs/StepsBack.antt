-- The statements of a problem, read back one after the other.
use Rattle.std.proofs.Common.{◌≡◌, ℕ, ◌-◌, min, List, [], ◌∷◌, ◌++◌, map, Option, Some, None, Ok, Err, Result, decimal, codes, refl, ap, arith}
use Rattle.df_group.specs.Elements.{order_of}
use Rattle.df_lang.specs.declared.fault.SourceFault.{SourceFault}
use Rattle.df_lang.specs.declared.fault.SourceFault.TheVariants.{FixedRange, TargetRange}
use Rattle.df_lang.specs.declared.pieces.Member.{Member}
use Rattle.df_lang.specs.Problems.{Stated, Named, IsStated, IsNamed, DifferInName}
use Rattle.df_lang.specs.Rules.{◌>>=◌, one_number}
use Rattle.df_lang.specs.StandsAbove.{Above, nothing}
use Rattle.df_lang.specs.Values.{shift_of}
use Rattle.df_lang.specs.Statements.{step, first_line, statement_line, meaning, version_line, group_line, fixed_line, shift_line, lambda_line, hole_line}
use Rattle.df_lang.specs.Canonical.{number_tokens, which_text}
use Rattle.df_lang.proofs.InOrder.{order_from_pairs}
use Rattle.df_lang.proofs.EachMember.{each_from}
use Rattle.df_lang.proofs.NumbersBack.{one_number_back, factors_back}
use Rattle.df_lang.proofs.NamesBack.{which_back}

-- what stands above after some statements, or the first fault, without the numbers of lines
abbrev pub after : Above → List (List (List ℕ)) → Result Above SourceFault
after a [] = Ok a
after a (tokens ∷ lines) = step a tokens >>= λ b. after b lines

pub after_append : (a b : Above) (xs ys : List (List (List ℕ))) → after a xs ≡ Ok b → after a (xs ++ ys) ≡ after b ys
after_append a b [] ys e = ap (λ r. r >>= λ c. after c ys) e
after_append a b (x ∷ xs) ys e = more (step a x) (λ c f. after_append c b xs ys f) e where
  more : (r : Result Above SourceFault) → ((c : Above) → after c xs ≡ Ok b → after c (xs ++ ys) ≡ after b ys) → (r >>= λ c. after c xs) ≡ Ok b → (r >>= λ c. after c (xs ++ ys)) ≡ after b ys
  more (Ok c) ih f = ih c f
  more (Err fault) ih f = absurd cc

-- what stands above each section of the canonical lines
abbrev pub with_group : Stated → Above
with_group s = record nothing { version = Some s.version; group = Some s.group }

abbrev pub with_fixed : Stated → Above
with_fixed s = record (with_group s) { fixed = Some s.fixed }

abbrev pub with_names : Stated → List Named → Above
with_names s names = record (with_fixed s) { names = names }

abbrev pub with_shift : Stated → Above
with_shift s = record (with_names s s.names) { shift = Some s.shift }

-- multipliers are stated where there are any
abbrev pub stated_mults : List ℕ → Option (List ℕ)
stated_mults [] = None
stated_mults (m ∷ ms) = Some (m ∷ ms)

abbrev pub with_mults : Stated → Above
with_mults s = record (with_shift s) { mults = stated_mults s.mults }

abbrev pub with_sizes : Stated → Above
with_sizes s = record (with_mults s) { sizes = Some s.sizes }

abbrev pub with_lambda : Stated → Above
with_lambda s = record (with_sizes s) { lambda = Some s.lambda }

abbrev pub with_inside : Stated → Above
with_inside s = record (with_lambda s) { inside = s.inside }

abbrev pub with_hole : Stated → Above
with_hole s = record (with_inside s) { hole = Some s.hole }

abbrev pub with_family : Stated → List Member → Above
with_family s family = record (with_hole s) { family = family }

abbrev pub with_required : Stated → List (List ℕ) → Above
with_required s blocks = record (with_family s s.family) { required = blocks }

abbrev pub with_forbidden : Stated → List (List ℕ) → Above
with_forbidden s blocks = record (with_required s s.required) { forbidden = blocks }

-- the lines `version` and `group`
module _ (s : Stated) (is : IsStated s) where
  pub group_step : step (record nothing { version = Some 2 }) (codes "group" ∷ map decimal s.group) ≡ Ok (record nothing { version = Some 2; group = Some s.group })
  unfolding step statement_line meaning group_line
  group_step = rw (factors_back [] s.group is.shape.factors (omega (arith, is.shape.some)) (omega (arith, is.shape.few)) (omega (arith, is.shape.small))) refl

  pub group_first : step nothing (codes "group" ∷ map decimal s.group) ≡ Ok (record nothing { version = Some 1; group = Some s.group })
  unfolding step first_line statement_line meaning group_line
  group_first = rw (factors_back [] s.group is.shape.factors (omega (arith, is.shape.some)) (omega (arith, is.shape.few)) (omega (arith, is.shape.small))) refl

  pub version_step : step nothing (codes "version" ∷ codes "2" ∷ []) ≡ Ok (record nothing { version = Some 2 })
  unfolding step first_line version_line one_number
  version_step = refl

  pub fixed_step : step (with_group s) (number_tokens (codes "fixed") s.fixed) ≡ Ok (with_fixed s)
  unfolding step statement_line meaning fixed_line
  fixed_step = rw (one_number_back 0 (min 16 (128 - order_of s.group)) FixedRange s.fixed (omega (arith, is.fixed)) (omega arith) (omega (arith, is.fixed, is.points))) refl

  pub shift_step : step (with_names s s.names) (codes "shift" ∷ which_text s.names s.shift ∷ []) ≡ Ok (with_shift s)
  unfolding step statement_line meaning shift_line shift_of
  shift_step = rw (which_back s.group s.names s.shift (each_from (IsNamed s.group) s.names is.names) (order_from_pairs DifferInName s.names is.apart) is.shift) refl

  pub lambda_step : step (with_sizes s) (number_tokens (codes "lambda") s.lambda) ≡ Ok (with_lambda s)
  unfolding step statement_line meaning lambda_line
  lambda_step = rw (one_number_back 0 2000000 TargetRange s.lambda (omega (arith, is.lambda)) (omega arith) is.lambda) refl

  pub hole_step : step (with_inside s) (number_tokens (codes "hole") s.hole) ≡ Ok (with_hole s)
  unfolding step statement_line meaning hole_line
  hole_step = rw (one_number_back 0 2000000 TargetRange s.hole (omega (arith, is.hole)) (omega arith) is.hole) refl
