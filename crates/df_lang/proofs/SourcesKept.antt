-- A problem that a source states keeps its rules: each line keeps them, and there are fewer names than lines.
use Rattle.std.proofs.Common.{◌≡◌, ◌==◌, ℕ, ◌+◌, ◌-◌, ◌≤◌, Bool, true, false, List, [], ◌∷◌, ◌++◌, length, map, Option, Some, None, is_none, Result, Ok, Err, ok_or, bytes_eq, codes, min, refl, ap, arith, subst, if◌then◌else◌}
use Rattle.std.proofs.lemmas.List.{length_push, length-map}
use Rattle.df_io.specs.declared.bytes.TheConstants.{MOST_BYTES}
use Rattle.df_io.specs.Lines.{lines_of, tokens_of, onto_line}
use Rattle.df_group.specs.Elements.{order_of}
use Rattle.df_group.specs.Subgroups.{exponent_of}
use Rattle.df_lang.specs.declared.fault.SourceFault.{SourceFault}
use Rattle.df_lang.specs.declared.fault.SourceFault.TheVariants.{BadWord, BadNumber, FixedRange, TargetRange}
use Rattle.df_lang.specs.declared.pieces.Kind.{Kind}
use Rattle.df_lang.specs.declared.pieces.Kind.TheVariants as kind
use Rattle.df_lang.specs.declared.pieces.Keyword.{Keyword}
use Rattle.df_lang.specs.declared.pieces.Keyword.TheVariants as keyword
use Rattle.df_lang.specs.Problems.{Named, Stated, IsStated}
use Rattle.df_lang.specs.Rules.{◌>>=◌, allowed, once, one_number}
use Rattle.df_lang.specs.StandsAbove.{Above, nothing, group_of, sizes_of, lambda_of, fixed_of, version_of}
use Rattle.df_lang.specs.Values.{factors_from, subgroup_of, shift_of, mults_from, sizes_read, inside_of}
use Rattle.df_lang.specs.Statements.{keyword_of, meaning, statement_line, first_line, version_line, step, group_line, fixed_line, subgroup_line, shift_line, mult_line, size_line, lambda_line, inside_line, hole_line, block_of, member_line, require_line, forbid_line}
use Rattle.df_lang.specs.Sources.{source, from_line, at_line, whole}
use Rattle.df_lang.specs.DraftRules.{StandsKept}
use Rattle.df_lang.proofs.RulesKept.{bind_kept, there}
use Rattle.df_lang.proofs.LinesKept.{nothing_kept, step_kept, stated_of, whole_kept}

-- how many lines the group and the names have taken
abbrev grouped : Option (List ℕ) → ℕ
grouped None = 0
grouped (Some fs) = 1

abbrev taken : Above → ℕ
taken a = length a.names + grouped a.group

-- a line adds at most one
module _ (a b : Above) (tokens : List (List ℕ)) where
  after : {A : Type 0} (r : Result A SourceFault) (f : A → Result Above SourceFault) → ((x : A) → f x ≡ Ok b → taken b ≤ taken a + 1) → (r >>= f) ≡ Ok b → taken b ≤ taken a + 1
  after (Ok x) f each h = each x h
  after (Err e) f each h = absurd cc

  same_taken : (c : Above) → c.names ≡ a.names → c.group ≡ a.group → ◌≡◌ {A = Result Above SourceFault} (Ok c) (Ok b) → taken b ≤ taken a + 1
  same_taken c names group h =
      let is : c ≡ b = cc in
      subst (λ x. taken x ≤ taken a + 1) is (omega (arith, ap (λ (ns : List Named). length ns) names, ap grouped group))

  version_taken : version_line a tokens ≡ Ok b → taken b ≤ taken a + 1
  unfolding version_line
  version_taken = after (one_number 2 2 BadNumber tokens) _ (λ n. same_taken _ refl refl)

  group_taken : group_line a tokens ≡ Ok b → taken b ≤ taken a + 1
  unfolding group_line
  group_taken = after (once a.group) _ (λ _. after (factors_from [] tokens) _ (λ fs h. let is : record a { group = Some fs } ≡ b = cc in subst (λ x. taken x ≤ taken a + 1) is (omega arith)))

  fixed_taken : fixed_line a tokens ≡ Ok b → taken b ≤ taken a + 1
  unfolding fixed_line
  fixed_taken = after (once a.fixed) _ (λ _. after (group_of a) _ (λ fs. after (one_number 0 (min 16 (128 - order_of fs)) FixedRange tokens) _ (λ n. same_taken _ refl refl)))

  subgroup_taken : subgroup_line a tokens ≡ Ok b → taken b ≤ taken a + 1
  unfolding subgroup_line
  subgroup_taken = after (group_of a) _ (λ fs. after (subgroup_of fs a.names tokens) _ (λ named h. let is : record a { names = a.names ++ named ∷ [] } ≡ b = cc in subst (λ x. taken x ≤ taken a + 1) is (omega (arith, length_push a.names named))))

  shift_taken : shift_line a tokens ≡ Ok b → taken b ≤ taken a + 1
  unfolding shift_line
  shift_taken = after (once a.shift) _ (λ _. after (group_of a) _ (λ fs. after (shift_of a.names tokens) _ (λ w. same_taken _ refl refl)))

  mult_taken : mult_line a tokens ≡ Ok b → taken b ≤ taken a + 1
  unfolding mult_line
  mult_taken = after (once a.mults) _ (λ _. after (group_of a) _ (λ fs. after (mults_from (exponent_of fs) [] tokens) _ (λ ms. same_taken _ refl refl)))

  size_taken : size_line a tokens ≡ Ok b → taken b ≤ taken a + 1
  unfolding size_line
  size_taken = after (once a.sizes) _ (λ _. after (group_of a) _ (λ fs. after (sizes_read (version_of a) (min 16 (order_of fs + fixed_of a)) tokens) _ (λ ks. same_taken _ refl refl)))

  lambda_taken : lambda_line a tokens ≡ Ok b → taken b ≤ taken a + 1
  unfolding lambda_line
  lambda_taken = after (once a.lambda) _ (λ _. after (group_of a) _ (λ fs. after (one_number 0 2000000 TargetRange tokens) _ (λ n. same_taken _ refl refl)))

  inside_taken : inside_line a tokens ≡ Ok b → taken b ≤ taken a + 1
  unfolding inside_line
  inside_taken = after (once a.inside) _ (λ _. after (group_of a) _ (λ fs. after (inside_of a.names tokens) _ (λ i. same_taken _ refl refl)))

  hole_taken : hole_line a tokens ≡ Ok b → taken b ≤ taken a + 1
  unfolding hole_line
  hole_taken = after (once a.hole) _ (λ _. after (group_of a) _ (λ fs. after (one_number 0 2000000 TargetRange tokens) _ (λ n. same_taken _ refl refl)))

  member_taken : (k : Kind) → member_line a k tokens ≡ Ok b → taken b ≤ taken a + 1
  unfolding member_line
  member_taken k = after (block_of a (length a.family) tokens) _ (λ block. same_taken _ refl refl)

  require_taken : require_line a tokens ≡ Ok b → taken b ≤ taken a + 1
  unfolding require_line
  require_taken = after (block_of a (length a.required + length a.forbidden) tokens) _ (λ block. same_taken _ refl refl)

  forbid_taken : forbid_line a tokens ≡ Ok b → taken b ≤ taken a + 1
  unfolding forbid_line
  forbid_taken = after (block_of a (length a.required + length a.forbidden) tokens) _ (λ block. same_taken _ refl refl)

  meaning_taken : (w : Keyword) → meaning a w tokens ≡ Ok b → taken b ≤ taken a + 1
  unfolding meaning
  meaning_taken keyword.Group = group_taken
  meaning_taken keyword.Fixed = fixed_taken
  meaning_taken keyword.Subgroup = subgroup_taken
  meaning_taken keyword.Shift = shift_taken
  meaning_taken keyword.Mult = mult_taken
  meaning_taken keyword.Size = size_taken
  meaning_taken keyword.Lambda = lambda_taken
  meaning_taken keyword.Inside = inside_taken
  meaning_taken keyword.Hole = hole_taken
  meaning_taken keyword.Base = member_taken kind.Base
  meaning_taken keyword.Short = member_taken kind.Short
  meaning_taken keyword.Require = after (allowed (version_of a == 2) BadWord) _ (λ _. require_taken)
  meaning_taken keyword.Forbid = after (allowed (version_of a == 2) BadWord) _ (λ _. forbid_taken)

  statement_taken : (first : List ℕ) → statement_line a first tokens ≡ Ok b → taken b ≤ taken a + 1
  unfolding statement_line
  statement_taken first = after (ok_or (keyword_of first) BadWord) _ meaning_taken

line_taken : (a b : Above) (tokens : List (List ℕ)) → step a tokens ≡ Ok b → taken b ≤ taken a + 1
unfolding step first_line
line_taken a b [] h = same_taken a b [] a refl refl h
line_taken a b (first ∷ tokens) h = by (is_none a.version) (bytes_eq first (codes "version")) h where
  by : (u v : Bool) → (if u then (if v then version_line a tokens else statement_line (record a { version = Some 1 }) first tokens) else statement_line a first tokens) ≡ Ok b → taken b ≤ taken a + 1
  by true true h = version_taken a b tokens h
  by true false h = statement_taken (record a { version = Some 1 }) b tokens first h
  by false v h = statement_taken a b tokens first h

stated_kept : (a : Above) (fs ks : List ℕ) (n : ℕ) (s : Stated) → StandsKept a → taken a ≤ MOST_BYTES → a.group ≡ Some fs → a.sizes ≡ Some ks → a.lambda ≡ Some n
    → ◌≡◌ {A = Result Stated SourceFault} (Ok (stated_of a fs ks n)) (Ok s) → IsStated s
stated_kept a fs ks n s kept few group sized targeted h =
    let one : grouped a.group ≡ 1 = ap grouped group in
    let is : stated_of a fs ks n ≡ s = cc in
    subst IsStated is (whole_kept a fs ks n kept group sized targeted (omega (arith, one, few)))

end_kept : (a : Above) (s : Stated) → StandsKept a → taken a ≤ MOST_BYTES → whole a ≡ Ok s → IsStated s
unfolding whole
end_kept a s kept few h =
    let fs = bind_kept (group_of a) (λ fs. sizes_of a >>= λ ks. lambda_of a >>= λ n. Ok (stated_of a fs ks n)) s h in
    let ks = bind_kept (sizes_of a) (λ ks. lambda_of a >>= λ n. Ok (stated_of a fs.0 ks n)) s fs.2 in
    let n = bind_kept (lambda_of a) (λ n. Ok (stated_of a fs.0 ks.0 n)) s ks.2 in
    stated_kept a fs.0 ks.0 n.0 s kept few (there a.group _ fs.0 fs.1) (there a.sizes _ ks.0 ks.1) (there a.lambda _ n.0 n.1) n.2

at_end : (r : Result Stated SourceFault) (s : Stated) → at_line 0 r ≡ Ok s → r ≡ Ok s
at_end (Ok t) s h = cc
at_end (Err f) s h = absurd cc

from_line_kept : (n : ℕ) (a : Above) (lines : List (List (List ℕ))) (s : Stated) → StandsKept a → taken a + length lines ≤ MOST_BYTES → from_line n a lines ≡ Ok s → IsStated s
unfolding from_line
from_line_kept n a [] s kept few h = end_kept a s kept (omega (arith, few)) (at_end (whole a) s h)
from_line_kept n a (tokens ∷ lines) s kept few h =
    let b = next_state (step a tokens) h in
    from_line_kept (n + 1) b.0 lines s (step_kept a b.0 tokens kept b.1) (omega (arith, few, line_taken a b.0 tokens b.1)) b.2
  where
    next_state : (r : Result Above SourceFault) → (at_line n r >>= λ more. from_line (n + 1) more lines) ≡ Ok s → (b : Above) × (r ≡ Ok b) × (from_line (n + 1) b lines ≡ Ok s)
    next_state (Ok b) g = (b, refl, g)
    next_state (Err f) g = absurd cc

-- a text has at most as many lines as bytes
onto_lines : (b n : ℕ) (lines : List (List ℕ)) → length lines ≤ n → length (onto_line b lines) ≤ n + 1
onto_lines b n [] h = omega arith
onto_lines b n (line ∷ lines) h = omega (arith, h)

pub few_lines : (bytes : List ℕ) → length (lines_of bytes) ≤ length bytes
few_lines [] = omega arith
few_lines (b ∷ bs) = by (few_lines bs) (b == 10) where
  by : length (lines_of bs) ≤ length bs → (t : Bool) → length (if t then [] ∷ lines_of bs else onto_line b (lines_of bs)) ≤ length (b ∷ bs)
  by few true = omega (arith, few)
  by few false = omega (arith, onto_lines b (length bs) (lines_of bs) few)

-- a problem that lines state keeps its rules
pub lines_kept : (lines : List (List ℕ)) (s : Stated) → length lines ≤ MOST_BYTES → from_line 1 nothing (map tokens_of lines) ≡ Ok s → IsStated s
lines_kept lines s few h = from_line_kept 1 nothing (map tokens_of lines) s nothing_kept (omega (arith, few, length-map lines tokens_of)) h

pub source_kept : (bytes : List ℕ) (s : Stated) → length bytes ≤ MOST_BYTES → source bytes ≡ Ok s → IsStated s
unfolding source
source_kept bytes s few h = lines_kept (lines_of bytes) s (omega (arith, few, few_lines bytes)) h
