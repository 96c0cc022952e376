-- Each line keeps the rules, and what stands above the end of a source is a problem.
use Rattle.std.proofs.Common.{◌≡◌, ◌==◌, ℕ, ◌<◌, Bool, true, false, List, [], ◌∷◌, length, Option, Some, None, Result, Ok, Err, IfSome, is_some, is_none, unwrap_or, ok_or, bytes_eq, codes, refl, sym, ap, ◌∙◌, arith, subst, inl, inr, if◌then◌else◌}
use Rattle.std.proofs.lemmas.Bool.{eqb-true}
use Rattle.df_lang.specs.declared.fault.SourceFault.{SourceFault}
use Rattle.df_lang.specs.declared.fault.SourceFault.TheVariants.{BadWord, BadNumber, Missing}
use Rattle.df_lang.specs.declared.fault.Needed.TheVariants as needed
use Rattle.df_lang.specs.declared.problem.TheConstants.{NAMES_LIMIT}
use Rattle.df_lang.specs.declared.pieces.Which.{Which}
use Rattle.df_lang.specs.declared.pieces.Which.TheVariants as which
use Rattle.df_lang.specs.declared.pieces.Kind.TheVariants as kind
use Rattle.df_lang.specs.declared.pieces.Keyword.{Keyword}
use Rattle.df_lang.specs.declared.pieces.Keyword.TheVariants as keyword
use Rattle.df_lang.specs.Problems.{Named, Stated, IsStated, IsSubgroupName, IsTarget}
use Rattle.df_lang.specs.Rules.{◌>>=◌, allowed, once, one_number}
use Rattle.df_lang.specs.StandsAbove.{Above, nothing, fixed_of, version_of}
use Rattle.df_lang.specs.Values.{factors_from}
use Rattle.df_lang.specs.Statements.{keyword_of, meaning, statement_line, first_line, version_line, step, group_line, fixed_line, subgroup_line, shift_line, mult_line, size_line, lambda_line, inside_line, hole_line, block_of, member_line, require_line, forbid_line}
use Rattle.df_lang.specs.DraftRules.{shape_above, sizes_above, points_above, IsVersion, MultsKept, SizesKept, BlocksKept, Keeps, IsEarly, StandsKept}
use Rattle.df_lang.proofs.RulesKept.{bind_kept, allowed_kept, one_number_kept}
use Rattle.df_lang.proofs.ValuesKept.{factors_kept}
use Rattle.df_lang.proofs.StatementsKept.{fixed_line_kept, subgroup_line_kept, shift_line_kept, mult_line_kept, size_line_kept, lambda_line_kept, inside_line_kept, hole_line_kept, member_line_kept, require_line_kept, forbid_line_kept}

-- below the line of the group
module _ (a b : Above) (tokens : List (List ℕ)) (k : Keeps a) where
  in_second : (f : Unit {0} → Result Above SourceFault) → (allowed (version_of a == 2) BadWord >>= f) ≡ Ok b → (version_of a ≡ 2) × (f tt ≡ Ok b)
  in_second f h =
      let u = bind_kept (allowed (version_of a == 2) BadWord) f b h in
      (eqb-true (version_of a) 2 (allowed_kept (version_of a == 2) BadWord u.0 u.1), u.2)

  grouped_already : (o : Option (List ℕ)) → is_some o ≡ true → (once o >>= λ _. factors_from [] tokens >>= λ fs. Ok (record a { group = Some fs })) ≡ Ok b → ⊥
  grouped_already None is h = absurd cc
  grouped_already (Some fs) is h = absurd cc

  pub meaning_kept : (w : Keyword) → meaning a w tokens ≡ Ok b → Keeps b
  unfolding meaning group_line
  meaning_kept keyword.Group h = absurd (grouped_already a.group k.head.group_stated h)
  meaning_kept keyword.Fixed h = fixed_line_kept a b tokens k h
  meaning_kept keyword.Subgroup h = subgroup_line_kept a b tokens k h
  meaning_kept keyword.Shift h = shift_line_kept a b tokens k h
  meaning_kept keyword.Mult h = mult_line_kept a b tokens k h
  meaning_kept keyword.Size h = size_line_kept a b tokens k h
  meaning_kept keyword.Lambda h = lambda_line_kept a b tokens k h
  meaning_kept keyword.Inside h = inside_line_kept a b tokens k h
  meaning_kept keyword.Hole h = hole_line_kept a b tokens k h
  meaning_kept keyword.Base h = member_line_kept a b tokens k kind.Base h
  meaning_kept keyword.Short h = member_line_kept a b tokens k kind.Short h
  meaning_kept keyword.Require h = let s = in_second (λ _. require_line a tokens) h in require_line_kept a b tokens k s.0 s.1
  meaning_kept keyword.Forbid h = let s = in_second (λ _. forbid_line a tokens) h in forbid_line_kept a b tokens k s.0 s.1

  pub statement_kept : (first : List ℕ) → statement_line a first tokens ≡ Ok b → Keeps b
  unfolding statement_line
  statement_kept first h =
      let w = bind_kept (ok_or (keyword_of first) BadWord) (λ w. meaning a w tokens) b h in
      meaning_kept w.0 w.2

-- above the line of the group
module _ (v : ℕ) (b : Above) (tokens : List (List ℕ)) (is : IsVersion v) where
  group_kept : group_line (record nothing { version = Some v }) tokens ≡ Ok b → Keeps b
  unfolding group_line
  group_kept h =
      let fs = bind_kept (factors_from [] tokens) (λ fs. Ok (record nothing { version = Some v; group = Some fs })) b h in
      let shape = factors_kept [] tokens fs.0 (omega arith) (λ i d l. absurd (omega arith)) (omega arith) fs.1 in
      let same : record nothing { version = Some v; group = Some fs.0 } ≡ b = cc in
      let small = shape.small in
      subst Keeps same record {
        head = record { version_stated = refl; group_stated = refl; version_is = is; shape = shape; few_fixed = omega arith; points = omega arith };
        names = record { each = λ i d l. absurd (omega arith); apart = λ i j d l m. absurd (omega arith) };
        shift = tt;
        mults = tt;
        sizes = tt;
        lambda = tt;
        inside = tt;
        hole = tt;
        blocks = record {
          family = λ i d l. absurd (omega arith);
          few = omega arith;
          required = λ i d l. absurd (omega arith);
          forbidden = λ i d l. absurd (omega arith);
          few_stated = omega arith;
          none_required = λ _. refl;
          none_forbidden = λ _. refl;
        };
      }

  none_stated : (t : Bool) (f : SourceFault) (g : Unit {0} → Result Above SourceFault) → ((u : Unit {0}) → g u ≡ Err f) → (allowed t BadWord >>= g) ≡ Ok b → ⊥
  none_stated true f g fails h = let e = sym (fails tt) ∙ h in absurd cc
  none_stated false f g fails h = absurd cc

  early_meaning_kept : (w : Keyword) → meaning (record nothing { version = Some v }) w tokens ≡ Ok b → Keeps b
  unfolding meaning fixed_line subgroup_line shift_line mult_line size_line lambda_line inside_line hole_line member_line require_line forbid_line block_of
  early_meaning_kept keyword.Group h = group_kept h
  early_meaning_kept keyword.Fixed h = absurd cc
  early_meaning_kept keyword.Subgroup h = absurd cc
  early_meaning_kept keyword.Shift h = absurd cc
  early_meaning_kept keyword.Mult h = absurd cc
  early_meaning_kept keyword.Size h = absurd cc
  early_meaning_kept keyword.Lambda h = absurd cc
  early_meaning_kept keyword.Inside h = absurd cc
  early_meaning_kept keyword.Hole h = absurd cc
  early_meaning_kept keyword.Base h = absurd cc
  early_meaning_kept keyword.Short h = absurd cc
  early_meaning_kept keyword.Require h = absurd (none_stated (v == 2) (Missing needed.Group) (λ _. require_line (record nothing { version = Some v }) tokens) (λ _. refl) h)
  early_meaning_kept keyword.Forbid h = absurd (none_stated (v == 2) (Missing needed.Group) (λ _. forbid_line (record nothing { version = Some v }) tokens) (λ _. refl) h)

  early_statement_kept : (first : List ℕ) → statement_line (record nothing { version = Some v }) first tokens ≡ Ok b → Keeps b
  unfolding statement_line
  early_statement_kept first h =
      let w = bind_kept (ok_or (keyword_of first) BadWord) (λ w. meaning (record nothing { version = Some v }) w tokens) b h in
      early_meaning_kept w.0 w.2

version_kept : (b : Above) (tokens : List (List ℕ)) → version_line nothing tokens ≡ Ok b → IsEarly b
unfolding version_line
version_kept b tokens h =
    let n = bind_kept (one_number 2 2 BadNumber tokens) (λ n. Ok (record nothing { version = Some n })) b h in
    let range = one_number_kept 2 2 BadNumber tokens n.0 n.1 in
    let same : record nothing { version = Some n.0 } ≡ b = cc in
    let two : n.0 ≡ 2 = omega arith in
    subst IsEarly same record { bare = refl; version = inr two }

first_kept : (b : Above) (first : List ℕ) (tokens : List (List ℕ)) → first_line nothing first tokens ≡ Ok b → StandsKept b
unfolding first_line
first_kept b first tokens h = by (bytes_eq first (codes "version")) h where
  by : (t : Bool) → (if t then version_line nothing tokens else statement_line (record nothing { version = Some 1 }) first tokens) ≡ Ok b → StandsKept b
  by true h = inl (version_kept b tokens h)
  by false h = inr (early_statement_kept 1 b tokens (inl refl) first h)

early_step_kept : (o : Option ℕ) (b : Above) (first : List ℕ) (tokens : List (List ℕ)) → IfSome o IsVersion → step (record nothing { version = o }) (first ∷ tokens) ≡ Ok b → StandsKept b
unfolding step
early_step_kept None b first tokens is h = first_kept b first tokens h
early_step_kept (Some v) b first tokens is h = inr (early_statement_kept v b tokens is first h)

not_none : {A : Type 0} (o : Option A) → is_some o ≡ true → is_none o ≡ false
not_none None is = absurd cc
not_none (Some x) is = refl

pub step_kept : (a b : Above) (tokens : List (List ℕ)) → StandsKept a → step a tokens ≡ Ok b → StandsKept b
unfolding step
step_kept a b [] kept h = let same : a ≡ b = cc in subst StandsKept same kept
step_kept a b (first ∷ tokens) (inl early) h = early_step_kept a.version b first tokens early.version (ap (λ x. step x (first ∷ tokens)) (sym early.bare) ∙ h)
step_kept a b (first ∷ tokens) (inr k) h =
    inr (statement_kept a b tokens k first (sym (ap (λ t. if t then first_line a first tokens else statement_line a first tokens) (not_none a.version k.head.version_stated)) ∙ h))

pub nothing_kept : StandsKept nothing
nothing_kept = inl record { bare = refl; version = tt }

-- the end of a source
which_or_all : (names : List Named) (o : Option Which) → IfSome o (IsSubgroupName names) → IsSubgroupName names (unwrap_or o which.All)
which_or_all names None is = tt
which_or_all names (Some w) is = is

mults_or_none : (fs : List ℕ) (o : Option (List ℕ)) → IfSome o (MultsKept fs) → MultsKept fs (unwrap_or o [])
mults_or_none fs None is = record { each = λ i d l. absurd (omega arith); once = λ i j d l m. absurd (omega arith) }
mults_or_none fs (Some ms) is = is

target_or : (n : ℕ) (o : Option ℕ) → IsTarget n → IfSome o IsTarget → IsTarget (unwrap_or o n)
target_or n None low is = low
target_or n (Some m) low is = is

-- what is stated at the end, with this group, these sizes and this target
abbrev pub stated_of : Above → List ℕ → List ℕ → ℕ → Stated
stated_of a fs ks n = record {
  version = version_of a;
  group = fs;
  fixed = fixed_of a;
  names = a.names;
  shift = unwrap_or a.shift which.All;
  mults = unwrap_or a.mults [];
  sizes = ks;
  lambda = n;
  inside = a.inside;
  hole = unwrap_or a.hole n;
  family = a.family;
  required = a.required;
  forbidden = a.forbidden;
}

end_kept : (a : Above) (ks : List ℕ) (n : ℕ) → Keeps a → a.sizes ≡ Some ks → a.lambda ≡ Some n → length a.names < NAMES_LIMIT → IsStated (stated_of a (shape_above a) ks n)
end_kept a ks n k sized targeted few =
    let sizes = subst (λ o. IfSome o (SizesKept (version_of a) (points_above a))) sized k.sizes in
    let lambda = subst (λ o. IfSome o IsTarget) targeted k.lambda in
    let same : sizes_above a ≡ ks = ap (λ o. unwrap_or o []) sized in
    let blocks = subst (λ ls. BlocksKept (version_of a) (points_above a) ls a.family a.required a.forbidden) same k.blocks in
    let mults = mults_or_none (shape_above a) a.mults k.mults in
    record {
      version = k.head.version_is;
      shape = k.head.shape;
      fixed = k.head.few_fixed;
      points = k.head.points;
      names = k.names.each;
      apart = k.names.apart;
      few_names = few;
      shift = which_or_all a.names a.shift k.shift;
      mults = mults.each;
      mults_once = mults.once;
      some_size = sizes.some;
      sizes = sizes.each;
      sizes_rise = sizes.rise;
      lambda = lambda;
      inside = k.inside;
      hole = target_or n a.hole lambda k.hole;
      family = blocks.family;
      few_blocks = blocks.few;
      required = blocks.required;
      forbidden = blocks.forbidden;
      few_stated = blocks.few_stated;
      first_version = λ first. record { sizes = sizes.one first; required = blocks.none_required first; forbidden = blocks.none_forbidden first };
    }

from_group_on : (a : Above) (fs : List ℕ) → StandsKept a → a.group ≡ Some fs → Keeps a
from_group_on a fs (inl early) h = let none = sym (ap (λ (x : Above). x.group) early.bare) ∙ h in absurd cc
from_group_on a fs (inr k) h = k

pub whole_kept : (a : Above) (fs ks : List ℕ) (n : ℕ) → StandsKept a → a.group ≡ Some fs → a.sizes ≡ Some ks → a.lambda ≡ Some n → length a.names < NAMES_LIMIT → IsStated (stated_of a fs ks n)
whole_kept a fs ks n kept grouped sized targeted few =
    let shape : shape_above a ≡ fs = ap (λ o. unwrap_or o []) grouped in
    subst (λ gs. IsStated (stated_of a gs ks n)) shape (end_kept a ks n (from_group_on a fs kept grouped) sized targeted few)
