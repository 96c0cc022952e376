-- What the lines above a line have stated.
use Rattle.std.specs.Prelude.{ℕ, List, [], Option, None, Result, unwrap_or, ok_or}
use Rattle.df_lang.specs.declared.fault.SourceFault.{SourceFault}
use Rattle.df_lang.specs.declared.fault.SourceFault.TheVariants.{Missing}
use Rattle.df_lang.specs.declared.fault.Needed.TheVariants as needed
use Rattle.df_lang.specs.declared.pieces.Which.{Which}
use Rattle.df_lang.specs.declared.pieces.Inside.{Inside}
use Rattle.df_lang.specs.declared.pieces.Member.{Member}
use Rattle.df_lang.specs.Problems.{Named}

-- the pieces of a problem that are stated so far; no version stands above the first line with tokens
pub record Above : Type 0 where
  pub version : Option ℕ
  pub group : Option (List ℕ)
  pub fixed : Option ℕ
  pub names : List Named
  pub shift : Option Which
  pub mults : Option (List ℕ)
  pub sizes : Option (List ℕ)
  pub lambda : Option ℕ
  pub inside : Option Inside
  pub hole : Option ℕ
  pub family : List Member
  pub required : List (List ℕ)
  pub forbidden : List (List ℕ)

-- above the first line
abbrev pub nothing : Above
nothing = record {
  version = None;
  group = None;
  fixed = None;
  names = [];
  shift = None;
  mults = None;
  sizes = None;
  lambda = None;
  inside = None;
  hole = None;
  family = [];
  required = [];
  forbidden = [];
}

-- what has to stand above
abbrev pub group_of : Above → Result (List ℕ) SourceFault
group_of a = ok_or a.group (Missing needed.Group)

abbrev pub sizes_of : Above → Result (List ℕ) SourceFault
sizes_of a = ok_or a.sizes (Missing needed.Size)

abbrev pub lambda_of : Above → Result ℕ SourceFault
lambda_of a = ok_or a.lambda (Missing needed.Lambda)

-- what holds where nothing is stated
abbrev pub fixed_of : Above → ℕ
fixed_of a = unwrap_or a.fixed 0

abbrev pub version_of : Above → ℕ
version_of a = unwrap_or a.version 1
