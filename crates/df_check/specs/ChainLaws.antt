-- The laws of chains. Each is the contract of a function of this crate.
use Rattle.std.specs.Prelude.{◌≡◌, ℕ, ◌≤◌, List, ◌∷◌, length, map, Some, Ok, Err}
use Rattle.std.specs.List.Sorted.{IsPermutation}
use Rattle.df_io.specs.declared.bytes.TheConstants.{MOST_BYTES}
use Rattle.df_io.specs.Lines.{lines_of}
use Rattle.df_lang.specs.Problems.{Stated, IsStated}
use Rattle.df_correspondence.specs.Designs.{asked, base}
use Rattle.df_matrix.specs.declared.matrix.MatrixError.{MatrixError}
use Rattle.df_matrix.specs.Limits.{limit_passed}
use Rattle.df_check.specs.Lines.{leaves_of}
use Rattle.df_check.specs.Chains.{IsChain, designs_of, log_of}
use Rattle.df_check.specs.Judging.{Above, verdict}

-- the designs of a chain are those that its problem asks for, each once and nothing else
abbrev pub ChainsListAllDesigns : Type 0
ChainsListAllDesigns =
    (lines : List (List ℕ)) (c : IsChain lines) → IsStated c.first.problem
    → IsPermutation (designs_of c) (asked c.first.problem)

-- each design line of a chain has the base blocks of its design
abbrev pub BasesAreRepresentatives : Type 0
BasesAreRepresentatives =
    (lines : List (List ℕ)) (c : IsChain lines) → IsStated c.first.problem
    → map (base c.first.problem) (designs_of c) ≡ leaves_of (log_of (c.first ∷ c.later))

-- an input is complete exactly where its lines are a chain, with the number of its designs
pub record AreDecided (bytes : List ℕ) : Type 0 where
  pub accepted : (designs : ℕ) → verdict bytes ≡ Ok designs → (c : IsChain (lines_of bytes)) × (designs ≡ length (designs_of c))
  pub only : (c : IsChain (lines_of bytes)) → verdict bytes ≡ Ok (length (designs_of c))

abbrev pub ChainsAreDecided : Type 0
ChainsAreDecided = (bytes : List ℕ) → length bytes ≤ MOST_BYTES → AreDecided bytes

-- the problem of a chain keeps the rules of problems
abbrev pub ChainsKeepTheirRules : Type 0
ChainsKeepTheirRules =
    (bytes : List ℕ) → length bytes ≤ MOST_BYTES → (c : IsChain (lines_of bytes)) → IsStated c.first.problem

-- this problem passes this limit
pub record PassesLimit (e : MatrixError) : Type 0 where
  pub problem : Stated
  pub stated : IsStated problem
  pub limit : limit_passed problem ≡ Some e

-- a limit for which an input is refused is one of a problem that keeps the rules of problems
abbrev pub LimitsAreOfProblems : Type 0
LimitsAreOfProblems =
    (bytes : List ℕ) → length bytes ≤ MOST_BYTES → (line : ℕ) (e : MatrixError)
    → verdict bytes ≡ Err record { line = line; reason = Above e } → PassesLimit e
