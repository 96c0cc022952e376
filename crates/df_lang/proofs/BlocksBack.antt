-- Printed blocks, read back.
use Rattle.std.proofs.Common.{◌≡◌, ℕ, ◌<◌, List, [], ◌∷◌, map, Some, refl, ap, ◌∙◌, arith}
use Rattle.df_io.specs.Joined.{Each, IsToken}
use Rattle.df_io.proofs.Joining.{tokens_back}
use Rattle.df_lang.specs.Problems.{Stated, IsStated, point_count}
use Rattle.df_lang.specs.Values.{point_of}
use Rattle.df_lang.specs.Canonical.{point_text}
use Rattle.df_lang.specs.RoundTrip.{PointReadsBack, PointsReadBack}
use Rattle.df_lang.proofs.EachMember.{each_map, each_so}
use Rattle.df_lang.proofs.SetsBelow.{set_below}
use Rattle.df_lang.proofs.PointsBack.{point_back}
use Rattle.df_lang.proofs.SourceBack.{IsInked, points_inked, token_from, line_clean}

-- texts that are tokens, of points that are there
points_each : (s : Stated) → IsStated s → (block : List ℕ) → Each (λ p. p < point_count s) block → Each IsInked (map (point_text s.group) block) → Each (PointReadsBack s) block
points_each s is [] below inked = tt
points_each s is (p ∷ ps) below inked =
    (record { token = token_from (point_text s.group p) inked.0; point = point_back s.group s.fixed p is.shape (omega (arith, is.fixed)) below.0 }, points_each s is ps below.1 inked.1)

points_named : (s : Stated) (block : List ℕ) → Each (PointReadsBack s) block → map (point_of s.group s.fixed) (map (point_text s.group) block) ≡ map Some block
points_named s [] each = refl
points_named s (p ∷ ps) each = rw (each.0.point, points_named s ps each.1) refl

pub blocks_back : PointsReadBack
blocks_back s is block h =
    let below = set_below (point_count s) block h.set in
    let inked = points_inked s.group block is.shape (each_so (λ p. p < point_count s) (λ p. p < 256) block (λ p l. omega (arith, l, is.points)) below) in
    let each = points_each s is block below inked in
    let tokens = tokens_back (map (point_text s.group) block) (each_map (PointReadsBack s) IsToken (point_text s.group) block (λ p h. h.token) each) in
    record {
      line = line_clean (map (point_text s.group) block) inked;
      each = each;
      tokens = tokens;
      points = ap (map (point_of s.group s.fixed)) tokens ∙ points_named s block each;
    }
