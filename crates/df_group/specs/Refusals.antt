-- The first rule that a list of factors breaks.
use Rattle.std.specs.Prelude.{ℕ, Bool, ◌&&◌, not, List, length, nat_lt, nat_le, if◌then◌else◌, Option, None, Some}
use Rattle.std.specs.List.{position}
use Rattle.df_group.specs.Elements.{order_of}
use Rattle.df_group.specs.declared.shape.ShapeError.{ShapeError}
use Rattle.df_group.specs.declared.shape.ShapeError.TheVariants.{NoFactor, TooManyFactors, FactorRange, OrderTooLarge}

abbrev pub is_outside : ℕ → Bool
is_outside f = not (nat_le 2 f && nat_le f 128)

abbrev pub by_order : List ℕ → Option ShapeError
by_order fs = if nat_le (order_of fs) 128 then None else Some OrderTooLarge

abbrev pub by_factor : List ℕ → Option ℕ → Option ShapeError
by_factor fs None = by_order fs
by_factor fs (Some i) = Some (FactorRange i)

abbrev pub refusal : List ℕ → Option ShapeError
refusal fs = if nat_le (length fs) 0 then Some NoFactor else (if nat_lt 7 (length fs) then Some TooManyFactors else by_factor fs (position is_outside fs))
