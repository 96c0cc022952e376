-- What is printed of a fault: its name, and its numbers with their names.
use Rattle.std.specs.Prelude.{ℕ, List, [], ◌∷◌, ℤ, pos, codes}
use Rattle.df_list.specs.LogFaultTexts.{Shown}
use Rattle.df_check.specs.declared.LogFault.{LogFault}
use Rattle.df_check.specs.declared.LogFault.TheVariants as fault

-- a fault without numbers, with one and with two
abbrev pub bare : List ℕ → Shown
bare name = record { name = name; numbers = [] }

abbrev pub with_one : List ℕ → List ℕ → ℤ → Shown
with_one name first x = record { name = name; numbers = record { name = first; value = x } ∷ [] }

abbrev pub with_two : List ℕ → List ℕ → ℤ → List ℕ → ℤ → Shown
with_two name first x second y =
    record { name = name; numbers = record { name = first; value = x } ∷ record { name = second; value = y } ∷ [] }

abbrev pub shown : LogFault → Shown
shown fault.ColumnRange = bare (codes "ColumnRange")
shown fault.RowRange = bare (codes "RowRange")
shown fault.ColumnDecided = bare (codes "ColumnDecided")
shown (fault.NotOver need) = with_one (codes "NotOver") (codes "need") need
shown (fault.NotUnder need cap) = with_two (codes "NotUnder") (codes "need") need (codes "cap") cap
shown (fault.NotResidue need column) = with_two (codes "NotResidue") (codes "need") need (codes "column") column
shown (fault.NotCut least greatest) = with_two (codes "NotCut") (codes "least") least (codes "greatest") greatest
shown (fault.NotSettled row need) = with_two (codes "NotSettled") (codes "row") (pos row) (codes "need") need
shown (fault.DesignDiffers place) = with_one (codes "DesignDiffers") (codes "place") place
shown fault.DesignWanted = bare (codes "DesignWanted")
shown fault.AfterClose = bare (codes "AfterClose")
shown fault.OpenAtEnd = bare (codes "OpenAtEnd")
shown fault.ChainBroken = bare (codes "ChainBroken")
shown fault.SourceDiffers = bare (codes "SourceDiffers")
shown fault.NotEntry = bare (codes "NotEntry")
