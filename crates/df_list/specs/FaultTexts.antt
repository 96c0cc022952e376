-- The texts of the faults of sources.
use Rattle.std.specs.Prelude.{ℕ, List, ◌++◌, codes}
use Rattle.df_lang.specs.declared.fault.SourceFault.{SourceFault}
use Rattle.df_lang.specs.declared.fault.SourceFault.TheVariants as faults
use Rattle.df_lang.specs.declared.fault.Needed.{Needed}
use Rattle.df_lang.specs.declared.fault.Needed.TheVariants as needed

-- the keyword of a statement that each source needs
abbrev pub needed_text : Needed → List ℕ
needed_text needed.Group = codes "group"
needed_text needed.Size = codes "k"
needed_text needed.Lambda = codes "lambda"

-- a fault: its name, and the keyword of what is missing
abbrev pub fault_text : SourceFault → List ℕ
fault_text faults.BadWord = codes "BadWord"
fault_text faults.BadNumber = codes "BadNumber"
fault_text faults.BadElement = codes "BadElement"
fault_text faults.Repeated = codes "Repeated"
fault_text faults.UnknownName = codes "UnknownName"
fault_text faults.NameTaken = codes "NameTaken"
fault_text faults.NotUnit = codes "NotUnit"
fault_text faults.PointTwice = codes "PointTwice"
fault_text faults.BlockSize = codes "BlockSize"
fault_text (faults.Missing word) = codes "Missing " ++ needed_text word
fault_text faults.GroupRange = codes "GroupRange"
fault_text faults.FixedRange = codes "FixedRange"
fault_text faults.SizeRange = codes "SizeRange"
fault_text faults.TargetRange = codes "TargetRange"
fault_text faults.TooManyBlocks = codes "TooManyBlocks"
