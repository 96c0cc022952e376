-- What is printed of an input that is not one dossier that ended spent.
use Rattle.std.specs.Prelude.{ℕ, List, [], ◌∷◌, ◌++◌, codes}
use Rattle.std.specs.Fmt.{decimal}
use Rattle.df_list.specs.FaultTexts.{fault_text}
use Rattle.df_dossier.specs.declared.judge.DossierFault.{DossierFault}
use Rattle.df_dossier.specs.declared.judge.DossierFault.TheVariants as faults
use Rattle.df_dossier.specs.Dossiers.{Refusal}

-- a fault: its name, and that of the fault of its source lines
abbrev pub dossier_fault_text : DossierFault → List ℕ
dossier_fault_text faults.BadHead = codes "BadHead"
dossier_fault_text (faults.BadSource fault) = codes "BadSource " ++ fault_text fault
dossier_fault_text faults.BadEntry = codes "BadEntry"
dossier_fault_text faults.BadDesign = codes "BadDesign"
dossier_fault_text faults.BadEnd = codes "BadEnd"
dossier_fault_text faults.NotSpent = codes "NotSpent"
dossier_fault_text faults.Trailing = codes "Trailing"

-- its first line that is wrong, and why
unfoldable pub dossier_text : Refusal → List ℕ
dossier_text e = (((codes "dossier refused line " ++ decimal e.line) ++ codes " ") ++ dossier_fault_text e.fault) ++ 10 ∷ []
