-- What a line moves, once the first source is whole: from what its parts are answered to what is meant.
use Rattle.std.proofs.Common.{◌≡◌, ℕ, List, Option, Some, None, Result, Ok, refl, sym, ap, subst, ◌∙◌}
use Rattle.df_walk.specs.declared.Entry.{Entry}
use Rattle.df_walk.specs.declared.Entry.TheVariants as entry
use Rattle.df_lang.specs.Problems.{Stated}
use Rattle.df_lang.specs.Rules.{◌>>=◌}
use Rattle.df_kramer_mesner.specs.OrbitSystems.{orbit_system}
use Rattle.df_dossier.specs.declared.judge.DossierFault.TheVariants as fault
use Rattle.df_dossier.specs.declared.judge.Piece.TheVariants as piece
use Rattle.df_dossier.specs.Designs.{design_of}
use Rattle.df_check.specs.declared.Fed.{Fed}
use Rattle.df_check.specs.declared.Fed.TheVariants.{Ok as Passed}
use Rattle.df_check.specs.declared.LogFault.{LogFault}
use Rattle.df_check.specs.declared.stop.Stop.{Stop}
use Rattle.df_check.specs.Checkers.{Wants, fault_at, after_entry, answer_to, after_leaf, told, then_wants, counted}
use Rattle.df_check.specs.DesignLines.{DesignChecking, design_fault}
use Rattle.df_check.specs.Judging.{Refused, Running, read_or, ruled, with_entry, with_design, runs_with}
use Rattle.df_check.specs.Stops.{Moves, fault_in}

-- what comes after a value that is read
pub moves_then : {A B : Type 0} (m : Result A Refused) (f : A → Result B Refused) (x : A) (new : B) (r : Result (Unit {0}) Stop) → m ≡ Ok x → Moves (f x) new r → Moves (m >>= f) new r
moves_then m f x new r is moved = subst (λ t. Moves (t >>= f) new r) (sym is) moved

-- the fault that a checker answers to an entry, and to a design line
pub fault_fed : (f : Option LogFault) (e : Entry) → fault_in (told f (answer_to e)) ≡ f
fault_fed (Some fault) e = refl
fault_fed None (entry.Branch column) = refl
fault_fed None (entry.Over row) = refl
fault_fed None (entry.Under row) = refl
fault_fed None entry.Settled = refl
fault_fed None (entry.Residue row m) = refl
fault_fed None (entry.Cut ws) = refl

pub fault_led : (f : Option LogFault) → fault_in (told f Passed) ≡ f
fault_led (Some fault) = refl
fault_led None = refl

-- a rule, where what is held changes by it
pub rule_moves : (old now new : Running) (change : Running → Running) (fault : Running → Option LogFault) (number : ℕ) (f : Option LogFault) (result : Result (Unit {0}) Stop)
    → old ≡ now → new ≡ change old → f ≡ fault old → ((x : Running) → Moves (ruled number f x) x result) → Moves (ruled number (fault now) (change now)) new result
rule_moves old now new change fault number f result same changed is moves =
    subst (λ (r : Running). Moves (ruled number (fault r) (change r)) new result) same
    (subst (λ (r : Running). Moves (ruled number (fault old) r) new result) changed
    (subst (λ g. Moves (ruled number g new) new result) is (moves new)))

-- the same, where the source lines to come change
pub awaited_moves : (old now : Running) (awaited : List (List ℕ)) (next : Running → List (List ℕ)) (fault : Running → Option LogFault) (number : ℕ) (f : Option LogFault) (result : Result (Unit {0}) Stop)
    → old ≡ now → awaited ≡ next old → f ≡ fault old → ((x : Running) → Moves (ruled number f x) x result)
    → Moves (ruled number (fault now) (record now { awaited = next now })) (record old { awaited = awaited }) result
awaited_moves old now awaited next fault number f result same changed is moves =
    rule_moves old now (record old { awaited = awaited }) (λ (r : Running). record r { awaited = next r }) fault number f result same (ap (λ (l : List (List ℕ)). record old { awaited = l }) changed) is moves

-- what a checker wants after a fault stands in no answer
entry_cases : (number : ℕ) (f : Option LogFault) (r : Running) (wants : Wants) (result : Result (Unit {0}) Stop) → ((x : Running) → Moves (ruled number f x) x result)
    → Moves (ruled number f (record r { wants = wants })) (record r { wants = then_wants f wants }) result
entry_cases number None r wants result moves = moves (record r { wants = wants })
entry_cases number (Some fault) r wants result moves = moves (record r { wants = then_wants (Some fault) wants })

design_cases : (number : ℕ) (f : Option LogFault) (r : Running) (wants : Wants) (result : Result (Unit {0}) Stop) → ((x : Running) → Moves (ruled number f x) x result)
    → Moves (ruled number f (record r { wants = wants; designs = counted None r.designs })) (record r { wants = then_wants f wants; designs = counted f r.designs }) result
design_cases number None r wants result moves = moves (record r { wants = wants; designs = counted None r.designs })
design_cases number (Some fault) r wants result moves = moves (record r { wants = then_wants (Some fault) wants; designs = counted (Some fault) r.designs })

-- an entry and a design line, fed to a checker of this problem
pub entry_moves : (old now : Running) (k : DesignChecking) (p : Stated) (number : ℕ) (e : Entry) (fed : Fed) (f : Option LogFault) (result : Result (Unit {0}) Stop)
    → old ≡ now → p ≡ old.problem → fed ≡ told (fault_at (orbit_system p) old.wants e) (answer_to e)
    → k ≡ record { problem = p; wants = then_wants (fault_at (orbit_system p) old.wants e) (after_entry old.wants e); designs = old.designs }
    → f ≡ fault_in fed → ((x : Running) → Moves (ruled number f x) x result) → Moves (with_entry now number e) (record old { wants = k.wants; designs = k.designs }) result
entry_moves old now k p number e fed f result same keeps answers fed_is is moves =
    let faults : f ≡ fault_at (orbit_system old.problem) old.wants e = is ∙ ap fault_in answers ∙ fault_fed (fault_at (orbit_system p) old.wants e) e ∙ ap (λ s. fault_at (orbit_system s) old.wants e) keeps in
    let new : k ≡ record { problem = p; wants = then_wants f (after_entry old.wants e); designs = old.designs } =
    fed_is ∙ ap (λ (s : Stated). record { problem = p; wants = then_wants (fault_at (orbit_system s) old.wants e) (after_entry old.wants e); designs = old.designs }) keeps ∙ ap (λ g. record { problem = p; wants = then_wants g (after_entry old.wants e); designs = old.designs }) (sym faults) in
    subst (λ (r : Running). Moves (with_entry r number e) (record old { wants = k.wants; designs = k.designs }) result) same
    (subst (λ (d : DesignChecking). Moves (with_entry old number e) (record old { wants = d.wants; designs = d.designs }) result) (sym new)
    (subst (λ g. Moves (ruled number g (record old { wants = after_entry old.wants e })) (record old { wants = then_wants f (after_entry old.wants e) }) result) faults
    (entry_cases number f old (after_entry old.wants e) result moves)))

pub design_moves : (old now : Running) (k : DesignChecking) (p q : Stated) (number : ℕ) (line : List ℕ) (blocks : List (List ℕ)) (fed : Fed) (f : Option LogFault) (result : Result (Unit {0}) Stop)
    → old ≡ now → p ≡ old.problem → q ≡ old.problem → design_of q line ≡ Some blocks → fed ≡ told (design_fault p old.wants blocks) Passed
    → k ≡ record { problem = p; wants = then_wants (design_fault p old.wants blocks) (after_leaf old.wants); designs = counted (design_fault p old.wants blocks) old.designs }
    → f ≡ fault_in fed → ((x : Running) → Moves (ruled number f x) x result) → Moves (runs_with now number line piece.Design) (record old { wants = k.wants; designs = k.designs }) result
design_moves old now k p q number line blocks fed f result same keeps states reads answers fed_is is moves =
    let faults : f ≡ design_fault old.problem old.wants blocks = is ∙ ap fault_in answers ∙ fault_led (design_fault p old.wants blocks) ∙ ap (λ s. design_fault s old.wants blocks) keeps in
    let new : k ≡ record { problem = p; wants = then_wants f (after_leaf old.wants); designs = counted f old.designs } =
    fed_is ∙ ap (λ (s : Stated). record { problem = p; wants = then_wants (design_fault s old.wants blocks) (after_leaf old.wants); designs = counted (design_fault s old.wants blocks) old.designs }) keeps
    ∙ ap (λ g. record { problem = p; wants = then_wants g (after_leaf old.wants); designs = counted g old.designs }) (sym faults) in
    let read : read_or number fault.BadDesign (design_of old.problem line) ≡ Ok blocks = ap (read_or number fault.BadDesign) (ap (λ s. design_of s line) (sym states) ∙ reads) in
    subst (λ (r : Running). Moves (runs_with r number line piece.Design) (record old { wants = k.wants; designs = k.designs }) result) same
    (moves_then (read_or number fault.BadDesign (design_of old.problem line)) (with_design old number) blocks (record old { wants = k.wants; designs = k.designs }) result read
    (subst (λ (d : DesignChecking). Moves (with_design old number blocks) (record old { wants = d.wants; designs = d.designs }) result) (sym new)
    (subst (λ g. Moves (ruled number g (record old { wants = after_leaf old.wants; designs = counted None old.designs })) (record old { wants = then_wants f (after_leaf old.wants); designs = counted f old.designs }) result) faults
    (design_cases number f old (after_leaf old.wants) result moves))))
