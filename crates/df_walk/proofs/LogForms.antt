-- The formulations of a log agree: by cases, one for each of the decisions that are wanted, and entry by entry.
use Rattle.std.proofs.Common.{ℕ, true, false, List, [], ◌∷◌, ◌++◌, set, Some, refl, sym, ap, ◌∙◌}
use Rattle.std.proofs.lemmas.List.{append_assoc}
use Rattle.df_walk.specs.declared.Entry.{Entry}
use Rattle.df_walk.specs.declared.Entry.TheVariants.{Branch, Over, Under, Settled, Residue, Cut}
use Rattle.df_walk.specs.Systems.{System}
use Rattle.df_walk.specs.Assignments.{Decisions}
use Rattle.df_walk.specs.Solutions.{yes_columns}
use Rattle.df_walk.specs.Logs.{Proves, over, under, residue, cut, settled, branch, AreLogs, Completes}

-- a log in front
pub Completes-from_Proves : {s : System} {ds : Decisions} {E : List Entry} {L : List (List ℕ)} (wanted : List Decisions) (F : List Entry) (M : List (List ℕ)) → Proves s ds E L → Completes s wanted F M → Completes s (ds ∷ wanted) (E ++ F) (L ++ M)
Completes-from_Proves wanted F M (over h) rest = (h, rest)
Completes-from_Proves wanted F M (under h) rest = (h, rest)
Completes-from_Proves wanted F M (residue h) rest = (h, rest)
Completes-from_Proves wanted F M (cut h) rest = (h, rest)
Completes-from_Proves wanted F M (settled h) rest = (h, (M, refl, rest))
Completes-from_Proves wanted G N (branch {ds = ds} {column = c} {E = E} {F = F} {L = L} {M = M} free first second) rest =
    (free, rw (append_assoc E F G, append_assoc L M N) (Completes-from_Proves (set ds c (Some false) ∷ wanted) (F ++ G) (M ++ N) first (Completes-from_Proves wanted G N second rest)))

pub Completes-from_AreLogs : (s : System) (wanted : List Decisions) (E : List Entry) (L : List (List ℕ)) → AreLogs s wanted E L → Completes s wanted E L
Completes-from_AreLogs s [] E L h = rw (h.0) h.1
Completes-from_AreLogs s (ds ∷ wanted) E L h = rw (h.4, h.5) (Completes-from_Proves wanted h.1 h.3 h.6 (Completes-from_AreLogs s wanted h.1 h.3 h.7))

pub AreLogs-from_Completes : (s : System) (wanted : List Decisions) (E : List Entry) (L : List (List ℕ)) → Completes s wanted E L → AreLogs s wanted E L
AreLogs-from_Completes s [] [] L h = (refl, h)
AreLogs-from_Completes s [] (e ∷ E) L h = absurd h
AreLogs-from_Completes s (ds ∷ wanted) [] L h = absurd h
AreLogs-from_Completes s (ds ∷ wanted) (Over r ∷ E) L h = (Over r ∷ [], E, [], L, refl, refl, over h.0, AreLogs-from_Completes s wanted E L h.1)
AreLogs-from_Completes s (ds ∷ wanted) (Under r ∷ E) L h = (Under r ∷ [], E, [], L, refl, refl, under h.0, AreLogs-from_Completes s wanted E L h.1)
AreLogs-from_Completes s (ds ∷ wanted) (Residue r m ∷ E) L h = (Residue r m ∷ [], E, [], L, refl, refl, residue h.0, AreLogs-from_Completes s wanted E L h.1)
AreLogs-from_Completes s (ds ∷ wanted) (Cut ws ∷ E) L h = (Cut ws ∷ [], E, [], L, refl, refl, cut h.0, AreLogs-from_Completes s wanted E L h.1)
AreLogs-from_Completes s (ds ∷ wanted) (Settled ∷ E) L h = (Settled ∷ [], E, yes_columns ds ∷ [], h.1.0, refl, h.1.1, settled h.0, AreLogs-from_Completes s wanted E h.1.0 h.1.2)
AreLogs-from_Completes s (ds ∷ wanted) (Branch c ∷ E) L h =
    let a = AreLogs-from_Completes s (set ds c (Some true) ∷ set ds c (Some false) ∷ wanted) E L h.1 in
    let b = a.7 in
    (Branch c ∷ (a.0 ++ b.0), b.1, a.2 ++ b.2, b.3, ap (λ l. Branch c ∷ l) (a.4 ∙ ap (λ l. a.0 ++ l) b.4 ∙ sym (append_assoc a.0 b.0 b.1)), a.5 ∙ ap (λ l. a.2 ++ l) b.5 ∙ sym (append_assoc a.2 b.2 b.3), branch h.0 a.6 b.6, b.7)
