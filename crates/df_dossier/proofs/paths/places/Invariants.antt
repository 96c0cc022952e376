use Rattle.std.proofs.Common.{◌≡◌, ◌++◌, option_map, length}
use Rattle.df_io.specs.Lines.{left}
use Rattle.df_dossier.specs.Paths.{places_of}
use Rattle.df_dossier.proofs.paths.places.Given as goal

abbrev pub invariant-loop-token : goal.invariant-loop-token
invariant-loop-token l = option_map (λ cs. l.columns.items ++ cs) (places_of (left l.tokens)) ≡ places_of (left l.fn.tokens)

abbrev pub decreases-loop-token : goal.decreases-loop-token
decreases-loop-token l = length (left l.tokens)
