use Rattle.std.proofs.Common.{◌++◌, ◌∷◌, [], take, Ok}
use Rattle.std.specs.List.{flat_map}
use Rattle.df_io.specs.Writing.{Writes}
use Rattle.df_lang.specs.Canonical.{canonical}
use Rattle.df_tell.proofs.canonical.write_canonical.Given as goal

abbrev pub invariant-loop-number : goal.invariant-loop-number
invariant-loop-number g l =
    Writes g.K.Sink.written g.K.Sink.faults l.fn.out l.out (flat_map (λ line. line ++ 10 ∷ []) (take l.number (canonical l.fn.problem))) (Ok tt)
