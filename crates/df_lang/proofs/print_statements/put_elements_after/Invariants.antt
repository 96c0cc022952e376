use Rattle.std.proofs.Common.{◌≡◌, ◌++◌, map, drop}
use Rattle.df_lang.specs.Canonical.{element_text}
use Rattle.df_lang.specs.Separated.{each_after}
use Rattle.df_lang.proofs.print_statements.put_elements_after.Given as goal

-- what is written, and what is left, are the whole
abbrev pub invariant-loop-e : goal.invariant-loop-e
invariant-loop-e l =
    l.buf.items ++ each_after 32 (map (element_text l.shape) (drop l.e-index l.elements)) ≡ l.initial.buf.items ++ each_after 32 (map (element_text l.shape) l.elements)
