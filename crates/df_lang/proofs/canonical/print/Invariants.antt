use Rattle.std.proofs.Common.{◌≡◌, ◌≤◌, ◌-◌, [], drop}
use Rattle.std.specs.Prelude.{slice_get}
use Rattle.std.specs.List.{flat_map}
use Rattle.df_lang.specs.Canonical.{statements_in, statements_of, sections}
use Rattle.df_lang.proofs.canonical.print.Given as goal

-- the statement that is looked for, among those of the sections that are left
abbrev pub invariant-loop-section : goal.invariant-loop-section
invariant-loop-section l = record {
  within : l.before ≤ l.line;
  empty : l.buf.items ≡ [];
  left : slice_get (statements_of l.problem) l.line ≡ slice_get (flat_map (statements_in l.problem) (drop l.section-index sections)) (l.line - l.before);
}
