use Rattle.std.proofs.Common.{◌≡◌, ◌≤◌, ◌+◌, ◌*◌, ◌^◌, length, drop}
use Rattle.std.specs.List.{flat_map}
use Rattle.df_lang.specs.Canonical.{statements_in, statements_of, sections}
use Rattle.df_lang.proofs.canonical.line_count.Given as goal

-- the statements that are counted, and those of the sections that are left, are all
abbrev pub invariant-loop-section : goal.invariant-loop-section
invariant-loop-section l = record {
  counted : l.count + length (flat_map (statements_in l.problem) (drop l.section-index sections)) ≡ length (statements_of l.problem);
  small : l.count ≤ l.section-index * 2 ^ 32;
}
