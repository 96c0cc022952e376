use Rattle.std.proofs.Common.{◌≡◌, ◌<◌, ◌∙◌, sym, ap, arith, length}
use Rattle.df_walk.specs.Assignments.{need}
use Rattle.df_check.specs.declared.LogFault.TheVariants.{NotResidue}
use Rattle.df_check.specs.Entries.{column_or_none}
use Rattle.df_check.proofs.RowFaults.{not_by_column, not_by_size, not_by_rest, residue_told, residue_holds}
use Rattle.df_check.proofs.judge.residue_fault.Goals as goal

pub returns-then-is_some : goal.returns-then-is_some
returns-then-is_some g c =
    let s = c.args.system.now in
    let ds = c.args.partial.now.decisions in
    let o = c.first_spoiling-column.result in
    let is : c.not_residue.result ≡ NotResidue (need s ds c.args.row) (column_or_none o) = c.not_residue.ensures ∙ ap (λ v. NotResidue (need v ds c.args.row) (column_or_none o)) c.requires.system in
    let within : c.args.row < length s.targets = omega (arith, c.rows.ensures.value) in
    residue_told s ds c.args.row c.args.divisor o c.not_residue.result within c.first_spoiling-column.ensures is (not_by_column s ds c.args.row c.args.divisor o c.first_spoiling-column.ensures (sym c.is_some.ensures ∙ c.if-is_some.true))

pub returns-then-divisor-lt2 : goal.returns-then-divisor-lt2
returns-then-divisor-lt2 g c =
    let s = c.args.system.now in
    let ds = c.args.partial.now.decisions in
    let o = c.first_spoiling-column.result in
    let is : c.not_residue-then-divisor-lt2.result ≡ NotResidue (need s ds c.args.row) (column_or_none o) = c.not_residue-then-divisor-lt2.ensures ∙ ap (λ v. NotResidue (need v ds c.args.row) (column_or_none o)) c.requires.system in
    let within : c.args.row < length s.targets = omega (arith, c.rows.ensures.value) in
    residue_told s ds c.args.row c.args.divisor o c.not_residue-then-divisor-lt2.result within c.first_spoiling-column.ensures is (not_by_size s ds c.args.row c.args.divisor c.if-divisor-lt2.true)

pub returns-then-leaves_rest : goal.returns-then-leaves_rest
returns-then-leaves_rest g c =
    let within : c.args.row < length c.args.system.now.targets = omega (arith, c.rows.ensures.value) in
    residue_holds c.args.system.now c.args.partial.now.decisions c.args.row c.args.divisor c.first_spoiling-column.result within c.first_spoiling-column.ensures (sym c.is_some.ensures ∙ c.if-is_some.false) c.if-divisor-lt2.false (sym c.leaves_rest.ensures ∙ c.if-leaves_rest.true)

pub returns-else-leaves_rest : goal.returns-else-leaves_rest
returns-else-leaves_rest g c =
    let s = c.args.system.now in
    let ds = c.args.partial.now.decisions in
    let o = c.first_spoiling-column.result in
    let is : c.not_residue-else-leaves_rest.result ≡ NotResidue (need s ds c.args.row) (column_or_none o) = c.not_residue-else-leaves_rest.ensures ∙ ap (λ v. NotResidue (need v ds c.args.row) (column_or_none o)) c.requires.system in
    let within : c.args.row < length s.targets = omega (arith, c.rows.ensures.value) in
    residue_told s ds c.args.row c.args.divisor o c.not_residue-else-leaves_rest.result within c.first_spoiling-column.ensures is (not_by_rest s ds c.args.row c.args.divisor (sym c.leaves_rest.ensures ∙ c.if-leaves_rest.false))
