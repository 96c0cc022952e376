use Rattle.df_tell.specs.Orbits.{IsShort}
use Rattle.std.proofs.Common.{All, subst, ◌++◌, sym, ap, ◌∙◌, append_assoc}
use Rattle.df_tell.specs.Verdict.{block_line, block_lines}
use Rattle.std.proofs.lemmas.List.Elements.{All-tail}
use Rattle.df_io.proofs.Writing.{writes_as, writes_then, writes_stopped, writes_stopped_then}
use Rattle.df_tell.proofs.verdict.write_accepted.Goals as goal

pub returns-in_err-write_all : goal.returns-in_err-write_all
returns-in_err-write_all g c =
    writes_stopped _ (writes_as (c.as_slice.ensures.value ∙ c.fill_count.ensures) c.in_err-write_all.ensures) c.from_residual.ensures.0

pub loop-block-preserved : goal.loop-block-preserved
loop-block-preserved g c =
    let s = c.args.problem.now in
    let written = c.loop-block.invariant.written in
    let line = block_line s c.in-Some.block in record {
      written = (
        written.0 ++ line,
        append_assoc written.0 line (block_lines s c.next.new.self) ∙ ap (λ l. written.0 ++ block_lines s l) (sym c.in-Some.ensures) ∙ written.1,
        writes_then written.2 (writes_as (c.as_slice-in-Some.ensures.value ∙ c.fill_block.ensures) c.in_ok-write_all-2.ensures),
      );
      short = All-tail IsShort c.in-Some.block c.next.new.self (subst (All IsShort) c.in-Some.ensures c.loop-block.invariant.short);
    }

pub returns-in_err-write_all-2 : goal.returns-in_err-write_all-2
returns-in_err-write_all-2 g c =
    let s = c.args.problem.now in
    let written = c.loop-block.invariant.written in
    writes_as (ap (λ l. written.0 ++ block_lines s l) (sym c.in-Some.ensures) ∙ written.1)
    (writes_stopped_then (block_lines s c.next.new.self) written.2 (writes_as (c.as_slice-in-Some.ensures.value ∙ c.fill_block.ensures) c.in_err-write_all-2.ensures) c.from_residual-in_err-write_all-2.ensures.0)
