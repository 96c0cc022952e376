use Rattle.std.proofs.Common.{◌+◌, drop, map, Err, refl, sym, ap, ◌∙◌}
use Rattle.df_io.specs.Lines.{lines_of, tokens_of}
use Rattle.std.specs.List.{slice_range}
use Rattle.df_lang.specs.Sources.{source, from_line}
use Rattle.df_lang.specs.Drafts.{above}
use Rattle.df_lang.proofs.LinesKept.{nothing_kept, step_kept}
use Rattle.df_lang.proofs.LinesRead.{line_taken, line_refused, lines_ended}
use Rattle.df_lang.proofs.reader.read_lines.Goals as goal

pub loop-line-init : goal.loop-line-init
unfolding source
loop-line-init c = rw (c.new-lines.ensures, c.new-draft.ensures) (refl, refl, nothing_kept)

pub loop-line-preserved : goal.loop-line-preserved
loop-line-preserved c =
    let bytes = c.args.source.now in
    let line = c.in-Some.line in
    let split = rw c.loop-line.invariant.0 at c.in-Some.ensures.line in
    let number = c.in-Some.ensures.number in
    let rest = drop c.next.new.self.at bytes in
    let taken = line_taken (c.loop-line.lines.number + 1) (above c.loop-line.draft) (drop c.loop-line.lines.at bytes) (slice_range bytes line.start line.end) rest split (above c.line.new.self) c.in-Ok.ensures in (
      c.in-Some.ensures.text ∙ c.loop-line.invariant.0,
      ap (λ n. from_line (n + 1) (above c.line.new.self) (map tokens_of (lines_of rest))) (number.1 ∙ number.0) ∙ sym taken ∙ c.loop-line.invariant.1,
      step_kept (above c.loop-line.draft) (above c.line.new.self) _ c.loop-line.invariant.2 c.in-Ok.ensures,
    )

pub returns-in-Err-Fault-clause-reads : goal.returns-in-Err-Fault-clause-reads
returns-in-Err-Fault-clause-reads c =
    let bytes = c.args.source.now in
    let line = c.in-Some.line in
    let split = rw c.loop-line.invariant.0 at c.in-Some.ensures.line in
    let told = rw c.in-Err-Fault.field-0-is at c.in-Err-Fault.ensures in
    sym c.loop-line.invariant.1
    ∙ line_refused (c.loop-line.lines.number + 1) (above c.loop-line.draft) (drop c.loop-line.lines.at bytes) (slice_range bytes line.start line.end) (drop c.next.new.self.at bytes) split _ told
    ∙ ap (λ n. Err record { line = n; fault = c.in-Err-Fault.fault }) (sym c.in-Some.ensures.number.0)
    ∙ ap (λ f. Err record { line = line.number; fault = f }) (sym c.in-Err-Fault.fault-is)

pub returns-clause-reads : goal.returns-clause-reads
returns-clause-reads c =
    let none = rw c.loop-line.invariant.0 at c.in_default.ensures.none.0 in
    sym c.loop-line.invariant.1 ∙ lines_ended (c.loop-line.lines.number + 1) (above c.loop-line.draft) (drop c.loop-line.lines.at c.args.source.now) none
