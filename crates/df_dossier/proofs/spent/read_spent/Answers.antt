use Rattle.std.proofs.Common.{◌+◌, ◌∷◌, drop, refl, sym, ap, subst, ◌∙◌}
use Rattle.std.specs.List.{slice_range}
use Rattle.df_io.specs.Lines.{lines_of}
use Rattle.df_io.specs.Joined.{Each, Lacks, is_line_feed}
use Rattle.df_dossier.specs.Spent.{spent, rest_from, StandsAt, GivesSpent}
use Rattle.df_dossier.proofs.SourceTexts.{lines_lack}
use Rattle.df_dossier.proofs.SpentSteps.{refusal_given}
use Rattle.df_dossier.proofs.spent.read_spent.Goals as goal

pub loop-line-init : goal.loop-line-init
loop-line-init c = rw c.new-lines.ensures (refl, refl, tt)

pub line-requires : goal.line-requires
line-requires c =
    let bytes = c.args.input.now in
    let split = rw c.loop-line.invariant.0 at c.in-Some.ensures.line in record {
      plain = (subst (Each (Lacks is_line_feed)) split (lines_lack (drop c.loop-line.lines.at bytes))).0;
      place = subst (StandsAt c.loop-line.stage) (sym c.in-Some.ensures.number.0) c.loop-line.invariant.2;
    }

pub loop-line-preserved : goal.loop-line-preserved
loop-line-preserved c =
    let bytes = c.args.input.now in
    let line = c.in-Some.line in
    let l = c.loop-line in
    let split = rw l.invariant.0 at c.in-Some.ensures.line in
    let number = c.in-Some.ensures.number in
    let rest = lines_of (drop c.next.new.self.at bytes) in (
      c.in-Some.ensures.text ∙ l.invariant.0,
      ap (λ n. rest_from c.in-Ok.next (n + 1) rest) number.1
          ∙ sym (c.in-Ok.ensures.goes rest)
          ∙ ap (λ n. rest_from l.stage n (slice_range bytes line.start line.end ∷ rest)) number.0
          ∙ ap (λ ls. rest_from l.stage (l.lines.number + 1) ls) (sym split)
          ∙ l.invariant.1,
      subst (λ n. StandsAt c.in-Ok.next (n + 1)) (sym number.1) c.in-Ok.ensures.place,
    )

pub returns-in-Err : goal.returns-in-Err
returns-in-Err c =
    let bytes = c.args.input.now in
    let line = c.in-Some.line in
    let l = c.loop-line in
    let split = rw l.invariant.0 at c.in-Some.ensures.line in
    let rest = lines_of (drop c.next.new.self.at bytes) in
    refusal_given l.stage line.number (slice_range bytes line.start line.end) c.in-Err.error rest (spent bytes) c.in-Err.ensures.goes
    (ap (λ n. rest_from l.stage n (slice_range bytes line.start line.end ∷ rest)) c.in-Some.ensures.number.0
    ∙ ap (λ ls. rest_from l.stage (l.lines.number + 1) ls) (sym split)
    ∙ l.invariant.1)

pub returns : goal.returns
returns c =
    let l = c.loop-line in
    let none = rw l.invariant.0 at c.in_default.ensures.none.0 in
    subst (λ meant. GivesSpent meant c.end.result) (ap (λ ls. rest_from l.stage (l.lines.number + 1) ls) (sym none) ∙ l.invariant.1) (c.end.ensures (l.lines.number + 1) l.invariant.2)
