use Rattle.std.proofs.Common.{◌≡◌, Result, IfOk, Ok, Err, true, false, sym, ap, ◌∙◌}
use Rattle.df_dossier.specs.Designs.{is_separator}
use Rattle.df_dossier.specs.DesignSteps.{drafted}
use Rattle.df_dossier.proofs.Drafts.{closed, not_closed, point_taken, point_refused}
use Rattle.df_dossier.proofs.designs.Draft.take.Goals as goal

ok_so : {A E : Type 0} (P Q : A → Type 0) (r : Result A E) → ((x : A) → P x → Q x) → IfOk r P → IfOk r Q
ok_so P Q (Ok x) so is = so x is
ok_so P Q (Err e) so is = is

pub returns-then-eq-clause-ok : goal.returns-then-eq-clause-ok
returns-then-eq-clause-ok c =
    let separates : is_separator c.args.token.now ≡ true = cc in
    ok_so _ _ c.close.result
    (λ x is tokens. closed c.args.problem.now c.args.self.now.blocks c.args.self.now.points c.args.token.now tokens separates is.0 ∙ ap (λ d. drafted c.args.problem.now d tokens) (sym is.1)) c.close.ensures.ok

pub returns-then-eq-clause-bad : goal.returns-then-eq-clause-bad
returns-then-eq-clause-bad c bad tokens =
    let separates : is_separator c.args.token.now ≡ true = cc in
    not_closed c.args.problem.now c.args.self.now.blocks c.args.self.now.points c.args.token.now tokens separates (c.close.ensures.bad bad)

pub returns-in-Some-clause-ok : goal.returns-in-Some-clause-ok
returns-in-Some-clause-ok c tokens =
    let not : is_separator c.args.token.now ≡ false = cc in
    point_taken c.args.problem.now c.args.self.now.blocks c.args.self.now.points c.add.new.self.points c.args.token.now tokens not c.in-Some.ensures.point
    ∙ ap (λ b. drafted c.args.problem.now record { blocks = b; points = c.add.new.self.points } tokens) (sym c.in-Some.ensures.blocks)

pub returns-in-None-clause-bad : goal.returns-in-None-clause-bad
returns-in-None-clause-bad c bad tokens =
    let not : is_separator c.args.token.now ≡ false = cc in
    point_refused c.args.problem.now c.args.self.now.blocks c.args.self.now.points c.args.token.now tokens not c.in-None.ensures.point
